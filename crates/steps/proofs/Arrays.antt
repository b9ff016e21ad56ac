-- What the functions of the code return, and the turns of their loops, as the definitions of specs/Arrays say it: what is left gives
-- the whole. That these are the state, the steps and the tests of a design is in proofs/States.
use mathlib.Core.Path.{◌≡◌, refl, sym, ◌∙◌, ap}
use mathlib.Core.Bool.{Bool, true, false}
use mathlib.Core.List.{List, [], ◌∷◌}
use Prim.Native.Nat.{ℕ, zero, suc, ◌+◌, ◌-◌, ◌*◌, ◌≤◌, ◌<◌, ◌%◌, ◌/◌, min}
use native.Mathlib.Numerals.{add-one}
use native.Mathlib.Decide.{dec_lt}
use native.Mathlib.Omega.{arith}
use borrow.Author.Tests.{eq-eqb, ne_eqb}
use lib.Dec.{eqb, ltb}
use lib.ListN.{length, get_or, drop, set, replicate, get_or-eq_default}
use lib.Seq.{sets, set_comm, set_out}
use Rattle.std.specs.Prelude.{Option, Some, None, MatchOption}
use Rattle.foundation.specs.First.{all_in_range}
use Rattle.foundation.specs.Radix.{below_b, same_b, product, number_of, number_from, split_of}
use Rattle.terms.specs.Tree.{eval_v, eval_f}
use Rattle.terms.specs.Read.{read_v, read_f}
use Rattle.terms.proofs.Read.{place}
use Rattle.criteria.specs.Design.{Row, mapped}
use Rattle.criteria.specs.Rows.{no_row, row_at}
use Rattle.decision.specs.Tests.{row_from}
use Rattle.eval.specs.Answer.{answer_v, answer_f}
use Rattle.eval.specs.declared.Valued.{Valued}
use Rattle.eval.specs.declared.Held.{Held}
use Rattle.design.specs.Line.{parameter_of, row_of, values_in}
use Rattle.design.specs.Loaded.{line_from, each_line_of, process_in, design_at}
use Rattle.design.proofs.Loaded.{each_length}
use Rattle.design.specs.declared.Process.{Process}
use Rattle.design.specs.declared.Shape.{Shape}
use Rattle.layout.specs.Sizes.{parameters_from, sizes_of, initials_of}
use Rattle.layout.proofs.Sizes.{each_on, each_none, cut_from}
use Rattle.steps.specs.Arrays.{padded, first_values, values_at, step_of, no_step_there, line_of, row_step, row_span, row_with, state_values, state_in, number_in, initial_in, below_in, same_in, invariant_in, inside_in, mapped_in, measure_in}
use Rattle.steps.specs.declared.Step.{Step}

-- ---- the values of terms, one after the other

-- past the end nothing is stored
pub sets_out : (w : List ℕ) (i : ℕ) (vs : List ℕ) → length w ≤ i → sets w i vs ≡ w
sets_out w i [] l = refl
sets_out w i (x ∷ vs) l = rw (set_out w i x l) (sets_out w (suc i) vs (omega arith))

module _ (f v : List ℕ) (e at n : ℕ) (o : List ℕ) where
  abbrev all : List ℕ
  all = sets o 0 (values_at f at n v e)

  -- the values from the i-th on, stored in w
  unfoldable pub values_left : List ℕ → ℕ → ℕ → List ℕ
  values_left w p i = sets w i (values_at f p (n - i) v e)

  pub values_start : values_left o at 0 ≡ all
  unfolding values_left
  values_start = let k : n - 0 ≡ n = omega arith in rw k

  pub values_turn : (w : List ℕ) (p i m : ℕ) (x : Valued) → m ≡ min n 8 → i < m → x ≡ answer_v p v e (read_v 32 (drop p f)) → values_left w p i ≡ all
      → values_left (set w i x.value) x.next (i + 1) ≡ all
  unfolding values_left values_at values_in
  values_turn w p i m x em l said inv = go ∙ inv
    where
      go : values_left (set w i x.value) x.next (i + 1) ≡ values_left w p i
      go =
          let k : n - i ≡ suc (n - (i + 1)) = omega arith in
          rw (k, said, add-one i, place f p _ refl)

  pub values_end : (w : List ℕ) (p i m : ℕ) → m ≡ min n 8 → m ≤ i → length w ≡ 8 → values_left w p i ≡ all → w ≡ all
  unfolding values_left values_at values_in
  values_end w p i m em l long inv = go (dec_lt 8 n) ∙ inv
    where
      go : Dec (8 < n) → w ≡ values_left w p i
      go (no h) = let k : n - i ≡ 0 = omega arith in rw k
      go (yes h) = sym (sets_out w i (values_at f p (n - i) v e) (omega arith))

-- stored over zeros
pub padded_is : (vs w : List ℕ) → w ≡ sets (replicate 8 0) 0 vs → w ≡ padded vs
unfolding padded
padded_is vs w e = e

-- ---- the state with a number, from the last value on

-- a store before a run of stores may as well come first
set_first : (l : List ℕ) (i : ℕ) (vs : List ℕ) (j x : ℕ) → j < i → set (sets l i vs) j x ≡ sets (set l j x) i vs
set_first l i [] j x h = refl
set_first l i (a ∷ vs) j x h =
    set_first (set l i a) (suc i) vs j x (omega arith) ∙ ap (λ m. sets m (suc i) vs) (set_comm l i j a x (omega arith))

module _ (f s : List ℕ) (b n k : ℕ) (o : List ℕ) where
  unfoldable pub last_values : ℕ → List ℕ
  last_values i = sets o i (split_of (sizes_of (parameters_from f s (n - i) (b + i))) k).values

  unfoldable pub left_over : ℕ → ℕ
  left_over i = (split_of (sizes_of (parameters_from f s (n - i) (b + i))) k).left

  pub state_start_values : (i : ℕ) → i ≡ n → o ≡ last_values i
  unfolding last_values split_of
  state_start_values i h =
      ap (λ ps. sets o i (split_of (sizes_of ps) k).values) (sym (each_none parameter_of (line_from f s) (b + i) n i (omega arith)))

  pub state_start_left : (i : ℕ) → i ≡ n → k ≡ left_over i
  unfolding left_over split_of
  state_start_left i h = ap (λ ps. (split_of (sizes_of ps) k).left) (sym (each_none parameter_of (line_from f s) (b + i) n i (omega arith)))

  state_turn : (w : List ℕ) (m i j z x y : ℕ) → j ≡ i - 1 → 0 < i → i ≤ n → z ≡ get_or (line_from f s (b + j)) 1 0 → x ≡ m % z → y ≡ m / z
      → w ≡ last_values i → m ≡ left_over i → (set w j x ≡ last_values j) × (y ≡ left_over j)
  unfolding last_values left_over split_of
  state_turn w m i j z x y ej p l ez ex ey ew em =
      let u : j + 1 ≡ i = omega arith in
      let v : i ≡ suc j = omega arith in
      let one : parameters_from f s (n - j) (b + j) ≡ parameter_of (line_from f s (b + j)) ∷ parameters_from f s (n - i) (b + i) =
      each_on parameter_of (line_from f s) b n j (omega arith) ∙ ap (λ (q : ℕ). parameter_of (line_from f s (b + j)) ∷ parameters_from f s (n - q) (b + q)) u in
      let vs : List ℕ = (split_of (sizes_of (parameters_from f s (n - i) (b + i))) k).values in
      let ex' : x ≡ left_over i % get_or (line_from f s (b + j)) 1 0 = rw (ex, ez, em) in
      let ey' : y ≡ left_over i / get_or (line_from f s (b + j)) 1 0 = rw (ey, ez, em) in (
        ap (λ q. set q j x) ew
            ∙ set_first o i vs j x (omega arith)
            ∙ (λ h. sets (set o j (ex' h)) (v h) vs)
            ∙ ap (λ ps. sets o j (split_of (sizes_of ps) k).values) (sym one),
        ey' ∙ ap (λ ps. (split_of (sizes_of ps) k).left) (sym one),
      )

  pub state_turn_values : (w : List ℕ) (m i z x : ℕ) → 0 < i → i ≤ n → x ≡ m % z → z ≡ get_or (line_from f s (b + (i - 1))) 1 0
      → w ≡ last_values i → m ≡ left_over i → set w (i - 1) x ≡ last_values (i - 1)
  state_turn_values w m i z x p l ex ez ew em = (state_turn w m i (i - 1) z x (m / z) refl p l ez ex refl ew em).0

  pub state_turn_left : (w : List ℕ) (m i z y : ℕ) → 0 < i → i ≤ n → y ≡ m / z → z ≡ get_or (line_from f s (b + (i - 1))) 1 0
      → w ≡ last_values i → m ≡ left_over i → y ≡ left_over (i - 1)
  state_turn_left w m i z y p l ey ez ew em = (state_turn w m i (i - 1) z (m % z) y refl p l ez refl ey ew em).1

pub state_end : (f s : List ℕ) (p : Process) (k : ℕ) (o w : List ℕ) (i : ℕ) → i ≤ 0
    → w ≡ last_values f s p.parameters.first (min p.parameters.count 8) k o i → w ≡ sets o 0 (state_values f s p k)
unfolding last_values state_values
state_end f s p k o w i l ew =
    let b : ℕ = p.parameters.first in
    let n : ℕ = min p.parameters.count 8 in
    let z : i ≡ 0 = omega arith in
    let m : n - 0 ≡ n = omega arith in
    let e : b + 0 ≡ b = omega arith in
    ew ∙ rw (z, m, e)

pub state_is : (f s : List ℕ) (p : Process) (k : ℕ) (w : List ℕ) → w ≡ sets (replicate 8 0) 0 (state_values f s p k) → w ≡ state_in f s p k
unfolding state_in padded
state_is f s p k w e = e

-- ---- initial values

module _ (f s : List ℕ) (p : Process) where
  abbrev b : ℕ
  b = p.parameters.first

  abbrev n : ℕ
  n = p.parameters.count

  unfoldable pub initial_left : List ℕ → ℕ → List ℕ
  initial_left w i = sets w i (initials_of (parameters_from f s (n - i) (b + i)))

  pub initial_start : initial_left (replicate 8 0) 0 ≡ initial_in f s p
  unfolding initial_left initial_in padded
  initial_start = let k : n - 0 ≡ n = omega arith in let m : b + 0 ≡ b = omega arith in rw (k, m)

  pub initial_turn : (w : List ℕ) (i m x : ℕ) → m ≡ min n 8 → i < m → x ≡ get_or (line_from f s (b + i)) 2 0 → initial_left w i ≡ initial_in f s p
      → initial_left (set w i x) (i + 1) ≡ initial_in f s p
  unfolding initial_left
  initial_turn w i m x em l ex inv = go ∙ inv
    where
      go : initial_left (set w i x) (i + 1) ≡ initial_left w i
      go = rw (each_on parameter_of (line_from f s) b n i (omega arith), ← ex, add-one i)

  pub initial_end : (w : List ℕ) (i m : ℕ) → m ≡ min n 8 → m ≤ i → length w ≡ 8 → initial_left w i ≡ initial_in f s p → w ≡ initial_in f s p
  unfolding initial_left
  initial_end w i m em l long inv = go (dec_lt 8 n) ∙ inv
    where
      go : Dec (8 < n) → w ≡ initial_left w i
      go (no h) = rw (each_none parameter_of (line_from f s) (b + i) n i (omega arith))
      go (yes h) = sym (sets_out w i (initials_of (parameters_from f s (n - i) (b + i))) (omega arith))

-- ---- values below their sizes, and the same values

module _ (f s v : List ℕ) (p : Process) where
  belows : (n i : ℕ) → all_in_range (λ k. ltb (get_or v k 0) (get_or (line_from f s (p.parameters.first + k)) 1 0)) n i
      ≡ below_b (sizes_of (parameters_from f s n (p.parameters.first + i))) (first_values n i v)
  unfolding all_in_range first_values each_line_of
  belows zero i = refl
  belows (suc n) i = let k : suc (p.parameters.first + i) ≡ p.parameters.first + suc i = omega arith in rw (belows n (suc i), k)

  pub below_is : all_in_range (λ k. ltb (get_or v k 0) (get_or (line_from f s (p.parameters.first + k)) 1 0)) p.parameters.count 0 ≡ below_in f s p v
  unfolding below_in
  below_is = let m : p.parameters.first + 0 ≡ p.parameters.first = omega arith in rw (belows p.parameters.count 0, m)

module _ (v w : List ℕ) where
  sames : (n i : ℕ) → all_in_range (λ k. eqb (get_or v k 0) (get_or w k 0)) n i ≡ same_b (first_values n i v) (first_values n i w)
  unfolding all_in_range first_values
  sames zero i = refl
  sames (suc n) i = rw (sames n (suc i))

  pub same_is : (n : ℕ) → all_in_range (λ k. eqb (get_or v k 0) (get_or w k 0)) n 0 ≡ same_in n v w
  unfolding same_in
  same_is n = sames n 0

-- a number counted up from the first value on
counted : (f s v : List ℕ) (n i j a : ℕ)
    → number_from a (sizes_of (parameters_from f s n j)) (first_values n i v) ≡ a * product (sizes_of (parameters_from f s n j)) + number_of (sizes_of (parameters_from f s n j)) (first_values n i v)
unfolding number_from number_of first_values each_line_of
counted f s v zero i j a = omega arith
counted f s v (suc n) i j a = counted f s v n (suc i) (suc j) _ ∙ omega arith

module _ (f s v : List ℕ) (p : Process) where
  abbrev places : ℕ
  places = p.parameters.count

  abbrev onset : ℕ
  onset = p.parameters.first

  -- what is left to count, from parameter i on
  unfoldable pub number_left : ℕ → ℕ → ℕ
  number_left i k = min (number_from k (sizes_of (parameters_from f s (places - i) (onset + i))) (first_values (places - i) i v)) 65536

  pub number_starts : number_left 0 0 ≡ number_in f s p v
  unfolding number_left number_in
  number_starts =
      let e : places - 0 ≡ places = omega arith in
      let m : onset + 0 ≡ onset = omega arith in
      rw (e, m) (ap (λ k. min k 65536) (counted f s v places 0 onset 0 ∙ omega arith))

  pub number_turns : (i k z x w : ℕ) → i < places → z ≡ get_or (line_from f s (onset + i)) 1 0 → x ≡ get_or v i 0 → w ≡ min (k * z + x) 65536
      → number_left i k ≡ number_in f s p v → number_left (i + 1) w ≡ number_in f s p v
  unfolding number_left number_from first_values
  number_turns i k z x w l ez ex ew inv = step ∙ inv
    where
      step : number_left (i + 1) w ≡ number_left i k
      step =
          let e : places - i ≡ suc (places - (i + 1)) = omega arith in
          rw (each_on parameter_of (line_from f s) onset places i l, e, ew, ← ez, ← ex, add-one i)
          (cut_from 65536 (sizes_of (parameters_from f s (places - suc i) (onset + suc i))) (first_values (places - suc i) (suc i) v) (k * z + x))

  pub number_ends : (i k : ℕ) → places ≤ i → k ≤ 65536 → number_left i k ≡ number_in f s p v → k ≡ number_in f s p v
  unfolding number_left number_from
  number_ends i k l small inv = end ∙ inv
    where
      end : k ≡ number_left i k
      end = rw (each_none parameter_of (line_from f s) (onset + i) places i l) (omega arith)

-- ---- a row's step

pub step_is : (f v : List ℕ) (line n e a : ℕ) (h : Held) (x : Valued) (w : List ℕ) → a ≡ get_or (drop line f) 1 0 → h ≡ answer_f (line + 3) v e (read_f 32 (drop (line + 3) f))
    → x ≡ answer_v h.next v e (read_v 32 (drop h.next f)) → w ≡ padded (values_at f x.next n v e)
    → record { action = a; enabled = h.holds; carries = x.value; next = w } ≡ step_of (row_of n (drop line f)) v e
unfolding step_of values_at
step_is f v line n e a h x w ea eh ex ew = rw (ea, place f line 3 refl, ew, ex, eh, place f (line + 3) _ refl, place f (line + 3 + _) _ refl)

-- ---- rows by their numbers

each_get : {A : Type 0} (says : List ℕ → A) (line : ℕ → List ℕ) (n i j : ℕ) (x : A) → j < n → get_or (each_line_of says line n i) j x ≡ says (line (i + j))
unfolding each_line_of
each_get says line zero i j x l = absurd (omega arith)
each_get says line (suc n) i zero x l = let e : i + 0 ≡ i = omega arith in rw e
each_get says line (suc n) i (suc j) x l = let e : suc i + j ≡ i + suc j = omega arith in each_get says line n (suc i) j x (omega arith) ∙ rw e

module _ (f s : List ℕ) (p : Process) where
  abbrev rows : List Row
  rows = (process_in f s p).rows

  pub row_there : (k : ℕ) → (k ≡ 0 → ⊥) → k ≤ p.rows.count → row_at rows k ≡ row_of p.parameters.count (line_from f s (p.rows.first + k - 1))
  row_there zero h l = absurd (h refl)
  row_there (suc k) h l =
      let e : p.rows.first + k ≡ p.rows.first + suc k - 1 = omega arith in
      each_get (row_of p.parameters.count) (line_from f s) p.rows.count p.rows.first k no_row (omega arith) ∙ rw e

  pub row_past : (k : ℕ) → p.rows.count < k → row_at rows k ≡ no_row
  row_past zero l = absurd (omega arith)
  row_past (suc k) l =
      get_or-eq_default rows no_row (rw (each_length (row_of p.parameters.count) (line_from f s) p.rows.count p.rows.first) (omega arith))

no_step : (v : List ℕ) (e : ℕ) → no_step_there ≡ step_of no_row v e
unfolding step_of padded eval_v
no_step v e = refl

pub line_is : (s : List ℕ) (p : Process) (i k r : ℕ) → i ≡ p.rows.first + k - 1 → r ≡ get_or s i 0 → r ≡ line_of s p k
unfolding line_of
line_is s p i k r ei er = er ∙ rw ei

module _ (f s v : List ℕ) (p : Process) (k e : ℕ) (r : Step) where
  pub step_none : k ≡ 0 → r ≡ no_step_there → r ≡ row_step f s p k v e
  unfolding row_step
  step_none z er = er ∙ rw z (no_step v e)

  pub step_past : p.rows.count < k → r ≡ no_step_there → r ≡ row_step f s p k v e
  unfolding row_step
  step_past l er = er ∙ rw (row_past f s p k l) (no_step v e)

  pub step_there : (line : ℕ) → (k ≡ 0 → ⊥) → k ≤ p.rows.count → line ≡ line_of s p k → r ≡ step_of (row_of p.parameters.count (drop line f)) v e → r ≡ row_step f s p k v e
  unfolding row_step line_of
  step_there line h l el er = er ∙ rw (row_there f s p k h l, el)

module _ (f s : List ℕ) (p : Process) (k : ℕ) where
  pub span_none : k ≡ 0 → 0 ≡ row_span f s p k
  unfolding row_span
  span_none z = rw z

  pub span_past : p.rows.count < k → 0 ≡ row_span f s p k
  unfolding row_span
  span_past l = ap (λ (r : Row). r.span) (sym (row_past f s p k l))

  pub span_there : (r line : ℕ) → (k ≡ 0 → ⊥) → k ≤ p.rows.count → line ≡ line_of s p k → r ≡ get_or (drop line f) 2 0 → r ≡ row_span f s p k
  unfolding row_span line_of
  span_there r line h l el er = er ∙ ap (λ (x : ℕ). get_or (drop x f) 2 0) el ∙ ap (λ (q : Row). q.span) (sym (row_there f s p k h l))

-- the search for the row of an action
module _ (f s : List ℕ) (p : Process) (a : ℕ) where
  abbrev says : List ℕ → Row
  says = row_of p.parameters.count

  abbrev top : ℕ
  top = p.rows.first

  abbrev many : ℕ
  many = p.rows.count

  abbrev pub action_in : ℕ → ℕ
  action_in k = get_or (line_from f s (top + k)) 1 0

  none_with : (n i : ℕ) → ((k : ℕ) → i ≤ k → k < i + n → action_in k ≡ a → ⊥) → row_from (each_line_of says (line_from f s) n (top + i)) a (suc i) ≡ 0
  unfolding row_from each_line_of
  none_with zero i h = refl
  none_with (suc n) i h =
      let k : suc (top + i) ≡ top + suc i = omega arith in
      rw (ne_eqb (action_in i) a (h i (omega arith) (omega arith)), k) (none_with n (suc i) (λ j l u. h j (omega arith) (omega arith)))

  one_with : (n i j : ℕ) → i + j < i + n → action_in (i + j) ≡ a → ((k : ℕ) → i ≤ k → k < i + j → action_in k ≡ a → ⊥)
      → row_from (each_line_of says (line_from f s) n (top + i)) a (suc i) ≡ i + j + 1
  unfolding row_from each_line_of
  one_with zero i j l e h = absurd (omega arith)
  one_with (suc n) i zero l e h = let m : i + 0 ≡ i = omega arith in rw (eq-eqb (action_in i) a (rw m at e)) (omega arith)
  one_with (suc n) i (suc j) l e h =
      let k : suc (top + i) ≡ top + suc i = omega arith in
      let m : i + suc j ≡ suc i + j = omega arith in
      rw (ne_eqb (action_in i) a (h i (omega arith) (omega arith)), k) (one_with n (suc i) j (omega arith) (rw m at e) (λ x g u. h x (omega arith) (omega arith)) ∙ omega arith)

  -- the first that is found, counted from 1
  pub with_is : (r : Option ℕ) (x : ℕ)
      → MatchOption r ((k : ℕ) → 0 ≤ k → k < many → action_in k ≡ a → ⊥) (λ i. (0 ≤ i) × (i < many) × (action_in i ≡ a) × ((k : ℕ) → 0 ≤ k → k < i → action_in k ≡ a → ⊥))
      → MatchOption r (x ≡ 0) (λ i. x ≡ i + 1) → x ≡ row_with f s p a
  unfolding row_with
  with_is None x none e = let k : top + 0 ≡ top = omega arith in e ∙ sym (rw k at (none_with many 0 (λ i l u. none i l (omega arith))))
  with_is (Some i) x (from, below, is, before) e =
      let k : top + 0 ≡ top = omega arith in
      let z : 0 + i ≡ i = omega arith in
      e ∙ sym (rw (k, z) at (one_with many 0 i (omega arith) (rw z is) (λ j l u. before j l (omega arith))))

-- ---- invariant, mapping, measure

module _ (f s v : List ℕ) (h : Shape) (line : ℕ) where
  pub invariant_is : (b : Bool) → line ≡ get_or s h.invariant 0 → b ≡ eval_f (read_f 32 (drop (line + 1) f)).tree v 0 → b ≡ invariant_in f s h v
  unfolding invariant_in
  invariant_is b el eb = rw (← el, place f line 1 refl, eb)

  pub mapped_put : (o w : List ℕ) → line ≡ get_or s h.mapping 0 → w ≡ sets o 0 (values_at f (line + 1) h.specification.parameters.count v 0)
      → w ≡ sets o 0 (mapped (design_at f s h) v)
  unfolding values_at
  mapped_put o w el ew = rw (← el, place f line 1 refl, ew)

  pub measure_is : (x : Valued) → line ≡ get_or s h.measure 0 → x ≡ answer_v (line + 1) v 0 (read_v 32 (drop (line + 1) f)) → x.value ≡ measure_in f s h v
  unfolding measure_in
  measure_is x el ex = rw (← el, place f line 1 refl, ex)

module _ (f s v : List ℕ) (h : Shape) (b : Bool) (said : b ≡ below_in f s h.implementation v) where
  pub inside_so : (r : Bool) → b ≡ true → r ≡ invariant_in f s h v → r ≡ inside_in f s h v
  unfolding inside_in
  inside_so r y er = rw (← said, y) er

  pub inside_not : b ≡ false → false ≡ inside_in f s h v
  unfolding inside_in
  inside_not y = rw (← said, y)

pub mapped_is : (f s v : List ℕ) (h : Shape) (w : List ℕ) → w ≡ sets (replicate 8 0) 0 (mapped (design_at f s h) v) → w ≡ mapped_in f s h v
unfolding mapped_in padded
mapped_is f s v h w e = e
