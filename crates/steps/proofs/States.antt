-- What the arrays of specs/Arrays hold: the states, steps, invariant, mapping and measure of the design. An array of eight values
-- holds a state x if it is `padded x`: past its end a state's values count as 0, so every term has one value at both.
use mathlib.Core.Path.{◌≡◌, refl, sym, ◌∙◌, ap}
use mathlib.Core.Logic.{◌⊎◌, inl, inr}
use mathlib.Core.List.{List, [], ◌∷◌, ◌++◌}
use Prim.Native.Nat.{ℕ, zero, suc, ◌+◌, ◌-◌, ◌%◌, ◌≤◌, ◌<◌, min}
use native.Mathlib.Decide.{dec_lt, dec_le}
use native.Mathlib.Omega.{arith}
use lib.ListN.{length, get_or, drop, replicate, length-map, get_or-replicate, get_or-append, get_or-eq_default}
use lib.Seq.{sets-eq, get_or-append-add, get_or-drop}
use Rattle.foundation.specs.Nth.{EachIs}
use Rattle.foundation.specs.Radix.{product, below_b, same_b, values_of, split_of}
use Rattle.foundation.proofs.Nth.{nth_nil, nth_cons}
use Rattle.foundation.proofs.Radix.{number_below, values_of_number, from_the_last}
use Rattle.criteria.specs.Design.{Row, State, InSize, sizes, states, state_number, initial_state, mapped, measure_at}
use Rattle.criteria.specs.Step.{next_state}
use Rattle.criteria.specs.Rows.{no_row, row_at}
use Rattle.decision.specs.Tests.{invariant_b, inside_b}
use Rattle.decision.proofs.Alike.{value_alike, formula_alike, values_alike}
use Rattle.design.specs.Line as line
use Rattle.design.specs.Line.{values_in}
use Rattle.design.specs.Loaded.{line_from, each_line_of, process_in, design_at}
use Rattle.design.specs.declared.Process.{Process}
use Rattle.design.specs.declared.Shape.{Shape}
use Rattle.design.proofs.Loaded.{each_length}
use Rattle.layout.specs.Sizes.{FitsIn, Fits, parameters_from, sizes_of}
use Rattle.steps.specs.Arrays.{padded, first_values, step_of, state_values, state_in, number_in, below_in, same_in, invariant_in, inside_in, mapped_in, measure_in}
use Rattle.steps.proofs.Arrays.{row_there, row_past}

-- ---- an array that holds a state

module _ (x : List ℕ) (short : length x ≤ 8) where
  padded_is : padded x ≡ x ++ drop (length x) (replicate 8 0)
  unfolding padded
  padded_is = let e : 0 + length x ≡ length x = omega arith in sets-eq x (replicate 8 0) 0 (omega arith) ∙ ap (λ n. x ++ drop n (replicate 8 0)) e

  zeros : (i : ℕ) → ◌≡◌ {A = ℕ} (get_or (replicate 8 0) i 0) 0
  zeros i = go (dec_lt i 8)
    where
      go : Dec (i < 8) → ◌≡◌ {A = ℕ} (get_or (replicate 8 0) i 0) 0
      go (yes l) = get_or-replicate 8 i 0 0 l
      go (no l) = get_or-eq_default (replicate 8 0) 0 {n = i} (omega arith)

  pub same_values : (i : ℕ) → get_or (padded x) i 0 ≡ get_or x i 0
  same_values i = ap (λ l. get_or l i 0) padded_is ∙ go (dec_lt i (length x))
    where
      rest : List ℕ
      rest = drop (length x) (replicate 8 0)

      past : (j : ℕ) → length x + j ≡ i → get_or (x ++ rest) i 0 ≡ get_or x i 0
      past j e =
          rw (← e) (get_or-append-add x rest j 0 ∙ get_or-drop (length x) (replicate 8 0) j 0 ∙ zeros (length x + j)
          ∙ sym (get_or-eq_default x 0 {n = length x + j} (omega arith)))

      go : Dec (i < length x) → get_or (x ++ rest) i 0 ≡ get_or x i 0
      go (yes l) = get_or-append x rest 0 i l
      go (no l) = let e : length x + (i - length x) ≡ i = omega arith in past (i - length x) e

  pub step_held : (r : Row) (e : ℕ) → step_of r (padded x) e ≡ step_of r x e
  unfolding step_of
  step_held r e =
      rw (
        formula_alike (padded x) x same_values r.condition e,
        value_alike (padded x) x same_values r.carries e,
        values_alike (padded x) x same_values r.next e,
      )

-- its first values are the state's
first_later : (n i a : ℕ) (x : List ℕ) → first_values n (suc i) (a ∷ x) ≡ first_values n i x
unfolding first_values
first_later zero i a x = refl
first_later (suc n) i a x = rw (first_later n (suc i) a x)

pub first_all : (x : List ℕ) → first_values (length x) 0 x ≡ x
unfolding first_values
first_all [] = refl
first_all (a ∷ x) = rw (first_later (length x) 0 a x, first_all x)

first_alike : (v w : List ℕ) → ((i : ℕ) → get_or v i 0 ≡ get_or w i 0) → (n i : ℕ) → first_values n i v ≡ first_values n i w
unfolding first_values
first_alike v w agree zero i = refl
first_alike v w agree (suc n) i = rw (agree i, first_alike v w agree n (suc i))

pub first_held : (x : List ℕ) (n : ℕ) → length x ≡ n → n ≤ 8 → first_values n 0 (padded x) ≡ x
first_held x n e l = rw (← e) (first_alike (padded x) x (same_values x (rw e l)) (length x) 0 ∙ first_all x)

pub same_held : (x y : List ℕ) (n : ℕ) → length x ≡ n → length y ≡ n → n ≤ 8 → same_in n (padded x) (padded y) ≡ same_b x y
unfolding same_in
same_held x y n ex ey l = rw (first_held x n ex l, first_held y n ey l)

-- ---- a process

pub in_length : (n : ℕ) (l : List ℕ) → length (values_in n l) ≡ n
unfolding values_in
in_length zero l = refl
in_length (suc n) l = ap suc (in_length n _)

values_length : (zs : List ℕ) (n : ℕ) → length (values_of zs n) ≡ length zs
unfolding values_of
values_length [] n = refl
values_length (z ∷ zs) n = ap suc (values_length zs (n % product zs))

lines_length : (f s : List ℕ) (m n i : ℕ) → EachIs (each_line_of (line.row_of m) (line_from f s) n i) (λ r. length r.next ≡ m)
unfolding each_line_of
lines_length f s m zero i k r is = absurd (nth_nil is)
lines_length f s m (suc n) i k r is = nth_cons (λ r. length r.next ≡ m) (in_length m _) (lines_length f s m n (suc i)) k r is

module _ (f s : List ℕ) (p : Process) where
  pub rows_count : length (process_in f s p).rows ≡ p.rows.count
  rows_count = each_length (line.row_of p.parameters.count) (line_from f s) p.rows.count p.rows.first

  sizes_length : length (sizes (process_in f s p)) ≡ p.parameters.count
  sizes_length = length-map (process_in f s p).parameters _ ∙ each_length line.parameter_of (line_from f s) p.parameters.count p.parameters.first

  pub initial_length : length (initial_state (process_in f s p)) ≡ p.parameters.count
  initial_length = length-map (process_in f s p).parameters _ ∙ each_length line.parameter_of (line_from f s) p.parameters.count p.parameters.first

  pub state_length : (k : ℕ) → length (values_of (sizes (process_in f s p)) k) ≡ p.parameters.count
  state_length k = values_length (sizes (process_in f s p)) k ∙ sizes_length

  -- each row has a next value for each parameter; row number k is one, or there is none
  pub rows_length : EachIs (process_in f s p).rows (λ r. length r.next ≡ p.parameters.count)
  rows_length = lines_length f s p.parameters.count p.rows.count p.rows.first

  pub next_length : (k : ℕ) → (length (row_at (process_in f s p).rows k).next ≡ p.parameters.count) ⊎ (row_at (process_in f s p).rows k ≡ no_row)
  next_length zero = inr refl
  next_length (suc k) = go (dec_le (suc k) p.rows.count)
    where
      go : Dec (suc k ≤ p.rows.count) → (length (row_at (process_in f s p).rows (suc k)).next ≡ p.parameters.count) ⊎ (row_at (process_in f s p).rows (suc k) ≡ no_row)
      go (yes l) = inl (ap (λ (r : Row). length r.next) (row_there f s p (suc k) (omega arith) l) ∙ in_length p.parameters.count _)
      go (no l) = inr (row_past f s p (suc k) (omega arith))

  pub next_short : FitsIn p → (k : ℕ) (v : List ℕ) (e : ℕ) → length (next_state (row_at (process_in f s p).rows k) v e) ≤ 8
  next_short fits k v e = rw (length-map (row_at (process_in f s p).rows k).next _) (go (next_length k))
    where
      go : (length (row_at (process_in f s p).rows k).next ≡ p.parameters.count) ⊎ (row_at (process_in f s p).rows k ≡ no_row)
          → length (row_at (process_in f s p).rows k).next ≤ 8
      go (inl m) = rw m fits.parameters
      go (inr m) = rw m (omega arith)

  -- the array of a number holds the state that has it
  pub state_held : FitsIn p → (k : ℕ) → k < product (sizes (process_in f s p)) → state_in f s p k ≡ padded (values_of (sizes (process_in f s p)) k)
  unfolding state_in state_values
  state_held fits k l =
      let q = fits.parameters in
      let e : min p.parameters.count 8 ≡ p.parameters.count = omega arith in
      ap (λ n. padded (split_of (sizes_of (parameters_from f s n p.parameters.first)) k).values) e ∙ ap padded (from_the_last (sizes (process_in f s p)) k l)

  pub below_held : FitsIn p → (x : List ℕ) → length x ≡ p.parameters.count → below_in f s p (padded x) ≡ below_b (sizes (process_in f s p)) x
  unfolding below_in
  below_held fits x e = rw (first_held x p.parameters.count e fits.parameters)

-- ---- the design

module _ (f s : List ℕ) (h : Shape) where
  pub mapped_length : (x : List ℕ) → length (mapped (design_at f s h) x) ≡ h.specification.parameters.count
  mapped_length x = length-map (design_at f s h).mapping _ ∙ in_length h.specification.parameters.count _

  pub invariant_held : (x : List ℕ) → length x ≤ 8 → invariant_in f s h (padded x) ≡ invariant_b (design_at f s h) x
  unfolding invariant_in
  invariant_held x short = formula_alike (padded x) x (same_values x short) (design_at f s h).invariant 0

  pub mapped_held : (x : List ℕ) → length x ≤ 8 → mapped_in f s h (padded x) ≡ padded (mapped (design_at f s h) x)
  unfolding mapped_in
  mapped_held x short = ap padded (values_alike (padded x) x (same_values x short) (design_at f s h).mapping 0)

  pub measure_held : (x : List ℕ) → length x ≤ 8 → measure_in f s h (padded x) ≡ measure_at (design_at f s h) x
  unfolding measure_in
  measure_held x short = value_alike (padded x) x (same_values x short) (design_at f s h).measure 0

  pub inside_held : Fits h → (x : List ℕ) → length x ≡ h.implementation.parameters.count → inside_in f s h (padded x) ≡ inside_b (design_at f s h) x
  unfolding inside_in
  inside_held fits x e =
      rw (below_held f s h.implementation fits.implementation x e, invariant_held x (rw e fits.implementation.parameters))

-- ---- a state by its number

module _ (f s : List ℕ) (h : Shape) (fits : Fits h) (x : State) (in_size : InSize (design_at f s h).impl x) where
  abbrev k : ℕ
  k = state_number (design_at f s h) x

  abbrev zs : List ℕ
  zs = sizes (design_at f s h).impl

  state_long : length x ≡ h.implementation.parameters.count
  state_long = ap length (sym (values_of_number zs x in_size)) ∙ state_length f s h.implementation k

  pub state_short : length x ≤ 8
  state_short = rw state_long fits.implementation.parameters

  -- the array of its number holds it, and its number is that of the array
  pub array_of : state_in f s h.implementation k ≡ padded x
  array_of = state_held f s h.implementation fits.implementation k (number_below zs x in_size) ∙ ap padded (values_of_number zs x in_size)

  pub invariant_of_lem : invariant_in f s h (padded x) ≡ invariant_b (design_at f s h) x
  invariant_of_lem = invariant_held f s h x state_short

  pub number_of : states (design_at f s h) ≤ 65536 → number_in f s h.implementation (padded x) ≡ k
  unfolding number_in
  number_of few =
      let b = number_below zs x in_size in
      rw (first_held x h.implementation.parameters.count state_long fits.implementation.parameters) (omega arith)
