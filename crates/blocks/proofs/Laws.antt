-- What the functions return is what their contracts say: a law for each place where they return, and for the turns of their loops. That numbers
-- of one block have the same values is in Numbers.
use mathlib.Core.Path.{◌≡◌, refl, sym, ◌∙◌, ap}
use mathlib.Core.Logic.{◌⊎◌, inl, inr}
use mathlib.Core.Bool.{Bool, true, false, ◌&&◌, true≢false}
use mathlib.Core.List.{List, ◌∷◌}
use Rattle.std.specs.Prelude.{Result, Ok, Err, IsErr}
use Prim.Native.Nat.{ℕ, zero, suc, ◌+◌, ◌-◌, ◌*◌, ◌/◌, ◌≤◌, ◌<◌, min}
use native.Mathlib.Decide.{dec_lt}
use native.Mathlib.Omega.{arith}
use lib.Bits.{bit_and, and_zero_l}
use lib.ListN.{length, get_or, take, drop, replicate, length-map, length-replicate, drop_of_length-le, get_or-eq_default}
use lib.Seq.{drop-cons, length-sets}
use Rattle.foundation.specs.Radix.{product, split_of}
use Rattle.terms.specs.Tree.{Formula, join, eval_f}
use Rattle.terms.specs.Mark.{formula_mark}
use Rattle.terms.specs.Read.{Read, read_f}
use Rattle.terms.specs.declared.Join.TheVariants.{And}
use Rattle.terms.proofs.Read.{step_f, place}
use Rattle.terms.proofs.Sets.{Apart, apart_without}
use Rattle.eval.specs.Answer.{answer_f}
use Rattle.eval.specs.declared.Held.{Held}
use Rattle.reads.specs.Reads.{only, seen_f, differ}
use Rattle.reads.specs.declared.Seen.{Seen}
use Rattle.reads.proofs.Alike.{alike_f, only_apart, apart_differ}
use Rattle.criteria.specs.Design.{sizes, states}
use Rattle.design.specs.Line.{parameter_of}
use Rattle.design.specs.Loaded.{line_from, each_line_of, process_in, design_at}
use Rattle.design.specs.declared.Process.{Process}
use Rattle.design.specs.declared.Shape.{Shape}
use Rattle.design.proofs.Loaded.{each_length}
use Rattle.layout.specs.Sizes.{Fits, parameters_from, sizes_of}
use Rattle.steps.specs.Arrays.{padded, state_values, state_in, invariant_in}
use Rattle.steps.proofs.States.{same_values as state_values_lem}
use Rattle.blocks.proofs.Numbers.{product_parts, some_positive, some_few, same_values, split_length, next_after, same_quotient, next_within}
use Rattle.blocks.specs.Blocks.{RuledOut, HoldsTo, FailsAt, Tries, NoneFrom}

-- ---- the part that fails

module _ (f v : List ℕ) (at d : ℕ) where
  abbrev whole : Read Formula
  whole = read_f d (drop at f)

  module _ (x : Held) (ex : x ≡ answer_f at v 0 whole) where
    pub one_holds : x.holds ≡ true → HoldsTo f v at d x.next
    one_holds so = record { holds = ap (λ y. y.holds) (sym ex) ∙ so; ends = ap (λ y. y.next) ex }

    pub one_fails : (y : Seen) → x.holds ≡ false → y ≡ seen_f at whole → FailsAt f v at d y.reads
    one_fails y fails ey = record {
      fails = no;
      by = λ w few-v few-w apart.
          sym (alike_f v w few-v few-w whole.tree 0 (ap (λ (z : Seen). bit_and z.reads (differ v w)) (sym ey) ∙ apart)) ∙ no;
    }
      where
        no : eval_f whole.tree v 0 ≡ false
        no = ap (λ z. z.holds) (sym ex) ∙ fails

  -- of a conjunction
  module _ (deep : d ≡ 0 → ⊥) (inside : at < length f) (mark : get_or f at 0 ≡ 15) where
    abbrev left : Read Formula
    left = read_f (d - 1) (drop (at + 1) f)

    abbrev right : Read Formula
    right = read_f (d - 1) (drop (at + 1 + left.used) f)

    parts : whole ≡ record { tree = join And left.tree right.tree; used = 1 + (left.used + right.used) }
    unfolding formula_mark
    parts = rw (step_f f at d deep inside, mark, place f (at + 1) _ refl)

    both : (w : List ℕ) → eval_f whole.tree w 0 ≡ eval_f left.tree w 0 && eval_f right.tree w 0
    unfolding eval_f
    both w = ap (λ (r : Read Formula). eval_f r.tree w 0) parts

    pub first_fails : (m : ℕ) (r : Result ℕ ℕ) → FailsAt f v (at + 1) (d - 1) m → r ≡ Err m → Tries f v at d r
    first_fails m r x e =
        let is : FailsAt f v at d m = record {
          fails = both v ∙ rw x.fails;
          by = λ w few-v few-w apart. both w ∙ rw (x.by w few-v few-w apart);
        } in
        rw e is

    pub then_second : (next : ℕ) (r : Result ℕ ℕ) → HoldsTo f v (at + 1) (d - 1) next → Tries f v next (d - 1) r → Tries f v at d r
    then_second next r x = go r
      where
        right_is : read_f (d - 1) (drop next f) ≡ right
        right_is = ap (λ (p : ℕ). read_f (d - 1) (drop p f)) x.ends

        both_by : eval_f whole.tree v 0 ≡ eval_f (read_f (d - 1) (drop next f)).tree v 0
        both_by = both v ∙ rw (x.holds, right_is)

        and-false : (b : Bool) → b && false ≡ false
        and-false true = refl
        and-false false = refl

        go : (r : Result ℕ ℕ) → Tries f v next (d - 1) r → Tries f v at d r
        go (Ok n) y = record {
          holds = both_by ∙ y.holds;
          ends = let u = ap (λ (r : Read Formula). r.used) parts in let j = ap (λ (r : Read Formula). r.used) right_is in let k = x.ends in let n = y.ends in omega arith;
        }
        go (Err m) y = record {
          fails = both_by ∙ y.fails;
          by = λ w few-v few-w apart.
              both w
              ∙ ap (λ b. eval_f left.tree w 0 && b) (sym (ap (λ (r : Read Formula). eval_f r.tree w 0) right_is) ∙ y.by w few-v few-w apart)
              ∙ and-false (eval_f left.tree w 0);
        }

-- ---- the last of a set

-- what is left of a set has each parameter from the i-th on that the set has
pub record Left (m rest i : ℕ) : Type 0 where
  pub keeps : (k : ℕ) → i ≤ k → Apart rest (only k) → Apart m (only k)

pub left_all : (m : ℕ) → Left m m 0
left_all m = record { keeps = λ k l h. h }

pub left_turn : (m rest i one : ℕ) → one ≡ only i → Left m rest i → Left m (rest - bit_and rest one) (i + 1)
left_turn m rest i one eo q = record {
  keeps = λ k l h. q.keeps k (omega arith) (apart_without (only k) rest (only i) (rw (← eo) h) (only_apart i k (λ e. omega arith)));
}

pub none_left : (m rest i n : ℕ) → rest ≡ 0 → Left m rest i → NoneFrom m i n
none_left m rest i n z q = record { absent = λ k l _. q.keeps k l (rw z (and_zero_l (only k))) }

pub none_after : (m i n : ℕ) → n ≤ i → NoneFrom m i n
none_after m i n l = record { absent = λ k h j. absurd (omega arith) }

-- ---- the width of a block

module _ (f s : List ℕ) (p : Process) where
  abbrev zs : List ℕ
  zs = sizes (process_in f s p)

  zs_length : length zs ≡ p.parameters.count
  zs_length = length-map (process_in f s p).parameters _ ∙ each_length parameter_of (line_from f s) p.parameters.count p.parameters.first

  -- a size is the second field of its line
  size_at : (line : ℕ → List ℕ) (n b i : ℕ) → i < n → get_or (sizes_of (each_line_of parameter_of line n b)) i 0 ≡ get_or (line (b + i)) 1 0
  unfolding each_line_of
  size_at line zero b i l = absurd (omega arith)
  size_at line (suc n) b zero l = let e : b ≡ b + 0 = omega arith in ap (λ (k : ℕ). get_or (line k) 1 0) e
  size_at line (suc n) b (suc i) l = let e : suc b + i ≡ b + suc i = omega arith in size_at line n (suc b) i (omega arith) ∙ ap (λ (k : ℕ). get_or (line k) 1 0) e

  pub width_begin : 1 ≡ product (drop p.parameters.count zs)
  width_begin = ap product (sym (drop_of_length-le zs {i = p.parameters.count} (rw zs_length (omega arith))))

  -- one size more
  module _ (n w i z : ℕ) (l : n < i) (few : i ≤ p.parameters.count) (ez : z ≡ get_or (line_from f s (p.parameters.first + (i - 1))) 1 0) (ew : w ≡ product (drop i zs)) where
    pub width_turn : z * w ≡ product (drop (i - 1) zs)
    width_turn =
        let e : suc (i - 1) ≡ i = omega arith in
        let one : drop (i - 1) zs ≡ get_or zs (i - 1) 0 ∷ drop (suc (i - 1)) zs = drop-cons zs (i - 1) 0 (rw zs_length (omega arith)) in
        let size : get_or zs (i - 1) 0 ≡ z = size_at (line_from f s) p.parameters.count p.parameters.first (i - 1) (omega arith) ∙ sym ez in
        sym (ap product one ∙ (λ j. size j * product (drop (e j) zs)) ∙ ap (λ m. z * m) (sym ew))

    pub width_fits : 0 < product zs → product zs ≤ 65536 → z * w < 18446744073709551616
    width_fits some most = let e = width_turn in let k = some_few zs (i - 1) some in omega arith

  pub width_end : (n w i : ℕ) → i ≤ n → n ≤ i → w ≡ product (drop i zs) → w ≡ product (drop n zs)
  width_end n w i l h ew = let e : i ≡ n = omega arith in ew ∙ ap (λ (k : ℕ). product (drop k zs)) e

-- ---- the states that are ruled out

module _ (f s : List ℕ) (h : Shape) (line : ℕ) (el : line ≡ get_or s h.invariant 0) where
  invariant_at : (y : List ℕ) → invariant_in f s h y ≡ eval_f (read_f 32 (drop (line + 1) f)).tree y 0
  unfolding invariant_in
  invariant_at y = rw (← el, place f line 1 refl)

  -- where it fails, a part of it does
  pub part_fails : (v : List ℕ) (r : Result ℕ ℕ) → invariant_in f s h v ≡ false → Tries f v (line + 1) 32 r → IsErr r
  part_fails v (Ok next) fails x = absurd (true≢false (sym x.holds ∙ sym (invariant_at v) ∙ fails))
  part_fails v (Err m) fails x = refl

module _ (f s : List ℕ) (h : Shape) (n j w : ℕ) (below : n < states (design_at f s h)) (ew : w ≡ product (drop j (sizes (process_in f s h.implementation)))) where
  abbrev p : Process
  p = h.implementation

  pub block_some : 0 < w
  block_some = rw ew (some_positive (zs f s p) j (omega arith))

  pub block_few : states (design_at f s h) ≤ 65536 → w ≤ 65536
  block_few most = let k = some_few (zs f s p) j (omega arith) in omega arith

  module _ (r : ℕ) (er : r ≡ (n / w + 1) * w) where
    pub past_after : n < r
    past_after = rw er (next_after n w block_some)

    pub past_within : r ≤ states (design_at f s h)
    past_within =
        let e : states (design_at f s h) ≡ product (take j (zs f s p)) * w = product_parts (zs f s p) j ∙ ap (λ m. product (take j (zs f s p)) * m) (sym ew) in
        let k : (n / w + 1) * w ≤ product (take j (zs f s p)) * w = next_within n w block_some (product (take j (zs f s p))) (rw (← e) below) in
        omega arith

    module _ (fits : Fits h) (line : ℕ) (v : List ℕ) (m : ℕ) (tried : Result ℕ ℕ) (el : line ≡ get_or s h.invariant 0) (ev : v ≡ state_in f s p n) (tx : Tries f v (line + 1) 32 tried) (et : tried ≡ Err m) (none : NoneFrom m j p.parameters.count) where
      part : FailsAt f v (line + 1) 32 m
      part = rw et at tx

      -- the values of a state: one for each size
      abbrev values : ℕ → List ℕ
      values k = (split_of (zs f s p) k).values

      long : (k : ℕ) → length (values k) ≡ p.parameters.count
      long k = split_length (zs f s p) k ∙ zs_length f s p

      state_is : (k : ℕ) → state_in f s p k ≡ padded (values k)
      unfolding state_in state_values
      state_is k =
          let q = fits.implementation.parameters in
          let e : min p.parameters.count 8 ≡ p.parameters.count = omega arith in
          ap (λ m. padded (split_of (sizes_of (parameters_from f s m p.parameters.first)) k).values) e

      eight : (k : ℕ) → length (state_in f s p k) ≤ 8
      unfolding padded
      eight k = let e : length (state_in f s p k) ≡ 8 = ap length (state_is k) ∙ length-sets (replicate 8 0) 0 (values k) ∙ length-replicate {A = ℕ} 8 0 in omega arith

      held : (k i : ℕ) → get_or (state_in f s p k) i 0 ≡ get_or (values k) i 0
      held k i =
          let q = fits.implementation.parameters in
          let l = long k in
          ap (λ v. get_or v i 0) (state_is k) ∙ state_values_lem (values k) (omega arith) i

      -- a state of the block has the same values in what the part reads
      alike : (k : ℕ) → k / w ≡ n / w → Apart m (differ (state_in f s p n) (state_in f s p k))
      alike k e = apart_differ (state_in f s p n) (state_in f s p k) m each
        where
          same : (i : ℕ) → get_or (values n) i 0 ≡ get_or (values k) i 0 → (get_or (state_in f s p n) i 0 ≡ get_or (state_in f s p k) i 0) ⊎ Apart m (only i)
          same i d = inl (held n i ∙ d ∙ sym (held k i))

          before : (i : ℕ) → i < j → get_or (values n) i 0 ≡ get_or (values k) i 0
          before i l = same_values (zs f s p) j i n k l (rw (← ew) (sym e))

          each : (i : ℕ) → i < 8 → (get_or (state_in f s p n) i 0 ≡ get_or (state_in f s p k) i 0) ⊎ Apart m (only i)
          each i _ = go (dec_lt i j) (dec_lt i p.parameters.count)
            where
              go : Dec (i < j) → Dec (i < p.parameters.count) → (get_or (state_in f s p n) i 0 ≡ get_or (state_in f s p k) i 0) ⊎ Apart m (only i)
              go (yes l) u = same i (before i l)
              go (no l) (yes u) = inr (none.absent i (omega arith) u)
              go (no l) (no u) =
                  let a = long n in
                  let b = long k in
                  same i (get_or-eq_default (values n) 0 {n = i} (omega arith) ∙ sym (get_or-eq_default (values k) 0 {n = i} (omega arith)))

      invariant_is : (y : List ℕ) → invariant_in f s h y ≡ eval_f (read_f 32 (drop (line + 1) f)).tree y 0
      invariant_is = invariant_at f s h line el

      pub past_rules_out : RuledOut f s h n r
      past_rules_out = record {
        fails = λ k l u.
            invariant_is (state_in f s p k)
            ∙ part.by (state_in f s p k) (rw ev (eight n)) (eight k)
            (rw ev (alike k (same_quotient n w block_some k l (rw (← er) u))));
      }
