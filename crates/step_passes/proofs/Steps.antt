-- What the functions return, as specs/Steps says it.
use mathlib.Core.Path.{◌≡◌, refl, sym, ◌∙◌, ap}
use mathlib.Core.Bool.{Bool, true, false, not, ◌&&◌}
use mathlib.Core.List.{List}
use Prim.Native.Nat.{ℕ, ◌+◌}
use borrow.Author.Tests.{not-true, not-false, eq-eqb, ne_eqb}
use lib.Dec.{ltb}
use lib.ListN.{drop, replicate}
use lib.Seq.{sets}
use Rattle.terms.specs.Tree.{eval_v, eval_f}
use Rattle.terms.specs.Read.{read_v, read_f}
use Rattle.terms.proofs.Read.{place}
use Rattle.divisors.specs.Divisors.{safe_at}
use Rattle.divisors.proofs.Divisors.{nothing_safe}
use Rattle.defined.specs.Defined.{formula_has_in, values_have_in, value_has_in, has_invariant_in, has_mapping_in, has_measure_in}
use Rattle.eval.specs.Answer.{answer_v, answer_f}
use Rattle.eval.specs.declared.Valued.{Valued}
use Rattle.eval.specs.declared.Held.{Held}
use Rattle.criteria.specs.Design.{mapped}
use Rattle.design.specs.Line.{row_of}
use Rattle.design.specs.Loaded.{design_at}
use Rattle.design.specs.declared.Process.{Process}
use Rattle.design.specs.declared.Shape.{Shape}
use Rattle.steps.specs.Arrays.{padded, values_at, line_of, same_in, inside_in, mapped_in, measure_in, row_by, partner_by}
use Rattle.steps.proofs.Arrays.{padded_is, mapped_is}
use Rattle.step_passes.specs.Steps.{asked_in, has_values_in, kept_in, answered_in, internal_step, visible_step}

-- ---- where a step leads

module _ (f s x : List ℕ) (risk i j n k : ℕ) (measured b : Bool) (eb : b ≡ safe_at risk x) where
  abbrev whole : Bool
  whole = asked_in f s risk i j n k x measured

  pub asked_safe : b ≡ true → true ≡ whole
  unfolding asked_in
  asked_safe y = rw (← eb, y)

  module _ (no : b ≡ false) (c : Bool) (ec : c ≡ formula_has_in f s i x) where
    pub asked_invariant : not c ≡ true → false ≡ whole
    unfolding asked_in
    asked_invariant y = rw (← eb, no, ← ec, not-true c y)

    module _ (y : not c ≡ false) (m : Bool) (em : m ≡ values_have_in f s j n x) where
      pub asked_mapping : not m ≡ true → false ≡ whole
      unfolding asked_in
      asked_mapping z = rw (← eb, no, ← ec, not-false c y, ← em, not-true m z)

      pub asked_unmeasured : not m ≡ false → not measured ≡ true → true ≡ whole
      unfolding asked_in
      asked_unmeasured z u = rw (← eb, no, ← ec, not-false c y, ← em, not-false m z, not-true measured u)

      pub asked_measured : (r : Bool) → not m ≡ false → not measured ≡ false → r ≡ value_has_in f s k x → r ≡ whole
      unfolding asked_in
      asked_measured r z u er = er ∙ rw (← eb, no, ← ec, not-false c y, ← em, not-false m z, not-false measured u)

pub values_asked : (f s x : List ℕ) (h : Shape) (risk i j n k : ℕ) (measured r : Bool) → i ≡ h.invariant → j ≡ h.mapping → n ≡ h.specification.parameters.count
    → k ≡ h.measure → r ≡ asked_in f s risk i j n k x measured → r ≡ has_values_in f s h risk x measured
unfolding asked_in formula_has_in values_have_in value_has_in has_values_in has_invariant_in has_mapping_in has_measure_in
values_asked f s x h risk i j n k measured r ei ej en ek er = er ∙ rw (ei, ej, en, ek)

pub values_nothing : (f s x : List ℕ) (h : Shape) (risk : ℕ) (measured : Bool) → risk ≡ 0 → true ≡ has_values_in f s h risk x measured
unfolding has_values_in
values_nothing f s x h risk measured z = rw (z, nothing_safe x)

-- ---- to a state, with a data number

module _ (f s x t w : List ℕ) (h : Shape) (m : ℕ) (marked b : Bool) (em : w ≡ sets (replicate 8 0) 0 (mapped (design_at f s h) x)) (eb : b ≡ same_in h.specification.parameters.count t w) where
  ew : w ≡ mapped_in f s h x
  ew = mapped_is f s x h w em

  pub kept_not : not b ≡ true → false ≡ kept_in f s h x t m marked
  unfolding kept_in
  kept_not y = rw (← ew, ← eb, not-true b y)

  pub kept_unmarked : not b ≡ false → not marked ≡ true → true ≡ kept_in f s h x t m marked
  unfolding kept_in
  kept_unmarked y n = rw (← ew, ← eb, not-false b y, not-true marked n)

  pub kept_lowers : (n : ℕ) → not b ≡ false → not marked ≡ false → n ≡ measure_in f s h x → ltb n m ≡ kept_in f s h x t m marked
  unfolding kept_in
  kept_lowers n y k en = rw (← ew, ← eb, not-false b y, not-false marked k, en)

module _ (f s y t : List ℕ) (p : Process) (j w e : ℕ) where
  abbrev n : ℕ
  n = p.parameters.count

  pub answer_none : j ≡ 0 → false ≡ answered_in f s p j w y t e
  unfolding answered_in partner_by eval_f
  answer_none z = rw z

  module _ (line : ℕ) (some : j ≡ 0 → ⊥) (el : line ≡ line_of s p j) (h : Held) (eh : h ≡ answer_f (line + 3) t e (read_f 32 (drop (line + 3) f))) where
    row_is : partner_by f s p j ≡ row_of n (drop line f)
    unfolding partner_by row_by
    row_is = rw (ne_eqb j 0 some, el)

    pub answer_off : not h.holds ≡ true → false ≡ answered_in f s p j w y t e
    unfolding answered_in
    answer_off is-off =
        let off : eval_f (row_of n (drop line f)).condition t e ≡ false =
        rw (place f line 3 refl) (sym (ap (λ r. r.holds) eh) ∙ not-true h.holds is-off) in
        rw (row_is, off)

    on : not h.holds ≡ false → eval_f (row_of n (drop line f)).condition t e ≡ true
    on yes-on = rw (place f line 3 refl) (sym (ap (λ r. r.holds) eh) ∙ not-false h.holds yes-on)

    carried : (x : Valued) → x ≡ answer_v h.next t e (read_v 32 (drop h.next f)) → eval_v (row_of n (drop line f)).carries t e ≡ x.value
    carried x ex = rw (ex, eh, place f line 3 refl, place f (line + 3) _ refl)

    pub answer_differs : (x : Valued) → not h.holds ≡ false → x ≡ answer_v h.next t e (read_v 32 (drop h.next f)) → (w ≡ x.value → ⊥)
        → false ≡ answered_in f s p j w y t e
    unfolding answered_in
    answer_differs x yes-on ex ne = rw (row_is, on yes-on, carried x ex, ne_eqb w x.value ne)

    pub answer_same : (x : Valued) (z : List ℕ) (b : Bool) → not h.holds ≡ false → x ≡ answer_v h.next t e (read_v 32 (drop h.next f)) → w ≡ x.value
        → z ≡ sets (replicate 8 0) 0 (values_at f x.next n t e) → b ≡ same_in n y z → b ≡ answered_in f s p j w y t e
    unfolding answered_in values_at padded
    answer_same x z b yes-on ex eq ez eb =
        rw (row_is, on yes-on, carried x ex, eq-eqb w x.value eq, eb, ez, ex, eh, place f line 3 refl, place f (line + 3) _ refl, place f (line + 3 + _) _ refl)

-- ---- of a row whose data stand at a place

module _ (f s v t x : List ℕ) (h : Shape) (risk at e : ℕ) (i : Bool) (d : Valued) (ed : d ≡ answer_v at v e (read_v 32 (drop at f)))
    (es : x ≡ sets (replicate 8 0) 0 (values_at f d.next h.implementation.parameters.count v e)) (ei : i ≡ inside_in f s h x) where
  ex : x ≡ padded (values_at f d.next h.implementation.parameters.count v e)
  ex = padded_is (values_at f d.next h.implementation.parameters.count v e) x es

  module _ (marked : Bool) (m : ℕ) where
    internal_so : inside_in f s h x && (has_values_in f s h risk x marked && kept_in f s h x t m marked) ≡ internal_step f s h risk at marked v t m e
    unfolding internal_step
    internal_so = rw (ex, ed)

    pub internal_out : not i ≡ true → false ≡ internal_step f s h risk at marked v t m e
    internal_out y = sym (rw (← ei, not-true i y)) ∙ internal_so

    module _ (w : Bool) (y : not i ≡ false) (ew : w ≡ has_values_in f s h risk x marked) where
      pub internal_lacks : not w ≡ true → false ≡ internal_step f s h risk at marked v t m e
      internal_lacks z = sym (rw (← ei, not-false i y, ← ew, not-true w z)) ∙ internal_so

      pub internal_kept : (r : Bool) → not w ≡ false → r ≡ kept_in f s h x t m marked → r ≡ internal_step f s h risk at marked v t m e
      internal_kept r z er = er ∙ sym (rw (← ei, not-false i y, ← ew, not-false w z)) ∙ internal_so

  module _ (j : ℕ) where
    abbrev answers : Bool
    answers = answered_in f s h.specification j d.value (mapped_in f s h x) t e

    visible_so : inside_in f s h x && (has_values_in f s h risk x false && answers) ≡ visible_step f s h risk at j v t e
    unfolding visible_step
    visible_so = rw (ex, ed)

    pub visible_out : not i ≡ true → false ≡ visible_step f s h risk at j v t e
    visible_out y = sym (rw (← ei, not-true i y)) ∙ visible_so

    module _ (w : Bool) (y : not i ≡ false) (ew : w ≡ has_values_in f s h risk x false) where
      pub visible_lacks : not w ≡ true → false ≡ visible_step f s h risk at j v t e
      visible_lacks u = sym (rw (← ei, not-false i y, ← ew, not-true w u)) ∙ visible_so

      pub visible_answered : (z : List ℕ) (r : Bool) → not w ≡ false → z ≡ sets (replicate 8 0) 0 (mapped (design_at f s h) x) → r ≡ answered_in f s h.specification j d.value z t e
          → r ≡ visible_step f s h risk at j v t e
      visible_answered z r u ez er = er ∙ rw (mapped_is f s x h z ez) (sym (rw (← ei, not-false i y, ← ew, not-false w u)) ∙ visible_so)
