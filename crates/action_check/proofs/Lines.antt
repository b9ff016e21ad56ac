-- Laws of the tests by lines (specs/Lines): a test of each line is the test of each row that the lines say.
use mathlib.Core.Path.{◌≡◌, refl, sym, ap, ◌∙◌}
use mathlib.Core.Bool.{Bool, true, false, not, ◌&&◌}
use mathlib.Core.List.{List}
use Prim.Native.Nat.{ℕ, zero, suc, ◌+◌, ◌-◌}
use native.Mathlib.Omega.{arith}
use lib.Dec.{eqb}
use Rattle.foundation.specs.First.{all_in_range}
use Rattle.foundation.specs.Nth.{each_b}
use Rattle.foundation.specs.Reflects.{◌⇒◌}
use Rattle.foundation.proofs.First.{all_alike}
use Rattle.foundation.proofs.Reflects.{by_eqb, by_iff, same_test}
use Rattle.criteria.specs.Design.{Row}
use Rattle.decision.specs.Admitted.{one_each_b, is_zero}
use Rattle.design.specs.declared.Counts.{Counts}
use Rattle.design.specs.Line.{row_of}
use Rattle.design.specs.Loaded.{line_from, each_line_of, sections, design_in}
use Rattle.action_check.specs.ActionsFit.{visible_b, bare_b, same_span_b, actions_fit}
use Rattle.action_check.specs.Lines.{between, action_at, span_at, differs, alone, bare, agrees, rows_are_allowed}

-- what `if !b` tells
pub was_no : (b : Bool) → not b ≡ true → b ≡ false
was_no true e = cc
was_no false e = refl

pub was_yes : (b : Bool) → not b ≡ false → b ≡ true
was_yes true e = refl
was_yes false e = cc

and_eq : {a b c d : Bool} → a ≡ b → c ≡ d → a && c ≡ b && d
and_eq p q i = p i && q i

-- ---- the lines are what the rows are of

swap : (a b : ℕ) → not (eqb a b) ≡ not (eqb b a)
swap a b = ap not (same_test (by_eqb a b) (by_iff (λ e. sym e) (λ e. sym e) (by_eqb b a)))

module _ {A : Type 0} (says : List ℕ → A) (line : ℕ → List ℕ) (t : A → Bool) where
  each_line : (n i : ℕ) → all_in_range (λ j. t (says (line j))) n i ≡ each_b t (each_line_of says line n i)
  unfolding all_in_range each_line_of
  each_line zero i = refl
  each_line (suc n) i = rw (each_line n (suc i))

  each_between : (n i : ℕ) → between (λ j. t (says (line j))) i (i + n) ≡ each_b t (each_line_of says line n i)
  each_between n i = let e : i + n - i ≡ n = omega arith in rw e (each_line n i)

module _ (fields starts : List ℕ) where
  abbrev line : ℕ → List ℕ
  line i = line_from fields starts i

  -- the n rows from line i on, of processes with p parameters
  abbrev rows : ℕ → ℕ → ℕ → List Row
  rows p n i = each_line_of (row_of p) line n i

  one_line : (p end n i : ℕ) → end ≡ i + n → all_in_range (alone fields starts end) n i ≡ one_each_b (rows p n i)
  unfolding all_in_range each_line_of
  one_line p end zero i e = refl
  one_line p end (suc n) i e =
      let m : end - suc i ≡ n = omega arith in
      rw (m, each_line (row_of p) line (λ q. not (eqb (action_at fields starts i) q.action)) n (suc i), one_line p end n (suc i) (omega arith))

  module _ (p n i : ℕ) where
    one_each : between (alone fields starts (i + n)) i (i + n) ≡ one_each_b (rows p n i)
    one_each = let e : i + n - i ≡ n = omega arith in rw e (one_line p (i + n) n i refl)

    visible : between (differs fields starts 0) i (i + n) ≡ visible_b (rows p n i)
    visible =
        all_alike (differs fields starts 0) (λ j. not (eqb (action_at fields starts j) 0)) (i + n - i) i (λ j. swap 0 (action_at fields starts j))
        ∙ each_between (row_of p) line (λ q. not (eqb q.action 0)) n i

    bare_rows : between (bare fields starts) i (i + n) ≡ bare_b (rows p n i)
    bare_rows = each_between (row_of p) line (λ r. eqb r.action 0 ⇒ is_zero r.carries) n i

    same_span : (q m j : ℕ) → between (agrees fields starts j (j + m)) i (i + n) ≡ same_span_b (rows p n i) (rows q m j)
    same_span q m j =
        all_alike (agrees fields starts j (j + m))
        (λ k. each_b (λ o. eqb (action_at fields starts k) o.action ⇒ eqb (span_at fields starts k) o.span) (rows q m j))
        (i + n - i) i
        (λ k. each_between (row_of q) line (λ o. eqb (action_at fields starts k) o.action ⇒ eqb (span_at fields starts k) o.span) m j)
        ∙ each_between (row_of p) line (λ r. each_b (λ o. eqb r.action o.action ⇒ eqb r.span o.span) (rows q m j)) n i

  -- the tests of the lines are those of the design that the arrays hold
  pub rows_fit : (c : Counts) → rows_are_allowed fields starts (sections c).implementation.rows.first (sections c).specification.rows.first (sections c).invariant ≡ actions_fit (design_in fields starts c)
  unfolding actions_fit
  rows_fit c =
      let i : ℕ = (sections c).implementation.rows.first in
      let j : ℕ = (sections c).specification.rows.first in
      and_eq (one_each c.kind1 c.kind3 i)
      (and_eq (one_each c.kind2 c.kind4 j)
      (and_eq (visible c.kind2 c.kind4 j)
      (and_eq (bare_rows c.kind1 c.kind3 i) (same_span c.kind1 c.kind3 i c.kind2 c.kind4 j))))
