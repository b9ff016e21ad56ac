-- The criteria of one step, as the code tries them: f the fields, s the starts of lines, h the shape; v the state, t its mapped state, m its
-- measure, e the sum value; the risk is that of invariant, mapping and measure.
use Rattle.std.specs.Prelude.{Bool, ◌&&◌, ◌||◌, false, List, ℕ, ◌+◌, eqb, ltb, drop}
use Rattle.foundation.specs.Reflects.{◌⇒◌}
use Rattle.terms.specs.Tree.{eval_v}
use Rattle.terms.specs.Read.{read_v}
use Rattle.divisors.specs.Divisors.{safe_at}
use Rattle.defined.specs.Defined.{formula_has_in, values_have_in, value_has_in, has_invariant_in, has_mapping_in, has_measure_in}
use Rattle.criteria.specs.Step.{next_state, data_number}
use Rattle.decision.specs.Tests.{enabled_b}
use Rattle.design.specs.declared.Process.{Process}
use Rattle.design.specs.declared.Shape.{Shape}
use Rattle.steps.specs.Arrays.{padded, values_at, same_in, inside_in, mapped_in, measure_in, partner_by}

-- invariant and mapping have values at x, and so does the measure, if it is asked for
unfoldable pub has_values_in : List ℕ → List ℕ → Shape → ℕ → List ℕ → Bool → Bool
has_values_in f s h risk x measured = safe_at risk x || (has_invariant_in f s h x && (has_mapping_in f s h x && (measured ⇒ has_measure_in f s h x)))

-- the same, by the lines i, j and k of the three, of which the second has n values
unfoldable pub asked_in : List ℕ → List ℕ → ℕ → ℕ → ℕ → ℕ → ℕ → List ℕ → Bool → Bool
asked_in f s risk i j n k x measured = safe_at risk x || (formula_has_in f s i x && (values_have_in f s j n x && (measured ⇒ value_has_in f s k x)))

-- an internal step to x keeps the mapping, and lowers the measure if it is marked
unfoldable pub kept_in : List ℕ → List ℕ → Shape → List ℕ → List ℕ → ℕ → Bool → Bool
kept_in f s h x t m marked = same_in h.specification.parameters.count t (mapped_in f s h x) && (marked ⇒ ltb (measure_in f s h x) m)

-- row j of the specification makes the same step: enabled, the data number w, to y
unfoldable pub answered_in : List ℕ → List ℕ → Process → ℕ → ℕ → List ℕ → List ℕ → ℕ → Bool
answered_in f s p j w y t e =
    let q = partner_by f s p j in
    enabled_b q t e && (eqb w (data_number q t e) && same_in p.parameters.count y (padded (next_state q t e)))

-- an internal step to x, marked or not; a visible one to x with the data number w, whose partner is j
abbrev pub internal_to : List ℕ → List ℕ → Shape → ℕ → Bool → List ℕ → ℕ → List ℕ → Bool
internal_to f s h risk marked t m x = inside_in f s h x && (has_values_in f s h risk x marked && kept_in f s h x t m marked)

abbrev pub visible_to : List ℕ → List ℕ → Shape → ℕ → ℕ → List ℕ → ℕ → List ℕ → ℕ → Bool
visible_to f s h risk j t w x e = inside_in f s h x && (has_values_in f s h risk x false && answered_in f s h.specification j w (mapped_in f s h x) t e)

-- where a row leads whose data stand at a place
abbrev pub leads_to : List ℕ → Shape → ℕ → List ℕ → ℕ → List ℕ
leads_to f h at v e = padded (values_at f (at + (read_v 32 (drop at f)).used) h.implementation.parameters.count v e)

-- the step of such a row
unfoldable pub internal_step : List ℕ → List ℕ → Shape → ℕ → ℕ → Bool → List ℕ → List ℕ → ℕ → ℕ → Bool
internal_step f s h risk at marked v t m e = internal_to f s h risk marked t m (leads_to f h at v e)

unfoldable pub visible_step : List ℕ → List ℕ → Shape → ℕ → ℕ → ℕ → List ℕ → List ℕ → ℕ → Bool
visible_step f s h risk at j v t e = visible_to f s h risk j t (eval_v (read_v 32 (drop at f)).tree v e) (leads_to f h at v e) e
