-- The initial state of the design in the arrays, for any arrays and counts: criterion 1, which does not hold where the counts do not fit, and
-- how the design is accepted, if it is.
use Rattle.std.specs.Prelude.{Bool, false, ◌&&◌, cond, List, ℕ}
use Rattle.foundation.specs.First.{all_in_range}
use Rattle.criteria.specs.Design.{Design, Row, State}
use Rattle.criteria.specs.Failure.{Failure}
use Rattle.criteria.specs.Rows.{row_at}
use Rattle.criteria.specs.Verdict.{Acceptance}
use Rattle.decision.specs.Tests.{not_internal, holds1}
use Rattle.decision.specs.Verdict.{acceptance_of}
use Rattle.design.specs.Loaded.{design_at, design_in}
use Rattle.design.specs.declared.Counts.{Counts}
use Rattle.design.specs.declared.Shape.{Shape}
use Rattle.layout.specs.Sizes.{counts_fit, shape_of, initial_number_in}
use Rattle.defined.specs.Defined.{has_invariant_in, has_mapping_in}
use Rattle.steps.specs.Arrays.{initial_in, invariant_in, mapped_in, same_in}

unfoldable pub start_in : List ℕ → List ℕ → Counts → Bool
start_in f s c = cond (counts_fit c) (holds1 (design_in f s c)) false

-- "criterion 1 reports the initial state"
abbrev pub start_failure_in : List ℕ → List ℕ → Counts → Failure
start_failure_in f s c = record { criterion = 1; state = initial_number_in f s c; row = 0; sum = 0 }

-- as the code tries it
unfoldable pub start_meets : List ℕ → List ℕ → Shape → Bool
start_meets f s h =
    let v = initial_in f s h.implementation in
    (invariant_in f s h v && has_invariant_in f s h v)
    && (same_in h.specification.parameters.count (mapped_in f s h v) (initial_in f s h.specification) && has_mapping_in f s h v)

-- ---- how it is accepted

unfoldable pub acceptance_in : List ℕ → List ℕ → Counts → Acceptance
acceptance_in f s c = acceptance_of (design_at f s (shape_of c))

-- row k is not internal, or enabled for no sum value
unfoldable pub no_internal_row : Design → State → ℕ → Bool
no_internal_row d v k = let r : Row = row_at d.impl.rows k in all_in_range (λ e. not_internal r v e) r.span 0
