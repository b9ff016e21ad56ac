-- The number where the counts fit.
use native.Mathlib.Omega.{arith}
use Rattle.layout.proofs.Sizes as laws
use Rattle.layout.proofs.Lent.initial_number.Goals as goal

pub overflow_cast-result : goal.overflow_cast-result
overflow_cast-result c = omega (arith, laws.number_small _ _ _ _ c.number.ensures)

pub returns-then-counts_fit : goal.returns-then-counts_fit
returns-then-counts_fit c = search laws.number_fits

pub returns-else-counts_fit : goal.returns-else-counts_fit
returns-else-counts_fit c = search laws.number_unfit
