-- By the plan of the row, and the conjuncts in front of its condition.
use native.Mathlib.Omega.{arith}
use Rattle.row_looks.proofs.Looks as laws
use Rattle.row_looks.proofs.row_at.Goals as goal

pub planned-planned-requires : goal.planned-planned-requires
planned-planned-requires c = omega (arith, c.requires.fits.implementation.rows)

pub returns : goal.returns
returns c = search laws.row_is_at
