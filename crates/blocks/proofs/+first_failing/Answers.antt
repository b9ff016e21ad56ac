-- The first part, or the second.
use Rattle.std.proofs.Common.{◌≡◌, Err}
use native.Mathlib.Omega.{arith}
use Rattle.blocks.proofs.Laws as laws
use Rattle.blocks.proofs.+first_failing.Goals as goal

pub returns-in_err-next : goal.returns-in_err-next
returns-in_err-next t c =
    let e : c.from_residual.result ≡ Err c.in_err-next.field-0.0 = grind arith in
    search (laws.first_fails, c.in_err-next.ensures, e)

pub returns : goal.returns
returns t c = search (laws.then_second, c.in_ok-next.ensures)
