-- `line_check::each_fits`: what is left is to be the other terms.
use Rattle.std.proofs.Common.{ℕ, ◌≡◌, ◌-◌, List, Option}
use Rattle.line_check.specs.LineFits.{each_fits}
use Rattle.line_check.proofs.each_fits.Given as goal

abbrev pub invariant-loop-i : goal.invariant-loop-i
invariant-loop-i g l =
    (next : List ℕ → Option ℕ) → ((bytes : _) (r : _) → goal.C-post g l.check bytes r → r ≡ next bytes.now)
    → each_fits next (l.count - l.i) l.left ≡ each_fits next l.count l.part
