-- Whether no parameter is large, and each parameter that is 0.
use Rattle.std.proofs.Common.{rules}
use Rattle.divisors.proofs.Laws as laws
use Rattle.divisors.proofs.so.Goals as goal
use Rattle.divisors.proofs.so.Goals.{then-small, else-small, then-parameter-eq0, else-parameter-eq0}

pub loop-i-init : goal.loop-i-init
loop-i-init c = elim c.if-small.branch [ then-small w ↦ search (laws.so_small, rules) | else-small w ↦ search (laws.so_large, rules) ]

pub loop-i-preserved : goal.loop-i-preserved
loop-i-preserved c =
    elim c.if-parameter-eq0.branch [ then-parameter-eq0 w ↦ search (laws.so_zero, rules) | else-parameter-eq0 w ↦ search (laws.so_other, rules) ]
