use Rattle.std.proofs.Common.{arith, rules}
use Rattle.desk_c.proofs.Advances as laws
use Rattle.desk_c.proofs.bench_advances.Goals as goal

pub loop-made-init : goal.loop-made-init
loop-made-init c = (omega arith, omega arith, search laws.begins)

pub returns-then-not-stays_open : goal.returns-then-not-stays_open
returns-then-not-stays_open c = search (rules, laws.stops)

pub loop-made-preserved : goal.loop-made-preserved
loop-made-preserved c = (search rules, search rules, search (rules, laws.turns))

pub returns : goal.returns
returns c = search (rules, laws.ends)
