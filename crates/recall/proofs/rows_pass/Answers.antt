use borrow.Author.Rules.{rules}
use native.Mathlib.Omega.{arith}
use Rattle.recall.proofs.Turns as laws
use Rattle.recall.proofs.rows_pass.Goals as goal

pub loop-i-init : goal.loop-i-init
loop-i-init c = (omega arith, search laws.rows_begin)

pub row_passes-requires-clause-i_bound : goal.row_passes-requires-clause-i_bound
row_passes-requires-clause-i_bound c = search laws.row_below

pub loop-i-preserved : goal.loop-i-preserved
loop-i-preserved c =
    (omega arith, laws.rows_turn _ _ c.args.plan.now c.args.sets.now _ c.args.t.now _ c.loop-i.watch _ _ c.args.changed c.loop-i.i c.loop-i.quiet c.row_passes.result (search rules) (search rules) (search rules) (search rules) (search rules) (search rules) (search rules) (search rules))

pub returns : goal.returns
returns c = search laws.rows_end
