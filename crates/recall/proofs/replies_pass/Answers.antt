use borrow.Author.Rules.{rules}
use native.Mathlib.Omega.{arith}
use Rattle.recall.proofs.Turns as laws
use Rattle.recall.proofs.replies_pass.Goals as goal

pub loop-i-init : goal.loop-i-init
loop-i-init c = (omega arith, search laws.replies_begin)

pub reply_passes-requires : goal.reply_passes-requires
reply_passes-requires c = search laws.reply_below

pub returns-then-not-reply_passes : goal.returns-then-not-reply_passes
returns-then-not-reply_passes c = search laws.when_not

pub loop-i-preserved : goal.loop-i-preserved
loop-i-preserved c =
    (omega arith, laws.replies_turn _ _ c.args.plan.now c.args.sets.now _ c.args.t.now _ c.loop-i.watch _ _ c.args.changed c.loop-i.i _ c.reply_passes.result (search rules) (search rules) (search rules) (search rules) (search rules) (search rules) (search rules) (search rules))

pub returns : goal.returns
returns c = search laws.replies_end
