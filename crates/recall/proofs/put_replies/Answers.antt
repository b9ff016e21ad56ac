use borrow.Author.Rules.{rules}
use native.Mathlib.Omega.{arith}
use Rattle.recall.proofs.Setting as laws
use Rattle.recall.proofs.put_replies.Goals as goal

pub loop-i-init : goal.loop-i-init
loop-i-init c = (omega arith, search rules)

pub loop-i-preserved : goal.loop-i-preserved
loop-i-preserved c = (omega arith, search laws.reply_stored)

pub returns : goal.returns
returns c = search laws.replies_done
