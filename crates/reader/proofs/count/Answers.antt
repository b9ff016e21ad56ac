use Rattle.reader.proofs.Turns as turns
use Rattle.reader.proofs.count.Goals as goal

pub returns-in_default : goal.returns-in_default
returns-in_default c = search turns.turn_stop

pub loop-reader-smaller : goal.loop-reader-smaller
loop-reader-smaller c = search turns.turn_less

pub loop-reader-preserved : goal.loop-reader-preserved
loop-reader-preserved c = record { same_part = search turns.same_on; passed = search turns.turn_passed }
