use Rattle.measurable.proofs.Measurable as laws
use Rattle.measurable.proofs.row_stays.Goals as goal

pub loop-look-init : goal.loop-look-init
loop-look-init c = search laws.stays_starts

pub returns-then-not-inside : goal.returns-then-not-inside
returns-then-not-inside c = search (laws.stays_fails, c.in-Some.ensures)

pub loop-look-preserved : goal.loop-look-preserved
loop-look-preserved c = search (laws.stays_turns, c.in-Some.ensures)

pub returns : goal.returns
returns c = search (laws.stays_ends, c.in_default.ensures)
