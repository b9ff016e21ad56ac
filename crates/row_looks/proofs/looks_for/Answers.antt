-- By what is known of the condition without its sum value.
use Rattle.row_looks.proofs.Looks as laws
use Rattle.row_looks.proofs.looks_for.Goals as goal

pub returns-then-not-front : goal.returns-then-not-front
returns-then-not-front c = search laws.looks_ruled_out

pub returns-then-not-planned : goal.returns-then-not-planned
returns-then-not-planned c = search laws.looks_planned

pub returns-then-on : goal.returns-then-on
returns-then-on c = search laws.looks_on

pub returns-else-on : goal.returns-else-on
returns-else-on c = search laws.looks_off
