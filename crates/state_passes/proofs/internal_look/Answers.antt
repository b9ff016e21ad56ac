-- Where the condition holds, the step and its mark.
use Rattle.state_passes.proofs.Seeing as laws
use Rattle.state_passes.proofs.internal_look.Goals as goal

pub returns-then-not-on : goal.returns-then-not-on
returns-then-not-on c = search laws.internal_off

pub returns : goal.returns
returns c = search laws.internal_on
