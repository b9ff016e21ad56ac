-- Where the condition holds, the step.
use Rattle.state_passes.proofs.Seeing as laws
use Rattle.state_passes.proofs.visible_look.Goals as goal

pub returns-then-not-on : goal.returns-then-not-on
returns-then-not-on c = search laws.visible_off

pub returns : goal.returns
returns c = search laws.visible_on
