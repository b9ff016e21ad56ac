-- One look does where nothing reads the sum value.
use Rattle.std.proofs.Common.{rules}
use Rattle.plan.specs.Plan.{looks_of}
use Rattle.plan.proofs.looks.Goals as goal

pub returns-then-free : goal.returns-then-free
unfolding looks_of
returns-then-free c = search rules

pub returns-else-free : goal.returns-else-free
unfolding looks_of
returns-else-free c = search rules
