-- `call_of` tries the five calls.
use Rattle.std.proofs.Common.{rules, ◌∙◌}
use Rattle.call_lines.proofs.Calls as calls
use Rattle.call_lines.proofs.call_of.Goals as goal

pub returns-then-eq : goal.returns-then-eq
returns-then-eq c = search (rules, calls.says_verdict)

pub returns-then-eq-2 : goal.returns-then-eq-2
returns-then-eq-2 c = search (rules, calls.says_drop)

pub returns-in-Some : goal.returns-in-Some
returns-in-Some c = search (rules, calls.says_load)

pub returns-in-Some-number_after : goal.returns-in-Some-number_after
returns-in-Some-number_after c = search (rules, calls.says_advance)

pub returns-in_err-n : goal.returns-in_err-n
returns-in_err-n c = c.from_residual.ensures ∙ search (rules, calls.says_none)

pub returns : goal.returns
returns c = search (rules, calls.says_measure)
