-- `number_after` looks for the word, then at what is after it.
use Rattle.std.proofs.Common.{rules, ◌∙◌}
use Rattle.call_lines.proofs.Calls as calls
use Rattle.call_lines.proofs.number_after.Goals as goal

pub returns-in_err-strip_prefix : goal.returns-in_err-strip_prefix
returns-in_err-strip_prefix c = search (rules, calls.another_word, ◌∙◌)

pub returns : goal.returns
returns c = search (rules, calls.number_after_lem)
