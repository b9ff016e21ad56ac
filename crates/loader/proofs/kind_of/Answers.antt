-- `loader::kind_of` is a line's first field.
use mathlib.Core.Path.{◌∙◌}
use Rattle.loader.proofs.Lines as lines
use Rattle.loader.proofs.kind_of.Goals as goal

pub returns : goal.returns
returns c = c.unwrap_or.ensures ∙ search lines.kind_by
