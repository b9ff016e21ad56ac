-- After the kind.
use Rattle.looking.proofs.Laws as laws
use Rattle.looking.proofs.values_in_line.Goals as goal

pub returns : goal.returns
returns c = search laws.line_values
