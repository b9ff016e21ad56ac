-- `line_check::ended` says whether a part has no field.
use Rattle.line_check.proofs.Laws as laws
use Rattle.line_check.proofs.ended.Goals as goal

pub returns : goal.returns
returns c = search laws.ended_by
