-- By its risk, else by itself.
use Rattle.tenth.proofs.Laws as laws
use Rattle.tenth.proofs.row.Goals as goal

pub returns-then-safe_where : goal.returns-then-safe_where
returns-then-safe_where c = search laws.row_safe

pub returns : goal.returns
returns c = search laws.row_asked
