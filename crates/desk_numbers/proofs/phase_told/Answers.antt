-- By its case.
use Rattle.desk_numbers.proofs.Laws as laws
use Rattle.desk_numbers.proofs.phase_told.Goals as goal

pub returns-in-Failed : goal.returns-in-Failed
returns-in-Failed c = search laws.failed_told
