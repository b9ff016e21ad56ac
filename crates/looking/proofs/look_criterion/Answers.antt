-- The test of the criterion, by the counts.
use Rattle.looking.proofs.Laws as laws
use Rattle.looking.proofs.look_criterion.Goals as goal

pub criterion-holds-requires : goal.criterion-holds-requires
criterion-holds-requires c = search laws.fits_by_counts

pub returns-then-holds : goal.returns-then-holds
returns-then-holds c = search laws.criterion_holds

pub returns-else-holds : goal.returns-else-holds
returns-else-holds c = search laws.criterion_fails
