-- Where the counts fit.
use Rattle.start.proofs.Starting as laws
use Rattle.start.proofs.holds.Goals as goal

pub returns-then-not-counts_fit : goal.returns-then-not-counts_fit
returns-then-not-counts_fit c = search laws.start_unfit

pub returns : goal.returns
returns c = search laws.start_fits
