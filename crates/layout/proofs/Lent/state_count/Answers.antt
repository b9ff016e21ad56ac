-- The product where the counts fit.
use Rattle.layout.proofs.Sizes as laws
use Rattle.layout.proofs.Lent.state_count.Goals as goal

pub returns-then-counts_fit : goal.returns-then-counts_fit
returns-then-counts_fit c = search laws.count_fits

pub returns-else-counts_fit : goal.returns-else-counts_fit
returns-else-counts_fit c = search laws.count_unfit
