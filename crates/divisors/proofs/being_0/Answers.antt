-- A power of two that fits.
use Rattle.divisors.proofs.Laws as laws
use Rattle.divisors.proofs.being_0.Goals as goal

pub returns : goal.returns
returns c = search laws.being_0
