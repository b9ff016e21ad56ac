-- Its eight values.
use Rattle.looking.proofs.Laws as laws
use Rattle.looking.proofs.state_places.Goals as goal

pub returns : goal.returns
returns c = search laws.state_places
