-- `loader::internal_rows` counts all rows of the implementation.
use Rattle.loader.proofs.internal_rows.Goals as goal

pub returns : goal.returns
returns c = rw (← c.shape_of-shape.ensures) c.internal_rows.ensures
