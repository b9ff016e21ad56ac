-- There are no more rows than the plan has places for.
use Rattle.state_passes.proofs.Seeing as laws
use Rattle.state_passes.proofs.rows_replied.Goals as goal

pub rows_replied_between-requires : goal.rows_replied_between-requires
rows_replied_between-requires c = search laws.spec_few
