-- There are no more rows than the plan has places for.
use Rattle.state_passes.proofs.Seeing as laws
use Rattle.state_passes.proofs.rows_seen.Goals as goal

pub rows_seen_between-requires : goal.rows_seen_between-requires
rows_seen_between-requires c = search laws.impl_few
