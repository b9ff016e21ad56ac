-- The block of the number, by what the part that fails reads.
use Rattle.blocks.proofs.Laws as laws
use Rattle.blocks.proofs.past.Goals as goal

pub unwrap_err-requires : goal.unwrap_err-requires
unwrap_err-requires c = search laws.part_fails

pub next_block-requires-clause-w_nonzero : goal.next_block-requires-clause-w_nonzero
next_block-requires-clause-w_nonzero c = search laws.block_some

pub next_block-requires-clause-w_bound : goal.next_block-requires-clause-w_bound
next_block-requires-clause-w_bound c = search laws.block_few

pub returns-clause-lower_bound : goal.returns-clause-lower_bound
returns-clause-lower_bound c = search laws.past_after

pub returns-clause-upper_bound : goal.returns-clause-upper_bound
returns-clause-upper_bound c = search laws.past_within

pub returns-clause-ruled_out : goal.returns-clause-ruled_out
returns-clause-ruled_out c = search laws.past_rules_out
