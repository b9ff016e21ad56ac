use native.Mathlib.Omega.{arith}
use borrow.Author.Rules.{rules}
use Rattle.table_check.proofs.Lines as lines
use Rattle.table_check.proofs.count_ranks.Goals as goal

pub loop-i-init : goal.loop-i-init
loop-i-init c = (omega arith, search lines.tally_start)

pub offset_bounds-tally-rank : goal.offset_bounds-tally-rank
offset_bounds-tally-rank c = search lines.rank_place

pub bounds-tally-rank : goal.bounds-tally-rank
bounds-tally-rank c = search lines.rank_below

pub overflow_add-tally : goal.overflow_add-tally
overflow_add-tally c = search (lines.one_more_fits, rules)

pub bounds-tally-rank-in-loop-i : goal.bounds-tally-rank-in-loop-i
bounds-tally-rank-in-loop-i c = search lines.rank_below

pub loop-i-preserved : goal.loop-i-preserved
loop-i-preserved c = (search rules, search lines.tally_turn)

pub returns : goal.returns
returns c = search lines.tally_end
