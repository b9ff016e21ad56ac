-- `columns::blanks_in` counts the blanks that begin the first six of a word's bytes.
use borrow.Author.Rules.{rules}
use Rattle.columns.proofs.Word as word
use Rattle.columns.proofs.blanks_in.Goals as goal

pub overflow_cast-count : goal.overflow_cast-count
overflow_cast-count c = search (rules, word.count_fits)

pub returns : goal.returns
returns c = search word.counted
