-- `columns::blanks` counts the blanks that begin six columns, on their word or byte by byte.
use Prim.Native.Nat.{ℕ, ◌<◌}
use lib.ListN.{get_or}
use Rattle.columns.proofs.Turns as turns
use Rattle.columns.proofs.Word as word
use Rattle.columns.proofs.blanks.Goals as goal

bytes : (c : goal.After-blanks_in) (i : ℕ) → get_or c.args.part.now i 0 < 256
bytes c i = (c.type_inv.part i).fits

pub returns-then-part-ge-WORD_BYTES : goal.returns-then-part-ge-WORD_BYTES
returns-then-part-ge-WORD_BYTES c = search (word.of_part, bytes c)

pub returns-else-part-ge-WORD_BYTES : goal.returns-else-part-ge-WORD_BYTES
returns-else-part-ge-WORD_BYTES c = search turns.blanks_counted
