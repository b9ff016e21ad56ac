-- `put_columns` stores a number's six columns one after the other.
use native.Mathlib.Numerals.{towards_suc}
use Prim.Native.Nat.{◌<◌}
use borrow.Author.Rules.{rules}
use Rattle.writer.proofs.Bytes as bytes
use Rattle.writer.proofs.put_columns.Goals as goal

pub returns : goal.returns
returns c =
    let n = c.args.n in
    let small : n < 65536 = search rules in
    rw
    (bytes.columns_are n _ _ _ _ small c.column.ensures c.column-2.ensures c.column-3.ensures c.column-4.ensures)
    (simp towards_suc)
