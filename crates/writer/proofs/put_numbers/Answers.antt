-- `put_numbers` writes five fields and byte 10.
use Rattle.writer.proofs.Bytes as bytes
use Rattle.writer.proofs.put_numbers.Goals as goal

pub returns : goal.returns
returns c =
    bytes.report_sets c.args.report _ _ _ _ _ _ c.requires c.put_columns.ensures c.put_columns-2.ensures c.put_columns-3.ensures c.put_columns-4.ensures c.put_columns-5.ensures
