-- `LineReader::next` goes on over a field, which its line has.
use borrow.Author.Rules.{rules}
use mathlib.Core.Path.{◌∙◌, sym}
use Rattle.reader.proofs.Line as line
use Rattle.reader.proofs.LineReader.next.Goals as goal

pub overflow_add-at : goal.overflow_add-at
overflow_add-at c =
    search (rules, line.next_fits c.args.self.line.now c.args.self.at c.field_in-field.result c.field_in-field.ensures (sym c.is_some.ensures ∙ c.if-is_some.true))
