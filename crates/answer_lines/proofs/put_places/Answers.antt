use Rattle.std.proofs.Common.{rules}
use Rattle.answer_lines.proofs.Pieces as pieces
use Rattle.answer_lines.proofs.put_places.Goals as goal

pub loop-i-preserved : goal.loop-i-preserved
loop-i-preserved c = (search rules, search rules, search rules, search pieces.one_more)
