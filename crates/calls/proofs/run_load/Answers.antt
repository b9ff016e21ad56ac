-- `run_load` loads what was read, and puts the answer.
use Rattle.std.proofs.Common.{◌≡◌, length, rules}
use Rattle.answer_lines.specs.Answers.{load_word}
use Rattle.calls.proofs.Calls as calls
use Rattle.calls.proofs.run_load.Goals as goal

pub returns-clause-by_index : goal.returns-clause-by_index
returns-clause-by_index c =
    let whole : length c.args.room.now ≡ 28673 = search rules in
    λ text i. calls.load_desk _ _ _ _ _ whole c.min-kept.ensures c.load-loaded.ensures.value text i

pub returns-clause-by_index_2 : goal.returns-clause-by_index_2
returns-clause-by_index_2 c =
    let whole : length c.args.room.now ≡ 28673 = search rules in
    λ text i. calls.load_line _ _ _ _ _ whole c.min-kept.ensures c.load-loaded.ensures.value text i load_word _ c.put_load-length.ensures.line_after
