-- `put_output` goes by how reading ended.
use Rattle.std.proofs.Common.{◌≡◌, length, rules}
use Rattle.table_input.proofs.Output as output
use Rattle.table_input.proofs.put_output.Goals as goal

pub returns-in-Ok-Ended-clause-output_after : goal.returns-in-Ok-Ended-clause-output_after
returns-in-Ok-Ended-clause-output_after c = search (rules, output.ended)

pub returns-in-Ok-Full-clause-output_after : goal.returns-in-Ok-Full-clause-output_after
returns-in-Ok-Full-clause-output_after c = search (rules, output.full)

pub returns-in-Ok-Full-clause-by_index : goal.returns-in-Ok-Full-clause-by_index
returns-in-Ok-Full-clause-by_index c =
    let whole : length c.args.room.now ≡ 28673 = search rules in
    λ text s. search (rules, output.full_input)

pub returns-in-Err-clause-output_after : goal.returns-in-Err-clause-output_after
returns-in-Err-clause-output_after c = search output.failed
