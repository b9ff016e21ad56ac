-- `put_start` has the one-call check write its report into all of the output.
use Rattle.std.proofs.Common.{◌≡◌, length, rules}
use Rattle.table_input.proofs.Output as output
use Rattle.table_input.proofs.put_start.Goals as goal

pub returns-clause-output_after : goal.returns-clause-output_after
returns-clause-output_after c =
    let whole : length c.args.output.now ≡ 31 = search rules in
    output.start_report _ _ _ _ _ whole c.min.ensures c.check_design.ensures.report_after
