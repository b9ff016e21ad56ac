use native.Mathlib.Omega.{arith}
use Rattle.std.proofs.Common.{rules, ◌≡◌, ◌/◌}
use Rattle.steps.proofs.Arrays as laws
use Rattle.steps.proofs.put_state.Goals as goal

pub loop-i-init : goal.loop-i-init
loop-i-init c = (omega arith, (search laws.state_start_values, search laws.state_start_left))

pub loop-i-preserved : goal.loop-i-preserved
loop-i-preserved c =
    let left : c.unwrap_or-left.result ≡ c.loop-i.left / c.size-z.result = search rules in
    (omega arith, (search (laws.state_turn_values, rules), search laws.state_turn_left))

pub returns : goal.returns
returns c = search laws.state_end
