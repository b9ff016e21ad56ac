use Rattle.std.proofs.Common.{◌<◌, length, rules}
use Rattle.streams.proofs.Ahead as ahead
use Rattle.streams.proofs.read_ahead.ReadAhead.take_first.Goals as goal

pub returns-then-self-clause-ahead_after : goal.returns-then-self-clause-ahead_after
returns-then-self-clause-ahead_after g c = ahead.stepped _ _ _ c.if-self.true

pub returns-then-self-clause-bytes : goal.returns-then-self-clause-bytes
returns-then-self-clause-bytes g c = λ ended.
    let within : c.args.self.now.at < length c.args.self.now.block = search rules in
    ahead.gave_first _ _ _ _ c.if-self.true within

pub returns-else-self-clause-bytes : goal.returns-else-self-clause-bytes
returns-else-self-clause-bytes g c = λ ended. ahead.gave_none _ _ _ _ c.if-self.false (ended c.if-self.false)
