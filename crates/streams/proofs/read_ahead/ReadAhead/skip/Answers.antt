-- `skip` takes bytes off the front of those ahead.
use Rattle.streams.proofs.Ahead as ahead
use Rattle.streams.proofs.read_ahead.ReadAhead.skip.Goals as goal

pub returns-clause-ahead_after : goal.returns-clause-ahead_after
returns-clause-ahead_after g c = let a = c.args.self.now in rw c.min-passed.ensures (ahead.went_on a.block a.at a.end c.args.n a.ordered)

pub returns-clause-bytes : goal.returns-clause-bytes
returns-clause-bytes g c =
    let a = c.args.self.now in
    ahead.skipped _ c.args.n _ _ (rw c.min-passed.ensures (ahead.went_on a.block a.at a.end c.args.n a.ordered))
