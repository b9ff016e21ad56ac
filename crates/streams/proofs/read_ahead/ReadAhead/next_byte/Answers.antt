-- What one read gave is ahead, and its first byte is then given.
use Rattle.std.proofs.Common.{Ok}
use Rattle.streams.specs.Ahead.{left_of}
use Rattle.streams.proofs.Ahead as ahead
use Rattle.streams.proofs.read_ahead.ReadAhead.next_byte.Goals as goal

pub returns-clause-bytes : goal.returns-clause-bytes
returns-clause-bytes g c =
    let remaining = g.R.Read.remaining in
    ahead.gave_after (left_of remaining c.args.self.now) (left_of remaining c.read_block.new.self) (left_of remaining c.take_first.new.self)
    (Ok c.take_first.result) c.in_ok-read_block.ensures.bytes (c.take_first.ensures.bytes c.in_ok-read_block.ensures.end)
