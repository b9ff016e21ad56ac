-- Each test in its turn.
use Rattle.measure.proofs.Room as laws
use Rattle.measure.proofs.has_room.Goals as goal

pub returns-then-not-counts_fit : goal.returns-then-not-counts_fit
returns-then-not-counts_fit c = search laws.room_unfit

pub returns-then-not-spans_fit : goal.returns-then-not-spans_fit
returns-then-not-spans_fit c = search laws.room_spans

pub returns : goal.returns
returns c = search laws.room_is
