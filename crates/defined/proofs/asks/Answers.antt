-- All of them, or one.
use Rattle.std.proofs.Common.{rules}
use Rattle.defined.proofs.Laws as laws
use Rattle.defined.proofs.asks.Goals as goal

pub returns-then-condition : goal.returns-then-condition
returns-then-condition c = search laws.asks_on

pub returns-then-not-free : goal.returns-then-not-free
returns-then-not-free c = search laws.asks_reading

pub returns-then-not-mark_free : goal.returns-then-not-mark_free
returns-then-not-mark_free c = search laws.asks_mark

pub returns : goal.returns
returns c = search (laws.asks_one, rules)
