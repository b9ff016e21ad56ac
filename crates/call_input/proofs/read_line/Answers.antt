-- The line's byte 10 comes after the bytes put.
use Rattle.std.proofs.Common.{◌≤◌, rules, arith}
use Rattle.std.proofs.KnownBytes.{Consumes-trans}
use Rattle.call_input.proofs.read_line.Goals as goal

pub returns-in-Some-eq10 : goal.returns-in-Some-eq10
returns-in-Some-eq10 g c =
    let few : c.loop-n.n ≤ 28 = search rules in
    let room = c.loop-n.invariant.0 in
    (omega arith, Consumes-trans _ _ _ _ _ (c.loop-n.invariant.1 few) (search rules))
