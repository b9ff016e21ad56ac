-- After those passed over come one byte more, and those ahead that `skip` passes over.
use Rattle.std.proofs.Common.{◌-◌, [], ◌∷◌, ◌++◌, take, arith, length-append, length-take}
use Rattle.std.proofs.KnownBytes.{Consumes-trans}
use Rattle.streams.specs.Ahead.{ahead_of}
use Rattle.call_input.proofs.pass_over.Goals as goal

pub loop-left-preserved : goal.loop-left-preserved
loop-left-preserved g c =
    let so_far = c.loop-left.invariant.0 in
    let one = c.in_ok-due_byte.field-0 ∷ [] in
    let ahead = ahead_of c.due_byte.new.input in
    let more = take (c.loop-left.left - 1) ahead in
    let a = length-append (so_far ++ one) more in
    let b = length-append so_far one in
    let d = length-take (c.loop-left.left - 1) ahead in
    let e = c.loop-left.invariant.1 in
    let f = c.skip-left.ensures.value in
    let some = c.loop-left-test.true in (
      (so_far ++ one) ++ more,
      omega arith,
      Consumes-trans _ _ _ _ _ (Consumes-trans _ _ _ _ _ c.loop-left.invariant.2 c.in_ok-due_byte.ensures) c.skip-left.ensures.bytes,
    )
