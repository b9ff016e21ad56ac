-- The bytes that one more write takes come after those taken.
use Rattle.std.proofs.Common.{rules, take, sym, ap, subst}
use Rattle.std.proofs.lemmas.List.{take_rest}
use Rattle.std.specs.Io.KnownBytes.{Appends}
use Rattle.std.proofs.KnownBytes.{Appends-trans}
use lib.Seq.{take-add}
use Rattle.streams.proofs.write_all.Goals as goal

pub loop-n-preserved : goal.loop-n-preserved
loop-n-preserved g c =
    let n = c.loop-n.n in
    let here = subst (Appends _ _) (ap (take c.in_ok-k.k) (take_rest c.args.bytes.now n)) c.in_ok-k.ensures.taken in
    (search rules, subst (Appends _ _) (sym (take-add n c.in_ok-k.k c.args.bytes.now)) (Appends-trans _ _ _ _ _ c.loop-n.invariant.1 here))
