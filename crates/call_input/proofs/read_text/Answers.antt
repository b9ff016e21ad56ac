-- The text is what was kept and what was passed over.
use Rattle.std.proofs.Common.{◌≡◌, ◌-◌, min, ◌++◌, length, rules, arith, length-append, length-drop}
use Rattle.std.proofs.KnownBytes.{Consumes-trans}
use borrow.Rule.Slice.PartMut.{post_of}
use Rattle.call_input.proofs.Texts as texts
use Rattle.call_input.proofs.read_text.Goals as goal

pub returns-in-Some-eq10 : goal.returns-in-Some-eq10
returns-in-Some-eq10 g c =
    let kept = c.read_kept.new.room in
    let passed = c.in_ok-pass_over.ensures.0 in
    let k : length kept ≡ min c.args.n 28673 = search rules in
    let p : length passed ≡ c.args.n - min c.args.n 28673 = search rules in
    let after = post_of 0 c.min-kept.result c.args.room.now in
    let room : length c.args.room.now ≡ 28673 = search rules in
    let a : length after ≡ length c.args.room.now - c.min-kept.result = length-drop c.min-kept.result c.args.room.now in
    let b = length-append kept after in
    let m = c.min-kept.ensures in
    let whole : length (kept ++ after) ≡ 28673 = omega arith in
    let j = length-append kept passed in
    record {
      text = kept ++ passed;
      size = omega arith;
      kept = texts.start_kept c.args.n 28673 kept passed after k p whole;
      first =
          Consumes-trans _ _ _ _ _ (Consumes-trans _ _ _ _ _ c.in_ok-read_kept.ensures c.in_ok-pass_over.ensures.2) (search rules);
    }
