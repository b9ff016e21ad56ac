-- The report on a text is that on its first 28,673 bytes.
use Prim.Native.Nat.{ℕ, ◌<◌}
use mathlib.Core.Path.{◌≡◌}
use mathlib.Core.List.{List}
use lib.ListN.{length, take}
use Rattle.loader.proofs.Cut.{by_start, fault_long}
use Rattle.checker.specs.OneCall.{refused_report, judged_of}

judged_long : (text : List ℕ) → 28672 < length text → judged_of text ≡ refused_report 1
unfolding judged_of
judged_long text h = rw (fault_long text h)

pub judged_cut : (text : List ℕ) → judged_of (take 28673 text) ≡ judged_of text
judged_cut text = by_start judged_of (refused_report 1) judged_long text
