-- Of a text no more than the first 28,673 bytes matter: one that is longer has fault 1 whatever follows (`fault_cut`, `loaded_cut`).
use Prim.Native.Nat.{ℕ, ◌<◌}
use mathlib.Core.Path.{◌≡◌, refl, sym, ap, ◌∙◌}
use mathlib.Core.Bool.{Bool, true, false}
use mathlib.Core.List.{List}
use native.Mathlib.Omega.{arith}
use borrow.Author.Tests.{lt-ltb, ltb-true, ltb-false}
use lib.Dec.{ltb}
use lib.ListN.{length, take, length-take}
use lib.Seq.{take_all}
use Rattle.reader.specs.Text.{columns_fault}
use Rattle.std.specs.Prelude.{Err}
use Rattle.verdicts.specs.declared.Fault.TheVariants.{TooLong}
use Rattle.verdicts.specs.Refusals.{fault_by}
use Rattle.loader.specs.Load.{fault_of, loaded_of}

-- what is one and the same for every text over the limit goes by the first 28,673 bytes
pub by_start : {A : Type 0} (f : List ℕ → A) (a : A) → ((text : List ℕ) → 28672 < length text → f text ≡ a)
    → (text : List ℕ) → f (take 28673 text) ≡ f text
by_start {A} f a long text = go _ refl
  where
    go : (z : Bool) → ltb 28673 (length text) ≡ z → f (take 28673 text) ≡ f text
    go true e =
        let l : 28673 < length text = ltb-true 28673 (length text) e in
        let n = length-take 28673 text in
        long (take 28673 text) (omega arith) ∙ sym (long text (omega arith))
    go false e = ap f (take_all 28673 text (ltb-false 28673 (length text) e))

pub fault_long : (text : List ℕ) → 28672 < length text → fault_of text ≡ 1
unfolding fault_of columns_fault
fault_long text h = rw (lt-ltb 28672 (length text) h)

pub fault_cut : (text : List ℕ) → fault_of (take 28673 text) ≡ fault_of text
fault_cut text = by_start fault_of 1 fault_long text

loaded_long : (text : List ℕ) → 28672 < length text → loaded_of text ≡ Err TooLong
unfolding loaded_of fault_by
loaded_long text h = rw (fault_long text h)

pub loaded_cut : (text : List ℕ) → loaded_of (take 28673 text) ≡ loaded_of text
loaded_cut text = by_start loaded_of (Err TooLong) loaded_long text
