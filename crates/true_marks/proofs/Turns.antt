-- Formulas that are true, stored and looked for.
use Prim.Native.Nat.{ℕ, zero, suc, ◌+◌, ◌≤◌}
use mathlib.Core.Path.{◌≡◌, refl, sym, ◌∙◌}
use mathlib.Core.Logic.{◌≢◌}
use mathlib.Core.Bool.{Bool, true}
use mathlib.Core.List.{List, ◌∷◌, append_assoc}
use native.Mathlib.Numerals.{add-one}
use borrow.Author.Tests.{eq-eqb, ne_eqb}
use borrow.Rule.Slice.PartMut.{put_mid}
use lib.ListN.{length, get_or, set, take, drop, replicate, length-replicate}
use lib.Seq.{drop-drop, sets}
use Rattle.std.proofs.lemmas.List.Edits.{sets-eq}
use lib.Dec.{eqb}
use Rattle.foundation.specs.First.{all_in_range}
use Rattle.design.specs.declared.Shape.{Shape}
use Rattle.true_marks.specs.Tens.{tens, tens_from, tens_in}

-- ---- formulas that are true, stored in a part

pub filled : (l ys : List ℕ) (at n k m : ℕ) → k ≡ n → at + n ≤ length l → ys ≡ replicate m 10 → m ≡ n → put_mid at k l ys ≡ sets l at (replicate n 10)
filled l ys at n k m ek h ey em =
    let long = length-replicate {A = ℕ} n 10 in
    rw (ek, ey, em, drop-drop n at l) (sym (rw long at (sets-eq (replicate n 10) l at (rw long h)) ∙ append_assoc (take at l) (replicate n 10) (drop (at + n) l)))

-- behind the line's kind
pub kind_stored : (into after : List ℕ) (at n : ℕ) → after ≡ sets (set into at 8) (at + 1) (replicate n 10)
    → after ≡ sets into at (8 ∷ replicate n 10)
kind_stored into after at n e = rw (add-one at) at e

-- ---- fields that are looked at

pub tens_is : (fields : List ℕ) (n at : ℕ) → all_in_range (λ i. eqb (get_or fields i 0) 10) n at ≡ tens fields at n
unfolding all_in_range tens
tens_is fields zero at = refl
tens_is fields (suc n) at = rw (tens_is fields n (suc at))

-- ---- those of the line of marks, if there is one

module _ (fields starts : List ℕ) (h : Shape) where
  pub no_line : h.marks.count ≡ 0 → true ≡ tens_in fields starts h
  unfolding tens_in
  no_line e = rw (eq-eqb h.marks.count 0 e)

  pub a_line : h.marks.count ≢ 0 → (from to : ℕ) → from ≡ get_or starts h.marks.first 0 → to ≡ get_or starts (h.marks.first + 1) 0
      → (r : Bool) → r ≡ tens_from fields (from + 1) to → r ≡ tens_in fields starts h
  unfolding tens_in
  a_line n from to ef et r er = er ∙ rw (ne_eqb h.marks.count 0 n, ef, et)
