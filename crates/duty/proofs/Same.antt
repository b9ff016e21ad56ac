-- Lines are told to be the same exactly if they are, and so are the lines of two specifications.
use Prim.Native.Nat.{ℕ}
use mathlib.Core.Path.{◌≡◌, refl, sym, subst}
use mathlib.Core.List.{List, [], ◌∷◌}
use Rattle.foundation.specs.Reflects.{Reflects, so, not_so}
use Rattle.foundation.proofs.Reflects.{by_iff, by_and, by_same}
use Rattle.design.specs.Lines.{of_kind}
use Rattle.duty.specs.Duty.{lines_agree, same_specification}

NoLines : List (List ℕ) → Type 0
NoLines [] = Unit {0}
NoLines (line ∷ lines) = ⊥

pub by_lines : (lines due : List (List ℕ)) → Reflects (lines ≡ due) (lines_agree lines due)
unfolding NoLines
by_lines [] [] = so refl
by_lines [] (d ∷ due) = not_so (λ h. subst NoLines h tt)
by_lines (l ∷ lines) [] = not_so (λ h. subst NoLines (sym h) tt)
by_lines (l ∷ lines) (d ∷ due) = by_iff (λ h i. h.0 i ∷ h.1 i) (λ h. (cc, cc)) (by_and (by_same l d) (by_lines lines due))

pub by_specification : (lines due : List (List ℕ))
    → Reflects ((of_kind 2 lines ≡ of_kind 2 due) × (of_kind 4 lines ≡ of_kind 4 due)) (same_specification lines due)
by_specification lines due = by_and (by_lines (of_kind 2 lines) (of_kind 2 due)) (by_lines (of_kind 4 lines) (of_kind 4 due))
