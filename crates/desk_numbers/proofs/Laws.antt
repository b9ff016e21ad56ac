-- What the functions return is what specs/Numbers says.
use mathlib.Core.Path.{◌≡◌, refl, sym, ap}
use mathlib.Core.List.{[], ◌∷◌}
use Prim.Native.Nat.{ℕ}
use borrow.Author.Tests.{ne_eqb}
use Rattle.verdicts.specs.declared.Acceptance.TheVariants.{AsIs, AfterInternal}
use Rattle.verdicts.specs.declared.Failure.{Failure}
use Rattle.answers.specs.declared.Phase.{Phase}
use Rattle.answers.specs.declared.Phase.TheVariants as phase
use Rattle.desk_numbers.specs.Numbers.{phase_told, phase_by, phase_in}

module _ (k : ℕ) (f : Failure) where
  pub phase_1 : k ≡ 1 → phase.Open ≡ phase_by k f
  unfolding phase_by
  phase_1 e = rw e

  pub phase_2 : k ≡ 2 → phase.Accepted AsIs ≡ phase_by k f
  unfolding phase_by
  phase_2 e = rw e

  pub phase_3 : k ≡ 3 → phase.Accepted AfterInternal ≡ phase_by k f
  unfolding phase_by
  phase_3 e = rw e

  pub phase_4 : k ≡ 4 → phase.Failed f ≡ phase_by k f
  unfolding phase_by
  phase_4 e = rw e

  pub phase_else : (k ≡ 1 → ⊥) → (k ≡ 2 → ⊥) → (k ≡ 3 → ⊥) → (k ≡ 4 → ⊥) → phase.Empty ≡ phase_by k f
  unfolding phase_by
  phase_else n1 n2 n3 n4 = simp (ne_eqb k 1 n1, ne_eqb k 2 n2, ne_eqb k 3 n3, ne_eqb k 4 n4)

pub failed_told : (p : Phase) (f : Failure) → p ≡ phase.Failed f → 4 ∷ f.criterion ∷ f.state ∷ f.row ∷ f.sum ∷ [] ≡ phase_told p
failed_told p f e = ap phase_told (sym e)

-- the phase that is told is the one that is found again
pub phase_again : (p : Phase) → phase_in (phase_told p) ≡ p
unfolding phase_by
phase_again phase.Empty = refl
phase_again phase.Open = refl
phase_again (phase.Accepted AsIs) = refl
phase_again (phase.Accepted AfterInternal) = refl
phase_again (phase.Failed f) = refl
