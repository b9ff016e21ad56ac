-- A fault is the one of its number, and a number of 1 to 7 that of its fault.
use Rattle.std.proofs.Common.{ℕ, zero, suc, ◌≤◌, ◌≡◌, ◌≢◌, refl, arith}
use Rattle.verdicts.specs.declared.Fault.{Fault}
use Rattle.verdicts.specs.declared.Fault.TheVariants.{TooLong, Columns, Fields, Layout, Bounds, Terms, Actions}
use Rattle.verdicts.specs.Refusals.{fault_number, fault_by}

pub of_its_number : (f : Fault) → fault_by (fault_number f) ≡ f
unfolding fault_by
of_its_number TooLong = refl
of_its_number Columns = refl
of_its_number Fields = refl
of_its_number Layout = refl
of_its_number Bounds = refl
of_its_number Terms = refl
of_its_number Actions = refl

pub number_is_some : (f : Fault) → fault_number f ≢ 0
number_is_some TooLong h = omega arith
number_is_some Columns h = omega arith
number_is_some Fields h = omega arith
number_is_some Layout h = omega arith
number_is_some Bounds h = omega arith
number_is_some Terms h = omega arith
number_is_some Actions h = omega arith

pub its_number : (k : ℕ) → k ≢ 0 → k ≤ 7 → fault_number (fault_by k) ≡ k
unfolding fault_by
its_number zero n h = absurd (n refl)
its_number (suc zero) n h = refl
its_number (suc (suc zero)) n h = refl
its_number (suc (suc (suc zero))) n h = refl
its_number (suc (suc (suc (suc zero)))) n h = refl
its_number (suc (suc (suc (suc (suc zero))))) n h = refl
its_number (suc (suc (suc (suc (suc (suc zero)))))) n h = refl
its_number (suc (suc (suc (suc (suc (suc (suc zero))))))) n h = refl
its_number (suc (suc (suc (suc (suc (suc (suc (suc k)))))))) n h = absurd (omega arith)
