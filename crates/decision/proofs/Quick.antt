-- The quick test of a state says whether the search there passes, for every design: acceptance does not depend on the order in which
-- criteria, rows and sum values are looked at.
use mathlib.Core.Path.{◌≡◌, refl, sym, ◌∙◌, ap}
use mathlib.Core.Bool.{Bool, true, false, not, ◌&&◌, true≢false, not-not}
use mathlib.Core.List.{List}
use Prim.Native.Nat.{ℕ, suc}
use lib.ListN.{length}
use Rattle.foundation.specs.First.{Outcome, pass, fail, first_in, passes, all_in_range}
use Rattle.foundation.specs.Trial.{place, in_criterion, first_place}
use Rattle.foundation.proofs.First.{passes_all, all_alike, all_both}
use Rattle.foundation.proofs.Trial.{place_passes}
use Rattle.criteria.specs.Design.{Design, Row, State}
use Rattle.criteria.specs.Rows.{row_at}
use Rattle.decision.specs.Tests.{all_rows, holds2, holds3, holds4, holds5, holds6, holds7, holds8, holds9}
use Rattle.decision.specs.Examine.{trial, first_failing}
use Rattle.decision.specs.Quick.{row_holds, state_holds}

-- ---- one criterion over rows

-- a search through rows finds none exactly if each row passes
pub rows_none : {A : Type 0} (rows : List Row) (fails : ℕ → Row → ℕ → Bool) (name : ℕ → ℕ → A)
    → passes (first_place (suc (length rows)) (λ k. (row_at rows k).span) (λ k e. fails k (row_at rows k) e) name) ≡ all_rows rows (λ k r e. not (fails k r e))
unfolding all_in_range
rows_none rows fails name = place_passes (suc (length rows)) (λ k. (row_at rows k).span) (λ k e. fails k (row_at rows k) e) name

-- two tests that say the same
pub rows_alike : (rows : List Row) (t u : ℕ → Row → ℕ → Bool) → ((k : ℕ) (r : Row) (e : ℕ) → t k r e ≡ u k r e) → all_rows rows t ≡ all_rows rows u
rows_alike rows t u same = all_alike _ _ (length rows) 1 (λ k. all_alike _ _ (row_at rows k).span 0 (λ e. same k (row_at rows k) e))

rows_pass : (rows : List Row) (holds : ℕ → Row → ℕ → Bool) (c : ℕ)
    → passes (first_place (suc (length rows)) (λ k. (row_at rows k).span) (λ k e. not (holds k (row_at rows k) e)) (place c)) ≡ all_rows rows holds
rows_pass rows holds c = rows_none rows (λ k r e. not (holds k r e)) (place c) ∙ rows_alike rows _ holds (λ k r e. not-not (holds k r e))

-- two tests at once
rows_both : (rows : List Row) (t u : ℕ → Row → ℕ → Bool) → all_rows rows (λ k r e. t k r e && u k r e) ≡ all_rows rows t && all_rows rows u
rows_both rows t u =
    all_alike _ _ (length rows) 1 (λ k. all_both (λ e. t k (row_at rows k) e) (λ e. u k (row_at rows k) e) (row_at rows k).span 0)
    ∙ all_both (λ k. all_in_range (λ e. t k (row_at rows k) e) (row_at rows k).span 0) (λ k. all_in_range (λ e. u k (row_at rows k) e) (row_at rows k).span 0) (length rows) 1

passing : {A : Type 0} (o : Outcome A) → passes o ≡ true → o ≡ pass
passing pass h = refl
passing (fail x) h = absurd (true≢false (sym h))

-- ---- all criteria

once_pass : (b : Bool) (c : ℕ) → passes (first_place 1 (λ _. 1) (λ _ _. not b) (place c)) ≡ b
unfolding first_in
once_pass true c = refl
once_pass false c = refl

-- criterion 7, which is tried before 8 and 9, may as well be tried last
arranged : (b2 b3 b4 b5 b6 b7 b8 b9 : Bool)
    → b2 && (b3 && (b4 && (b5 && (b6 && (b7 && (b8 && (b9 && true))))))) ≡ b2 && ((b3 && (b4 && (b5 && (b6 && (b8 && b9))))) && b7)
arranged false b3 b4 b5 b6 b7 b8 b9 = refl
arranged true false b4 b5 b6 b7 b8 b9 = refl
arranged true true false b5 b6 b7 b8 b9 = refl
arranged true true true false b6 b7 b8 b9 = refl
arranged true true true true false b7 b8 b9 = refl
arranged true true true true true true true true = refl
arranged true true true true true true true false = refl
arranged true true true true true true false b9 = refl
arranged true true true true true false true true = refl
arranged true true true true true false true false = refl
arranged true true true true true false false b9 = refl

module _ (d : Design) (s : State) where
  abbrev impl : (ℕ → Row → ℕ → Bool) → Bool
  impl t = all_rows d.impl.rows t

  -- the tests of a row, from a criterion on
  abbrev from8 : ℕ → Row → ℕ → Bool
  from8 k r e = holds8 d s r e && holds9 d s r e

  abbrev from6 : ℕ → Row → ℕ → Bool
  from6 k r e = holds6 d s r e && from8 k r e

  abbrev from5 : ℕ → Row → ℕ → Bool
  from5 k r e = holds5 d s k r e && from6 k r e

  abbrev from4 : ℕ → Row → ℕ → Bool
  from4 k r e = holds4 d s r e && from5 k r e

  -- the rows of the implementation, all six criteria at once
  six : impl (row_holds d s) ≡ impl (λ _. holds3 d s) && (impl (λ _. holds4 d s) && (impl (holds5 d s) && (impl (λ _. holds6 d s) && (impl (λ _. holds8 d s) && impl (λ _. holds9 d s)))))
  six =
      let rows = d.impl.rows in
      rows_both rows (λ _. holds3 d s) from4 ∙ ap (λ b. impl (λ _. holds3 d s) && b) (rows_both rows (λ _. holds4 d s) from5
      ∙ ap (λ b. impl (λ _. holds4 d s) && b) (rows_both rows (holds5 d s) from6 ∙ ap (λ b. impl (holds5 d s) && b) (rows_both rows (λ _. holds6 d s) from8
      ∙ ap (λ b. impl (λ _. holds6 d s) && b) (rows_both rows (λ _. holds8 d s) (λ _. holds9 d s)))))

  row_pass : (holds : ℕ → Row → ℕ → Bool) (c : ℕ)
      → passes (first_place (suc (length d.impl.rows)) (λ k. (row_at d.impl.rows k).span) (λ k e. not (holds k (row_at d.impl.rows k) e)) (place c)) ≡ impl holds
  row_pass holds c = rows_pass d.impl.rows holds c

  pub quick : state_holds d s ≡ passes (first_failing d s)
  unfolding all_in_range first_in
  quick =
      let f : ℕ → Bool = λ c. passes (in_criterion (trial d s) c) in
      let spec : Bool = all_rows d.spec.rows (λ _. holds7 d s) in
      let p2 : f 2 ≡ holds2 d s = once_pass (holds2 d s) 2 in
      let p3 : f 3 ≡ impl (λ _. holds3 d s) = row_pass (λ _. holds3 d s) 3 in
      let p4 : f 4 ≡ impl (λ _. holds4 d s) = row_pass (λ _. holds4 d s) 4 in
      let p5 : f 5 ≡ impl (holds5 d s) = row_pass (holds5 d s) 5 in
      let p6 : f 6 ≡ impl (λ _. holds6 d s) = row_pass (λ _. holds6 d s) 6 in
      let p7 : f 7 ≡ spec = rows_pass d.spec.rows (λ _. holds7 d s) 7 in
      let p8 : f 8 ≡ impl (λ _. holds8 d s) = row_pass (λ _. holds8 d s) 8 in
      let p9 : f 9 ≡ impl (λ _. holds9 d s) = row_pass (λ _. holds9 d s) 9 in
      sym (passes_all (λ c. in_criterion (trial d s) c) 10 0
      ∙ (λ i. p2 i && (p3 i && (p4 i && (p5 i && (p6 i && (p7 i && (p8 i && (p9 i && true))))))))
      ∙ arranged (holds2 d s) (impl (λ _. holds3 d s)) (impl (λ _. holds4 d s)) (impl (holds5 d s)) (impl (λ _. holds6 d s)) spec (impl (λ _. holds8 d s)) (impl (λ _. holds9 d s))
      ∙ ap (λ b. holds2 d s && (b && spec)) (sym six))

  -- so the search is needed only where it says no
  pub quick_passes : state_holds d s ≡ true → first_failing d s ≡ pass
  quick_passes h = passing (first_failing d s) (sym quick ∙ h)
