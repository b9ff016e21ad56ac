-- How many states a check walked over m states examines: m of them, or as many as there are till it is decided (`counted`).
use Prim.Native.Nat.{ℕ, ◌+◌, min}
use mathlib.Core.Path.{◌≡◌, refl, sym, ◌∙◌}
use mathlib.Core.Bool.{Bool, true, false}
use native.Mathlib.Omega.{arith}
use borrow.Author.Tests.{leb-true, leb-false}
use lib.Dec.{leb}
use Rattle.foundation.specs.First.{Outcome, pass, fail}
use Rattle.foundation.specs.Walk.{walk}
use Rattle.foundation.proofs.Walk.{pass_count, count_most}
use Rattle.criteria.specs.Design.{Design, Admitted, states}
use Rattle.criteria.specs.Failure.{Failure}
use Rattle.criteria.specs.Verdict.{Verdict, accepted, failed}
use Rattle.decision.specs.Tests.{holds1}
use Rattle.decision.specs.Examine.{examine}
use Rattle.decision.specs.Verdict.{acceptance_of, verdict_of}
use Rattle.decision.proofs.Progress.{Progress, begins, goes_on, ends_at_start, ends_well, ends_badly, fails_at_lem, fails_later}
use Rattle.stages.specs.Count.{stop_of}
use Rattle.stages.proofs.Examined.{examined}
use Rattle.stages.proofs.Stages.{stop_failed}

module _ (d : Design) (a : Admitted d) (m : ℕ) where
  abbrev j : ℕ
  j = min m (states d)

  not_started : holds1 d ≡ false → examined d m ≡ min m (stop_of d (verdict_of d))
  unfolding examined
  not_started h = let z : 0 ≡ min m 0 = omega arith in rw (h, ends_at_start d h) z

  -- the states so far pass
  all_passed : (v : Verdict) → verdict_of d ≡ v → Progress d j → j ≡ min m (stop_of d v)
  all_passed (accepted how) e p = refl
  all_passed (failed x) e p = by_size (leb (states d) m) refl
    where
      by_size : (b : Bool) → leb (states d) m ≡ b → j ≡ min m (stop_of d (failed x))
      by_size true l =
          let g = leb-true (states d) m l in
          let whole : j ≡ states d = omega arith in
          let well : accepted (acceptance_of d) ≡ failed x = sym (ends_well d (rw whole at p)) ∙ e in
          let z : ◌≡◌ {A = ℕ} 0 1 = cc in
          absurd (omega arith)
      by_size false l =
          let g = leb-false (states d) m l in
          let t = fails_later d a j x p (omega arith) e in
          let later = t.0 in
          let s = stop_failed d x t.1 in
          omega arith

  walked : holds1 d ≡ true → (o : Outcome Failure) → (walk (examine d) j 0).outcome ≡ o → (walk (examine d) j 0).count ≡ min m (stop_of d (verdict_of d))
  walked h pass e =
      let zero_plus : 0 + j ≡ j = omega arith in
      let p = goes_on d 0 j (begins d h) e in
      pass_count (examine d) j 0 e ∙ all_passed (verdict_of d) refl (rw zero_plus at p)
  walked h (fail x) e =
      let t = fails_at_lem d a 0 j x (omega arith) e in
      let at = t.0 in
      let most = count_most (examine d) j 0 in
      let s = stop_failed d x t.1 in
      rw (ends_badly d 0 j x (begins d h) (omega arith) e) (omega arith)

  pub counted : examined d m ≡ min m (stop_of d (verdict_of d))
  unfolding examined
  counted = by_start (holds1 d) refl
    where
      by_start : (b : Bool) → holds1 d ≡ b → examined d m ≡ min m (stop_of d (verdict_of d))
      by_start true h = rw h (walked h (walk (examine d) j 0).outcome refl)
      by_start false h = not_started h
