-- The search at a state is settled: it finds the lowest place that fails, or there is none. So it says exactly which place is the
-- lowest, and passes exactly if no place fails, in whatever order that is asked.
use mathlib.Core.Path.{◌≡◌, refl, sym, ◌∙◌, subst}
use mathlib.Core.Logic.{◌↔◌, inl, inr}
use mathlib.Core.Bool.{Bool, true, false, not, true≢false}
use Prim.Native.Nat.{ℕ, ◌<◌, zero-le}
use native.Mathlib.Omega.{arith}
use lib.ListN.{get_or}
use Rattle.foundation.specs.First.{Outcome, pass, fail, fail_if, first_in, passes, all_in_range}
use Rattle.foundation.specs.Lowest.{Lower, Lowest, Settled, none, lowest}
use Rattle.foundation.specs.Trial.{Place, place, place_turn, Trial, FailsIn, first_place, in_criterion, first_of}
use Rattle.foundation.proofs.First.{fail_if_pass, fail_if_fail, passes_fail_if, first_pass, first_fail, passes_all, all_alike, FirstAt}
use Rattle.foundation.proofs.Lowest.{Turns, passes_exactly, fails_exactly}

-- ---- rows and sum values

module _ {A : Type 0} (rows : ℕ) (sums : ℕ → ℕ) (test : ℕ → ℕ → Bool) (name : ℕ → ℕ → A) where
  -- no row and sum value fails
  abbrev pub NonePlace : Type 0
  NonePlace = (k e : ℕ) → k < rows → e < sums k → test k e ≡ false

  sums_pass : (k : ℕ) → first_in (λ e. fail_if (test k e) (name k e)) (sums k) 0 ≡ pass → (e : ℕ) → e < sums k → test k e ≡ false
  sums_pass k h e u = fail_if_pass (test k e) (name k e) (first_pass (λ e. fail_if (test k e) (name k e)) (sums k) 0 h e zero-le (omega arith))

  pub place_pass : first_place rows sums test name ≡ pass → NonePlace
  place_pass h k e u v = sums_pass k (first_pass (λ k. first_in (λ e. fail_if (test k e) (name k e)) (sums k) 0) rows 0 h k zero-le (omega arith)) e v

  -- the first row and sum value that fail
  pub record PlaceAt (x : A) : Type 0 where
    pub row : ℕ
    pub sum : ℕ
    pub row_below : row < rows
    pub sum_below : sum < sums row
    pub fails : test row sum ≡ true
    pub is_place : name row sum ≡ x
    pub rows_before : (k e : ℕ) → k < row → e < sums k → test k e ≡ false
    pub sums_before : (e : ℕ) → e < sum → test row e ≡ false

  pub place_fail : (x : A) → first_place rows sums test name ≡ fail x → PlaceAt x
  place_fail x h =
      let r = first_fail (λ k. first_in (λ e. fail_if (test k e) (name k e)) (sums k) 0) rows 0 x h in
      let k : ℕ = r.at in
      let s = first_fail (λ e. fail_if (test k e) (name k e)) (sums k) 0 x r.fails in
      let t = fail_if_fail (test k s.at) (name k s.at) x s.fails in
      record {
        row = k;
        sum = s.at;
        row_below = omega arith;
        sum_below = omega arith;
        fails = t.0;
        is_place = t.1;
        rows_before = λ j e u v. sums_pass j (r.before j zero-le u) e v;
        sums_before = λ e u. fail_if_pass (test k e) (name k e) (s.before e zero-le u);
      }

-- whether none fails is whether the test of each says no, in any order
pub place_passes : {A : Type 0} (rows : ℕ) (sums : ℕ → ℕ) (test : ℕ → ℕ → Bool) (name : ℕ → ℕ → A)
    → passes (first_place rows sums test name) ≡ all_in_range (λ k. all_in_range (λ e. not (test k e)) (sums k) 0) rows 0
place_passes rows sums test name =
    passes_all (λ k. first_in (λ e. fail_if (test k e) (name k e)) (sums k) 0) rows 0
    ∙ all_alike _ _ rows 0 (λ k. passes_all (λ e. fail_if (test k e) (name k e)) (sums k) 0 ∙ all_alike _ _ (sums k) 0 (λ e. passes_fail_if (test k e) (name k e)))

-- ---- criteria, rows and sum values

not_both : {b : Bool} → b ≡ true → b ≡ false → ⊥
not_both p q = true≢false (sym p ∙ q)

module _ (t : Trial) where
  none_in : (c : ℕ) → in_criterion t c ≡ pass → (k e : ℕ) → k < t.rows c → e < t.sums c k → t.test c k e ≡ false
  none_in c h k e u v = place_pass (t.rows c) (t.sums c) (t.test c) (place c) h k e u v

  -- it passes: no place fails
  no_failure : first_of t ≡ pass → (x : Place) → FailsIn t x → ⊥
  no_failure h x f =
      not_both f.test (none_in x.criterion (first_pass (λ c. in_criterion t c) t.criteria 0 h x.criterion zero-le (omega arith)) x.row x.sum f.row f.sum)

  -- it fails: at the lowest place
  lowest_failure : (x : Place) → first_of t ≡ fail x → Lowest place_turn (FailsIn t) x
  lowest_failure x h =
      let r = first_fail (λ c. in_criterion t c) t.criteria 0 x h in
      let p = place_fail (t.rows r.at) (t.sums r.at) (t.test r.at) (place r.at) x r.fails in
      subst (Lowest place_turn (FailsIn t)) p.is_place (record { fails = fails_here r p; none_before = before r p })
    where
      fails_here : (r : FirstAt (λ c. in_criterion t c) t.criteria 0 x) (p : PlaceAt (t.rows r.at) (t.sums r.at) (t.test r.at) (place r.at) x)
          → FailsIn t (place r.at p.row p.sum)
      fails_here r p = record { criterion = omega arith; row = p.row_below; sum = p.sum_below; test = p.fails }

      before : (r : FirstAt (λ c. in_criterion t c) t.criteria 0 x) (p : PlaceAt (t.rows r.at) (t.sums r.at) (t.test r.at) (place r.at) x)
          (y : Place) → Lower (place_turn y) (place_turn (place r.at p.row p.sum)) → FailsIn t y → ⊥
      before r p y (inl l) f = not_both f.test (none_in y.criterion (r.before y.criterion zero-le l) y.row y.sum f.row f.sum)
      before r p y (inr (c, inl l)) f = not_both f.test (rw c (p.rows_before y.row y.sum l (rw (← c) f.sum)))
      before r p y (inr (c, inr (k, inl l))) f = not_both f.test (rw (c, k) (p.sums_before y.sum l))
      before r p y (inr (c, inr (k, inr (e, l)))) f = l

  pub trial_settled : Settled place_turn (FailsIn t) (first_of t)
  trial_settled = go (first_of t) refl
    where
      go : (o : Outcome Place) → first_of t ≡ o → Settled place_turn (FailsIn t) o
      go pass h = none (no_failure h)
      go (fail x) h = lowest (lowest_failure x h)

-- ---- so the search says exactly what fails

-- a place's turn says which place it is
pub place_turns : Turns place_turn
place_turns = record { same_length = λ x y. refl; tells = tells }
  where
    tells : (x y : Place) → place_turn x ≡ place_turn y → x ≡ y
    tells x y h = λ i. record { criterion = get_or (h i) 0 0; row = get_or (h i) 1 0; sum = get_or (h i) 2 0 }

module _ (t : Trial) where
  -- no failure exactly if every test holds
  pub trial_passes : (first_of t ≡ pass) ↔ ((x : Place) → FailsIn t x → ⊥)
  trial_passes = passes_exactly place_turn place_turns (FailsIn t) (trial_settled t)

  pub trial_fails : (x : Place) → (first_of t ≡ fail x) ↔ Lowest place_turn (FailsIn t) x
  trial_fails = fails_exactly place_turn place_turns (FailsIn t) (trial_settled t)
