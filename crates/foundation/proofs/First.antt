-- What the first failure among n is: the lowest that fails; and if there is none, every one passes. Then: a test that is the same
-- for all numbers needs one look; and whether all pass can be asked in any order.
use mathlib.Core.Path.{◌≡◌, refl, sym, ◌∙◌, subst}
use mathlib.Core.Bool.{Bool, true, false, not, ◌&&◌}
use Prim.Native.Nat.{ℕ, zero, suc, ◌+◌, ◌≤◌, ◌<◌}
use native.Mathlib.Omega.{arith}
use native.Mathlib.Nat.{eq-or-lt_of_le}
use mathlib.Core.Logic.{◌⊎◌, inl, inr}
use Rattle.foundation.specs.First.{Outcome, pass, fail, fail_if, or_else, first_in, AllPass, passes, all_in_range}
use Rattle.foundation.specs.Reflects.{Reflects, so, not_so}
use Rattle.foundation.proofs.Reflects.{by_and, by_iff, and_swap}

-- pass is no failure
abbrev IsPass : {A : Type 0} → Outcome A → Type 0
IsPass pass = Unit {0}
IsPass (fail x) = ⊥

pub pass≢fail : {A : Type 0} {x : A} → pass ≡ fail x → ⊥
pass≢fail h = subst IsPass h tt

pub fail_inj : {A : Type 0} {x y : A} → fail x ≡ fail y → x ≡ y
fail_inj h = cc

pub fail_if_pass : {A : Type 0} (b : Bool) (x : A) → fail_if b x ≡ pass → b ≡ false
fail_if_pass true x h = absurd (pass≢fail (sym h))
fail_if_pass false x h = refl

pub fail_if_fail : {A : Type 0} (b : Bool) (x y : A) → fail_if b x ≡ fail y → (b ≡ true) × (x ≡ y)
fail_if_fail true x y h = (refl, fail_inj h)
fail_if_fail false x y h = absurd (pass≢fail h)

pub passes_fail_if : {A : Type 0} (b : Bool) (x : A) → passes (fail_if b x) ≡ not b
passes_fail_if true x = refl
passes_fail_if false x = refl

module _ {A : Type 0} (f : ℕ → Outcome A) where
  -- two equations for the search: at a pass it goes on, at a failure it stops
  pub first_goes : (n i : ℕ) → f i ≡ pass → first_in f (suc n) i ≡ first_in f n (suc i)
  unfolding first_in
  first_goes n i h = rw h

  pub first_stops : (n i : ℕ) (x : A) → f i ≡ fail x → first_in f (suc n) i ≡ fail x
  unfolding first_in
  first_stops n i x h = rw h

  -- no failure: all pass
  pub first_pass : (n i : ℕ) → first_in f n i ≡ pass → AllPass f n i
  first_pass zero i h j l u = absurd (omega arith)
  first_pass (suc n) i h j l u = go (f i) refl (λ k m. first_pass n (suc i) k j m) (eq-or-lt_of_le l)
    where
      go : (o : Outcome A) → f i ≡ o → (first_in f n (suc i) ≡ pass → i < j → j < suc i + n → f j ≡ pass) → (i ≡ j) ⊎ (i < j) → f j ≡ pass
      go (fail x) e ih d = absurd (pass≢fail (sym h ∙ first_stops n i x e))
      go pass e ih (inl p) = rw (← p) e
      go pass e ih (inr p) = ih (sym (first_goes n i e) ∙ h) p (omega arith)

  pub all_pass : (n i : ℕ) → AllPass f n i → first_in f n i ≡ pass
  unfolding first_in
  all_pass zero i h = refl
  all_pass (suc n) i h = rw (h i (omega arith) (omega arith)) (all_pass n (suc i) (λ j l u. h j (omega arith) (omega arith)))

  -- a failure: it is at a place before which all pass
  pub record FirstAt (n i : ℕ) (x : A) : Type 0 where
    pub at : ℕ
    pub from : i ≤ at
    pub below : at < i + n
    pub fails : f at ≡ fail x
    pub before : (j : ℕ) → i ≤ j → j < at → f j ≡ pass

  pub first_fail : (n i : ℕ) (x : A) → first_in f n i ≡ fail x → FirstAt n i x
  unfolding first_in
  first_fail zero i x h = absurd (pass≢fail h)
  first_fail (suc n) i x h = go (f i) refl (first_fail n (suc i) x)
    where
      go : (o : Outcome A) → f i ≡ o → (first_in f n (suc i) ≡ fail x → FirstAt n (suc i) x) → FirstAt (suc n) i x
      go (fail y) e ih =
          let p : y ≡ x = fail_inj (sym (first_stops n i y e) ∙ h) in
          record { at = i; from = omega arith; below = omega arith; fails = rw (← p) e; before = λ j l u. absurd (omega arith) }
      go pass e ih =
          let r = ih (sym (first_goes n i e) ∙ h) in
          record { at = r.at; from = omega arith; below = omega arith; fails = r.fails; before = λ j l u. earlier r j u (eq-or-lt_of_le l) }
        where
          earlier : (r : FirstAt n (suc i) x) (j : ℕ) → j < r.at → (i ≡ j) ⊎ (i < j) → f j ≡ pass
          earlier r j u (inl p) = rw (← p) e
          earlier r j u (inr p) = r.before j p u

  pub fail_first : (n i : ℕ) (x : A) → FirstAt n i x → first_in f n i ≡ fail x
  fail_first zero i x h = absurd (omega arith)
  fail_first (suc n) i x h = go (eq-or-lt_of_le h.from) (λ r. fail_first n (suc i) x r)
    where
      go : (i ≡ h.at) ⊎ (i < h.at) → (FirstAt n (suc i) x → first_in f n (suc i) ≡ fail x) → first_in f (suc n) i ≡ fail x
      go (inl p) ih = first_stops n i x (rw p h.fails)
      go (inr p) ih =
          first_goes n i (h.before i (omega arith) p)
          ∙ ih (record { at = h.at; from = p; below = omega arith; fails = h.fails; before = λ j l u. h.before j (omega arith) u })

  -- whether all pass is asked in any order: it is whether each does
  pub by_first : (n i : ℕ) → Reflects (AllPass f n i) (passes (first_in f n i))
  by_first n i = go (first_in f n i) refl
    where
      go : (o : Outcome A) → first_in f n i ≡ o → Reflects (AllPass f n i) (passes o)
      go pass h = so (first_pass n i h)
      go (fail x) h = not_so (λ p. pass≢fail (sym (all_pass n i p) ∙ h))

-- ---- examinations that come to the same

pub first_alike : {A : Type 0} (f g : ℕ → Outcome A) (n i : ℕ) → ((j : ℕ) → i ≤ j → j < i + n → f j ≡ g j) → first_in f n i ≡ first_in g n i
unfolding first_in
first_alike f g zero i h = refl
first_alike f g (suc n) i h = rw (h i (omega arith) (omega arith), first_alike f g n (suc i) (λ j l u. h j (omega arith) (omega arith)))

-- ---- the test whether all say yes

module _ (P : ℕ → Type 0) (t : ℕ → Bool) (says : (j : ℕ) → Reflects (P j) (t j)) where
  pub by_all : (n i : ℕ) → Reflects ((j : ℕ) → i ≤ j → j < i + n → P j) (all_in_range t n i)
  unfolding all_in_range
  by_all zero i = so (λ j l u. absurd (omega arith))
  by_all (suc n) i =
      by_iff (λ h j l u. here h j u (eq-or-lt_of_le l)) (λ h. (h i (omega arith) (omega arith), λ j l u. h j (omega arith) (omega arith))) (by_and (says i) (by_all n (suc i)))
    where
      here : P i × ((j : ℕ) → suc i ≤ j → j < suc i + n → P j) → (j : ℕ) → j < i + suc n → (i ≡ j) ⊎ (i < j) → P j
      here h j u (inl p) = subst P p h.0
      here h j u (inr l) = h.1 j l (omega arith)

-- whether none fails is whether each passes
pub passes_all : {A : Type 0} (f : ℕ → Outcome A) (n i : ℕ) → passes (first_in f n i) ≡ all_in_range (λ j. passes (f j)) n i
unfolding first_in all_in_range
passes_all f zero i = refl
passes_all f (suc n) i = go (f i) (passes_all f n (suc i))
  where
    go : (o : Outcome _) → passes (first_in f n (suc i)) ≡ all_in_range (λ j. passes (f j)) n (suc i)
        → passes (or_else o (first_in f n (suc i))) ≡ passes o && all_in_range (λ j. passes (f j)) n (suc i)
    go pass h = h
    go (fail x) h = refl

pub all_alike : (t u : ℕ → Bool) (n i : ℕ) → ((j : ℕ) → t j ≡ u j) → all_in_range t n i ≡ all_in_range u n i
unfolding all_in_range
all_alike t u zero i h = refl
all_alike t u (suc n) i h = rw (h i, all_alike t u n (suc i) h)

-- the same numbers, counted from one less
pub all_from : (t : ℕ → Bool) (n i : ℕ) → all_in_range t n (suc i) ≡ all_in_range (λ j. t (suc j)) n i
unfolding all_in_range
all_from t zero i = refl
all_from t (suc n) i = rw (all_from t n (suc i))

-- two tests at once
pub all_both : (t u : ℕ → Bool) (n i : ℕ) → all_in_range (λ j. t j && u j) n i ≡ all_in_range t n i && all_in_range u n i
unfolding all_in_range
all_both t u zero i = refl
all_both t u (suc n) i = rw (all_both t u n (suc i)) (and_swap (t i) (u i) (all_in_range t n (suc i)) (all_in_range u n (suc i)))
