-- Laws of a walk: its outcome is the first failure, its count is right, a walk may be cut anywhere, and a failure stops it.
use mathlib.Core.Path.{◌≡◌, refl, sym, ◌∙◌, ap, subst}
use mathlib.Core.List.{List, [], ◌∷◌}
use Prim.Native.Nat.{ℕ, zero, suc, ◌+◌, ◌-◌, ◌≤◌, ◌<◌}
use native.Mathlib.Omega.{arith}
use native.Mathlib.Nat.{zero-add, suc-add, add-zero, add_assoc, eq-or-lt_of_le}
use native.Mathlib.Numerals.{one-add}
use mathlib.Core.Logic.{◌⊎◌, inl, inr}
use Rattle.foundation.specs.First.{Outcome, pass, fail, or_else, first_in, AllPass}
use Rattle.foundation.specs.Walk.{Walked, walk, after, plus, then, then_by, pieces, total, WalkIs, passed, stopped, WalkLaw}
use Rattle.foundation.proofs.First.{FirstAt, first_pass, first_fail}

module _ {A : Type 0} (f : ℕ → Outcome A) where
  -- the outcome is that of the search for the first failure (proofs/First)
  pub walk_first : (n i : ℕ) → (walk f n i).outcome ≡ first_in f n i
  unfolding walk first_in
  walk_first zero i = refl
  walk_first (suc n) i = go (f i) (walk_first n (suc i))
    where
      go : (o : Outcome A) → (walk f n (suc i)).outcome ≡ first_in f n (suc i) → (after o (walk f n (suc i))).outcome ≡ or_else o (first_in f n (suc i))
      go pass ih = ih
      go (fail x) ih = refl

  -- two equations: at a pass it goes on, at a failure it stops
  pub walk_goes : (n i : ℕ) → f i ≡ pass → walk f (suc n) i ≡ plus 1 (walk f n (suc i))
  unfolding walk
  walk_goes n i h = rw h

  pub walk_stops : (n i : ℕ) (x : A) → f i ≡ fail x → walk f (suc n) i ≡ record { outcome = fail x; count = 1 }
  unfolding walk
  walk_stops n i x h = rw h

  -- it passes exactly if all pass, and then it counts all
  pub all_walk : (n i : ℕ) → AllPass f n i → walk f n i ≡ record { outcome = pass; count = n }
  unfolding walk
  all_walk zero i h = refl
  all_walk (suc n) i h =
      rw (h i (omega arith) (omega arith), all_walk n (suc i) (λ j l u. h j (omega arith) (omega arith)))
      (λ k. record { outcome = pass; count = one-add n k })

  pub walk_all : (n i : ℕ) → (walk f n i).outcome ≡ pass → AllPass f n i
  walk_all n i h = first_pass f n i (sym (walk_first n i) ∙ h)

  pub pass_count : (n i : ℕ) → (walk f n i).outcome ≡ pass → (walk f n i).count ≡ n
  pass_count n i h = rw (all_walk n i (walk_all n i h))

  -- it fails at the lowest failing number, and counts up to it
  pub walk_fails : (n i : ℕ) (x : A) → (walk f n i).outcome ≡ fail x → FirstAt f n i x
  walk_fails n i x h = first_fail f n i x (sym (walk_first n i) ∙ h)

  pub fail_walk : (n i : ℕ) (x : A) (h : FirstAt f n i x) → walk f n i ≡ record { outcome = fail x; count = suc h.at - i }
  fail_walk zero i x h = absurd (omega arith)
  fail_walk (suc n) i x h = go (eq-or-lt_of_le h.from) (λ r. fail_walk n (suc i) x r)
    where
      go : (i ≡ h.at) ⊎ (i < h.at) → ((r : FirstAt f n (suc i) x) → walk f n (suc i) ≡ record { outcome = fail x; count = suc r.at - suc i })
          → walk f (suc n) i ≡ record { outcome = fail x; count = suc h.at - i }
      go (inl p) ih = let e : 1 ≡ suc h.at - i = omega arith in walk_stops n i x (rw p h.fails) ∙ (λ k. record { outcome = fail x; count = e k })
      go (inr p) ih =
          let r : FirstAt f n (suc i) x = record { at = h.at; from = p; below = omega arith; fails = h.fails; before = λ j l u. h.before j (omega arith) u } in
          let e : 1 + (suc h.at - suc i) ≡ suc h.at - i = omega arith in
          walk_goes n i (h.before i (omega arith) p) ∙ ap (plus 1) (ih r) ∙ (λ k. record { outcome = fail x; count = e k })

  pub fail_count : (n i : ℕ) (x : A) (h : (walk f n i).outcome ≡ fail x) → i + (walk f n i).count ≡ suc (walk_fails n i x h).at
  fail_count n i x h =
      let r = walk_fails n i x h in
      let from = r.from in
      let c : (walk f n i).count ≡ suc r.at - i = ap (λ w. w.count) (fail_walk n i x r) in
      omega arith

  -- never more than n
  pub count_most : (n i : ℕ) → (walk f n i).count ≤ n
  count_most n i = go (walk f n i).outcome refl
    where
      go : (o : Outcome A) → (walk f n i).outcome ≡ o → (walk f n i).count ≤ n
      go pass h = let c = pass_count n i h in omega arith
      go (fail x) h = let c = fail_count n i x h in let b = (walk_fails n i x h).below in omega arith

  -- one examination comes before both of two walks, or before the first
  plus_then : (w v : Walked A) → then (plus 1 w) v ≡ plus 1 (then w v)
  plus_then w v = go w.outcome
    where
      go : (o : Outcome A) → then_by o (plus 1 w) v ≡ plus 1 (then_by o w v)
      go pass = λ k. record { outcome = v.outcome; count = add_assoc 1 w.count v.count k }
      go (fail x) = refl

  -- a walk of n + m is a walk of n, and if that passes one of m from where it ended
  pub walk_add : (n m i : ℕ) → walk f (n + m) i ≡ then (walk f n i) (walk f m (i + n))
  unfolding walk
  walk_add zero m i = rw (zero-add m, add-zero i) (λ k. record { outcome = (walk f m i).outcome; count = sym (zero-add (walk f m i).count) k })
  walk_add (suc n) m i = go (f i) refl (walk_add n m (suc i))
    where
      go : (o : Outcome A) → f i ≡ o → walk f (n + m) (suc i) ≡ then (walk f n (suc i)) (walk f m (suc i + n))
          → walk f (suc n + m) i ≡ then (walk f (suc n) i) (walk f m (i + suc n))
      go pass h ih =
          let e : suc i + n ≡ i + suc n = omega arith in
          rw (suc-add n m, walk_goes (n + m) i h, walk_goes n i h, ih, e) (sym (plus_then (walk f n (suc i)) (walk f m (i + suc n))))
      go (fail x) h ih = rw (suc-add n m, walk_stops (n + m) i x h, walk_stops n i x h)

  -- the two cases of it
  pub walk_on_lem : (n m i : ℕ) → (walk f n i).outcome ≡ pass → walk f (n + m) i ≡ plus n (walk f m (i + n))
  walk_on_lem n m i h = walk_add n m i ∙ ap (λ w. then w (walk f m (i + n))) (all_walk n i (walk_all n i h))

  pub walk_over : (n m i : ℕ) (x : A) → (walk f n i).outcome ≡ fail x → walk f (n + m) i ≡ walk f n i
  walk_over n m i x h = walk_add n m i ∙ ap (λ o. then_by o (walk f n i) (walk f m (i + n))) h

  -- however a walk is divided, it is one walk
  pub pieces_walk : (ns : List ℕ) (i : ℕ) → pieces f ns i ≡ walk f (total ns) i
  unfolding pieces walk
  pieces_walk [] i = refl
  pieces_walk (n ∷ ns) i = rw (pieces_walk ns (i + n)) (sym (walk_add n (total ns) i))

  -- ---- a walk that has come to n with no failure

  pub from_there : (n k : ℕ) → AllPass f n 0 → walk f (n + k) 0 ≡ plus n (walk f k n)
  from_there n k h = walk_on_lem n k 0 (ap (λ v. v.outcome) (all_walk n 0 h)) ∙ ap (λ i. plus n (walk f k i)) (zero-add n)

  pub pass_more : (n k : ℕ) → AllPass f n 0 → (walk f k n).outcome ≡ pass → AllPass f (n + k) 0
  pass_more n k h w = walk_all (n + k) 0 (ap (λ v. v.outcome) (from_there n k h) ∙ w)

  -- a failure after it is that of the whole walk, however long
  pub fail_more : (n k m : ℕ) (x : A) → AllPass f n 0 → (walk f k n).outcome ≡ fail x → n + k ≤ m → (walk f m 0).outcome ≡ fail x
  fail_more n k m x h w l =
      let c : (walk f (n + k) 0).outcome ≡ fail x = ap (λ v. v.outcome) (from_there n k h) ∙ w in
      let e : n + k + (m - (n + k)) ≡ m = omega arith in
      rw (← e) (ap (λ v. v.outcome) (walk_over (n + k) (m - (n + k)) 0 x c) ∙ c)

  -- ---- the law

  is : (n i : ℕ) → WalkIs f n i (walk f n i)
  is n i = go (walk f n i).outcome refl
    where
      go : (o : Outcome A) → (walk f n i).outcome ≡ o → WalkIs f n i (walk f n i)
      go pass h = subst (WalkIs f n i) (sym (all_walk n i (walk_all n i h))) (passed (walk_all n i h))
      go (fail x) h =
          let r = walk_fails n i x h in
          let k : ℕ = r.at - i in
          let there : r.at ≡ i + k = omega arith in
          let count : suc k ≡ suc r.at - i = omega arith in
          subst (WalkIs f n i) ((λ j. record { outcome = fail x; count = count j }) ∙ sym (fail_walk n i x r))
          (stopped k (omega arith) (λ j l u. r.before j l (omega arith)) (rw (← there) r.fails))

  only : (n i : ℕ) (w : Walked A) → WalkIs f n i w → walk f n i ≡ w
  only n i w (passed h) = all_walk n i h
  only n i w (stopped k {x = x} l h e) =
      let count : suc (i + k) - i ≡ suc k = omega arith in
      fail_walk n i x (record { at = i + k; from = omega arith; below = omega arith; fails = e; before = h }) ∙ (λ j. record { outcome = fail x; count = count j })

  pub walk_law : WalkLaw f
  walk_law = record { is = is; only = only; add = walk_add; divided = pieces_walk }
