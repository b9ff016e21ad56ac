-- The library's searches over a range: `all`, where each answer of the closure is that of a test, and `find_map`, where it is what a search
-- for a first failure asks.
use Rattle.std.proofs.Common.{◌≡◌, refl, sym, ◌∙◌, Bool, true, false, List, [], ◌∷◌, ℕ, zero, suc, ◌+◌, ◌-◌, ◌<◌, ◌≤◌, length, ◌&&◌}
use native.Mathlib.Numerals.{add-one}
use native.Mathlib.Omega.{arith}
use denote.Param.Members.{Mut}
use Rattle.std.specs.Prelude.{Option, Some, None, MatchOption, IfSome, IsSomeAnd, slice_get}
use Rattle.std.specs.Bool.{MatchBool}
use Rattle.std.specs.Fn.{Called}
use Rattle.std.specs.Iterator.{Yields, YieldsThen}
use Rattle.std.specs.Iterator.Runs.{SomeRun, YieldsRun, AllItemsGive, IsFirstToGive, CallKeepsClosure}
use Rattle.std.specs.List.{FoldsTo, range_with_len, AllWithin, HoldsAt}
use Rattle.std.specs.declared.ops.Range.{Range}
use Rattle.std.proofs.iter.Yields.{nat_range_steps}
use Rattle.std.proofs.lemmas.Iterator.{cases_from_all, YieldsList-from_range}
use Rattle.foundation.specs.First.{Outcome, pass, fail, first_in, all_in_range}
use Rattle.foundation.proofs.First.{all_pass, fail_first}

module _ (t : ℕ → Bool) where
  listed_yes : (n a : ℕ) → AllWithin (λ x. t x ≡ true) (range_with_len a n) 0 (length (range_with_len a n)) → all_in_range t n a ≡ true
  unfolding all_in_range
  listed_yes zero a h = refl
  listed_yes (suc n) a h = rw (h 0 a (omega arith) (omega arith), ← add-one a) (listed_yes n (a + 1) (λ k d l u. h (suc k) d (omega arith) (omega arith)))

  never : (b : Bool) → b && false ≡ false
  never true = refl
  never false = refl

  listed_no : (n a k : ℕ) → k < length (range_with_len a n) → HoldsAt (λ x. t x ≡ false) (range_with_len a n) k → all_in_range t n a ≡ false
  unfolding all_in_range
  listed_no zero a k l h = absurd (omega arith)
  listed_no (suc n) a zero l h = rw (h a)
  listed_no (suc n) a (suc k) l h = rw (← add-one a, listed_no n (a + 1) k (omega arith) h) (never (t a))

  listed : (n a : ℕ) (r : Bool) → MatchBool r (AllWithin (λ x. t x ≡ true) (range_with_len a n) 0 (length (range_with_len a n))) ((k : ℕ) × (k < length (range_with_len a n)) × HoldsAt (λ x. t x ≡ false) (range_with_len a n) k)
      → r ≡ all_in_range t n a
  listed n a true h = sym (listed_yes n a h)
  listed n a false h = sym (listed_no n a h.0 h.1 h.2)

  pub all_over : {F : Type 0} {g : Mut F (ℕ × Unit {0}) Bool} (from end : ℕ) (u : Range ℕ) (f : F) (r : Bool)
      → ((x : ℕ) (b : Bool) (q : F) → Called g f (x, tt) b q → (q ≡ f) × (b ≡ t x))
      → ((xs : List ℕ) × (o : Option ℕ) × (j : F) × YieldsThen nat_range_steps (record { start = from; end = end }) xs o u × FoldsTo (λ p x q. Called g p (x, tt) true q) f xs j × MatchOption o (r ≡ true) (λ x. (r ≡ false) × ((h : F) × Called g j (x, tt) false h)))
      → r ≡ all_in_range t (end - from) from
  all_over {g = g} from end u f r says ran =
      listed (end - from) from r
      (cases_from_all {g = g} u f r (λ x. t x ≡ true) (λ x. t x ≡ false) ran (YieldsList-from_range from end (end - from) refl refl)
      (λ x q k. ((says x true q k).0, sym (says x true q k).1))
      (λ x q k. sym (says x false q k).1))

  -- over the numbers below n
  pub all_below : {F : Type 0} {g : Mut F (ℕ × Unit {0}) Bool} (n : ℕ) (u : Range ℕ) (f : F) (r : Bool)
      → ((x : ℕ) (b : Bool) (q : F) → Called g f (x, tt) b q → (q ≡ f) × (b ≡ t x))
      → ((xs : List ℕ) × (o : Option ℕ) × (j : F) × YieldsThen nat_range_steps (record { start = 0; end = n }) xs o u × FoldsTo (λ p x q. Called g p (x, tt) true q) f xs j × MatchOption o (r ≡ true) (λ x. (r ≡ false) × ((h : F) × Called g j (x, tt) false h)))
      → r ≡ all_in_range t n 0
  all_below {g = g} n u f r says ran = let e : n - 0 ≡ n = omega arith in rw e at (all_over {g = g} 0 n u f r says ran)

-- ---- the first failure

-- a run over a range gives its numbers, one after the other
gives : (xs : List ℕ) (s t : Range ℕ) → Yields nat_range_steps s xs t → (k : ℕ) → k < length xs → (slice_get xs k ≡ Some (s.start + k)) × (s.start + k < s.end)
gives [] s t y k l = absurd (omega arith)
gives (x ∷ xs) s t (j, (same, (some, is, next)), y) zero l = let e : x ≡ s.start + 0 = omega arith in (rw e, omega arith)
gives (x ∷ xs) s t (j, (same, (some, is, next)), y) (suc k) l =
    let later = gives xs j t y k (omega arith) in
    let e : j.start + k ≡ s.start + suc k = omega arith in
    (rw (← e) later.0, let b = later.1 in omega arith)

-- to its end
gives_all : (xs : List ℕ) (s t u : Range ℕ) → Yields nat_range_steps s xs t → nat_range_steps t None u → s.end - s.start ≤ length xs
gives_all [] s t u e (same, (none, back)) = rw e (omega arith)
gives_all (x ∷ xs) s t u (j, (same, (some, is, next)), y) o = let later = gives_all xs j t u y o in omega arith

module _ {A B : Type 0} (f : ℕ → Outcome A) (tell : Option B → Outcome A) (none : tell None ≡ pass) (some : (y : B) → (x : A) × (tell (Some y) ≡ fail x)) where
  -- `find_map`, where each answer of the closure tells what f does
  pub first_over : {F : Type 0} {g : Mut F (ℕ × Unit {0}) (Option B)} (from end : ℕ) (h : F) (r : Option B)
      → ((x : ℕ) (b : Option B) (q : F) → Called g h (x, tt) b q → (q ≡ h) × (tell b ≡ f x))
      → SomeRun nat_range_steps (record { start = from; end = end }) (λ p. MatchOption r ((p.whole ≡ true) × AllItemsGive p g h None) (λ y. (i : ℕ) × (i < p.len) × (p.len ≡ i + 1) × IsFirstToGive p g h (Some y) None i))
      → tell r ≡ first_in f (end - from) from
  unfolding YieldsRun
  first_over {F = F} {g = g} from end h r says (p, at, ends) = go r ends
    where
      keeps : CallKeepsClosure g h
      keeps a b q c = (says a.0 b q c).0

      places : (k : ℕ) → k < p.len → (p.at k ≡ Some (from + k)) × (from + k < end)
      places k l =
          let there = rw at at (gives p.items p.from p.gave.0.0 p.gave.0.1 k (rw (← p.long) l)) in
          (p.gave.1 k ∙ there.0, there.1)

      all : p.whole ≡ true → end - from ≤ p.len
      all whole =
          let last = p.gave.0.2 whole in
          rw p.long (rw at at (gives_all p.items p.from p.gave.0.0 last.0 p.gave.0.1 last.1))

      passed : (k : ℕ) → p.at k ≡ Some (from + k) → IfSome (p.at k) (λ x. Called g h (x, tt) None h) → f (from + k) ≡ pass
      passed k e c = sym (says (from + k) None h (rw e at c)).1 ∙ none

      found : (k : ℕ) (b : Option B) → p.at k ≡ Some (from + k) → IsSomeAnd (p.at k) (λ x. Called g h (x, tt) b h) → f (from + k) ≡ tell b
      found k b e c = sym (says (from + k) b h (rw e at c)).1

      moved : (j : ℕ) → from ≤ j → from + (j - from) ≡ j
      moved j l = omega arith

      go : (r : Option B) → MatchOption r ((p.whole ≡ true) × AllItemsGive p g h None) (λ y. (i : ℕ) × (i < p.len) × (p.len ≡ i + 1) × IsFirstToGive p g h (Some y) None i) → tell r ≡ first_in f (end - from) from
      go None (whole, each) =
          let long = all whole in
          none ∙ sym (all_pass f (end - from) from (λ j l u. rw (moved j l) at (passed (j - from) (places (j - from) (omega arith)).0 (each keeps (j - from)))))
      go (Some y) (i, l, long, first) =
          let there = places i l in
          let inside = there.1 in
          (some y).1
          ∙ sym (fail_first f (end - from) from (some y).0
          (record {
            at = from + i;
            from = omega arith;
            below = omega arith;
            fails = found i (Some y) there.0 (first keeps).0 ∙ (some y).1;
            before = λ j m u. rw (moved j m) at (found (j - from) None (places (j - from) (omega arith)).0 ((first keeps).1 (j - from) (omega arith)) ∙ none);
          }))
