-- There is always something to write. If from no state there is a run of as many steps as there are states, each state has a longest run;
-- else such a run comes to some state twice, which is on a loop. It is not how the search goes about it: it serves the theorem that every
-- call has an answer.
use mathlib.Core.Path.{◌≡◌, refl, sym, ◌∙◌, subst}
use mathlib.Core.Logic.{◌⊎◌, inl, inr}
use mathlib.Core.Bool.{cond}
use mathlib.Core.List.{List}
use Prim.Native.Nat.{ℕ, zero, suc, ◌<◌, ◌≤◌}
use native.Mathlib.Omega.{arith}
use native.Mathlib.Decide.{ℕ_discrete, dec_lt}
use borrow.Author.Tests.{eq-eqb, ne_eqb}
use lib.Dec.{eqb}
use lib.ListN.{get_or, length, length-set, set}
use lib.Seq.{get_or-set_same, get_or-set_other}
use Rattle.marked_edges.specs.Edges.{edges}
use Rattle.longest_runs.specs.Runs.{Run, stay, more, OnLoop, LongestIs, KeptPast, Written, longest, loop}
use Rattle.std.specs.Prelude.{Result, Ok, Err}
use Rattle.longest_runs.proofs.Counted.{Change, unseen, unseen_most, unseen_less}
use Rattle.longest_runs.proofs.Kept.{kept_none}
use Rattle.longest_runs.proofs.Runs.{RunOf, run_then}

-- ---- a number below k of which something is so, or none

record Found (P : ℕ → Type 0) (k : ℕ) : Type 0 where
  at : ℕ
  below : at < k
  is : P at

find : (P : ℕ → Type 0) (k : ℕ) → ((j : ℕ) → j < k → Dec (P j)) → Found P k ⊎ ((j : ℕ) → j < k → P j → ⊥)
find P zero dec = inr (λ j l. absurd (omega arith))
find P (suc k) dec = go (dec k (omega arith)) (find P k (λ j l. dec j (omega arith)))
  where
    other : (P k → ⊥) → ((j : ℕ) → j < k → P j → ⊥) → (j : ℕ) → j < suc k → P j → Dec (j ≡ k) → ⊥
    other here before j l p (yes e) = here (subst P e p)
    other here before j l p (no e) = before j (omega arith) p

    go : Dec (P k) → Found P k ⊎ ((j : ℕ) → j < k → P j → ⊥) → Found P (suc k) ⊎ ((j : ℕ) → j < suc k → P j → ⊥)
    go d (inl f) = inl (record { at = f.at; below = let b = f.below in omega arith; is = f.is })
    go (yes p) (inr o) = inl (record { at = k; below = omega arith; is = p })
    go (no p) (inr o) = inr (λ j l q. other p o j l q (ℕ_discrete j k))

-- ---- a number written in each of the first n places

record Placed (Good : ℕ → ℕ → Type 0) (n : ℕ) (before : List ℕ) : Type 0 where
  after : List ℕ
  kept : KeptPast n before after
  good : (s : ℕ) → s < n → Good s (get_or after s 0)

place : (Good : ℕ → ℕ → Type 0) (n : ℕ) (before : List ℕ) → n ≤ length before → ((s : ℕ) → s < n → (l : ℕ) × Good s l) → Placed Good n before
place Good zero before fits each = record { after = before; kept = kept_none 0 before; good = λ s l. absurd (omega arith) }
place Good (suc n) before fits each = go (place Good n before (omega arith) (λ s l. each s (omega arith))) (each n (omega arith))
  where
    go : Placed Good n before → (l : ℕ) × Good n l → Placed Good (suc n) before
    go p (l, g) = record {
      after = set p.after n l;
      kept = record {
        same_length = length-set p.after n l ∙ p.kept.same_length;
        past = λ s h. get_or-set_other p.after n s l 0 (λ e. omega arith) ∙ p.kept.past s (omega arith);
      };
      good = λ s h. at s h (ℕ_discrete s n);
    }
      where
        at : (s : ℕ) → s < suc n → Dec (s ≡ n) → Good s (get_or (set p.after n l) s 0)
        at s h (yes e) =
            let room : n < length p.after = let q = p.kept.same_length in omega arith in
            subst (λ t. Good t (get_or (set p.after n l) t 0)) (sym e) (subst (Good n) (sym (get_or-set_same p.after n l 0 room)) g)
        at s h (no e) = subst (Good s) (sym (get_or-set_other p.after n s l 0 e)) (p.good s (omega arith))

module _ (next : ℕ → ℕ → ℕ) (n : ℕ) where
  abbrev RunFrom : ℕ → ℕ → Type 0
  RunFrom = RunOf next n

  -- ---- runs of a length

  abbrev Begins : ℕ → ℕ → ℕ → Type 0
  Begins s l j = (next s j < n) × RunFrom (next s j) l

  has_run : (l s : ℕ) → s < n → Dec (RunFrom s l)
  has_run zero s h = yes (record { end = s; run = stay })
  has_run (suc l) s h = go (find (Begins s l) edges (λ j _. begins j (dec_lt (next s j) n) (λ i. has_run l (next s j) i)))
    where
      begins : (j : ℕ) → Dec (next s j < n) → (next s j < n → Dec (RunFrom (next s j) l)) → Dec (Begins s l j)
      begins j (no o) there = no (λ b. o b.0)
      begins j (yes i) there = rest (there i)
        where
          rest : Dec (RunFrom (next s j) l) → Dec (Begins s l j)
          rest (yes r) = yes (i, r)
          rest (no o) = no (λ b. o b.1)

      go : Found (Begins s l) edges ⊎ ((j : ℕ) → j < edges → Begins s l j → ⊥) → Dec (RunFrom s (suc l))
      go (inl f) =
          yes (record {
            end = f.is.1.end;
            run = more (record { edge = f.at; one = f.below; here = h; there = f.is.0; leads = refl }) f.is.1.run;
          })
      go (inr o) = no (λ r. none r.run)
        where
          none : {t : ℕ} → Run next n s t (suc l) → ⊥
          none (more x r) =
              o x.edge x.one
              (subst (λ u. u < n) (sym x.leads) x.there, subst (λ u. RunFrom u l) (sym x.leads) (record { end = _; run = r }))

  -- a longer run begins with it
  begins_with : {s t m : ℕ} → Run next n s t m → (l : ℕ) → l ≤ m → RunFrom s l
  begins_with {s = s} r zero h = record { end = s; run = stay }
  begins_with stay (suc l) h = absurd (omega arith)
  begins_with (more x r) (suc l) h = let q = begins_with r l (omega arith) in record { end = q.end; run = more x q.run }

  -- ---- no run of n steps: the longest

  module _ (s : ℕ) (h : s < n) where
    longest_below : (k : ℕ) → k ≤ n → ((l : ℕ) → k ≤ l → RunFrom s l → ⊥) → (l : ℕ) × LongestIs next n s l
    longest_below zero few none = absurd (none 0 (omega arith) (record { end = s; run = stay }))
    longest_below (suc k) few none = go (has_run k s h) (λ o. longest_below k (omega arith) o)
      where
        most : (t m : ℕ) → Run next n s t m → Dec (k < m) → m ≤ k
        most t m r (yes l) = absurd (none m (omega arith) (record { end = t; run = r }))
        most t m r (no l) = omega arith

        longer : (RunFrom s k → ⊥) → (l : ℕ) → k ≤ l → RunFrom s l → Dec (l ≡ k) → ⊥
        longer o l b r (yes e) = o (subst (RunFrom s) e r)
        longer o l b r (no e) = none l (omega arith) r

        go : Dec (RunFrom s k) → (((l : ℕ) → k ≤ l → RunFrom s l → ⊥) → (l : ℕ) × LongestIs next n s l) → (l : ℕ) × LongestIs next n s l
        go (yes r) shorter = (k, record { end = r.end; run = r.run; none_longer = λ t m x. most t m x (dec_lt k m); few = omega arith })
        go (no o) shorter = shorter (λ l b r. longer o l b r (ℕ_discrete l k))

  -- ---- a run of n steps: a loop

  record OnWay (u s : ℕ) : Type 0 where
    less : ℕ
    run : Run next n u s (suc less)

  -- the states with a mark lead to s
  abbrev Behind : (ℕ → ℕ) → ℕ → Type 0
  Behind m s = (u : ℕ) → 0 < m u → OnWay u s

  abbrev marked : (ℕ → ℕ) → ℕ → ℕ → ℕ
  marked m s x = cond (eqb x s) 1 (m x)

  change : (m : ℕ → ℕ) (s : ℕ) → Change m (marked m s) s 1
  change m s = record { here = rw (eq-eqb s s refl); else = λ x e. rw (ne_eqb x s e) }

  abbrev Loop : Type 0
  Loop = (u : ℕ) × ((u < n) × OnLoop next n u)

  back_at : (m : ℕ → ℕ) (s : ℕ) → s < n → Behind m s → 0 < m s → Loop
  back_at m s h behind seen = let w = behind s seen in (s, (h, record { less = w.less; back = w.run }))

  comes_back : {s t k : ℕ} → Run next n s t k → s < n → (m : ℕ → ℕ) → unseen m n ≤ k → Behind m s → Loop
  comes_back {s = s} stay h m few behind = go (m s) refl
    where
      go : (a : ℕ) → m s ≡ a → Loop
      go zero e = let u = unseen_less m (marked m s) s 1 (change m s) (omega arith) e n h in absurd (omega arith)
      go (suc a) e = back_at m s h behind (omega arith)
  comes_back {s = s} (more {t = t} {l = k} x r) h m few behind = go (m s) refl (λ few behind. comes_back r x.there (marked m s) few behind)
    where
      then : (u : ℕ) → 0 < marked m s u → Dec (u ≡ s) → OnWay u t
      then u seen (yes e) = subst (λ w. OnWay w t) (sym e) (record { less = 0; run = more x stay })
      then u seen (no e) =
          let w = behind u (subst (λ a. 0 < a) ((change m s).else u e) seen) in
          record { less = suc w.less; run = run_then next n w.run x }

      go : (a : ℕ) → m s ≡ a → (unseen (marked m s) n ≤ k → Behind (marked m s) t → Loop) → Loop
      go (suc a) e on = back_at m s h behind (omega arith)
      go zero e on =
          let u = unseen_less m (marked m s) s 1 (change m s) (omega arith) e n h in
          on (omega arith) (λ w seen. then w seen (ℕ_discrete w s))

  -- ---- what is written

  pub record WrittenFrom (before : List ℕ) : Type 0 where
    pub after : List ℕ
    pub answer : Result (Unit {0}) ℕ
    pub is : Written next n before after answer

  pub written_there : (before : List ℕ) → n ≤ length before → WrittenFrom before
  written_there before fits = go (find (λ s. RunFrom s n) n (λ s h. has_run n s h))
    where
      go : Found (λ s. RunFrom s n) n ⊎ ((s : ℕ) → s < n → RunFrom s n → ⊥) → WrittenFrom before
      go (inl f) =
          let o = comes_back f.is.run f.below (λ _. 0) (unseen_most (λ _. 0) n) (λ u seen. absurd (omega arith)) in
          let p = place (λ s l. l ≡ 0) n before fits (λ s h. (0, refl)) in
          record { after = p.after; answer = Err o.0; is = loop o.0 p.kept p.good o.1.0 o.1.1 }
      go (inr o) =
          let p = place (LongestIs next n) n before fits (λ s h. longest_below s h n (omega arith) (λ l b r. o s h (begins_with r.run n b))) in
          record { after = p.after; answer = Ok tt; is = longest p.kept p.good }
