-- A step from each of two states by one row: where the next states differ from the states that they come from, and from each other; and what
-- of invariant and mapping is the same after both.
use mathlib.Core.Path.{◌≡◌, refl, sym, subst, ap, ◌∙◌}
use mathlib.Core.Logic.{◌⊎◌, inl, inr}
use mathlib.Core.Bool.{Bool, true, false, cond, false≢true}
use mathlib.Core.List.{List, [], ◌∷◌, map}
use Prim.Native.Nat.{ℕ, zero, suc, ◌+◌, ◌≤◌, ◌<◌}
use native.Mathlib.Omega.{arith}
use native.Mathlib.Decide.{dec_lt}
use borrow.Author.Tests.{eqb-true, eq-eqb, lt-ltb}
use lib.Bits.{bit_and, bit_or, and_zero_l}
use lib.Dec.{eqb, ltb}
use lib.ListN.{length, get_or, length-map, get_or-eq_default}
use Rattle.foundation.specs.Radix.{below_b, same_b}
use Rattle.terms.specs.Tree.{Value, Formula, num, par, sum_value, choice, no_value, const, compare, negation, join, no_formula, eval_v, eval_f}
use Rattle.terms.specs.Tree as tree
use Rattle.terms.specs.declared.Join.TheVariants.{And, Or}
use Rattle.terms.proofs.And.{and_left, and_right, and_both}
use Rattle.terms.proofs.Sets.{Apart, apart_either, apart_both, apart_without, apart_of}
use Rattle.reads.specs.Reads.{only, reads_v, reads_f, differ, is_par}
use Rattle.reads.proofs.Alike.{alike_v, alike_f, only_apart, apart_each, apart_differ}
use Rattle.criteria.specs.Design.{values}
use Rattle.watched.specs.Watched.{without, meeting, changes_from, changed_by_from, after_f, through_from, through, stays, follows_at, follows_from}

-- ---- sets

nothing_apart : (z : ℕ) → Apart 0 z
nothing_apart z = and_zero_l z

-- ---- sizes

-- values of which each is below its size, or one of those that are
below_mixed : (zs v w : List ℕ) → length w ≡ length v → ((i : ℕ) → i < length w → (get_or w i 0 < get_or zs i 0) ⊎ (get_or w i 0 ≡ get_or v i 0)) → below_b zs v ≡ true → below_b zs w ≡ true
below_mixed [] [] [] e h k = refl
below_mixed [] [] (c ∷ w) e h k = absurd (omega arith)
below_mixed [] (b ∷ v) w e h k = absurd (false≢true k)
below_mixed (z ∷ zs) [] w e h k = absurd (false≢true k)
below_mixed (z ∷ zs) (b ∷ v) [] e h k = absurd (omega arith)
below_mixed (z ∷ zs) (b ∷ v) (c ∷ w) e h k =
    and_both (go (h 0 (omega arith))) (below_mixed zs v w (omega arith) (λ i l. h (suc i) (omega arith)) (and_right (ltb b z) (below_b zs v) k))
  where
    go : (c < z) ⊎ (c ≡ b) → ltb c z ≡ true
    go (inl l) = lt-ltb c z l
    go (inr q) = rw q (and_left (ltb b z) (below_b zs v) k)

-- ---- one next value

is_par_lem : (j : ℕ) (t : Value) → is_par j t ≡ true → t ≡ par j
unfolding is_par
is_par_lem j (num n) h = cc
is_par_lem j (par i) h = ap par (eqb-true i j h)
is_par_lem j sum_value h = cc
is_par_lem j (tree.arith o a b) h = cc
is_par_lem j (choice f a b) h = cc
is_par_lem j no_value h = cc

-- parameters before the j-th are not changed by the next values from the j-th on
before_apart : (ts : List Value) (i j : ℕ) → i < j → Apart (changes_from j ts) (only i)
unfolding changes_from
before_apart [] i j l = nothing_apart (only i)
before_apart (t ∷ ts) i j l = apart_both (only i) (cond (is_par j t) 0 (only j)) (changes_from (suc j) ts) (go (is_par j t)) (before_apart ts i (suc j) (omega arith))
  where
    go : (b : Bool) → Apart (cond b 0 (only j)) (only i)
    go true = nothing_apart (only i)
    go false = only_apart j i (λ e. omega arith)

module _ (s s' : List ℕ) (few : length s ≤ 8) (few' : length s' ≤ 8) (e : ℕ) where
  abbrev D : ℕ
  D = differ s s'

  -- what becomes of parameter j + i: it stays as it is in both steps, and is not said to change; or it may change, and comes to the same
  data Moves (ts : List Value) (j i : ℕ) : Type 0 where
    stands : get_or (values ts s e) i 0 ≡ get_or s (j + i) 0 → get_or (values ts s' e) i 0 ≡ get_or s' (j + i) 0 → Apart (changes_from j ts) (only (j + i)) → Moves ts j i
    goes : get_or (values ts s e) i 0 ≡ get_or (values ts s' e) i 0 → ((m : ℕ) → Apart m (changes_from j ts) → Apart m (only (j + i))) → Moves ts j i

  moves : (ts : List Value) (j i : ℕ) → i < length ts → Apart (changed_by_from j ts) D → Moves ts j i
  unfolding changes_from changed_by_from eval_v
  moves [] j i l h = absurd (omega arith)
  moves (t ∷ ts) j zero l h = go (is_par j t) refl (apart_either D (cond (is_par j t) 0 (reads_v t)) (changed_by_from (suc j) ts) h).0
    where
      z : j + 0 ≡ j
      z = omega arith

      later : ℕ
      later = changes_from (suc j) ts

      go : (b : Bool) → is_par j t ≡ b → Apart (cond b 0 (reads_v t)) D → Moves (t ∷ ts) j zero
      go true p k =
          let q = is_par_lem j t p in
          stands (rw (q, z)) (rw (q, z)) (rw (p, z) (apart_both (only j) 0 later (nothing_apart (only j)) (before_apart ts j (suc j) (omega arith))))
      go false p k = goes (alike_v s s' few few' t e k) (λ m a. rw z (apart_of m (only j) later (rw p at a)).0)
  moves (t ∷ ts) j (suc i) l h = go (moves ts (suc j) i (omega arith) (apart_either D (cond (is_par j t) 0 (reads_v t)) (changed_by_from (suc j) ts) h).1)
    where
      z : suc j + i ≡ j + suc i
      z = omega arith

      first : ℕ
      first = cond (is_par j t) 0 (only j)

      later : ℕ
      later = changes_from (suc j) ts

      head : (b : Bool) → Apart (cond b 0 (only j)) (only (j + suc i))
      head true = nothing_apart (only (j + suc i))
      head false = only_apart j (j + suc i) (λ p. omega arith)

      go : Moves ts (suc j) i → Moves (t ∷ ts) j (suc i)
      go (stands p q a) =
          stands (p ∙ ap (λ n. get_or s n 0) z) (q ∙ ap (λ n. get_or s' n 0) z)
          (apart_both (only (j + suc i)) first later (head (is_par j t)) (subst (λ n. Apart later (only n)) z a))
      go (goes p a) = goes p (λ m k. subst (λ n. Apart m (only n)) z (a m (apart_of m first later k).1))

  -- ---- a step

  module _ (ts : List Value) (few-ts : length ts ≤ 8) (ends : (i : ℕ) → length ts ≤ i → get_or s i 0 ≡ 0) (by : Apart (changed_by_from 0 ts) D) where
    abbrev x : List ℕ
    x = values ts s e

    abbrev x' : List ℕ
    x' = values ts s' e

    abbrev c : ℕ
    c = changes_from 0 ts

    x_length : length x ≡ length ts
    x_length = length-map ts _

    x'_length : length x' ≡ length ts
    x'_length = length-map ts _

    pub x_few : length x ≤ 8
    x_few = rw x_length few-ts

    pub x'_few : length x' ≤ 8
    x'_few = rw x'_length few-ts

    -- past the last parameter nothing is to be seen
    past : (i : ℕ) → length ts ≤ i → (get_or x i 0 ≡ get_or s i 0) × (get_or x i 0 ≡ get_or x' i 0)
    past i l =
        let a = x_length in
        let b = x'_length in
        let zx : get_or x i 0 ≡ 0 = get_or-eq_default x 0 {n = i} (omega arith) in
        let zx' : get_or x' i 0 ≡ 0 = get_or-eq_default x' 0 {n = i} (omega arith) in
        (zx ∙ sym (ends i l), zx ∙ sym zx')

    -- what becomes of parameter i
    data Moved (i : ℕ) : Type 0 where
      own : get_or x i 0 ≡ get_or s i 0 → get_or x' i 0 ≡ get_or s' i 0 → Apart c (only i) → Moved i
      new : get_or x i 0 ≡ get_or x' i 0 → ((m : ℕ) → Apart m c → Apart m (only i)) → Moved i

    moved : (i : ℕ) → i < length ts → Moved i
    moved i l = go (moves ts 0 i l by)
      where
        z : 0 + i ≡ i
        z = omega arith

        go : Moves ts 0 i → Moved i
        go (stands p q a) = own (p ∙ ap (λ n. get_or s n 0) z) (q ∙ ap (λ n. get_or s' n 0) z) (subst (λ n. Apart c (only n)) z a)
        go (goes p a) = new p (λ m k. subst (λ n. Apart m (only n)) z (a m k))

    -- what meets no changed parameter is not touched by the step
    untouched : (m : ℕ) → Apart m c → Apart m (differ x s)
    untouched m a = apart_differ x s m (λ i l. go i (dec_lt i (length ts)))
      where
        go : (i : ℕ) → Dec (i < length ts) → (get_or x i 0 ≡ get_or s i 0) ⊎ Apart m (only i)
        go i (no l) = inl (past i (omega arith)).0
        go i (yes l) = by_moves (moved i l)
          where
            by_moves : Moved i → (get_or x i 0 ≡ get_or s i 0) ⊎ Apart m (only i)
            by_moves (own p q o) = inl p
            by_moves (new p o) = inr (o m a)

    -- where the states don't differ, changed parameters apart, the next states don't
    after_both : (m : ℕ) → Apart (without m c) D → Apart m (differ x x')
    after_both m a = apart_differ x x' m (λ i l. go i l (dec_lt i (length ts)))
      where
        go : (i : ℕ) → i < 8 → Dec (i < length ts) → (get_or x i 0 ≡ get_or x' i 0) ⊎ Apart m (only i)
        go i few-i (no l) = inl (past i (omega arith)).1
        go i few-i (yes l) = by_moves (moved i l)
          where
            same : get_or x i 0 ≡ get_or s i 0 → get_or x' i 0 ≡ get_or s' i 0 → Apart c (only i) → (get_or s i 0 ≡ get_or s' i 0) ⊎ Apart (without m c) (only i)
                → (get_or x i 0 ≡ get_or x' i 0) ⊎ Apart m (only i)
            same p q o (inl z) = inl (p ∙ z ∙ sym q)
            same p q o (inr z) = inr (apart_without (only i) m c z o)

            by_moves : Moved i → (get_or x i 0 ≡ get_or x' i 0) ⊎ Apart m (only i)
            by_moves (own p q o) = same p q o (apart_each s s' (without m c) a i few-i)
            by_moves (new p o) = inl p

    -- and where they don't differ at all
    pub after_all : (m : ℕ) → Apart m D → Apart m (differ x x')
    after_all m a = apart_differ x x' m (λ i l. go i l (dec_lt i (length ts)))
      where
        go : (i : ℕ) → i < 8 → Dec (i < length ts) → (get_or x i 0 ≡ get_or x' i 0) ⊎ Apart m (only i)
        go i few-i (no l) = inl (past i (omega arith)).1
        go i few-i (yes l) = by_moves (moved i l)
          where
            same : get_or x i 0 ≡ get_or s i 0 → get_or x' i 0 ≡ get_or s' i 0 → (get_or s i 0 ≡ get_or s' i 0) ⊎ Apart m (only i)
                → (get_or x i 0 ≡ get_or x' i 0) ⊎ Apart m (only i)
            same p q (inl z) = inl (p ∙ z ∙ sym q)
            same p q (inr z) = inr z

            by_moves : Moved i → (get_or x i 0 ≡ get_or x' i 0) ⊎ Apart m (only i)
            by_moves (own p q o) = same p q (apart_each s s' m a i few-i)
            by_moves (new p o) = inl p

    -- ---- the sizes

    pub sizes_kept : (zs : List ℕ) → ((i : ℕ) → i < length ts → get_or s i 0 < get_or zs i 0) → below_b zs x' ≡ true → below_b zs x ≡ true
    sizes_kept zs inside h' = below_mixed zs x' x (x_length ∙ sym x'_length) (λ i l. go i (let a = x_length in omega arith)) h'
      where
        go : (i : ℕ) → i < length ts → (get_or x i 0 < get_or zs i 0) ⊎ (get_or x i 0 ≡ get_or x' i 0)
        go i l = by_moves (moved i l)
          where
            by_moves : Moved i → (get_or x i 0 < get_or zs i 0) ⊎ (get_or x i 0 ≡ get_or x' i 0)
            by_moves (own p q o) = inl (rw p (inside i l))
            by_moves (new p o) = inr p

    -- ---- the invariant

    -- of a formula that is no conjunction
    whole_kept : (t : Formula) → eval_f t s 0 ≡ true → eval_f t x' 0 ≡ true → Apart (without (meeting c (reads_f t)) c) D → eval_f t x 0 ≡ true
    unfolding meeting
    whole_kept t h h' a = go (eqb (bit_and (reads_f t) c) 0) refl a
      where
        go : (b : Bool) → eqb (bit_and (reads_f t) c) 0 ≡ b → Apart (without (cond b 0 (reads_f t)) c) D → eval_f t x 0 ≡ true
        go true p k = alike_f x s x_few few t 0 (untouched (reads_f t) (eqb-true _ 0 p)) ∙ h
        go false p k = alike_f x x' x_few x'_few t 0 (after_both (reads_f t) k) ∙ h'

    pub invariant_kept : (t : Formula) → eval_f t s 0 ≡ true → eval_f t x' 0 ≡ true → Apart (after_f c t) D → eval_f t x 0 ≡ true
    unfolding after_f eval_f reads_f
    invariant_kept (const b) h h' a = h
    invariant_kept (compare o v w) h h' a = whole_kept (compare o v w) h h' a
    invariant_kept (negation f) h h' a = whole_kept (negation f) h h' a
    invariant_kept (join And f g) h h' a =
        let k = apart_either D (after_f c f) (after_f c g) a in
        and_both (invariant_kept f (and_left (eval_f f s 0) (eval_f g s 0) h) (and_left (eval_f f x' 0) (eval_f g x' 0) h') k.0)
        (invariant_kept g (and_right (eval_f f s 0) (eval_f g s 0) h) (and_right (eval_f f x' 0) (eval_f g x' 0) h') k.1)
    invariant_kept (join Or f g) h h' a = whole_kept (join Or f g) h h' a
    invariant_kept no_formula h h' a = h

    -- ---- the mapping

    -- a mapped value that a step keeps
    stays_kept : (t : Value) → eval_v t s' 0 ≡ eval_v t x' 0 → Apart (meeting c (reads_v t)) D → eval_v t s 0 ≡ eval_v t x 0
    unfolding meeting
    stays_kept t h a = go (eqb (bit_and (reads_v t) c) 0) refl a
      where
        go : (b : Bool) → eqb (bit_and (reads_v t) c) 0 ≡ b → Apart (cond b 0 (reads_v t)) D → eval_v t s 0 ≡ eval_v t x 0
        go true p k = sym (alike_v x s x_few few t 0 (untouched (reads_v t) (eqb-true (bit_and (reads_v t) c) 0 p)))
        go false p k = alike_v s s' few few' t 0 k ∙ h ∙ sym (alike_v x x' x_few x'_few t 0 (after_all (reads_v t) k))

    pub mapping_kept : (ms : List Value) → same_b (values ms s' 0) (values ms x' 0) ≡ true → Apart (stays c (map (λ (t : Value). reads_v t) ms)) D
        → same_b (values ms s 0) (values ms x 0) ≡ true
    unfolding stays
    mapping_kept [] h a = refl
    mapping_kept (m ∷ ms) h a =
        let k = apart_either D (meeting c (reads_v m)) (stays c (map (λ (t : Value). reads_v t) ms)) a in
        let same = same_b (values ms s' 0) (values ms x' 0) in
        let e = stays_kept m (eqb-true _ _ (and_left (eqb (eval_v m s' 0) (eval_v m x' 0)) same h)) k.0 in
        and_both (eq-eqb _ _ e) (mapping_kept ms (and_right (eqb (eval_v m s' 0) (eval_v m x' 0)) same h) k.1)

-- ---- what is read through the mapping

module _ (s s' : List ℕ) (few : length s ≤ 8) (few' : length s' ≤ 8) where
  through_at : (ms : List Value) (m j i : ℕ) → i < length ms → Apart (through_from j (map (λ (t : Value). reads_v t) ms) m) (differ s s')
      → (get_or (values ms s 0) i 0 ≡ get_or (values ms s' 0) i 0) ⊎ Apart m (only (j + i))
  unfolding through_from
  through_at [] m j i l a = absurd (omega arith)
  through_at (t ∷ ms) m j zero l a = go (eqb (bit_and m (only j)) 0) refl (apart_either (differ s s') (cond (eqb (bit_and m (only j)) 0) 0 (reads_v t)) (through_from (suc j) (map (λ (t : Value). reads_v t) ms) m) a).0
    where
      z : j ≡ j + 0
      z = omega arith

      go : (b : Bool) → eqb (bit_and m (only j)) 0 ≡ b → Apart (cond b 0 (reads_v t)) (differ s s') → (eval_v t s 0 ≡ eval_v t s' 0) ⊎ Apart m (only (j + 0))
      go true p k = inr (subst (λ n. Apart m (only n)) z (eqb-true (bit_and m (only j)) 0 p))
      go false p k = inl (alike_v s s' few few' t 0 k)
  through_at (t ∷ ms) m j (suc i) l a = go (through_at ms m (suc j) i (omega arith) (apart_either (differ s s') (cond (eqb (bit_and m (only j)) 0) 0 (reads_v t)) (through_from (suc j) (map (λ (t : Value). reads_v t) ms) m) a).1)
    where
      z : suc j + i ≡ j + suc i
      z = omega arith

      go : (get_or (values ms s 0) i 0 ≡ get_or (values ms s' 0) i 0) ⊎ Apart m (only (suc j + i)) → (get_or (values ms s 0) i 0 ≡ get_or (values ms s' 0) i 0) ⊎ Apart m (only (j + suc i))
      go (inl e) = inl e
      go (inr k) = inr (subst (λ n. Apart m (only n)) z k)

  -- where the states don't differ in it, the mapped states don't in what was read of them
  pub through_apart : (ms : List Value) (m : ℕ) → Apart (through (map (λ (t : Value). reads_v t) ms) m) (differ s s') → Apart m (differ (values ms s 0) (values ms s' 0))
  through_apart ms m a = apart_differ (values ms s 0) (values ms s' 0) m (λ i l. go i (dec_lt i (length ms)))
    where
      go : (i : ℕ) → Dec (i < length ms) → (get_or (values ms s 0) i 0 ≡ get_or (values ms s' 0) i 0) ⊎ Apart m (only i)
      go i (yes l) = there (through_at ms m 0 i l a)
        where
          z : 0 + i ≡ i
          z = omega arith

          there : (get_or (values ms s 0) i 0 ≡ get_or (values ms s' 0) i 0) ⊎ Apart m (only (0 + i)) → (get_or (values ms s 0) i 0 ≡ get_or (values ms s' 0) i 0) ⊎ Apart m (only i)
          there (inl e) = inl e
          there (inr k) = inr (subst (λ n. Apart m (only n)) z k)
      go i (no l) =
          let a : length (values ms s 0) ≡ length ms = length-map ms _ in
          let b : length (values ms s' 0) ≡ length ms = length-map ms _ in
          inl (get_or-eq_default (values ms s 0) 0 {n = i} (omega arith) ∙ sym (get_or-eq_default (values ms s' 0) 0 {n = i} (omega arith)))

-- ---- the mapped state after the step, and the specification's next state

module _ (s s' : List ℕ) (few : length s ≤ 8) (few' : length s' ≤ 8) (e : ℕ) (ts : List Value) (few-ts : length ts ≤ 8)
    (ends : (i : ℕ) → length ts ≤ i → get_or s i 0 ≡ 0) (by : Apart (changed_by_from 0 ts) (differ s s')) (all : List Value) (few-all : length all ≤ 8) where
  abbrev reads : List Value → List ℕ
  reads ms = map (λ (t : Value). reads_v t) ms

  abbrev t : List ℕ
  t = values all s 0

  abbrev t' : List ℕ
  t' = values all s' 0

  abbrev y : List ℕ
  y = values ts s e

  abbrev y' : List ℕ
  y' = values ts s' e

  t_few : length t ≤ 8
  t_few = let n : length t ≡ length all = length-map all _ in omega arith

  t'_few : length t' ≤ 8
  t'_few = let n : length t' ≡ length all = length-map all _ in omega arith

  -- mapped value i is m
  follows_at_lem : (m q : Value) (i : ℕ) → get_or t i 0 ≡ eval_v m s 0 → get_or t' i 0 ≡ eval_v m s' 0 → eval_v m y' 0 ≡ eval_v q t' e
      → Apart (follows_at (reads all) (changes_from 0 ts) i (reads_v m) q) (differ s s') → eval_v m y 0 ≡ eval_v q t e
  unfolding follows_at eval_v
  follows_at_lem m q i hd hd' h a = go (is_par i q) refl a
    where
      c : ℕ
      c = changes_from 0 ts

      go : (b : Bool) → is_par i q ≡ b → Apart (cond b (meeting c (reads_v m)) (bit_or (without (reads_v m) c) (through (reads all) (reads_v q)))) (differ s s') → eval_v m y 0 ≡ eval_v q t e
      go true p k =
          let own : q ≡ par i = is_par_lem i q p in
          let old : eval_v m s' 0 ≡ eval_v m y' 0 = sym (h ∙ ap (λ (z : Value). eval_v z t' e) own ∙ hd') in
          sym (ap (λ (z : Value). eval_v z t e) own ∙ hd ∙ stays_kept s s' few few' e ts few-ts ends by m old k)
      go false p k =
          let l = apart_either (differ s s') (without (reads_v m) c) (through (reads all) (reads_v q)) k in
          alike_v y y' (x_few s s' few few' e ts few-ts ends by) (x'_few s s' few few' e ts few-ts ends by) m 0 (after_both s s' few few' e ts few-ts ends by (reads_v m) l.0)
          ∙ h ∙ sym (alike_v t t' t_few t'_few q e (through_apart s s' few few' all (reads_v q) l.1))

  follows_from_lem : (ms qs : List Value) (i : ℕ) → ((j : ℕ) → get_or t (i + j) 0 ≡ get_or (values ms s 0) j 0) → ((j : ℕ) → get_or t' (i + j) 0 ≡ get_or (values ms s' 0) j 0)
      → same_b (values ms y' 0) (values qs t' e) ≡ true → Apart (follows_from (reads all) (changes_from 0 ts) i (reads ms) qs) (differ s s')
      → same_b (values ms y 0) (values qs t e) ≡ true
  unfolding follows_from
  follows_from_lem [] [] i hd hd' h a = refl
  follows_from_lem [] (q ∷ qs) i hd hd' h a = absurd (false≢true h)
  follows_from_lem (m ∷ ms) [] i hd hd' h a = absurd (false≢true h)
  follows_from_lem (m ∷ ms) (q ∷ qs) i hd hd' h a =
      let c : ℕ = changes_from 0 ts in
      let k = apart_either (differ s s') (follows_at (reads all) c i (reads_v m) q) (follows_from (reads all) c (suc i) (reads ms) qs) a in
      let first : Bool = eqb (eval_v m y' 0) (eval_v q t' e) in
      let rest : Bool = same_b (values ms y' 0) (values qs t' e) in
      let z : i + 0 ≡ i = omega arith in
      let one = follows_at_lem m q i (ap (λ n. get_or t n 0) (sym z) ∙ hd 0) (ap (λ n. get_or t' n 0) (sym z) ∙ hd' 0) (eqb-true (eval_v m y' 0) (eval_v q t' e) (and_left first rest h)) k.0 in
      and_both (eq-eqb (eval_v m y 0) (eval_v q t e) one)
      (follows_from_lem ms qs (suc i) (λ j. ap (λ n. get_or t n 0) (later j) ∙ hd (suc j)) (λ j. ap (λ n. get_or t' n 0) (later j) ∙ hd' (suc j)) (and_right first rest h) k.1)
    where
      later : (j : ℕ) → suc i + j ≡ i + suc j
      later j = omega arith

  pub follows_kept : (qs : List Value) → same_b (values all y' 0) (values qs t' e) ≡ true → Apart (follows_from (reads all) (changes_from 0 ts) 0 (reads all) qs) (differ s s')
      → same_b (values all y 0) (values qs t e) ≡ true
  follows_kept qs h a = follows_from_lem all qs 0 (λ j. ap (λ n. get_or t n 0) (zero_plus j)) (λ j. ap (λ n. get_or t' n 0) (zero_plus j)) h a
    where
      zero_plus : (j : ℕ) → 0 + j ≡ j
      zero_plus j = omega arith
