-- The law of reading: a term has one value at two states that do not differ in what it reads, or none at either. And where two states differ:
-- parameter by parameter, from one to a third.
use mathlib.Core.Path.{◌≡◌, refl, sym, ◌∙◌}
use mathlib.Core.Logic.{◌⊎◌, inl, inr}
use mathlib.Core.Bool.{Bool, true, false, cond}
use mathlib.Core.List.{List}
use Prim.Native.Nat.{ℕ, zero, suc, ◌^◌, ◌≤◌, ◌<◌}
use native.Mathlib.Omega.{arith as arithmetic}
use native.Mathlib.Decide.{dec_lt}
use borrow.Author.Tests.{eqb-true, eqb-false, eq-eqb, ne_eqb, lt-ltb}
use lib.Bits.{bit_or, and_zero_r, and_zero_l, or_zero_l}
use lib.Dec.{eqb, ltb}
use lib.ListN.{length, get_or, get_or-eq_default}
use Rattle.terms.specs.Tree.{Value, Formula, num, par, sum_value, arith, choice, const, compare, negation, join, no_value, no_formula, eval_v, eval_f, has_v, has_f}
use Rattle.terms.proofs.Sets.{Apart, apart_either, apart_of, apart_all, one_so, two_apart}
use Rattle.reads.specs.Reads.{only, reads_v, reads_f, differ_to, differ}

-- ---- sets

-- two parameters that are not the same
pub only_apart : (i j : ℕ) → (i ≡ j → ⊥) → Apart (only i) (only j)
unfolding only
only_apart i j n = go (ltb i 8) (ltb j 8)
  where
    go : (a b : Bool) → Apart (cond a (2 ^ i) 0) (cond b (2 ^ j) 0)
    go true true = two_apart i j n
    go true false = and_zero_r (2 ^ i)
    go false b = and_zero_l (cond b (2 ^ j) 0)

-- ---- where two states differ

only_is : (i : ℕ) → i < 8 → only i ≡ 2 ^ i
unfolding only
only_is i l = rw (lt-ltb i 8 l)

-- a set that is apart from where they differ: in each parameter they are the same, or it is not in the set
module _ (v w : List ℕ) (m : ℕ) where
  abbrev Each : ℕ → Type 0
  Each i = (get_or v i 0 ≡ get_or w i 0) ⊎ Apart m (only i)

  each_of : (i : ℕ) → Apart m (cond (eqb (get_or v i 0) (get_or w i 0)) 0 (only i)) → Each i
  each_of i h = go (eqb (get_or v i 0) (get_or w i 0)) refl h
    where
      go : (b : Bool) → eqb (get_or v i 0) (get_or w i 0) ≡ b → Apart m (cond b 0 (only i)) → Each i
      go true e k = inl (eqb-true _ _ e)
      go false e k = inr k

  of_each : (i : ℕ) → Each i → Apart m (cond (eqb (get_or v i 0) (get_or w i 0)) 0 (only i))
  of_each i (inl e) = rw (eq-eqb _ _ e) (and_zero_r m)
  of_each i (inr h) = go (eqb (get_or v i 0) (get_or w i 0))
    where
      go : (b : Bool) → Apart m (cond b 0 (only i))
      go true = and_zero_r m
      go false = h

  each_to : (n i : ℕ) → i < n → Apart m (differ_to n v w) → Each i
  unfolding differ_to
  each_to zero i l h = let no : ⊥ = omega arithmetic in absurd no
  each_to (suc n) i l h = let k = apart_of m (differ_to n v w) _ h in go (dec_lt i n) (λ x. each_to n i x k.0) (each_of n k.1)
    where
      go : Dec (i < n) → (i < n → Each i) → Each n → Each i
      go (yes x) before last = before x
      go (no x) before last = let e : i ≡ n = omega arithmetic in rw e last

  to_each : (n : ℕ) → ((i : ℕ) → i < n → Each i) → Apart m (differ_to n v w)
  unfolding differ_to
  to_each zero each = and_zero_r m
  to_each (suc n) each = apart_all m (differ_to n v w) _ (to_each n (λ i l. each i (omega arithmetic))) (of_each n (each n (omega arithmetic)))

  pub apart_each : Apart m (differ v w) → (i : ℕ) → i < 8 → (get_or v i 0 ≡ get_or w i 0) ⊎ Apart m (only i)
  unfolding differ
  apart_each h i l = each_to 8 i l h

  pub apart_differ : ((i : ℕ) → i < 8 → (get_or v i 0 ≡ get_or w i 0) ⊎ Apart m (only i)) → Apart m (differ v w)
  unfolding differ
  apart_differ each = to_each 8 each

pub same_read : (v w : List ℕ) (i : ℕ) → i < 8 → Apart (only i) (differ v w) → get_or v i 0 ≡ get_or w i 0
same_read v w i l h = go (apart_each v w (only i) h i l)
  where
    go : (get_or v i 0 ≡ get_or w i 0) ⊎ Apart (only i) (only i) → get_or v i 0 ≡ get_or w i 0
    go (inl e) = e
    go (inr k) = let no : ⊥ = one_so i (rw (← only_is i l) k) in absurd no

pub differ_triangle : (u v w : List ℕ) (m : ℕ) → Apart m (differ u v) → Apart m (differ v w) → Apart m (differ u w)
differ_triangle u v w m h k = apart_differ u w m (λ i l. go i (apart_each u v m h i l) (apart_each v w m k i l))
  where
    go : (i : ℕ) → (get_or u i 0 ≡ get_or v i 0) ⊎ Apart m (only i) → (get_or v i 0 ≡ get_or w i 0) ⊎ Apart m (only i) → (get_or u i 0 ≡ get_or w i 0) ⊎ Apart m (only i)
    go i (inr a) y = inr a
    go i (inl e) (inr a) = inr a
    go i (inl e) (inl d) = inl (e ∙ d)

eqb_sym : (x y : ℕ) → eqb x y ≡ eqb y x
eqb_sym x y = go (eqb x y) refl
  where
    go : (b : Bool) → eqb x y ≡ b → b ≡ eqb y x
    go true e = sym (eq-eqb y x (sym (eqb-true x y e)))
    go false e = sym (ne_eqb y x (λ q. eqb-false x y e (sym q)))

module _ (v w : List ℕ) where
  sym_to : (n : ℕ) → differ_to n v w ≡ differ_to n w v
  unfolding differ_to
  sym_to zero = refl
  sym_to (suc n) = rw (sym_to n, eqb_sym (get_or v n 0) (get_or w n 0))

  pub differ_sym : differ v w ≡ differ w v
  unfolding differ
  differ_sym = sym_to 8

module _ (v : List ℕ) where
  self_to : (n : ℕ) → differ_to n v v ≡ 0
  unfolding differ_to
  self_to zero = refl
  self_to (suc n) = rw (self_to n, eq-eqb (get_or v n 0) (get_or v n 0) refl) (or_zero_l 0)

  pub differ_self : differ v v ≡ 0
  unfolding differ
  differ_self = self_to 8

-- ---- terms

-- past the eighth no list has a value
module _ (v w : List ℕ) (few-v : length v ≤ 8) (few-w : length w ≤ 8) where
  same_par : (i : ℕ) → Apart (only i) (differ v w) → get_or v i 0 ≡ get_or w i 0
  same_par i h = go (dec_lt i 8)
    where
      go : Dec (i < 8) → get_or v i 0 ≡ get_or w i 0
      go (yes l) = same_read v w i l h
      go (no l) = get_or-eq_default v 0 {n = i} (omega arithmetic) ∙ sym (get_or-eq_default w 0 {n = i} (omega arithmetic))

  mutual
    unfolding eval_v reads_v

    pub alike_v : (t : Value) (e : ℕ) → Apart (reads_v t) (differ v w) → eval_v t v e ≡ eval_v t w e
    alike_v (num n) e h = refl
    alike_v (par i) e h = same_par i h
    alike_v sum_value e h = refl
    alike_v (arith o a b) e h = let k = apart_either (differ v w) (reads_v a) (reads_v b) h in rw (alike_v a e k.0, alike_v b e k.1)
    alike_v (choice f a b) e h =
        let k = apart_either (differ v w) (reads_f f) (bit_or (reads_v a) (reads_v b)) h in
        let l = apart_either (differ v w) (reads_v a) (reads_v b) k.1 in
        rw (alike_f f e k.0, alike_v a e l.0, alike_v b e l.1)
    alike_v no_value e h = refl

    pub alike_f : (t : Formula) (e : ℕ) → Apart (reads_f t) (differ v w) → eval_f t v e ≡ eval_f t w e
    alike_f (const b) e h = refl
    alike_f (compare o a b) e h = let k = apart_either (differ v w) (reads_v a) (reads_v b) h in rw (alike_v a e k.0, alike_v b e k.1)
    alike_f (negation f) e h = rw (alike_f f e h)
    alike_f (join o f g) e h = let k = apart_either (differ v w) (reads_f f) (reads_f g) h in rw (alike_f f e k.0, alike_f g e k.1)
    alike_f no_formula e h = refl

  mutual
    unfolding has_v reads_v

    pub has_alike_v : (t : Value) (e : ℕ) → Apart (reads_v t) (differ v w) → has_v t v e ≡ has_v t w e
    has_alike_v (num n) e h = refl
    has_alike_v (par i) e h = refl
    has_alike_v sum_value e h = refl
    has_alike_v (arith o a b) e h =
        let k = apart_either (differ v w) (reads_v a) (reads_v b) h in
        rw (has_alike_v a e k.0, has_alike_v b e k.1, alike_v b e k.1)
    has_alike_v (choice f a b) e h =
        let k = apart_either (differ v w) (reads_f f) (bit_or (reads_v a) (reads_v b)) h in
        let l = apart_either (differ v w) (reads_v a) (reads_v b) k.1 in
        rw (has_alike_f f e k.0, alike_f f e k.0, has_alike_v a e l.0, has_alike_v b e l.1)
    has_alike_v no_value e h = refl

    pub has_alike_f : (t : Formula) (e : ℕ) → Apart (reads_f t) (differ v w) → has_f t v e ≡ has_f t w e
    has_alike_f (const b) e h = refl
    has_alike_f (compare o a b) e h = let k = apart_either (differ v w) (reads_v a) (reads_v b) h in rw (has_alike_v a e k.0, has_alike_v b e k.1)
    has_alike_f (negation f) e h = has_alike_f f e h
    has_alike_f (join o f g) e h = let k = apart_either (differ v w) (reads_f f) (reads_f g) h in rw (has_alike_f f e k.0, has_alike_f g e k.1)
    has_alike_f no_formula e h = refl
