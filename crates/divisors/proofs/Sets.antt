-- What is so at parameter values, as a set told by binary digits (terms/proofs/Sets); and the term that a set names.
use mathlib.Core.Path.{◌≡◌, refl, sym, subst, ap, ◌∙◌}
use mathlib.Core.Bool.{Bool, true, false, not, ◌||◌, cond, false≢true}
use mathlib.Core.List.{List}
use Prim.Native.Nat.{ℕ, zero, suc, ◌+◌, ◌-◌, ◌*◌, ◌/◌, ◌%◌, ◌^◌, ◌≤◌, ◌<◌}
use native.Mathlib.Omega.{arith}
use native.Mathlib.Decide.{dec_lt}
use borrow.Author.Tests.{eqb-true, eq-eqb}
use lib.Bits.{bit_and, bit_or, and_le_l, and_le_r, and_zero_r, or_zero_l, or_zero_r, or_self, or_lt, and_shifted, and_block, and_shr, or_shr, and_mod}
use lib.Dec.{eqb}
use lib.Pow.{pow-lt}
use lib.ListN.{get_or}
use Rattle.terms.proofs.And.{and_left, and_right}
use Rattle.terms.proofs.Sets.{Apart, apart_either, apart_both, apart_without, apart_of, apart_all, apart_if, two_apart, one_so}
use Rattle.divisors.specs.Divisors.{large, other, small_at, so_to, so_at, quiet_at, safe_at, agree, both, either, common, spared}

-- ---- what is so

module _ (a : ℕ) (ps : List ℕ) where
  first_of : (n : ℕ) → Apart a (so_to n ps) → Apart a 512 × Apart a (cond (not (small_at ps)) 1 0)
  unfolding so_to
  first_of zero h = apart_of a 512 _ h
  first_of (suc n) h = first_of n (apart_of a (so_to n ps) _ h).0

  parameter_of_lem : (n i : ℕ) → i < n → Apart a (so_to n ps) → Apart a (cond (eqb (get_or ps i 0) 0) (2 ^ (i + 1)) 0)
  unfolding so_to
  parameter_of_lem zero i l h = omega arith
  parameter_of_lem (suc n) i l h =
      let k = apart_of a (so_to n ps) _ h in
      go (dec_lt i n) (λ m. parameter_of_lem n i m k.0) k.1
    where
      go : Dec (i < n) → (i < n → Apart a (cond (eqb (get_or ps i 0) 0) (2 ^ (i + 1)) 0)) → Apart a (cond (eqb (get_or ps n 0) 0) (2 ^ (n + 1)) 0)
          → Apart a (cond (eqb (get_or ps i 0) 0) (2 ^ (i + 1)) 0)
      go (yes m) before last = before m
      go (no m) before last = let e : i ≡ n = omega arith in rw e last

  all_of : (n : ℕ) → Apart a 512 → Apart a (cond (not (small_at ps)) 1 0) → ((i : ℕ) → i < n → Apart a (cond (eqb (get_or ps i 0) 0) (2 ^ (i + 1)) 0)) → Apart a (so_to n ps)
  unfolding so_to
  all_of zero h k m = apart_all a 512 _ h k
  all_of (suc n) h k m = apart_all a (so_to n ps) _ (all_of n h k (λ i l. m i (omega arith))) (m n (omega arith))

module _ (ps : List ℕ) where
  -- anything else
  pub other_so : Apart 512 (so_at ps) → ⊥
  other_so h = one_so 9 (first_of 512 ps 8 h).0

  -- a large parameter
  pub large_not : Apart 1 (so_at ps) → small_at ps ≡ true
  large_not h = go (small_at ps) (first_of 1 ps 8 h).1
    where
      go : (b : Bool) → Apart 1 (cond (not b) 1 0) → b ≡ true
      go true k = refl
      go false k = absurd (one_so 0 k)

  pub large_apart : small_at ps ≡ true → Apart 1 (so_at ps)
  large_apart h =
      all_of 1 ps 8 (two_apart 0 9 (λ z. omega arith)) (rw h (and_zero_r 1))
      (λ i l. apart_if 1 (eqb (get_or ps i 0) 0) (2 ^ (i + 1)) (λ _. two_apart 0 (i + 1) (λ z. omega arith)))

  -- a parameter's being 0
  module _ (i : ℕ) (l : i < 8) where
    pub parameter_not : Apart (2 ^ (i + 1)) (so_at ps) → get_or ps i 0 ≡ 0 → ⊥
    parameter_not h z = one_so (i + 1) (go (parameter_of_lem (2 ^ (i + 1)) ps 8 i l h))
      where
        go : Apart (2 ^ (i + 1)) (cond (eqb (get_or ps i 0) 0) (2 ^ (i + 1)) 0) → Apart (2 ^ (i + 1)) (2 ^ (i + 1))
        go k = subst (λ b. Apart (2 ^ (i + 1)) (cond b (2 ^ (i + 1)) 0)) (eq-eqb (get_or ps i 0) 0 z) k

    pub parameter_apart : (get_or ps i 0 ≡ 0 → ⊥) → Apart (2 ^ (i + 1)) (so_at ps)
    parameter_apart n =
        all_of (2 ^ (i + 1)) ps 8 (two_apart (i + 1) 9 (λ z. omega arith))
        (apart_if (2 ^ (i + 1)) (not (small_at ps)) 1 (λ _. two_apart (i + 1) 0 (λ z. omega arith)))
        (λ j k. apart_if (2 ^ (i + 1)) (eqb (get_or ps j 0) 0) (2 ^ (j + 1))
        (λ e. two_apart (i + 1) (j + 1) (λ z. n (let q : i ≡ j = omega arith in rw q (eqb-true (get_or ps j 0) 0 e)))))

-- ---- the digits that are so, and the term before them

if_below : (b : Bool) (x y : ℕ) → x < y → cond b x 0 < y
if_below true x y l = l
if_below false x y l = omega arith

so_below : (n : ℕ) (ps : List ℕ) → n ≤ 8 → so_to n ps < 1024
unfolding so_to
so_below zero ps l = or_lt 10 512 _ (omega arith) (if_below (not (small_at ps)) 1 1024 (omega arith))
so_below (suc n) ps l = or_lt 10 (so_to n ps) _ (so_below n ps (omega arith)) (let k : n + 1 < 10 = omega arith in if_below (eqb (get_or ps n 0) 0) (2 ^ (n + 1)) 1024 (pow-lt k))

pub so_small : (ps : List ℕ) → so_at ps < 1024
so_small ps = so_below 8 ps (omega arith)

-- the digits alone
low_apart : (g z : ℕ) → z < 1024 → Apart g z → Apart (g % 1024) z
low_apart g z l h =
    let b : bit_and (g / 1024 * 1024 + g % 1024) (0 * 1024 + z) ≡ bit_and (g / 1024) 0 * 1024 + bit_and (g % 1024) z = and_block 10 (g / 1024) 0 (g % 1024) z (omega arith) l in
    let e : g / 1024 * 1024 + g % 1024 ≡ g = omega arith in
    let o : 0 * 1024 + z ≡ z = omega arith in
    let k : bit_and g z ≡ bit_and (g / 1024) 0 * 1024 + bit_and (g % 1024) z = sym (ap (λ u. bit_and u (0 * 1024 + z)) e ∙ ap (λ u. bit_and g u) o) ∙ b in
    omega arith

-- a term alone
pub term_apart : (t : ℕ) (ps : List ℕ) → Apart (t * 1024) (so_at ps)
term_apart t ps = and_shifted t 10 (so_at ps) (so_small ps)

or_term : (a b : ℕ) → bit_or a b / 1024 ≡ bit_or (a / 1024) (b / 1024)
or_term a b = or_shr a b 10

-- digits have no term
or_digits : (a b : ℕ) → b < 1024 → bit_or a b / 1024 ≡ a / 1024
or_digits a b l = let e : b / 1024 ≡ 0 = omega arith in or_term a b ∙ rw e (or_zero_r (a / 1024))

-- ---- the terms of two sets

and_digits : (c h : ℕ) → h < 1024 → bit_and c h ≤ c % 1024
and_digits c h l =
    let e : bit_and c h / 1024 ≡ bit_and (c / 1024) (h / 1024) = and_shr c h 10 in
    let r : bit_and c h % 1024 ≡ bit_and (c % 1024) (h % 1024) = and_mod c h 10 in
    let z = and_le_r (c / 1024) (h / 1024) in
    let m = and_le_l (c % 1024) (h % 1024) in
    omega arith

quiet_none : (ps : List ℕ) → quiet_at 0 ps ≡ true
unfolding quiet_at
quiet_none ps = refl

module _ (x y : ℕ) (ps : List ℕ) where
  -- as one, where they agree
  quiet_each : eqb x 0 || (eqb y 0 || eqb x y) ≡ true → quiet_at (bit_or x y) ps ≡ true → (quiet_at x ps ≡ true) × (quiet_at y ps ≡ true)
  quiet_each e h = first (eqb x 0) refl e
    where
      third : (b : Bool) → eqb x y ≡ b → b ≡ true → (quiet_at x ps ≡ true) × (quiet_at y ps ≡ true)
      third true p q =
          let z = eqb-true x y p in
          let k : quiet_at y ps ≡ true = rw (← or_self y) (ap_left z) in
          (rw z k, k)
        where
          ap_left : x ≡ y → quiet_at (bit_or y y) ps ≡ true
          ap_left z = subst (λ u. quiet_at (bit_or u y) ps ≡ true) z h
      third false p q = absurd (false≢true q)

      second : (b : Bool) → eqb y 0 ≡ b → b || eqb x y ≡ true → (quiet_at x ps ≡ true) × (quiet_at y ps ≡ true)
      second true p q = let z = eqb-true y 0 p in (subst (λ u. quiet_at u ps ≡ true) (rw z (or_zero_r x)) h, rw z (quiet_none ps))
      second false p q = third (eqb x y) refl q

      first : (b : Bool) → eqb x 0 ≡ b → b || (eqb y 0 || eqb x y) ≡ true → (quiet_at x ps ≡ true) × (quiet_at y ps ≡ true)
      first true p q = let z = eqb-true x 0 p in (rw z (quiet_none ps), subst (λ u. quiet_at u ps ≡ true) (rw z (or_zero_l y)) h)
      first false p q = second (eqb y 0) refl q

  quiet_all : eqb x 0 || (eqb y 0 || eqb x y) ≡ true → quiet_at x ps ≡ true → quiet_at y ps ≡ true → quiet_at (bit_or x y) ps ≡ true
  quiet_all e h k = first (eqb x 0) refl e
    where
      third : (b : Bool) → eqb x y ≡ b → b ≡ true → quiet_at (bit_or x y) ps ≡ true
      third true p q = let z = eqb-true x y p in rw (z, or_self y) k
      third false p q = absurd (false≢true q)

      second : (b : Bool) → eqb y 0 ≡ b → b || eqb x y ≡ true → quiet_at (bit_or x y) ps ≡ true
      second true p q = let z = eqb-true y 0 p in rw (z, or_zero_r x) h
      second false p q = third (eqb x y) refl q

      first : (b : Bool) → eqb x 0 ≡ b → b || (eqb y 0 || eqb x y) ≡ true → quiet_at (bit_or x y) ps ≡ true
      first true p q = let z = eqb-true x 0 p in rw (z, or_zero_l y) k
      first false p q = second (eqb y 0) refl q

-- ---- what is safe

module _ (ps : List ℕ) where
  safe_parts : (c : ℕ) → safe_at c ps ≡ true → Apart c (so_at ps) × (quiet_at (c / 1024) ps ≡ true)
  unfolding safe_at
  safe_parts c h =
      (eqb-true _ 0 (and_left (eqb (bit_and c (so_at ps)) 0) (quiet_at (c / 1024) ps) h), and_right (eqb (bit_and c (so_at ps)) 0) (quiet_at (c / 1024) ps) h)

  pub safe_by : (c : ℕ) → Apart c (so_at ps) → quiet_at (c / 1024) ps ≡ true → safe_at c ps ≡ true
  unfolding safe_at
  safe_by c h k = rw (eq-eqb _ 0 h, k)

  -- digits alone
  pub digits_safe : (c : ℕ) → c < 1024 → Apart c (so_at ps) → safe_at c ps ≡ true
  digits_safe c l h = let e : c / 1024 ≡ 0 = omega arith in safe_by c h (rw e (quiet_none ps))

  pub safe_digits : (c : ℕ) → safe_at c ps ≡ true → Apart c (so_at ps)
  safe_digits c h = (safe_parts c h).0

  -- the term alone
  pub safe_term : (t : ℕ) → safe_at (t * 1024) ps ≡ true → quiet_at t ps ≡ true
  safe_term t h = let e : t * 1024 / 1024 ≡ t = omega arith in rw (← e) (safe_parts (t * 1024) h).1

  pub term_safe : (t : ℕ) → quiet_at t ps ≡ true → safe_at (t * 1024) ps ≡ true
  term_safe t h = let e : t * 1024 / 1024 ≡ t = omega arith in safe_by (t * 1024) (term_apart t ps) (rw e h)

  pub other_not_safe : {A : Type 0} → safe_at other ps ≡ true → A
  other_not_safe h = let no : ⊥ = other_so ps (safe_digits other h) in absurd no

  -- with a large parameter
  pub safe_large : (c : ℕ) → safe_at (bit_or c large) ps ≡ true → (small_at ps ≡ true) × (safe_at c ps ≡ true)
  safe_large c h =
      let p = safe_parts (bit_or c large) h in
      let k = apart_either (so_at ps) c large p.0 in
      (large_not ps k.1, safe_by c k.0 (rw (← or_digits c large (omega arith)) p.1))

  -- where one or the other is not so, neither is
  pub safe_both : (a b : ℕ) → safe_at (both a b) ps ≡ true → (safe_at a ps ≡ true) × (safe_at b ps ≡ true)
  unfolding both agree
  safe_both a b h = go (agree a b) refl h
    where
      go : (c : Bool) → agree a b ≡ c → safe_at (bit_or (bit_or a b) (cond c 0 other)) ps ≡ true → (safe_at a ps ≡ true) × (safe_at b ps ≡ true)
      go true e h =
          let p = safe_parts (bit_or a b) (subst (λ u. safe_at u ps ≡ true) (or_zero_r (bit_or a b)) h) in
          let k = apart_either (so_at ps) a b p.0 in
          let q = quiet_each (a / 1024) (b / 1024) ps e (rw (← or_term a b) p.1) in
          (safe_by a k.0 q.0, safe_by b k.1 q.1)
      go false e h = let k = apart_either (so_at ps) (bit_or a b) other (safe_digits _ h) in absurd (other_so ps k.1)

  -- what is known by either of two formulas
  pub either_safe : (g h : ℕ) → safe_at g ps ≡ true → safe_at h ps ≡ true → safe_at (either g h) ps ≡ true
  unfolding either agree
  either_safe g h m n = go (agree g h) refl
    where
      go : (c : Bool) → agree g h ≡ c → safe_at (bit_or g (cond c h (h % 1024))) ps ≡ true
      go true e =
          let p = safe_parts g m in
          let q = safe_parts h n in
          safe_by (bit_or g h) (apart_both (so_at ps) g h p.0 q.0) (rw (or_term g h) (quiet_all (g / 1024) (h / 1024) ps e p.1 q.1))
      go false e =
          let p = safe_parts g m in
          let q = safe_parts h n in
          safe_by (bit_or g (h % 1024)) (apart_both (so_at ps) g (h % 1024) p.0 (low_apart h (so_at ps) (so_small ps) q.0))
          (rw (or_digits g (h % 1024) (omega arith)) p.1)

  -- what is spared is not so either
  pub spared_safe : (c g : ℕ) → (small_at ps ≡ true → safe_at g ps ≡ true) → safe_at (spared c g) ps ≡ true → safe_at c ps ≡ true
  unfolding spared common
  spared_safe c g fine h = by (eqb (common c g) 0) h
    where
      some : (u : ℕ) → common c g ≡ u → safe_at (c - u) ps ≡ true → safe_at g ps ≡ true → safe_at c ps ≡ true
      some u eu m n = go (eqb (c / 1024) (g / 1024)) refl eu
        where
          go : (b : Bool) → eqb (c / 1024) (g / 1024) ≡ b → bit_and c (cond b g (g % 1024)) ≡ u → safe_at c ps ≡ true
          go true e eu =
              let p = safe_parts (c - u) m in
              let q = safe_parts g n in
              safe_by c (apart_without (so_at ps) c g (rw eu p.0) q.0) (rw (eqb-true (c / 1024) (g / 1024) e) q.1)
          go false e eu =
              let p = safe_parts (c - u) m in
              let q = safe_parts g n in
              let l = and_digits c (g % 1024) (omega arith) in
              let same : (c - u) / 1024 ≡ c / 1024 = omega arith in
              safe_by c (apart_without (so_at ps) c (g % 1024) (rw eu p.0) (low_apart g (so_at ps) (so_small ps) q.0)) (rw (← same) p.1)

      by : (b : Bool) → safe_at (cond b c (bit_or (c - common c g) large)) ps ≡ true → safe_at c ps ≡ true
      by true h = h
      by false h = let k = safe_large (c - common c g) h in some (common c g) refl k.1 (fine k.0)
