-- Sets told by binary digits: two of them are apart if they have no digit in common.
use Rattle.std.proofs.Common.{◌≡◌, ℕ, ◌+◌, ◌-◌, ◌*◌, ◌/◌, ◌%◌, ◌^◌, ◌<◌, min, max, Bool, true, false, cond, refl, ◌∙◌, arith}
use native.Mathlib.Decide.{dec_lt}
use native.Mathlib.Nat.{one-le-pow}
use lib.Arith.{bin_ind}
use lib.Bits.{bit_and, bit_or, and_step, or_step, and_le_l, and_zero_r, or_zero_r, and_comm, and_self, and_shifted}
use lib.Pow.{pow-lt}

abbrev pub Apart : ℕ → ℕ → Type 0
Apart a z = bit_and a z ≡ 0

half : (x y r : ℕ) → x ≡ y * 2 + r → r < 2 → x / 2 ≡ y
half x y r e l = omega arith

odd : (x y r : ℕ) → x ≡ y * 2 + r → r < 2 → x % 2 ≡ r
odd x y r e l = omega arith

-- by the last digits and the others
apart_halves : (a z : ℕ) → Apart a z → Apart (a / 2) (z / 2) × (min (a % 2) (z % 2) ≡ 0)
apart_halves a z h = let e = and_step a z in (omega arith, omega arith)

apart_by : (a z : ℕ) → Apart (a / 2) (z / 2) → min (a % 2) (z % 2) ≡ 0 → Apart a z
apart_by a z h k = let e = and_step a z in omega arith

-- ---- two sets as one

or_half : (a b : ℕ) → bit_or a b / 2 ≡ bit_or (a / 2) (b / 2)
or_half a b = half _ _ _ (or_step a b) (omega arith)

or_odd : (a b : ℕ) → bit_or a b % 2 ≡ max (a % 2) (b % 2)
or_odd a b = odd _ _ _ (or_step a b) (omega arith)

pub or_assoc : (c a b : ℕ) → bit_or (bit_or a b) c ≡ bit_or a (bit_or b c)
or_assoc = bin_ind (λ c. (a b : ℕ) → bit_or (bit_or a b) c ≡ bit_or a (bit_or b c)) (λ a b. rw (or_zero_r (bit_or a b), or_zero_r b)) step
  where
    step : (c : ℕ) → ((a b : ℕ) → bit_or (bit_or a b) (c / 2) ≡ bit_or a (bit_or b (c / 2))) → (a b : ℕ) → bit_or (bit_or a b) c ≡ bit_or a (bit_or b c)
    step c ih a b =
        let l = or_step (bit_or a b) c in
        let r = or_step a (bit_or b c) in
        let x = or_odd a b in
        let y = or_odd b c in
        let e : bit_or (bit_or a b / 2) (c / 2) ≡ bit_or (a / 2) (bit_or b c / 2) = rw (or_half a b, or_half b c) (ih (a / 2) (b / 2)) in
        omega arith

pub apart_either : (z a b : ℕ) → Apart (bit_or a b) z → Apart a z × Apart b z
apart_either = bin_ind (λ z. (a b : ℕ) → Apart (bit_or a b) z → Apart a z × Apart b z) (λ a b h. (and_zero_r a, and_zero_r b)) step
  where
    step : (z : ℕ) → ((a b : ℕ) → Apart (bit_or a b) (z / 2) → Apart a (z / 2) × Apart b (z / 2)) → (a b : ℕ) → Apart (bit_or a b) z → Apart a z × Apart b z
    step z ih a b h =
        let k = apart_halves (bit_or a b) z h in
        let m = ih (a / 2) (b / 2) (rw (← or_half a b) k.0) in
        let e = or_odd a b in
        let l = k.1 in
        (apart_by a z m.0 (omega arith), apart_by b z m.1 (omega arith))

pub apart_both : (z a b : ℕ) → Apart a z → Apart b z → Apart (bit_or a b) z
apart_both = bin_ind (λ z. (a b : ℕ) → Apart a z → Apart b z → Apart (bit_or a b) z) (λ a b h k. and_zero_r (bit_or a b)) step
  where
    step : (z : ℕ) → ((a b : ℕ) → Apart a (z / 2) → Apart b (z / 2) → Apart (bit_or a b) (z / 2)) → (a b : ℕ) → Apart a z → Apart b z → Apart (bit_or a b) z
    step z ih a b h k =
        let m = apart_halves a z h in
        let n = apart_halves b z k in
        let e = or_odd a b in
        let l = m.1 in
        let r = n.1 in
        apart_by (bit_or a b) z (rw (or_half a b) (ih (a / 2) (b / 2) m.0 n.0)) (omega arith)

-- ---- a set without what it has in common with another

without_half : (a g : ℕ) → (a - bit_and a g) / 2 ≡ a / 2 - bit_and (a / 2) (g / 2)
without_half a g = let e = and_step a g in let l = and_le_l (a / 2) (g / 2) in omega arith

without_odd : (a g : ℕ) → (a - bit_and a g) % 2 ≡ a % 2 - min (a % 2) (g % 2)
without_odd a g = let e = and_step a g in let l = and_le_l (a / 2) (g / 2) in omega arith

pub apart_without : (z a g : ℕ) → Apart (a - bit_and a g) z → Apart g z → Apart a z
apart_without = bin_ind (λ z. (a g : ℕ) → Apart (a - bit_and a g) z → Apart g z → Apart a z) (λ a g h k. and_zero_r a) step
  where
    step : (z : ℕ) → ((a g : ℕ) → Apart (a - bit_and a g) (z / 2) → Apart g (z / 2) → Apart a (z / 2)) → (a g : ℕ) → Apart (a - bit_and a g) z → Apart g z → Apart a z
    step z ih a g h k =
        let m = apart_halves (a - bit_and a g) z h in
        let n = apart_halves g z k in
        let e = without_odd a g in
        let l = m.1 in
        let r = n.1 in
        apart_by a z (ih (a / 2) (g / 2) (rw (← without_half a g) m.0) n.0) (omega arith)

-- ---- single members

lower : (i j : ℕ) → i < j → Apart (2 ^ j) (2 ^ i)
lower i j l = go (and_shifted 1 j (2 ^ i) (pow-lt l))
  where
    go : bit_and (1 * 2 ^ j) (2 ^ i) ≡ 0 → Apart (2 ^ j) (2 ^ i)
    go h = let e : 1 * 2 ^ j ≡ 2 ^ j = omega arith in rw (← e) h

-- two that are not the same
pub two_apart : (i j : ℕ) → (i ≡ j → ⊥) → Apart (2 ^ i) (2 ^ j)
two_apart i j n = go (dec_lt i j)
  where
    go : Dec (i < j) → Apart (2 ^ i) (2 ^ j)
    go (yes l) = and_comm (2 ^ i) (2 ^ j) ∙ lower i j l
    go (no l) = lower j i (omega arith)

-- the same
pub one_so : (i : ℕ) → Apart (2 ^ i) (2 ^ i) → ⊥
one_so i h = let e = and_self (2 ^ i) in let l = one-le-pow i 2 (omega arith) in omega arith

-- ---- the other way round

module _ (a : ℕ) where
  pub apart_of : (x y : ℕ) → Apart a (bit_or x y) → Apart a x × Apart a y
  apart_of x y h = let k = apart_either a x y (and_comm (bit_or x y) a ∙ h) in (and_comm a x ∙ k.0, and_comm a y ∙ k.1)

  pub apart_all : (x y : ℕ) → Apart a x → Apart a y → Apart a (bit_or x y)
  apart_all x y h k = and_comm a (bit_or x y) ∙ apart_both a x y (and_comm x a ∙ h) (and_comm y a ∙ k)

  -- what is there only if something is so
  pub apart_if : (b : Bool) (x : ℕ) → (b ≡ true → Apart a x) → Apart a (cond b x 0)
  apart_if true x h = h refl
  apart_if false x h = and_zero_r a
