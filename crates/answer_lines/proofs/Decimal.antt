-- The kit's digits of a number, the fewest that hold it, are `decimal_of` it.
use Prim.Native.Nat.{ℕ, zero, suc, ◌+◌, ◌-◌, ◌/◌, ◌%◌, ◌^◌, ◌<◌, ◌≤◌}
use mathlib.Core.Path.{◌≡◌, ap, ◌∙◌}
use mathlib.Core.List.{List, ◌++◌}
use native.Mathlib.Nat.{pow-suc, pow-le-pow_right}
use native.Mathlib.Omega.{arith}
use borrow.Author.Tests.{lt-ltb, le-ltb}
use lib.ListN.{take}
use Rattle.io.specs.Digits.{hex_digit_ascii, last_digits, IsDigitCount}
use Rattle.call_lines.specs.Number.{decimal_in, decimal_of}

glyph_is : (d : ℕ) → d < 10 → hex_digit_ascii d ≡ 48 + d
glyph_is d h = rw (lt-ltb d 10 h)

positive : (k : ℕ) → 1 ≤ 10 ^ k
positive zero = omega arith
positive (suc k) = let p = pow-suc 10 k in let h = positive k in omega arith

fewest : (k m n : ℕ) → IsDigitCount 10 1 n k → k ≤ m → last_digits 10 k n ≡ decimal_in m n
unfolding decimal_in
fewest zero m n f l = let h = f.0 in absurd (omega arith)
fewest (suc zero) zero n f l = absurd (omega arith)
fewest (suc zero) (suc m) n f l =
    let p = pow-suc 10 0 in
    let s : n < 10 = let b = f.1 in omega arith in
    let r : n % 10 ≡ n = omega arith in
    rw (lt-ltb n 10 s, r, glyph_is n s)
fewest (suc (suc k)) zero n f l = absurd (omega arith)
fewest (suc (suc k)) (suc m) n f l =
    let a = f.1 in
    let v : suc (suc k) - 1 ≡ suc k = omega arith in
    let b : 10 ^ suc k ≤ n = rw v at (f.2 (omega arith)) in
    let p = pow-suc 10 (suc k) in
    let q = pow-suc 10 k in
    let o = positive k in
    let w : suc k - 1 ≡ k = omega arith in
    let s : 10 ≤ n = omega arith in
    let r : n % 10 < 10 = omega arith in
    let g : IsDigitCount 10 1 (n / 10) (suc k) = (omega arith, omega arith, λ h. rw w (omega arith)) in
    rw (le-ltb n 10 s, glyph_is (n % 10) r, fewest (suc k) m (n / 10) g (omega arith))

-- a u64 has at most 20 digits
few_by : (k n : ℕ) → IsDigitCount 10 1 n k → n < 18446744073709551616 → 20 < k → ⊥
few_by k n f h l =
    let b : 10 ^ (k - 1) ≤ n = f.2 (omega arith) in
    let j : 20 ≤ k - 1 = omega arith in
    let ten : 0 < 10 = omega arith in
    let p : 10 ^ 20 ≤ 10 ^ (k - 1) = pow-le-pow_right ten j in
    omega arith

pub few : (k n : ℕ) → IsDigitCount 10 1 n k → n < 18446744073709551616 → k ≤ 20
few k n f h = let no = few_by k n f h in omega (arith, no)

pub decimal_put : (k n : ℕ) (bytes p x : List ℕ) → IsDigitCount 10 1 n k → n < 18446744073709551616 → take k bytes ≡ last_digits 10 k n
    → x ≡ p ++ take k bytes → x ≡ p ++ decimal_of n
unfolding decimal_of
decimal_put k n bytes p x f b e h = h ∙ ap (λ d. p ++ d) (e ∙ fewest k 20 n f (few k n f b))
