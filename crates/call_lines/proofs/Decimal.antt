-- A number in decimal says that number (`decimal_number`).
use Prim.Native.Nat.{ℕ, zero, suc, ◌+◌, ◌-◌, ◌*◌, ◌/◌, ◌%◌, ◌^◌, ◌<◌, ◌≤◌}
use mathlib.Core.Path.{◌≡◌, refl, ◌∙◌}
use mathlib.Core.Bool.{Bool, true, false, cond}
use mathlib.Core.List.{List, [], ◌∷◌, ◌++◌}
use native.Mathlib.Nat.{pow-suc}
use native.Mathlib.Omega.{arith}
use borrow.Author.Tests.{ltb-true, ltb-false}
use lib.Dec.{ltb}
use lib.ListN.{length, length-append}
use Rattle.columns.specs.Columns.{digit_of, shown_after}
use Rattle.call_lines.specs.Number.{IsDigit, Digits, none, more, IsNumber, decimal_in, decimal_of}
use Rattle.call_lines.proofs.Digits.{digit_of_lem}

-- ---- one digit more at the end

shown_last : (n : ℕ) (digits : List ℕ) (b : ℕ) → shown_after n (digits ++ (b ∷ [])) ≡ shown_after n digits * 10 + digit_of b
unfolding shown_after
shown_last n [] b = refl
shown_last n (d ∷ digits) b = shown_last (n * 10 + digit_of d) digits b

digits_last : {digits : List ℕ} {b : ℕ} → Digits digits → IsDigit b → Digits (digits ++ (b ∷ []))
digits_last none h = more h none
digits_last (more d ds) h = more d (digits_last ds h)

digit_shown : (d : ℕ) → d < 10 → digit_of (48 + d) ≡ d
digit_shown d h =
    let i : IsDigit (48 + d) = (omega arith, omega arith) in
    let e : (48 + d) - 48 ≡ d = omega arith in
    digit_of_lem (48 + d) i ∙ e

-- ---- the digits of a number

-- in at most so many digits, and at least one
record Said (k n : ℕ) (digits : List ℕ) : Type 0 where
  some : 1 ≤ length digits
  few : length digits ≤ k
  each : Digits digits
  value : shown_after 0 digits ≡ n

said_one : (k n : ℕ) → n < 10 → Said (suc k) n ((48 + n) ∷ [])
unfolding shown_after
said_one k n h =
    let i : IsDigit (48 + n) = (omega arith, omega arith) in
    let e = digit_shown n h in
    record { some = omega arith; few = omega arith; each = more i none; value = rw e (omega arith) }

said_more : (k n : ℕ) (digits : List ℕ) → Said k (n / 10) digits → Said (suc k) n (digits ++ ((48 + n % 10) ∷ []))
said_more k n digits s =
    let f = s.few in
    let v = s.value in
    let l = length-append digits ((48 + n % 10) ∷ []) in
    let d : n % 10 < 10 = omega arith in
    let e = digit_shown (n % 10) d in
    let m = shown_last 0 digits (48 + n % 10) in
    let i : IsDigit (48 + n % 10) = (omega arith, omega arith) in
    record {
      some = omega arith;
      few = omega arith;
      each = digits_last s.each i;
      value = m ∙ (rw (v, e) (omega arith));
    }

said_by : (k n : ℕ) (z : Bool) → ltb n 10 ≡ z → (10 ≤ n → Said k (n / 10) (decimal_in k (n / 10)))
    → Said (suc k) n (cond z ((48 + n) ∷ []) (decimal_in k (n / 10) ++ ((48 + n % 10) ∷ [])))
said_by k n true e rest = said_one k n (ltb-true n 10 e)
said_by k n false e rest = said_more k n (decimal_in k (n / 10)) (rest (ltb-false n 10 e))

said : (k n : ℕ) → n < 10 ^ suc k → Said (suc k) n (decimal_in (suc k) n)
unfolding decimal_in
said zero n h = said_by zero n _ refl (λ l. absurd (omega arith))
said (suc k) n h = let p = pow-suc 10 (suc k) in said_by (suc k) n _ refl (λ l. said k (n / 10) (omega arith))

pub decimal_number : (n : ℕ) → n < 18446744073709551616 → IsNumber (decimal_of n) n
unfolding decimal_of
decimal_number n h =
    let s = said 19 n (omega arith) in
    record { some = s.some; few = s.few; each = s.each; value = s.value; fits = h }
