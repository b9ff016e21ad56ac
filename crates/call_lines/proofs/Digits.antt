-- The number that digits say: the laws of the loop that reads it, and that `number_of` finds the number of `IsNumber` (`number_is`, `is_number`).
use Prim.Native.Nat.{ℕ, ◌+◌, ◌-◌, ◌*◌, ◌^◌, ◌<◌, ◌≤◌}
use mathlib.Core.Path.{◌≡◌, refl, sym, ap, ◌∙◌}
use mathlib.Core.Logic.{◌≢◌, inl, inr}
use mathlib.Core.Bool.{Bool, true, false, cond, not, ◌&&◌}
use mathlib.Core.List.{List, [], ◌∷◌}
use native.Mathlib.Numerals.{add-one}
use native.Mathlib.Omega.{arith}
use borrow.Author.Tests.{lt-ltb, le-ltb, ltb-true, ltb-false, not-true}
use lib.Dec.{ltb}
use lib.ListN.{length, drop, get_or, drop_of_length-le}
use lib.Seq.{drop-cons}
use Rattle.columns.specs.Columns.{digit_of, shown_after}
use Rattle.columns.proofs.Columns.{and_left, and_right}
use Rattle.call_lines.specs.Number.{IsDigit, Digits, none, more, IsNumber, is_a_digit, only_digits, fitting, with_digit, number_from, number_of}
use Rattle.std.specs.Prelude.{None, Some, SomeIff}
use Rattle.std.specs.Char.{IsAsciiDigit, IsNotAsciiDigit}
use Rattle.std.specs.declared.option.Option.{Option}

-- ---- one digit

pub digit_of_lem : (b : ℕ) → IsDigit b → digit_of b ≡ b - 48
unfolding digit_of
digit_of_lem b h = let l = h.0 in let m = h.1 in rw (le-ltb b 48 l, le-ltb 57 b m)

digit_is : (b : ℕ) → IsDigit b → is_a_digit b ≡ true
digit_is b h = let l = h.0 in let m = h.1 in rw (le-ltb b 48 l, le-ltb 57 b m)

is_digit : (b : ℕ) → is_a_digit b ≡ true → IsDigit b
is_digit b h =
    let l = ltb-false b 48 (not-true (ltb b 48) (and_left (not (ltb b 48)) (not (ltb 57 b)) h)) in
    let m = ltb-false 57 b (not-true (ltb 57 b) (and_right (not (ltb b 48)) (not (ltb 57 b)) h)) in
    (l, m)

module _ (n b : ℕ) where
  low_none : b < 48 → None ≡ with_digit n b
  unfolding with_digit
  low_none h = rw (lt-ltb b 48 h)

  high_none : 48 ≤ b → 57 < b → None ≡ with_digit n b
  unfolding with_digit
  high_none l h = rw (le-ltb b 48 l, lt-ltb 57 b h)

  fits : 48 ≤ b → b ≤ 57 → (m : ℕ) → m ≡ n * 10 + (b - 48) → m < 18446744073709551616 → Some m ≡ with_digit n b
  unfolding with_digit
  fits l h m e f =
      let i : IsDigit b = (l, h) in
      rw (digit_of_lem b i, le-ltb b 48 l, le-ltb 57 b h, ← e, lt-ltb m 18446744073709551616 f)

  over : 48 ≤ b → b ≤ 57 → 18446744073709551616 ≤ n * 10 + (b - 48) → None ≡ with_digit n b
  unfolding with_digit
  over l h f =
      let i : IsDigit b = (l, h) in
      rw (digit_of_lem b i, le-ltb b 48 l, le-ltb 57 b h, le-ltb (n * 10 + (b - 48)) 18446744073709551616 f)

  pub no_digit : IsNotAsciiDigit b → None ≡ with_digit n b
  no_digit (inl h) = low_none h
  no_digit (inr h) = high_none (omega arith) h

  module _ (digit : IsAsciiDigit b) where
    pub product_over : (n * 10 < 2 ^ 64 → ⊥) → None ≡ with_digit n b
    product_over full = over digit.0 digit.1 (omega (arith, full))

    pub sum_fits : (s : Option ℕ) (m d : ℕ) → m ≡ n * 10 → d ≡ b - 48 → SomeIff s (m + d < 2 ^ 64) (m + d) → s ≡ with_digit n b
    sum_fits None m d em ed full = over digit.0 digit.1 (omega (arith, full))
    sum_fits (Some x) m d em ed fact = let f = fact.0 in let g = fact.1 in fits digit.0 digit.1 x (omega arith) (omega arith)

-- ---- the loop

more_shown : (n : ℕ) (digits : List ℕ) → n ≤ shown_after n digits
unfolding shown_after
more_shown n [] = omega arith
more_shown n (b ∷ digits) = let h = more_shown (n * 10 + digit_of b) digits in omega arith

not_fitting : (a : Bool) (n : ℕ) → 18446744073709551616 ≤ n → fitting a n ≡ None
not_fitting true n h = rw (le-ltb n 18446744073709551616 h)
not_fitting false n h = refl

-- one digit in front
next_by : (z w : Bool) (n b m : ℕ) (digits : List ℕ) → is_a_digit b ≡ z → ltb (n * 10 + digit_of b) 18446744073709551616 ≡ w
    → cond (z && w) (Some (n * 10 + digit_of b)) None ≡ Some m → number_from n (b ∷ digits) ≡ number_from m digits
unfolding number_from only_digits shown_after
next_by true true n b m digits ez ew e = let h : n * 10 + digit_of b ≡ m = cc in rw (ez, h)
next_by true false n b m digits ez ew e = let h : ◌≡◌ {A = ℕ} 0 1 = cc in absurd (omega arith)
next_by false w n b m digits ez ew e = let h : ◌≡◌ {A = ℕ} 0 1 = cc in absurd (omega arith)

fits_by : (z w : Bool) (n b m : ℕ) → ltb (n * 10 + digit_of b) 18446744073709551616 ≡ w
    → cond (z && w) (Some (n * 10 + digit_of b)) None ≡ Some m → m < 18446744073709551616
fits_by true true n b m ew e =
    let h : n * 10 + digit_of b ≡ m = cc in
    let l = ltb-true (n * 10 + digit_of b) 18446744073709551616 ew in
    omega arith
fits_by true false n b m ew e = let h : ◌≡◌ {A = ℕ} 0 1 = cc in absurd (omega arith)
fits_by false w n b m ew e = let h : ◌≡◌ {A = ℕ} 0 1 = cc in absurd (omega arith)

none_by : (z w : Bool) (n b : ℕ) (digits : List ℕ) → is_a_digit b ≡ z → ltb (n * 10 + digit_of b) 18446744073709551616 ≡ w
    → cond (z && w) (Some (n * 10 + digit_of b)) None ≡ None → number_from n (b ∷ digits) ≡ None
unfolding number_from only_digits shown_after
none_by true true n b digits ez ew e = let h : ◌≡◌ {A = ℕ} 0 1 = cc in absurd (omega arith)
none_by true false n b digits ez ew e =
    let l = ltb-false (n * 10 + digit_of b) 18446744073709551616 ew in
    let m = more_shown (n * 10 + digit_of b) digits in
    rw ez (not_fitting (only_digits digits) (shown_after (n * 10 + digit_of b) digits) (omega arith))
none_by false w n b digits ez ew e = rw ez

module _ (digits : List ℕ) (n i : ℕ) (h : i < length digits) (w : Option ℕ) (ew : w ≡ with_digit n (get_or digits i 0)) where
  split : drop i digits ≡ get_or digits i 0 ∷ drop (i + 1) digits
  split = rw (add-one, drop-cons digits i 0 h)

  pub goes_on : (m : ℕ) → w ≡ Some m → number_from n (drop i digits) ≡ number_from 0 digits
      → number_from m (drop (i + 1) digits) ≡ number_from 0 digits
  unfolding with_digit
  goes_on m em e =
      sym (ap (number_from n) split ∙ next_by _ _ n (get_or digits i 0) m (drop (i + 1) digits) refl refl (sym ew ∙ em)) ∙ e

  pub still_fits : (m : ℕ) → w ≡ Some m → m < 18446744073709551616
  unfolding with_digit
  still_fits m em = fits_by (is_a_digit (get_or digits i 0)) _ n (get_or digits i 0) m refl (sym ew ∙ em)

  stops : w ≡ None → number_from n (drop i digits) ≡ number_from 0 digits → None ≡ number_from 0 digits
  unfolding with_digit
  stops em e =
      sym (ap (number_from n) split ∙ none_by _ _ n (get_or digits i 0) (drop (i + 1) digits) refl refl (sym ew ∙ em)) ∙ e

-- the number of digits that are neither too few nor too many
number_within : (digits : List ℕ) → length digits ≢ 0 → length digits ≤ 20 → number_of digits ≡ number_from 0 digits
unfolding number_of
number_within digits some few =
    let l : 0 < length digits = omega arith in
    let m : length digits < 21 = omega arith in
    rw (lt-ltb 0 (length digits) l, lt-ltb (length digits) 21 m)

last : (n : ℕ) → n < 18446744073709551616 → number_from n [] ≡ Some n
unfolding number_from only_digits shown_after
last n h = rw (lt-ltb n 18446744073709551616 h)

module _ (digits : List ℕ) where
  pub too_few : length digits ≡ 0 → None ≡ number_of digits
  unfolding number_of
  too_few e = rw e

  pub too_many : 20 < length digits → None ≡ number_of digits
  unfolding number_of
  too_many h =
      let l : 0 < length digits = omega arith in
      let m : 21 ≤ length digits = omega arith in
      rw (lt-ltb 0 (length digits) l, le-ltb (length digits) 21 m)

  module _ (some : length digits ≢ 0) (few : length digits ≤ 20) where
    pub no_number : (n i : ℕ) → i < length digits → (w : Option ℕ) → w ≡ with_digit n (get_or digits i 0) → w ≡ None
        → number_from n (drop i digits) ≡ number_from 0 digits → None ≡ number_of digits
    no_number n i h w ew em e = stops digits n i h w ew em e ∙ sym (number_within digits some few)

    pub ends : (n i : ℕ) → length digits ≤ i → n < 18446744073709551616 → number_from n (drop i digits) ≡ number_from 0 digits
        → Some n ≡ number_of digits
    ends n i h f e = sym (number_within digits some few ∙ (sym e ∙ (ap (number_from n) (drop_of_length-le digits h) ∙ last n f)))

-- ---- what is found

all_digits : (digits : List ℕ) → only_digits digits ≡ true → Digits digits
unfolding only_digits
all_digits [] h = none
all_digits (b ∷ digits) h =
    more (is_digit b (and_left (is_a_digit b) (only_digits digits) h)) (all_digits digits (and_right (is_a_digit b) (only_digits digits) h))

digits_all : {digits : List ℕ} → Digits digits → only_digits digits ≡ true
unfolding only_digits
digits_all none = refl
digits_all (more {b = b} h ds) = rw (digit_is b h, digits_all ds)

pub number_is : (digits : List ℕ) (n : ℕ) → IsNumber digits n → number_of digits ≡ Some n
unfolding number_of number_from
number_is digits n i =
    let l : 0 < length digits = i.some in
    let m : length digits < 21 = let f = i.few in omega arith in
    rw (lt-ltb 0 (length digits) l, lt-ltb (length digits) 21 m, digits_all i.each, i.value, lt-ltb n 18446744073709551616 i.fits)

is_number_by : (digits : List ℕ) (n : ℕ) (p q r s : Bool) → ltb 0 (length digits) ≡ p → ltb (length digits) 21 ≡ q → only_digits digits ≡ r
    → ltb (shown_after 0 digits) 18446744073709551616 ≡ s
    → cond (p && q) (cond (r && s) (Some (shown_after 0 digits)) None) None ≡ Some n → IsNumber digits n
is_number_by digits n true true true true ep eq er es e =
    let v : shown_after 0 digits ≡ n = cc in
    let f = ltb-true (length digits) 21 eq in
    let l = ltb-true (shown_after 0 digits) 18446744073709551616 es in
    record { some = ltb-true 0 (length digits) ep; few = omega arith; each = all_digits digits er; value = v; fits = omega arith }
is_number_by digits n true true true false ep eq er es e = let h : ◌≡◌ {A = ℕ} 0 1 = cc in absurd (omega arith)
is_number_by digits n true true false s ep eq er es e = let h : ◌≡◌ {A = ℕ} 0 1 = cc in absurd (omega arith)
is_number_by digits n true false r s ep eq er es e = let h : ◌≡◌ {A = ℕ} 0 1 = cc in absurd (omega arith)
is_number_by digits n false q r s ep eq er es e = let h : ◌≡◌ {A = ℕ} 0 1 = cc in absurd (omega arith)

pub is_number : (digits : List ℕ) (n : ℕ) → number_of digits ≡ Some n → IsNumber digits n
unfolding number_of number_from
is_number digits n e = is_number_by digits n _ _ _ _ refl refl refl refl e
