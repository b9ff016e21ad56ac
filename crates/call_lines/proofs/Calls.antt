-- Which call a line is: what `call_of` answers at each return, and that it is the call of `IsCall` (`call_exactly`).
use Prim.Native.Nat.{ℕ, ◌<◌}
use mathlib.Core.Path.{◌≡◌, refl, sym, ap, ◌∙◌}
use mathlib.Core.Logic.{◌↔◌}
use mathlib.Core.Bool.{Bool, true, false, cond}
use mathlib.Core.List.{List, ◌++◌}
use lib.ListN.{length, take, drop, take-append-drop}
use Rattle.call_lines.specs.Number.{IsNumber, number_of, decimal_of}
use Rattle.call_lines.specs.Calls.{load_word, advance_word, verdict_word, measure_word, drop_word, IsCall, is_load, is_advance, is_verdict, is_measure, is_drop, number_behind, load_or, advance_or, measure_or, call_of}
use Rattle.std.specs.Prelude.{None, Some}
use Rattle.std.specs.declared.option.Option.{Option}
use Rattle.std.specs.Str.{bytes_eq}
use Rattle.call_lines.specs.declared.Call.{Call}
use Rattle.call_lines.specs.declared.Call.TheVariants as call
use Rattle.std.proofs.lemmas.Slice.Eq.{bytes_eq-Decides}
use Rattle.call_lines.proofs.Digits.{number_is, is_number}
use Rattle.call_lines.proofs.Decimal.{decimal_number}

-- ---- a number after a word

module _ (word line : List ℕ) where
  pub another_word : bytes_eq (take (length word) line) word ≡ false → None ≡ number_behind word line
  unfolding number_behind
  another_word e = rw e

  pub number_after_lem : bytes_eq (take (length word) line) word ≡ true → (digits : List ℕ) → digits ≡ drop (length word) line
      → (r : Option ℕ) → r ≡ number_of digits → r ≡ number_behind word line
  unfolding number_behind
  number_after_lem e digits ed r er = er ∙ (ap number_of ed ∙ rw e)

-- ---- the call

module _ (line first : List ℕ) (ef : first ≡ verdict_word) (v : Bool) (ev : v ≡ bytes_eq line first) where
  pub says_verdict : v ≡ true → Some call.Verdict ≡ call_of line
  unfolding call_of
  says_verdict e = let h : bytes_eq line verdict_word ≡ true = rw ef at (sym ev ∙ e) in rw h

  module _ (nv : v ≡ false) (second : List ℕ) (es : second ≡ drop_word) (d : Bool) (ed : d ≡ bytes_eq line second) where
    pub says_drop : d ≡ true → Some call.Drop ≡ call_of line
    unfolding call_of
    says_drop e =
        let h : bytes_eq line verdict_word ≡ false = rw ef at (sym ev ∙ nv) in
        let g : bytes_eq line drop_word ≡ true = rw es at (sym ed ∙ e) in
        rw (h, g)

    module _ (nd : d ≡ false) (l : Option ℕ) (el : l ≡ number_behind load_word line) where
      others : load_or l (advance_or (number_behind advance_word line) (measure_or (number_behind measure_word line) None)) ≡ call_of line
      unfolding call_of
      others =
          let h : bytes_eq line verdict_word ≡ false = rw ef at (sym ev ∙ nv) in
          let g : bytes_eq line drop_word ≡ false = rw es at (sym ed ∙ nd) in
          rw (h, g, el)

      pub says_load : (n : ℕ) → l ≡ Some n → Some (call.Load n) ≡ call_of line
      says_load n e = rw e at others

      module _ (nl : l ≡ None) (a : Option ℕ) (ea : a ≡ number_behind advance_word line) where
        past_load : advance_or a (measure_or (number_behind measure_word line) None) ≡ call_of line
        past_load = rw (nl, ← ea) at others

        pub says_advance : (n : ℕ) → a ≡ Some n → Some (call.Advance n) ≡ call_of line
        says_advance n e = rw e at past_load

        module _ (na : a ≡ None) (m : Option ℕ) (em : m ≡ number_behind measure_word line) where
          last : measure_or m None ≡ call_of line
          last = rw (na, ← em) at past_load

          pub says_measure : (n : ℕ) → m ≡ Some n → Some (call.Measure n) ≡ call_of line
          says_measure n e = rw e at last

          pub says_none : m ≡ None → None ≡ call_of line
          says_none e = rw e at last

-- ---- what is found

pub call_is : {line : List ℕ} {c : Call} → IsCall line c → call_of line ≡ Some c
unfolding call_of number_behind
call_is (is_load {digits = digits} {n = n} i) = rw (number_is digits n i)
call_is (is_advance {digits = digits} {n = n} i) = rw (number_is digits n i)
call_is is_verdict = refl
call_is (is_measure {digits = digits} {n = n} i) = rw (number_is digits n i)
call_is is_drop = refl

same_bytes : (a b : List ℕ) → bytes_eq a b ≡ true → a ≡ b
same_bytes a b e = (bytes_eq-Decides a b).0 e

-- a word, and then a number
record After (word line : List ℕ) (n : ℕ) : Type 0 where
  whole : line ≡ word ++ drop (length word) line
  number : IsNumber (drop (length word) line) n

after : (word line : List ℕ) (n : ℕ) → number_behind word line ≡ Some n → After word line n
unfolding number_behind
after word line n h = go _ refl h
  where
    go : (z : Bool) → bytes_eq (take (length word) line) word ≡ z → cond z (number_of (drop (length word) line)) None ≡ Some n → After word line n
    go true e m =
        let w : take (length word) line ≡ word = same_bytes (take (length word) line) word e in
        record {
          whole = sym (ap (λ x. x ++ drop (length word) line) (sym w) ∙ take-append-drop (length word) line);
          number = is_number (drop (length word) line) n m;
        }
    go false e m = cc

is_call_by : (line : List ℕ) (v d : Bool) (l a m : Option ℕ) → bytes_eq line verdict_word ≡ v → bytes_eq line drop_word ≡ d
    → number_behind load_word line ≡ l → number_behind advance_word line ≡ a → number_behind measure_word line ≡ m → (c : Call)
    → cond v (Some call.Verdict) (cond d (Some call.Drop) (load_or l (advance_or a (measure_or m None)))) ≡ Some c → IsCall line c
is_call_by line true d l a m ev ed el ea em c e =
    let s : call.Verdict ≡ c = cc in
    rw (same_bytes line verdict_word ev, ← s) is_verdict
is_call_by line false true l a m ev ed el ea em c e =
    let s : call.Drop ≡ c = cc in
    rw (same_bytes line drop_word ed, ← s) is_drop
is_call_by line false false (Some k) a m ev ed el ea em c e =
    let f = after load_word line k el in
    let s : call.Load k ≡ c = cc in
    rw (f.whole, ← s) (is_load f.number)
is_call_by line false false None (Some k) m ev ed el ea em c e =
    let f = after advance_word line k ea in
    let s : call.Advance k ≡ c = cc in
    rw (f.whole, ← s) (is_advance f.number)
is_call_by line false false None None (Some k) ev ed el ea em c e =
    let f = after measure_word line k em in
    let s : call.Measure k ≡ c = cc in
    rw (f.whole, ← s) (is_measure f.number)
is_call_by line false false None None None ev ed el ea em c e = cc

-- a line is a call exactly if it is found to be
pub call_exactly : (line : List ℕ) (c : Call) → (call_of line ≡ Some c) ↔ IsCall line c
unfolding call_of
call_exactly line c = (λ e. is_call_by line _ _ _ _ _ refl refl refl refl refl c e, call_is)

-- no line is two calls
pub one_call : {line : List ℕ} {a b : Call} → IsCall line a → IsCall line b → a ≡ b
one_call i j = let e = sym (call_is i) ∙ call_is j in cc

-- ---- a call written

-- the line of a call, its number without zeros in front, says that call
pub load_read : (n : ℕ) → n < 18446744073709551616 → call_of (load_word ++ decimal_of n) ≡ Some (call.Load n)
load_read n h = call_is (is_load (decimal_number n h))

pub advance_read : (n : ℕ) → n < 18446744073709551616 → call_of (advance_word ++ decimal_of n) ≡ Some (call.Advance n)
advance_read n h = call_is (is_advance (decimal_number n h))

pub measure_read : (n : ℕ) → n < 18446744073709551616 → call_of (measure_word ++ decimal_of n) ≡ Some (call.Measure n)
measure_read n h = call_is (is_measure (decimal_number n h))
