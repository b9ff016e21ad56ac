-- `bounds_fit` says exactly that there is no fault 5 (`by_bounds`).
use Prim.Native.Nat.{ℕ, ◌≤◌, ◌<◌}
use mathlib.Core.Path.{◌≡◌, refl, sym}
use mathlib.Core.Logic.{◌⊎◌, inl, inr}
use mathlib.Core.Bool.{false, true≢false}
use mathlib.Core.List.{List, map}
use native.Mathlib.Omega.{arith}
use borrow.Author.Tests.{leb-false, ltb-false}
use lib.Dec.{leb, ltb}
use lib.ListN.{get_or}
use Rattle.foundation.specs.Radix.{product}
use Rattle.foundation.specs.Reflects.{Reflects, so}
use Rattle.foundation.proofs.Reflects.{by_and, by_iff, by_ltb}
use Rattle.kinds.specs.Kinds.{whole_text}
use Rattle.kinds.specs.declared.Role.{Role}
use Rattle.kinds.specs.declared.Role.TheVariants as role
use Rattle.design.specs.Lines.{kind_of, of_kind}
use Rattle.design.specs.Faults.{entry_of, IsParameter, IsRow, size_of, Fault5, size, initial, span, states}
use Rattle.design.specs.Tests.{each_line_is, numbers_fit_by, numbers_fit, bounds_fit}
use Rattle.design.proofs.Each.{EachLine, by_each_line, SomeLine, some_line, one_of, by_leb}

abbrev pub ParameterFits : List ℕ → Type 0
ParameterFits line = (1 ≤ size_of line) × (get_or line 2 0 < size_of line)

abbrev pub SpanFits : List ℕ → Type 0
SpanFits line = (1 ≤ get_or line 2 0) × (get_or line 2 0 ≤ 256)

-- by what the numbers are
abbrev NumbersFit : Role → List ℕ → Type 0
NumbersFit r line = (r ≡ role.Parameter → ParameterFits line) × (r ≡ role.Row → SpanFits line)

apart : role.Row ≡ role.Parameter → ⊥
apart e = true≢false cc

by_numbers : (r : Role) (line : List ℕ) → Reflects (NumbersFit r line) (numbers_fit_by r (size_of line) (get_or line 2 0))
by_numbers role.Parameter line = by_iff (λ h. (λ _. h, λ e. absurd (apart (sym e)))) (λ h. h.0 refl) (by_and (by_leb 1 (size_of line)) (by_ltb (get_or line 2 0) (size_of line)))
by_numbers role.Row line = by_iff (λ h. (λ e. absurd (apart e), λ _. h)) (λ h. h.1 refl) (by_and (by_leb 1 (get_or line 2 0)) (by_leb (get_or line 2 0) 256))
by_numbers role.Other line = so (λ e. absurd (true≢false cc), λ e. absurd (true≢false cc))

pub record Bounds (lines : List (List ℕ)) : Type 0 where
  pub numbers : EachLine (λ line. (IsParameter (kind_of line) → ParameterFits line) × (IsRow (kind_of line) → SpanFits line)) lines
  pub few_states : product (map size_of (of_kind 1 lines)) ≤ 65536

by_parts : (lines : List (List ℕ)) → Reflects (Bounds lines) (bounds_fit lines)
unfolding bounds_fit
by_parts lines =
    by_iff (λ h. record { numbers = h.0; few_states = h.1 }) (λ b. (b.numbers, b.few_states))
    (by_and
    (by_each_line _ numbers_fit (λ line. by_numbers (entry_of whole_text line).role line) lines)
    (by_leb _ 65536))

pub bounds_free : (lines : List (List ℕ)) → Bounds lines → Fault5 lines → ⊥
bounds_free lines b (size {line = line} m p e) = let h = (b.numbers line m).0 p in let g = h.0 in omega arith
bounds_free lines b (initial {line = line} m p l) = let h = (b.numbers line m).0 p in let g = h.1 in omega arith
bounds_free lines b (span {line = line} m r (inl e)) = let h = (b.numbers line m).1 r in let g = h.0 in omega arith
bounds_free lines b (span {line = line} m r (inr e)) = let h = (b.numbers line m).1 r in let g = h.1 in omega arith
bounds_free lines b (states l) = let h = b.few_states in omega arith

pub bounds_of : (lines : List (List ℕ)) → (Fault5 lines → ⊥) → Bounds lines
bounds_of lines f =
    record {
      numbers = λ line m. (λ p. parameter line (λ e. f (size m p e)) (λ e. f (initial m p e)), λ r. row line (λ e. f (span m r e)));
      few_states = let h : 65536 < product (map size_of (of_kind 1 lines)) → ⊥ = λ l. f (states l) in omega arith;
    }
  where
    parameter : (line : List ℕ) → (size_of line ≡ 0 → ⊥) → (size_of line ≤ get_or line 2 0 → ⊥) → ParameterFits line
    parameter line a b = (omega arith, omega arith)

    row : (line : List ℕ) → ((get_or line 2 0 ≡ 0) ⊎ (256 < get_or line 2 0) → ⊥) → SpanFits line
    row line f =
        let a : get_or line 2 0 ≡ 0 → ⊥ = λ e. f (inl e) in
        let b : 256 < get_or line 2 0 → ⊥ = λ e. f (inr e) in
        (omega arith, omega arith)

pub by_bounds : (lines : List (List ℕ)) → Reflects (Fault5 lines → ⊥) (bounds_fit lines)
by_bounds lines = by_iff (bounds_free lines) (bounds_of lines) (by_parts lines)

-- and where the test says no, the fault is there
numbers_fault : (lines : List (List ℕ)) → SomeLine numbers_fit lines → Fault5 lines
numbers_fault lines s = go (entry_of whole_text s.line).role refl s.fails
  where
    a : ℕ
    a = size_of s.line

    b : ℕ
    b = get_or s.line 2 0

    parameter : IsParameter (kind_of s.line) → (leb 1 a ≡ false) ⊎ (ltb b a ≡ false) → Fault5 lines
    parameter p (inl e) = let l = leb-false 1 a e in size s.among p (omega arith)
    parameter p (inr e) = initial s.among p (ltb-false b a e)

    row : IsRow (kind_of s.line) → (leb 1 b ≡ false) ⊎ (leb b 256 ≡ false) → Fault5 lines
    row r (inl e) = let l = leb-false 1 b e in span s.among r (inl (omega arith))
    row r (inr e) = span s.among r (inr (leb-false b 256 e))

    go : (r : Role) → (entry_of whole_text s.line).role ≡ r → numbers_fit_by r a b ≡ false → Fault5 lines
    go role.Parameter e h = parameter e (one_of (leb 1 a) (ltb b a) h)
    go role.Row e h = row e (one_of (leb 1 b) (leb b 256) h)
    go role.Other e h = absurd (true≢false h)

pub has_fault5 : (lines : List (List ℕ)) → bounds_fit lines ≡ false → Fault5 lines
unfolding bounds_fit
has_fault5 lines h = go (one_of (each_line_is numbers_fit lines) (leb (product (map size_of (of_kind 1 lines))) 65536) h)
  where
    go : (each_line_is numbers_fit lines ≡ false) ⊎ (leb (product (map size_of (of_kind 1 lines))) 65536 ≡ false) → Fault5 lines
    go (inl e) = numbers_fault lines (some_line numbers_fit lines e)
    go (inr e) = states (leb-false (product (map size_of (of_kind 1 lines))) 65536 e)
