-- What is gathered of lines (line_faults/specs/Tests) is what the definitions count, at most the cap: fields, lines of a rank
-- (`ranks_all`), the rank of the last (`last_all`), states (`states_all`), internal rows (`internal_all`); and whether any line passes a
-- test (`by_any`).
use Prim.Native.Nat.{ℕ, zero, suc, ◌+◌, ◌*◌, ◌<◌, ◌≤◌}
use mathlib.Core.Path.{◌≡◌, refl, ap, ◌∙◌}
use mathlib.Core.Logic.{◌⊎◌, inl, inr}
use mathlib.Core.Bool.{Bool, true, false, cond, ◌&&◌}
use mathlib.Core.List.Memᴰ
use mathlib.Core.List.{List, [], ◌∷◌, map, Memᴰ}
use native.Mathlib.Omega.{arith}
use native.Mathlib.Nat.{mul-zero, mul-suc, mul-one, mul_assoc}
use borrow.Author.Tests.{leb-true, leb-false, ltb-true, ltb-false}
use lib.Dec.{eqb, leb, ltb}
use lib.ListN.{length}
use Rattle.foundation.specs.Reflects.{Reflects, so, not_so}
use Rattle.foundation.specs.Radix.{product}
use Rattle.reader.specs.Text.{count_all}
use Rattle.criteria.specs.Step.{internal_rows}
use Rattle.kinds.specs.Kinds.{whole_text}
use Rattle.design.specs.Line.{row_of}
use Rattle.design.specs.Lines.{kind_of, of_kind, count_of, internal_of}
use Rattle.design.specs.Faults.{entry_of, of_rank, size_of}
use Rattle.fault_lines.specs.Shows.{last_rank, states}
use Rattle.line_faults.specs.Tests.{action_of}
use Rattle.line_faults.specs.Tests.{cap, one, is_internal, gathered, add_fields, add_rank, the_rank, times_size, add_internal}

-- ---- fields, and the rank of the last line

pub fields_from_lem : (n : ℕ) (lines : List (List ℕ)) → n ≤ 65537 → gathered add_fields n lines ≡ cap (n + count_all lines)
unfolding gathered count_all
fields_from_lem n [] h = omega arith
fields_from_lem n (line ∷ lines) h = fields_from_lem (cap (n + length line)) lines (omega arith) ∙ omega arith

pub last_all : (r : ℕ) (lines : List (List ℕ)) → gathered the_rank r lines ≡ last_rank r lines
unfolding gathered last_rank
last_all r [] = refl
last_all r (line ∷ lines) = last_all (entry_of whole_text line).rank lines

-- ---- how many pass a test

unfoldable pub how_many : (List ℕ → Bool) → List (List ℕ) → ℕ
how_many t [] = 0
how_many t (line ∷ lines) = one (t line) + how_many t lines

module _ (q : ℕ → List ℕ → ℕ) (t : List ℕ → Bool) (counts : (n : ℕ) (line : List ℕ) → q n line ≡ cap (n + one (t line))) where
  pub count_from : (n : ℕ) (lines : List (List ℕ)) → n ≤ 65537 → gathered q n lines ≡ cap (n + how_many t lines)
  unfolding gathered how_many
  count_from n [] h = omega arith
  count_from n (line ∷ lines) h = rw (counts n line) (count_from (cap (n + one (t line))) lines (omega arith) ∙ omega arith)

pub ranks_many : (r : ℕ) (lines : List (List ℕ)) → how_many (λ line. eqb (entry_of whole_text line).rank r) lines ≡ length (of_rank whole_text r lines)
unfolding how_many of_rank
ranks_many r [] = refl
ranks_many r (line ∷ lines) = go (eqb (entry_of whole_text line).rank r) (ranks_many r lines)
  where
    go : (b : Bool) → how_many (λ line. eqb (entry_of whole_text line).rank r) lines ≡ length (of_rank whole_text r lines)
        → one b + how_many (λ line. eqb (entry_of whole_text line).rank r) lines ≡ length (cond b (line ∷ of_rank whole_text r lines) (of_rank whole_text r lines))
    go true ih = omega arith
    go false ih = omega arith

pub ranks_all : (r : ℕ) (lines : List (List ℕ)) → gathered (add_rank r) 0 lines ≡ cap (length (of_rank whole_text r lines))
ranks_all r lines =
    count_from (add_rank r) (λ line. eqb (entry_of whole_text line).rank r) (λ n line. refl) 0 lines (omega arith) ∙ rw (ranks_many r lines) (omega arith)

pub internal_many : (n : ℕ) (lines : List (List ℕ)) → how_many is_internal lines ≡ internal_rows (map (row_of n) (of_kind 3 lines))
unfolding how_many of_kind internal_rows
internal_many n [] = refl
internal_many n (line ∷ lines) = go (eqb (kind_of line) 3) (eqb (action_of line) 0) refl (internal_many n lines)
  where
    go : (b c : Bool) → eqb (action_of line) 0 ≡ c → how_many is_internal lines ≡ internal_rows (map (row_of n) (of_kind 3 lines))
        → one (b && c) + how_many is_internal lines ≡ internal_rows (map (row_of n) (cond b (line ∷ of_kind 3 lines) (of_kind 3 lines)))
    go true true e ih = rw e (omega arith)
    go true false e ih = rw e (omega arith)
    go false c e ih = omega arith

pub internal_all : (lines : List (List ℕ)) → gathered add_internal 0 lines ≡ cap (internal_of lines)
internal_all lines =
    count_from add_internal is_internal (λ n line. refl) 0 lines (omega arith) ∙ rw (internal_many (count_of 1 lines) lines) (omega arith)

-- ---- whether any line passes

pub record Some (t : List ℕ → Bool) (lines : List (List ℕ)) : Type 0 where
  pub line : List ℕ
  pub among : Memᴰ line lines
  pub passes : t line ≡ true

some_many : (t : List ℕ → Bool) (lines : List (List ℕ)) → 0 < how_many t lines → Some t lines
unfolding how_many
some_many t [] h = absurd (omega arith)
some_many t (line ∷ lines) h = go (t line) refl h (some_many t lines)
  where
    go : (b : Bool) → t line ≡ b → 0 < one b + how_many t lines → (0 < how_many t lines → Some t lines) → Some t (line ∷ lines)
    go true e h ih = record { line = line; among = Memᴰ.head refl; passes = e }
    go false e h ih = let s = ih (omega arith) in record { line = s.line; among = Memᴰ.tail s.among; passes = s.passes }

many_some : (t : List ℕ → Bool) (lines : List (List ℕ)) (line : List ℕ) → Memᴰ line lines → t line ≡ true → 0 < how_many t lines
unfolding how_many
many_some t [] line m e = absurd (Memᴰ.not-nil m)
many_some t (l ∷ lines) line m e = go (Memᴰ.cases_cons m) (λ k. many_some t lines line k e)
  where
    go : (line ≡ l) ⊎ Memᴰ line lines → (Memᴰ line lines → 0 < how_many t lines) → 0 < one (t l) + how_many t lines
    go (inl h) ih = rw (← h, e) (omega arith)
    go (inr k) ih = let s = ih k in omega arith

module _ (q : ℕ → List ℕ → ℕ) (t : List ℕ → Bool) (counts : (n : ℕ) (line : List ℕ) → q n line ≡ cap (n + one (t line))) where
  pub by_any : (lines : List (List ℕ)) → Reflects (Some t lines) (ltb 0 (gathered q 0 lines))
  by_any lines = rw (count_from q t counts 0 lines (omega arith)) (go (ltb 0 (cap (0 + how_many t lines))) refl)
    where
      go : (b : Bool) → ltb 0 (cap (0 + how_many t lines)) ≡ b → Reflects (Some t lines) b
      go true e = let h = ltb-true 0 (cap (0 + how_many t lines)) e in so (some_many t lines (omega arith))
      go false e = let h = ltb-false 0 (cap (0 + how_many t lines)) e in not_so (λ s. let m = many_some t lines s.line s.among s.passes in omega arith)

-- ---- states

cap_times : (a b : ℕ) → cap (cap a * b) ≡ cap (a * b)
cap_times a zero = rw (mul-zero (cap a), mul-zero a)
cap_times a (suc b) = go (leb a 65537) refl
  where
    go : (s : Bool) → leb a 65537 ≡ s → cap (cap a * suc b) ≡ cap (a * suc b)
    go true e = let h = leb-true a 65537 e in let m : cap a ≡ a = omega arith in rw m
    go false e =
        let h = leb-false a 65537 e in
        let m : cap a ≡ 65537 = omega arith in
        let x = mul-suc 65537 b in
        let y = mul-suc a b in
        rw m (omega arith)

pub states_from : (n : ℕ) (lines : List (List ℕ)) → n ≤ 65537 → gathered times_size n lines ≡ cap (n * states lines)
unfolding gathered of_kind
states_from n [] h = let e : n * 1 ≡ n = mul-one n in rw e (omega arith)
states_from n (line ∷ lines) h = go (eqb (kind_of line) 1) (λ m k. states_from m lines k)
  where
    go : (b : Bool) → ((m : ℕ) → m ≤ 65537 → gathered times_size m lines ≡ cap (m * states lines))
        → gathered times_size (cond b (cap (cap n * size_of line)) n) lines ≡ cap (n * product (map size_of (cond b (line ∷ of_kind 1 lines) (of_kind 1 lines))))
    go true ih =
        let e : cap n ≡ n = omega arith in
        ih (cap (cap n * size_of line)) (omega arith)
        ∙ rw e (cap_times (n * size_of line) (states lines) ∙ ap cap (mul_assoc n (size_of line) (states lines)))
    go false ih = ih n h

pub states_all : (lines : List (List ℕ)) → gathered times_size 1 lines ≡ cap (states lines)
states_all lines = states_from 1 lines (omega arith) ∙ ap cap (omega arith)
