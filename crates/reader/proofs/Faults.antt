-- `columns_fault` computes the lowest of the faults 1, 2 and 3 of a text (`columns_lowest`), each of which is what specs/Text says
-- (`fault_2`, `fault_3`); where 3 is absent, a text's fields are at most 4,096 in all (`most_in_all`).
use Prim.Native.Nat.{ℕ, ◌*◌, ◌<◌, ◌≤◌}
use mathlib.Core.Path.{◌≡◌, refl, sym, ap, ◌∙◌}
use mathlib.Core.Logic.{◌≢◌, ◌↔◌, ◌⊎◌, inl, inr}
use mathlib.Core.Bool.{Bool, true, false, cond, not, ◌||◌, or-true, true≢false, false≢true}
use mathlib.Core.List.Memᴰ
use mathlib.Core.List.{List, [], ◌∷◌, append-nil, Memᴰ}
use native.Mathlib.Omega.{arith}
use borrow.Author.Tests.{lt-ltb, eq-eqb, ne_eqb, eqb-true, eqb-false, ltb-true, ltb-false, not-true}
use lib.Dec.{eqb, ltb}
use lib.ListN.{length}
use lib.Seq.{take_all}
use Rattle.reader.specs.Line.{written, Each16, IsLine, fields_from, fields_of}
use Rattle.reader.specs.Text.{lines_of, last_of, fields_by_line, count_all, Fault1, Fault2, broken, unended, Fault3, long_line_lem, many, ColumnsFault, first, second, third, free, is_line, any_line, fault2, fault3, lines_fault, columns_fault}
use Rattle.columns.proofs.Columns.{and_left, and_right}
use Rattle.reader.proofs.Line.{fields_written, begins}
use Rattle.reader.proofs.Text.{length_written}

-- ---- a line of whole fields

pub whole_fields : (line : List ℕ) → is_line line ≡ true → line ≡ written (fields_of line)
unfolding is_line
whole_fields line h =
    let n = length (fields_of line) in
    let l : 6 * n ≡ length line = eqb-true (6 * n) (length line) (and_left (eqb (6 * n) (length line)) (ltb 0 n) h) in
    sym (take_all (6 * n) line (omega arith)) ∙ (begins line).prefix

pub is_line_lem : (line : List ℕ) → is_line line ≡ true → IsLine line
unfolding is_line
is_line_lem line h =
    let n = length (fields_of line) in
    let some : 0 < n = ltb-true 0 n (and_right (eqb (6 * n) (length line)) (ltb 0 n) h) in
    record {
      fields = fields_of line;
      each = (begins line).each;
      some = λ e. let z : n ≡ 0 = ap length e in omega arith;
      whole = whole_fields line h;
    }

not_none : (ns : List ℕ) → ns ≢ [] → 0 < length ns
not_none [] some = absurd (some refl)
not_none (n ∷ ns) some = omega arith

-- the fields of what is written
pub fields_of_line : (ns : List ℕ) → Each16 ns → fields_of (written ns) ≡ ns
unfolding fields_of fields_from
fields_of_line ns each = ap fields_of (sym (append-nil (written ns))) ∙ (fields_written ns [] each ∙ append-nil ns)

pub line_is : (line : List ℕ) → IsLine line → is_line line ≡ true
unfolding is_line
line_is line i =
    let ns = i.fields in
    let fields : fields_of line ≡ ns = ap fields_of i.whole ∙ fields_of_line ns i.each in
    let l : length line ≡ 6 * length ns = ap length i.whole ∙ length_written ns in
    rw (fields, l, eq-eqb (6 * length ns) (6 * length ns) refl, lt-ltb 0 (length ns) (not_none ns i.some))

-- ---- some line has a property

any_some : (test : List ℕ → Bool) (lines : List (List ℕ)) (line : List ℕ) → Memᴰ line lines → test line ≡ true → any_line test lines ≡ true
unfolding any_line
any_some test [] line m e = absurd (Memᴰ.not-nil m)
any_some test (l ∷ lines) line m e = go (Memᴰ.cases_cons m) (λ n. any_some test lines line n e)
  where
    go : (line ≡ l) ⊎ Memᴰ line lines → (Memᴰ line lines → any_line test lines ≡ true) → (test l || any_line test lines) ≡ true
    go (inl h) ih = rw (← h, e)
    go (inr h) ih = rw (ih h, or-true)

-- the line that it is
record Some (test : List ℕ → Bool) (lines : List (List ℕ)) : Type 0 where
  line : List ℕ
  among : Memᴰ line lines
  has : test line ≡ true

some_by : (test : List ℕ → Bool) (l : List ℕ) (lines : List (List ℕ)) (here : Bool) → test l ≡ here → (here || any_line test lines) ≡ true
    → (any_line test lines ≡ true → Some test lines) → Some test (l ∷ lines)
some_by test l lines true e h ih = record { line = l; among = Memᴰ.head refl; has = e }
some_by test l lines false e h ih = let s = ih h in record { line = s.line; among = Memᴰ.tail s.among; has = s.has }

some_any : (test : List ℕ → Bool) (lines : List (List ℕ)) → any_line test lines ≡ true → Some test lines
unfolding any_line
some_any test [] h = absurd (false≢true h)
some_any test (l ∷ lines) h = some_by test l lines _ refl h (some_any test lines)

-- ---- fault 2

or_cases : (a b : Bool) → (a || b) ≡ true → (a ≡ true) ⊎ (b ≡ true)
or_cases true b h = inl refl
or_cases false b h = inr h

not_false_of : (a : Bool) → (a ≡ true → ⊥) → not a ≡ true
not_false_of true h = absurd (h refl)
not_false_of false h = refl

pub fault_2 : (text : List ℕ) → (fault2 text ≡ true) ↔ Fault2 text
unfolding fault2
fault_2 text = (to, from)
  where
    by : (any_line (λ line. not (is_line line)) (lines_of text) ≡ true) ⊎ (not (eqb (last_of 10 text) 10) ≡ true) → Fault2 text
    by (inl h) =
        let s = some_any (λ line. not (is_line line)) (lines_of text) h in
        broken s.among (λ i. true≢false (sym (line_is s.line i) ∙ not-true (is_line s.line) s.has))
    by (inr h) = unended (eqb-false (last_of 10 text) 10 (not-true (eqb (last_of 10 text) 10) h))

    to : (any_line (λ line. not (is_line line)) (lines_of text) || not (eqb (last_of 10 text) 10)) ≡ true → Fault2 text
    to h = by (or_cases _ _ h)

    from : Fault2 text → (any_line (λ line. not (is_line line)) (lines_of text) || not (eqb (last_of 10 text) 10)) ≡ true
    from (broken {line = line} m b) =
        rw (any_some (λ l. not (is_line l)) (lines_of text) line m (not_false_of (is_line line) (λ e. b (is_line_lem line e))))
    from (unended h) = rw (ne_eqb (last_of 10 text) 10 h, or-true)

-- ---- fault 3

pub fault_3 : (text : List ℕ) → (fault3 text ≡ true) ↔ Fault3 text
unfolding fault3
fault_3 text = (to, from)
  where
    by : (any_line (λ fields. ltb 256 (length fields)) (fields_by_line text) ≡ true) ⊎ (ltb 4096 (count_all (fields_by_line text)) ≡ true) → Fault3 text
    by (inl h) =
        let s = some_any (λ fields. ltb 256 (length fields)) (fields_by_line text) h in
        long_line_lem s.among (ltb-true 256 (length s.line) s.has)
    by (inr h) = many (ltb-true 4096 (count_all (fields_by_line text)) h)

    to : (any_line (λ fields. ltb 256 (length fields)) (fields_by_line text) || ltb 4096 (count_all (fields_by_line text))) ≡ true → Fault3 text
    to h = by (or_cases _ _ h)

    from : Fault3 text → (any_line (λ fields. ltb 256 (length fields)) (fields_by_line text) || ltb 4096 (count_all (fields_by_line text))) ≡ true
    from (long_line_lem {fields = fields} m l) =
        rw (any_some (λ f. ltb 256 (length f)) (fields_by_line text) fields m (lt-ltb 256 (length fields) l))
    from (many l) = rw (lt-ltb 4096 (count_all (fields_by_line text)) l, or-true)

-- ---- the lowest

absent : {P : Type 0} (test : Bool) → (test ≡ true) ↔ P → test ≡ false → P → ⊥
absent test iff e p = true≢false (sym (iff.1 p) ∙ e)

lowest_by : (text : List ℕ) (a b c : Bool) → ltb 28672 (length text) ≡ a → fault2 text ≡ b → fault3 text ≡ c
    → ColumnsFault text (cond a 1 (cond b 2 (cond c 3 0)))
lowest_by text true b c ea eb ec = first (ltb-true 28672 (length text) ea)
lowest_by text false true c ea eb ec =
    second (let h = ltb-false 28672 (length text) ea in λ f. omega arith) ((fault_2 text).0 eb)
lowest_by text false false true ea eb ec =
    third (let h = ltb-false 28672 (length text) ea in λ f. omega arith) (absent (fault2 text) (fault_2 text) eb) ((fault_3 text).0 ec)
lowest_by text false false false ea eb ec =
    free (let h = ltb-false 28672 (length text) ea in λ f. omega arith) (absent (fault2 text) (fault_2 text) eb) (absent (fault3 text) (fault_3 text) ec)

pub columns_lowest : (text : List ℕ) → ColumnsFault text (columns_fault text)
unfolding columns_fault lines_fault
columns_lowest text = lowest_by text _ _ _ refl refl refl

-- none is in a text of which `columns_fault` is 0
pub record ColumnsFree (text : List ℕ) : Type 0 where
  pub first : Fault1 text → ⊥
  pub second : Fault2 text → ⊥
  pub third : Fault3 text → ⊥

free_by : {text : List ℕ} {k : ℕ} → ColumnsFault text k → k ≡ 0 → ColumnsFree text
free_by (first f) e = absurd (omega arith)
free_by (second a f) e = absurd (omega arith)
free_by (third a b f) e = absurd (omega arith)
free_by (free a b c) e = record { first = a; second = b; third = c }

pub columns_free : (text : List ℕ) → columns_fault text ≡ 0 → ColumnsFree text
columns_free text e = free_by (columns_lowest text) e

-- ---- the bounds where 3 is absent

pub most_in_all : (text : List ℕ) → (Fault3 text → ⊥) → count_all (fields_by_line text) ≤ 4096
most_in_all text none = let h : 4096 < count_all (fields_by_line text) → ⊥ = λ l. none (many l) in omega arith
