-- The design that a desk's arrays hold is that of the lines put there, where these have no fault 4 and no fault 6 (`design_held`).
use Prim.Native.Nat.{ℕ, zero, suc, ◌+◌, ◌-◌, ◌≤◌, ◌<◌}
use mathlib.Core.Path.{◌≡◌, refl, sym, ap, subst, ◌∙◌}
use mathlib.Core.Bool.{Bool, true, false, cond}
use mathlib.Core.List.Memᴰ
use mathlib.Core.List.{List, [], ◌∷◌, ◌++◌, map, append_assoc, Memᴰ}
use native.Mathlib.Omega.{arith}
use borrow.Author.Tests.{eqb-true}
use lib.Dec.{eqb}
use lib.ListN.{length, get_or, take, drop, length-append, get_or-append}
use lib.Seq.{take-append_seam, drop-append_seam, get_or-append-add}
use Rattle.reader.specs.Text.{count_all}
use Rattle.kinds.specs.Kinds.{whole_text, entry_in, value, formula, n_values, n_formulas}
use Rattle.criteria.specs.Design.{Row}
use Rattle.criteria.specs.Step.{internal_rows}
use Rattle.design.specs.Line.{parameter_of, row_of, invariant_of, mapping_of, measure_value, marks_of}
use Rattle.design.specs.Lines.{kind_of, of_kind, the_line, count_of, counts_of, internal_of, design_of}
use Rattle.design.specs.Faults.{HasTerms, Terms, LineTerms}
use Rattle.design.specs.Loaded.{line_from, each_line_of, fields_held, starts_held, design_in}
use Rattle.design.proofs.Each.{EachLine, each_cons}
use Rattle.design.proofs.Fault4.{Layout}
use Rattle.design.proofs.WholeText.{in_order, Counted, counted, Exactly, AtLeast, exact_length, least_length, exactly_1, exactly_2, least_3, least_4, least_5, least_6, least_7, least_8}
use Rattle.design.proofs.Loaded.{each_same, each_map, line_then, later_fields}
use Rattle.design.proofs.Terms.{parameter_same, row_same, invariant_same, mapping_same, measure_same, marks_same}

-- line j is one of the lines
pub nth_among : (lines : List (List ℕ)) (j : ℕ) → j < length lines → Memᴰ (get_or lines j []) lines
nth_among [] j h = absurd (omega arith)
nth_among (line ∷ lines) zero h = Memᴰ.head refl
nth_among (line ∷ lines) (suc j) h = Memᴰ.tail (nth_among lines j (omega arith))

-- ---- the lines of a kind are lines, and of that kind

pub of_kind_lem : (k : ℕ) (lines : List (List ℕ)) → EachLine (λ line. (kind_of line ≡ k) × Memᴰ line lines) (of_kind k lines)
unfolding of_kind
of_kind_lem k [] = λ line m. absurd (Memᴰ.not-nil m)
of_kind_lem k (l ∷ lines) = go (eqb (kind_of l) k) refl (of_kind_lem k lines)
  where
    go : (is : Bool) → eqb (kind_of l) k ≡ is → EachLine (λ line. (kind_of line ≡ k) × Memᴰ line lines) (of_kind k lines)
        → EachLine (λ line. (kind_of line ≡ k) × Memᴰ line (l ∷ lines)) (cond is (l ∷ of_kind k lines) (of_kind k lines))
    go true e ih =
        each_cons (λ line. (kind_of line ≡ k) × Memᴰ line (l ∷ lines)) (eqb-true (kind_of l) k e, Memᴰ.head refl)
        (λ line m. ((ih line m).0, Memᴰ.tail (ih line m).1))
    go false e ih = λ line m. ((ih line m).0, Memᴰ.tail (ih line m).1)

-- ---- lines b that stand after lines a

module _ (lines a b c : List (List ℕ)) (split : lines ≡ a ++ (b ++ c)) where
  line_in : (i : ℕ) → i < length b → get_or lines (length a + i) [] ≡ get_or b i []
  line_in i h = rw (split, get_or-append-add a (b ++ c) i []) (get_or-append b c [] i h)

  inside_lines : length a + length b ≤ length lines
  inside_lines = rw (split, length-append a (b ++ c), length-append b c) (omega arith)

  part_of : take (length b) (drop (length a) lines) ≡ b
  part_of = rw (split, drop-append_seam a (b ++ c)) (take-append_seam b c)

-- ---- the design

module _ (lines : List (List ℕ)) (few : length lines ≤ 84) (fit : count_all lines ≤ 4096) where
  abbrev fields : List ℕ
  fields = fields_held lines

  abbrev starts : List ℕ
  starts = starts_held lines

  -- what lines b say, where it is the same with more behind them
  block : {A : Type 0} (says : List ℕ → A) (a b c : List (List ℕ)) → lines ≡ a ++ (b ++ c)
      → ((line : List ℕ) → Memᴰ line b → (more : List ℕ) → says (line ++ more) ≡ says line)
      → each_line_of says (line_from fields starts) (length b) (length a) ≡ map says b
  block says a b c split same =
      each_same says says (line_from fields starts) (λ j. get_or lines j []) (length b) (length a) here
      ∙ (each_map says lines (length b) (length a) (inside_lines lines a b c split) ∙ ap (map says) (part_of lines a b c split))
    where
      here : (j : ℕ) → length a ≤ j → j < length a + length b → says (line_from fields starts j) ≡ says (get_or lines j [])
      here j l u =
          let h = inside_lines lines a b c split in
          let i : ℕ = j - length a in
          let at : length a + i ≡ j = omega arith in
          let is : get_or lines j [] ≡ get_or b i [] = ap (λ k. get_or lines k []) (sym at) ∙ line_in lines a b c split i (omega arith) in
          rw (line_then lines few fit j (omega arith), is) (same (get_or b i []) (nth_among b i (omega arith)) (later_fields lines j))

  -- what the one line b says
  single : {A : Type 0} (says : List ℕ → A) (a b c : List (List ℕ)) → lines ≡ a ++ (b ++ c) → length b ≡ 1
      → ((line : List ℕ) → Memᴰ line b → (more : List ℕ) → says (line ++ more) ≡ says line)
      → says (line_from fields starts (length a)) ≡ says (get_or b 0 [])
  single says a b c split one same =
      let h = inside_lines lines a b c split in
      let at : length a + 0 ≡ length a = omega arith in
      let is : get_or lines (length a) [] ≡ get_or b 0 [] = ap (λ k. get_or lines k []) (sym at) ∙ line_in lines a b c split 0 (omega arith) in
      rw (line_then lines few fit (length a) (omega arith), is) (same (get_or b 0 []) (nth_among b 0 (omega arith)) (later_fields lines (length a)))

-- ---- how many rows are internal shows in their lines' actions

abbrev action_in : List ℕ → ℕ
action_in line = get_or line 1 0

zeros_in : List ℕ → ℕ
zeros_in [] = 0
zeros_in (a ∷ actions) = let n = zeros_in actions in cond (eqb a 0) (suc n) n

zeros_each : (n : ℕ) (l : ℕ → List ℕ) (c i : ℕ) → internal_rows (each_line_of (row_of n) l c i) ≡ zeros_in (each_line_of action_in l c i)
unfolding internal_rows each_line_of zeros_in
zeros_each n l zero i = refl
zeros_each n l (suc c) i = rw (zeros_each n l c (suc i))

zeros_map : (n : ℕ) (ls : List (List ℕ)) → internal_rows (map (row_of n) ls) ≡ zeros_in (map action_in ls)
unfolding internal_rows zeros_in
zeros_map n [] = refl
zeros_map n (l ∷ ls) = rw (zeros_map n ls)

-- a line of a kind with terms is made of them
abbrev pub TermsFit : List (List ℕ) → Type 0
TermsFit lines = EachLine (λ line. HasTerms (kind_of line) → LineTerms (count_of 1 lines) (count_of 2 lines) (internal_of lines) line (kind_of line)) lines

-- which these are, by the kind
module _ (lines : List (List ℕ)) (made : TermsFit lines) (line : List ℕ) where
  abbrev own : ℕ
  own = count_of 1 lines

  abbrev theirs : ℕ
  theirs = count_of 2 lines

  abbrev internal : ℕ
  internal = internal_of lines

  made_of : (k : ℕ) → HasTerms k → Memᴰ line (of_kind k lines) → LineTerms own theirs internal line k
  made_of k h m =
      let o = of_kind_lem k lines line m in
      subst (LineTerms own theirs internal line) o.0 (made line o.1 (subst HasTerms (sym o.0) h))

  pub row_terms : Memᴰ line (of_kind 3 lines) → Terms own true (formula ∷ value ∷ n_values own) (drop 3 line)
  unfolding entry_in
  row_terms m = made_of 3 refl m

  pub spec_terms : Memᴰ line (of_kind 4 lines) → Terms theirs true (formula ∷ value ∷ n_values theirs) (drop 3 line)
  unfolding entry_in
  spec_terms m = made_of 4 refl m

  pub invariant_terms : Memᴰ line (of_kind 5 lines) → Terms own false (formula ∷ []) (drop 1 line)
  unfolding entry_in
  invariant_terms m = made_of 5 refl m

  pub mapping_terms : Memᴰ line (of_kind 6 lines) → Terms own false (n_values theirs) (drop 1 line)
  unfolding entry_in
  mapping_terms m = made_of 6 refl m

  pub measure_terms : Memᴰ line (of_kind 7 lines) → Terms own false (value ∷ []) (drop 1 line)
  unfolding entry_in
  measure_terms m = made_of 7 refl m

  pub marks_terms : Memᴰ line (of_kind 8 lines) → Terms own true (n_formulas internal) (drop 1 line)
  unfolding entry_in
  marks_terms m = made_of 8 refl m

-- and how many fields a line has
module _ {lines : List (List ℕ)} (lay : Layout whole_text lines) (k n : ℕ) (line : List ℕ) (m : Memᴰ line (of_kind k lines)) where
  pub exactly : Exactly k n → length line ≡ n
  exactly x = let o = of_kind_lem k lines line m in exact_length lay k n line o.1 o.0 x

  pub at_least : AtLeast k n → n ≤ length line
  at_least x = let o = of_kind_lem k lines line m in least_length lay k n line o.1 o.0 x

module _ (lines : List (List ℕ)) (few : length lines ≤ 84) (fit : count_all lines ≤ 4096) (lay : Layout whole_text lines) where
  -- the lines of each kind, and those before them
  abbrev k : ℕ → List (List ℕ)
  k i = of_kind i lines

  abbrev before3 : List (List ℕ)
  before3 = k 1 ++ k 2

  abbrev before4 : List (List ℕ)
  before4 = before3 ++ k 3

  abbrev before5 : List (List ℕ)
  before5 = before4 ++ k 4

  abbrev before6 : List (List ℕ)
  before6 = before5 ++ k 5

  abbrev before7 : List (List ℕ)
  before7 = before6 ++ k 6

  abbrev before8 : List (List ℕ)
  before8 = before7 ++ k 7

  split2 : lines ≡ k 1 ++ (k 2 ++ (k 3 ++ (k 4 ++ (k 5 ++ (k 6 ++ (k 7 ++ (k 8 ++ [])))))))
  split2 = sym (in_order lay.kinds)

  split3 : lines ≡ before3 ++ (k 3 ++ (k 4 ++ (k 5 ++ (k 6 ++ (k 7 ++ (k 8 ++ []))))))
  split3 = split2 ∙ sym (append_assoc (k 1) (k 2) _)

  split4 : lines ≡ before4 ++ (k 4 ++ (k 5 ++ (k 6 ++ (k 7 ++ (k 8 ++ [])))))
  split4 = split3 ∙ sym (append_assoc before3 (k 3) _)

  split5 : lines ≡ before5 ++ (k 5 ++ (k 6 ++ (k 7 ++ (k 8 ++ []))))
  split5 = split4 ∙ sym (append_assoc before4 (k 4) _)

  split6 : lines ≡ before6 ++ (k 6 ++ (k 7 ++ (k 8 ++ [])))
  split6 = split5 ∙ sym (append_assoc before5 (k 5) _)

  split7 : lines ≡ before7 ++ (k 7 ++ (k 8 ++ []))
  split7 = split6 ∙ sym (append_assoc before6 (k 6) _)

  split8 : lines ≡ before8 ++ (k 8 ++ [])
  split8 = split7 ∙ sym (append_assoc before7 (k 7) _)

  one : Counted lines
  one = counted lay

  -- where the lines of a kind start
  at3 : length before3 ≡ length (k 1) + length (k 2)
  at3 = length-append (k 1) (k 2)

  at4 : length before4 ≡ length (k 1) + length (k 2) + length (k 3)
  at4 = length-append before3 (k 3) ∙ ap (λ n. n + length (k 3)) at3

  at5 : length before5 ≡ length (k 1) + length (k 2) + length (k 3) + length (k 4)
  at5 = length-append before4 (k 4) ∙ ap (λ n. n + length (k 4)) at4

  at6 : length before6 ≡ length (k 1) + length (k 2) + length (k 3) + length (k 4) + 1
  at6 = length-append before5 (k 5) ∙ rw (at5, one.kind5)

  at7 : length before7 ≡ length (k 1) + length (k 2) + length (k 3) + length (k 4) + 2
  at7 = length-append before6 (k 6) ∙ rw (at6, one.kind6) (omega arith)

  at8 : length before8 ≡ length (k 1) + length (k 2) + length (k 3) + length (k 4) + 3
  at8 = length-append before7 (k 7) ∙ rw (at7, one.kind7) (omega arith)

  abbrev line : ℕ → List ℕ
  line i = line_from (fields_held lines) (starts_held lines) i

  abbrev n : ℕ
  n = count_of 1 lines

  abbrev m : ℕ
  m = count_of 2 lines

  pub parameters1 : each_line_of parameter_of line n 0 ≡ map parameter_of (k 1)
  parameters1 = block lines few fit parameter_of [] (k 1) _ split2 (λ l h more. parameter_same l more (exactly lay 1 3 l h exactly_1))

  parameters2 : each_line_of parameter_of line m n ≡ map parameter_of (k 2)
  parameters2 = block lines few fit parameter_of (k 1) (k 2) _ split2 (λ l h more. parameter_same l more (exactly lay 2 3 l h exactly_2))

  -- whether or not their terms are right
  pub internal3 : internal_rows (each_line_of (row_of n) line (length (k 3)) (n + m)) ≡ internal_of lines
  internal3 =
      zeros_each n line (length (k 3)) (n + m)
      ∙ ap zeros_in
      (ap (λ at. each_line_of action_in line (length (k 3)) at) (sym at3)
      ∙ block lines few fit action_in before3 (k 3) _ split3
      (λ l h more. let long = at_least lay 3 3 l h least_3 in get_or-append l more 0 1 (omega arith)))
      ∙ sym (zeros_map n (k 3))

  rows3 : TermsFit lines → each_line_of (row_of n) line (length (k 3)) (n + m) ≡ map (row_of n) (k 3)
  rows3 made =
      ap (λ at. each_line_of (row_of n) line (length (k 3)) at) (sym at3)
      ∙ block lines few fit (row_of n) before3 (k 3) _ split3
      (λ l h. row_same n l (at_least lay 3 3 l h least_3) (row_terms lines made l h))

  rows4 : TermsFit lines → each_line_of (row_of m) line (length (k 4)) (n + m + length (k 3)) ≡ map (row_of m) (k 4)
  rows4 made =
      ap (λ at. each_line_of (row_of m) line (length (k 4)) at) (sym at4)
      ∙ block lines few fit (row_of m) before4 (k 4) _ split4
      (λ l h. row_same m l (at_least lay 4 3 l h least_4) (spec_terms lines made l h))

  line5 : TermsFit lines → invariant_of (line (n + m + length (k 3) + length (k 4))) ≡ invariant_of (the_line 5 lines)
  line5 made =
      ap (λ at. invariant_of (line at)) (sym at5)
      ∙ single lines few fit invariant_of before5 (k 5) _ split5 one.kind5
      (λ l h. invariant_same n l (at_least lay 5 1 l h least_5) (invariant_terms lines made l h))

  line6 : TermsFit lines → mapping_of m (line (n + m + length (k 3) + length (k 4) + 1)) ≡ mapping_of m (the_line 6 lines)
  line6 made =
      ap (λ at. mapping_of m (line at)) (sym at6)
      ∙ single lines few fit (mapping_of m) before6 (k 6) _ split6 one.kind6
      (λ l h. mapping_same n l (at_least lay 6 1 l h least_6) m (mapping_terms lines made l h))

  line7 : TermsFit lines → measure_value (line (n + m + length (k 3) + length (k 4) + 2)) ≡ measure_value (the_line 7 lines)
  line7 made =
      ap (λ at. measure_value (line at)) (sym at7)
      ∙ single lines few fit measure_value before7 (k 7) _ split7 one.kind7
      (λ l h. measure_same n l (at_least lay 7 1 l h least_7) (measure_terms lines made l h))

  -- the rows of the implementation, and what the marks' line says of them
  abbrev rows_held : List Row
  rows_held = each_line_of (row_of n) line (length (k 3)) (n + m)

  line8 : TermsFit lines
      → each_line_of (marks_of (internal_rows rows_held)) line (length (k 8)) (n + m + length (k 3) + length (k 4) + 3) ≡ map (marks_of (internal_of lines)) (k 8)
  line8 made =
      let i : ℕ = internal_of lines in
      ap (λ (rows : List Row). each_line_of (marks_of (internal_rows rows)) line (length (k 8)) (n + m + length (k 3) + length (k 4) + 3)) (rows3 made)
      ∙ ap (λ at. each_line_of (marks_of i) line (length (k 8)) at) (sym at8)
      ∙ block lines few fit (marks_of i) before8 (k 8) _ split8
      (λ l h. marks_same n l (at_least lay 8 1 l h least_8) i (marks_terms lines made l h))

  -- the design that the arrays hold is that of the lines
  pub design_held : TermsFit lines → design_in (fields_held lines) (starts_held lines) (counts_of lines) ≡ design_of lines
  unfolding design_of
  design_held made i = record {
    impl = record { parameters = parameters1 i; rows = rows3 made i };
    spec = record { parameters = parameters2 i; rows = rows4 made i };
    invariant = line5 made i;
    mapping = line6 made i;
    measure = line7 made i;
    marks = line8 made i;
  }
