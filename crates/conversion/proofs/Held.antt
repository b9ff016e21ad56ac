-- Of a design text in a desk's arrays: where the line of marks stands, how many rows are internal, and whether each formula of that line is
-- `10`, in the words of the design.
use Prim.Native.Nat.{ℕ, zero, suc, ◌+◌, ◌-◌, ◌≤◌, ◌<◌}
use mathlib.Core.Path.{◌≡◌, refl, sym, ap, ◌∙◌}
use mathlib.Core.Bool.{Bool, true, false, ◌&&◌, true≢false}
use mathlib.Core.List.{List, [], ◌∷◌, ◌++◌, map, nil≢cons, Memᴰ}
use native.Mathlib.Omega.{arith}
use borrow.Author.Tests.{eq-eqb, ne_eqb}
use lib.Dec.{eqb}
use lib.ListN.{length, get_or, take, drop, replicate, length-append, length-replicate}
use lib.Seq.{drop-cons, drop-drop, take-append_seam, take-length, get_or-append-add, length-sets}
use Rattle.terms.specs.Tree.{Formula, const, compare, negation, join, no_formula, ok_f}
use Rattle.terms.specs.Print.{print_f}
use Rattle.terms.specs.declared.Compare.TheVariants.{Equal, Less}
use Rattle.terms.specs.declared.Join.TheVariants.{And, Or}
use Rattle.reader.specs.Text.{fields_by_line, count_all}
use Rattle.kinds.specs.Kinds.{n_formulas}
use Rattle.criteria.specs.Design.{Design, with_marks}
use Rattle.criteria.specs.Step.{internal_rows}
use Rattle.design.specs.Line.{formulas_in, marks_of}
use Rattle.design.specs.Lines.{of_kind, count_of, counts_of, internal_of, design_of, design_text}
use Rattle.design.specs.Faults.{Terms}
use Rattle.design.specs.Print.{print_formulas, line_of_marks, print_lines}
use Rattle.design.specs.Loaded.{line_at, joined, fields_held, starts_held, sections}
use Rattle.design.specs.declared.Shape.{Shape}
use Rattle.design.proofs.Terms.{first_formula, no_terms}
use Rattle.design.proofs.Reprinted.{formula_at, formula_next, marks8}
use Rattle.design.proofs.Printed.{length-map, marks_last}
use Rattle.design.proofs.WholeText.{counted}
use Rattle.design.proofs.Held.{marks_terms}
use Rattle.design.proofs.Loaded.{starts_are, line_held}
use Rattle.layout.specs.Sizes.{shape_of}
use Rattle.marks.specs.Marks.{internal_in}
use Rattle.loader.specs.Load.{fault_of}
use Rattle.loader.proofs.Loading.{all_lines}
use Rattle.loader.proofs.Passed.{lay, made, few, fits, lines_printed, design_in_lem, counts_allowed_lem}
use Rattle.conversion.specs.Answer.{true_b, every}
use Rattle.true_marks.specs.Tens.{tens, tens_from, tens_in}

-- no line of marks, or one
pub data NoneOrOne (lines : List (List ℕ)) : Type 0 where
  none : of_kind 8 lines ≡ [] → NoneOrOne lines
  one : (line : List ℕ) → of_kind 8 lines ≡ line ∷ [] → NoneOrOne lines

module _ (text : List ℕ) (ok : fault_of text ≡ 0) where
  abbrev pub lines : List (List ℕ)
  lines = fields_by_line text

  abbrev pub d : Design
  d = design_text text

  -- the lines before that of the marks
  abbrev pub front : List (List ℕ)
  front = print_lines (with_marks d [])

  abbrev pub shape : Shape
  shape = shape_of (counts_of lines)

  -- it stands last
  pub lines_are : lines ≡ front ++ of_kind 8 lines
  unfolding design_of
  lines_are = sym (lines_printed text ok) ∙ marks_last d d.marks ∙ ap (λ r. front ++ r) (marks8 lines (lay text ok) (made text ok))

  shape_is : shape ≡ sections (counts_of lines)
  unfolding shape_of
  shape_is = rw (counts_allowed_lem text ok)

  -- a text has one line of marks at most
  pub none_or_one : NoneOrOne lines
  none_or_one = go (of_kind 8 lines) refl
    where
      go : (k8 : List (List ℕ)) → of_kind 8 lines ≡ k8 → NoneOrOne lines
      go [] e = none e
      go (line ∷ []) e = one line e
      go (a ∷ b ∷ more) e =
          let c = (counted (lay text ok)).kind8 in
          let k : count_of 8 lines ≡ suc (suc (length more)) = ap length e in
          absurd (omega arith)

  -- what it says, and how many there are
  pub marks_are : d.marks ≡ map (marks_of (internal_of lines)) (of_kind 8 lines)
  unfolding design_of
  marks_are = refl

  pub marks_count : shape.marks.count ≡ length d.marks
  unfolding design_of
  marks_count = rw shape_is (sym (length-map _ (of_kind 8 lines)))

  all_length : length lines ≡ length front + count_of 8 lines
  all_length = ap length lines_are ∙ length-append front (of_kind 8 lines)

  -- as many lines stand before it
  pub front_length : shape.marks.first ≡ length front
  front_length =
      let c = counted (lay text ok) in
      let all = all_lines lines (lay text ok) in
      let split = all_length in
      let h5 = c.kind5 in
      let h6 = c.kind6 in
      let h7 = c.kind7 in
      rw shape_is (omega arith)

  -- with the line of marks, if there is one, these are all
  pub all_counted : length lines ≡ shape.marks.first + shape.marks.count
  all_counted = all_length ∙ rw (front_length, shape_is)

  -- there is room for one
  pub first_most : shape.marks.first < 84
  first_most =
      let c = counted (lay text ok) in
      let h1 = c.kind1.1 in
      let h2 = c.kind2.1 in
      let h3 = c.kind3 in
      let h4 = c.kind4 in
      rw shape_is (omega arith)

  pub one_most : shape.marks.count ≤ 1
  one_most = rw shape_is (counted (lay text ok)).kind8

  pub internal_is : internal_in (fields_held lines) (starts_held lines) shape.implementation shape.implementation.rows.count
      ≡ internal_rows d.impl.rows
  unfolding internal_in
  internal_is = rw shape_is (ap (λ (x : Design). internal_rows x.impl.rows) (design_in_lem text ok))

  -- where the line of marks starts, or the text ends
  pub marks_start : get_or (starts_held lines) (length front) 0 ≡ count_all front
  marks_start =
      let split = all_length in
      starts_are lines (few text ok) (fits text ok) (length front) (omega arith)
      ∙ ap count_all (ap (take (length front)) lines_are ∙ take-append_seam front (of_kind 8 lines))

-- ---- fields that are all 10

tens_of : List ℕ → Bool
tens_of [] = true
tens_of (n ∷ fields) = eqb n 10 && tens_of fields

-- in an array
tens_in_lem : (fields : List ℕ) (at n : ℕ) → at + n ≤ length fields → tens fields at n ≡ tens_of (take n (drop at fields))
unfolding tens tens_of
tens_in_lem fields at zero h = refl
tens_in_lem fields at (suc n) h =
    rw (drop-cons fields at 0 (omega arith)) (ap (λ r. eqb (get_or fields at 0) 10 && r) (tens_in_lem fields (suc at) n (omega arith)))

-- a formula's fields are all 10 exactly if it is `10`
tens_formula : (n : ℕ) (row : Bool) (f : Formula) (later : List ℕ) → ok_f f n row ≡ true → tens_of (print_f f ++ later) ≡ (true_b f && tens_of later)
unfolding tens_of print_f ok_f
tens_formula n row (const true) later ok = refl
tens_formula n row (const false) later ok = refl
tens_formula n row (compare Equal x y) later ok = refl
tens_formula n row (compare Less x y) later ok = refl
tens_formula n row (negation f) later ok = refl
tens_formula n row (join And f g) later ok = refl
tens_formula n row (join Or f g) later ok = refl
tens_formula n row no_formula later ok = absurd (true≢false (sym ok))

tens_formulas : {n : ℕ} {row : Bool} (k : ℕ) {fields : List ℕ} → Terms n row (n_formulas k) fields → tens_of fields ≡ every true_b (formulas_in k fields)
unfolding formulas_in every tens_of
tens_formulas zero t = rw (no_terms t)
tens_formulas {n} {row} (suc k) t =
    let f = first_formula t in
    rw (formula_at f, formula_next f)
    (ap tens_of f.split ∙ tens_formula n row f.tree f.later f.well_formed ∙ ap (λ r. true_b f.tree && r) (tens_formulas k f.terms))

-- ---- those of the line of marks

-- what stands behind the first of n fields: one of them is that first
record Behind (fields : List ℕ) (at n : ℕ) (line : List ℕ) : Type 0 where
  some : 1 ≤ n
  are : take (n - 1) (drop (at + 1) fields) ≡ line

behind : (fields : List ℕ) (at n k : ℕ) (line : List ℕ) → take n (drop at fields) ≡ k ∷ line → Behind fields at n line
behind fields at zero k line e = absurd (nil≢cons e)
behind fields at (suc n) k line e =
    let one : suc n - 1 ≡ n = omega arith in
    record { some = omega arith; are = rw one (ap (take n) (sym (drop-drop 1 at fields)) ∙ later (drop at fields) e) }
  where
    later : (l : List ℕ) → take (suc n) l ≡ k ∷ line → take n (drop 1 l) ≡ line
    later [] q = absurd (nil≢cons q)
    later (x ∷ xs) q = ap (drop 1) q

module _ (text : List ℕ) (ok : fault_of text ≡ 0) where
  abbrev L : List (List ℕ)
  L = lines text ok

  abbrev n : ℕ
  n = length (front text ok)

  -- the one line of marks
  module _ (line : List ℕ) (e : of_kind 8 L ≡ line ∷ []) where
    abbrev formulas : List Formula
    formulas = marks_of (internal_of L) line

    line_is : line ≡ line_of_marks formulas
    line_is = ap (λ (r : List (List ℕ)). get_or r 0 []) (sym (rw e at (marks8 L (lay text ok) (made text ok))))

    all_lines_are : length L ≡ n + 1
    all_lines_are = ap length (lines_are text ok) ∙ length-append (front text ok) (of_kind 8 L) ∙ ap (λ (r : List (List ℕ)). n + length r) e

    held : line_at (fields_held L) (starts_held L) n ≡ 8 ∷ print_formulas formulas
    held =
        let at : n + 0 ≡ n = omega arith in
        line_held L (few text ok) (fits text ok) n (omega (arith, all_lines_are))
        ∙ (ap (λ (r : List (List ℕ)). get_or r n []) (lines_are text ok ∙ ap (λ r. front text ok ++ r) e)
        ∙ (ap (λ (i : ℕ). get_or (front text ok ++ line ∷ []) i []) (sym at) ∙ (get_or-append-add (front text ok) (line ∷ []) 0 [] ∙ line_is)))

    last : get_or (starts_held L) (n + 1) 0 ≤ 4096
    last =
        let s = starts_are L (few text ok) (fits text ok) (n + 1) (omega (arith, all_lines_are)) in
        let whole : take (n + 1) L ≡ L = ap (λ (i : ℕ). take i L) (sym all_lines_are) ∙ take-length L in
        let c : count_all (take (n + 1) L) ≡ count_all L = ap count_all whole in
        omega (arith, fits text ok)

    fields_length : length (fields_held L) ≡ 4096
    unfolding fields_held
    fields_length = length-sets (replicate 4096 0) 0 (joined L) ∙ length-replicate {A = ℕ} 4096 0

    line_tens : tens_from (fields_held L) (get_or (starts_held L) n 0 + 1) (get_or (starts_held L) (n + 1) 0) ≡ every true_b formulas
    line_tens =
        let from : ℕ = get_or (starts_held L) n 0 in
        let to : ℕ = get_or (starts_held L) (n + 1) 0 in
        let b = behind (fields_held L) from (to - from) 8 (print_formulas formulas) held in
        let some = b.some in
        let count : to - (from + 1) ≡ to - from - 1 = omega arith in
        let long : length (fields_held L) ≡ 4096 = fields_length in
        let m : Memᴰ line (of_kind 8 L) = rw e (mathlib.Core.List.Memᴰ.head refl) in
        tens_in_lem (fields_held L) (from + 1) (to - (from + 1)) (omega (arith, last))
        ∙ (ap tens_of (ap (λ (k : ℕ). take k (drop (from + 1) (fields_held L))) count ∙ (b.are ∙ ap (drop 1) (sym line_is)))
        ∙ tens_formulas (internal_of L) (marks_terms L (made text ok) line m))

  pub marks_tens : tens_in (fields_held L) (starts_held L) (shape text ok) ≡ every (every true_b) (d text ok).marks
  unfolding tens_in every
  marks_tens = go (none_or_one text ok)
    where
      and_yes : (b : Bool) → b ≡ (b && true)
      and_yes true = refl
      and_yes false = refl

      go : NoneOrOne L → tens_in (fields_held L) (starts_held L) (shape text ok) ≡ every (every true_b) (d text ok).marks
      go (none e) =
          let no_marks : (d text ok).marks ≡ [] = marks_are text ok ∙ ap (map (marks_of (internal_of L))) e in
          rw (eq-eqb (shape text ok).marks.count 0 (marks_count text ok ∙ ap length no_marks), no_marks)
      go (one line e) =
          let marks : (d text ok).marks ≡ formulas line e ∷ [] = marks_are text ok ∙ ap (map (marks_of (internal_of L))) e in
          let count : (shape text ok).marks.count ≡ 1 = marks_count text ok ∙ ap length marks in
          rw (ne_eqb (shape text ok).marks.count 0 (λ z. omega arith), front_length text ok, marks)
          (line_tens line e ∙ and_yes (every true_b (formulas line e)))
