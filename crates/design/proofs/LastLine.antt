-- A design with other marks, or none, is printed as the same lines but the last: where the lines printed before are faultless, so are these
-- (`faultless_other`), and they say the design with those marks (`design_other`).
use Prim.Native.Nat.{ℕ, suc, ◌≤◌}
use mathlib.Core.Path.{◌≡◌, refl, sym, ap, ◌∙◌}
use mathlib.Core.Logic.{◌≢◌, ⊎_elim}
use mathlib.Core.Bool.{Bool, true, false, true≢false}
use mathlib.Core.List.Memᴰ
use mathlib.Core.List.{List, [], ◌∷◌, ◌++◌, map, nil≢cons, Memᴰ}
use native.Mathlib.Omega.{arith}
use borrow.Author.Tests.{eqb-true}
use lib.Dec.{eqb}
use lib.ListN.{length}
use Rattle.foundation.specs.Nth.{EachIs, first, later}
use Rattle.terms.specs.Tree.{Formula}
use Rattle.reader.specs.Line.{Each16}
use Rattle.reader.specs.Text.{Lines}
use Rattle.reader.specs.Text as text
use Rattle.kinds.specs.Kinds.{whole_text, entry_in, last_in, n_formulas}
use Rattle.kinds.proofs.Table.{known_within, rank_own, rank_most, rank_some}
use Rattle.criteria.specs.Design.{Design, with_marks}
use Rattle.criteria.specs.Step.{internal_rows}
use Rattle.design.specs.Line.{marks_of}
use Rattle.design.specs.Lines.{kind_of, of_kind, count_of, internal_of, design_of}
use Rattle.design.specs.Faults.{of_rank, Allowed, IsParameter, IsRow, Terms, HasTerms, LineTerms, Fault6, wrong_terms, Fault7, twice_impl, twice_spec, internal_spec, internal_data, spans_differ}
use Rattle.design.specs.Faults as faults
use Rattle.design.specs.Print.{print_formulas, parameter_line, line_of_marks, print_lines, FormulasFit, MarksFit}
use Rattle.design.specs.Print as print
use Rattle.design.proofs.Each.{EachLine, each_cons}
use Rattle.design.proofs.Fault4.{Climbs, none, next, LengthFits, Layout}
use Rattle.design.proofs.Fault5.{ParameterFits, SpanFits}
use Rattle.design.proofs.WholeText.{rank_kind}
use Rattle.design.proofs.Faultless.{Faultless}
use Rattle.design.proofs.Printed.{length-map, of_append, of_other, of_1, of_8, marks_back, marks_last}

-- ---- lines of marks

marks_each : (P : List ℕ → Type 0) (ms : List (List Formula)) → EachIs ms (λ fs. P (line_of_marks fs)) → EachLine P (map line_of_marks ms)
marks_each P [] h = λ line m. absurd (Memᴰ.not-nil m)
marks_each P (fs ∷ ms) h = each_cons P (h 1 fs first) (marks_each P ms (λ k f at. h (suc k) f (later at)))

marks_climb : (ms : List (List Formula)) {p : ℕ} → p ≤ 8 → Climbs whole_text p (map line_of_marks ms)
unfolding entry_in
marks_climb [] h = none
marks_climb (fs ∷ ms) h = next {line = line_of_marks fs} (omega arith) h (marks_climb ms (omega arith))

marks_long : (fs : List Formula) → LengthFits (entry_in whole_text 8) (length (line_of_marks fs))
unfolding entry_in
marks_long fs = (λ e. absurd (true≢false e), λ _. omega arith)

marks_neither : (fs : List Formula) → (IsParameter 8 → ParameterFits (line_of_marks fs)) × (IsRow 8 → SpanFits (line_of_marks fs))
unfolding entry_in
marks_neither fs = (λ e. absurd (true≢false cc), λ e. absurd (true≢false cc))

formulas_made : {n : ℕ} {fs : List Formula} → FormulasFit n fs → Terms n true (n_formulas (length fs)) (print_formulas fs)
formulas_made print.none = faults.none
formulas_made (print.then_formula f fs) = faults.then_formula _ f.well_formed f.shallow (formulas_made fs)

marks_made : {n i : ℕ} {fs : List Formula} (m : ℕ) → MarksFit n i fs → LineTerms n m i (line_of_marks fs) 8
unfolding entry_in
marks_made m f = rw (← f.all_marks) (formulas_made f.formulas)

-- kinds climb to other lines of the last kind
climb_other : (front a b : List (List ℕ)) {p : ℕ} → p ≤ 8 → ((q : ℕ) → q ≤ 8 → Climbs whole_text q b)
    → Climbs whole_text p (front ++ a) → Climbs whole_text p (front ++ b)
climb_other [] a b {p = p} h last c = last p h
climb_other (line ∷ front) a b h last (next x y c) = next x y (climb_other front a b (rank_most (kind_of line)) last c)

-- rows do not depend on the marks
same_rows : {d : Design} {ms : List (List Formula)} → Fault7 (with_marks d ms) → Fault7 d
same_rows (twice_impl t a e) = twice_impl t a e
same_rows (twice_spec t a e) = twice_spec t a e
same_rows (internal_spec is a) = internal_spec is a
same_rows (internal_data is a n) = internal_data is a n
same_rows (spans_differ is_r is_q e n) = spans_differ is_r is_q e n

-- ---- lines that a text can have, each by itself

abbrev CanBe : List ℕ → Type 0
CanBe line = Each16 line × (line ≢ [])

lines_each : {lines : List (List ℕ)} → Lines lines → EachLine CanBe lines
lines_each text.none = λ line m. absurd (Memᴰ.not-nil m)
lines_each (text.more each some rest) = each_cons CanBe (each, some) (lines_each rest)

each_lines : (lines : List (List ℕ)) → EachLine CanBe lines → Lines lines
each_lines [] h = text.none
each_lines (line ∷ lines) h =
    let c = h line (Memᴰ.head refl) in
    text.more c.0 c.1 (each_lines lines (λ l m. h l (Memᴰ.tail m)))

-- ---- the design d with the marks ms

-- a line of marks that a text of the design can have
pub record MarksLine (d : Design) (fs : List Formula) : Type 0 where
  pub fit : MarksFit (length d.impl.parameters) (internal_rows d.impl.rows) fs
  pub fields : Each16 (line_of_marks fs)
  pub short : length (line_of_marks fs) ≤ 256

module _ (d : Design) (ms : List (List Formula)) where
  abbrev old : List (List ℕ)
  old = print_lines d

  abbrev new : List (List ℕ)
  new = print_lines (with_marks d ms)

  -- what both begin with
  abbrev front : List (List ℕ)
  front = print_lines (with_marks d [])

  old_last : old ≡ front ++ map line_of_marks d.marks
  old_last = marks_last d d.marks

  new_last : new ≡ front ++ map line_of_marks ms
  new_last = marks_last d ms

  -- what is so of each line before, and of each line of marks, is so of each line
  each_other : (P : List ℕ → Type 0) → EachLine P old → EachIs ms (λ fs. P (line_of_marks fs)) → EachLine P new
  each_other P each h line m =
      ⊎_elim
      (λ (a : Memᴰ line front). each line (rw old_last (Memᴰ.append_left (map line_of_marks d.marks) a)))
      (marks_each P ms h line)
      (Memᴰ.append_cases front (rw new_last at m))

  -- the lines of other kinds are the same
  kind_other : (k : ℕ) → eqb 8 k ≡ false → of_kind k new ≡ of_kind k old
  kind_other k e =
      rw (
        old_last,
        new_last,
        of_append k front (map line_of_marks d.marks),
        of_append k front (map line_of_marks ms),
        of_other line_of_marks k (λ _. e) d.marks,
        of_other line_of_marks k (λ _. e) ms,
      )

  module _ (few : length ms ≤ 1) (can-be : EachIs ms (MarksLine d)) (says : design_of old ≡ d) where
    -- ---- fault 4

    count_other : (k : ℕ) → Allowed (entry_in whole_text k) (count_of k old) → Allowed (entry_in whole_text k) (count_of k new)
    unfolding entry_in
    count_other k allowed = go (eqb 8 k) refl
      where
        go : (is : Bool) → eqb 8 k ≡ is → Allowed (entry_in whole_text k) (count_of k new)
        go true e = rw (← eqb-true 8 k e, of_8 (with_marks d ms), length-map line_of_marks ms) (omega arith, few)
        go false e = rw (kind_other k e) allowed

    layout_other : Layout whole_text old → Layout whole_text new
    unfolding last_in
    layout_other l =
        record {
          kinds =
              rw new_last
              (climb_other front (map line_of_marks d.marks) (map line_of_marks ms) (omega arith) (λ q. marks_climb ms)
              (rw old_last at l.kinds));
          counts = counts;
          lengths = each_other _ l.lengths (λ k fs at. marks_long fs);
        }
      where
        counts : (k : ℕ) → (entry_in whole_text k).most ≢ 0
            → Allowed (entry_in whole_text k) (length (of_rank whole_text (entry_in whole_text k).rank new))
        counts k z =
            let top : k ≤ 8 = known_within whole_text k (omega arith) in
            let some = rank_some k (omega arith) in
            let own = rank_own k top in
            let from : 1 ≤ k = omega arith in
            rw (own, rank_kind k from top new) (count_other k (rw (own, rank_kind k from top old) at (l.counts k z)))

    -- ---- fault 6

    own : count_of 1 old ≡ length d.impl.parameters
    own = rw (of_1 d) (length-map (parameter_line 1) d.impl.parameters)

    internal : internal_of old ≡ internal_rows d.impl.rows
    unfolding design_of
    internal = ap (λ (e : Design). internal_rows e.impl.rows) says

    marks_terms : (fs : List Formula) → MarksLine d fs → LineTerms (count_of 1 old) (count_of 2 old) (internal_of old) (line_of_marks fs) 8
    marks_terms fs f = rw (internal, own) (marks_made (count_of 2 old) f.fit)

    terms_other : (Fault6 old → ⊥) → Fault6 new → ⊥
    terms_other free (wrong_terms {line = line} m h wrong) =
        each_other
        (λ l. HasTerms (kind_of l) → (LineTerms (count_of 1 old) (count_of 2 old) (internal_of old) l (kind_of l) → ⊥) → ⊥)
        (λ l at t w. free (wrong_terms at t w)) (λ k fs at t w. w (marks_terms fs (can-be k fs at)))
        line m h (rw (kind_other 1 refl, kind_other 2 refl, kind_other 3 refl) at wrong)

    -- ---- the design, and all faults

    pub design_other : design_of new ≡ with_marks d ms
    unfolding design_of
    design_other =
        rw (
          kind_other 1 refl,
          kind_other 2 refl,
          kind_other 3 refl,
          kind_other 4 refl,
          kind_other 5 refl,
          kind_other 6 refl,
          kind_other 7 refl,
          of_8 (with_marks d ms),
        )
        (ap (λ (e : Design). with_marks e (map (marks_of (internal_of old)) (map line_of_marks ms))) says
        ∙ ap (with_marks d)
        (rw internal (marks_back (length d.impl.parameters) (internal_rows d.impl.rows) ms (λ k fs at. (can-be k fs at).fit))))

    pub faultless_other : Faultless old → Faultless new
    faultless_other f = record {
      fields = each_lines new (each_other CanBe (lines_each f.fields) (λ k fs at. ((can-be k fs at).fields, λ e. nil≢cons (sym e))));
      short = each_other _ f.short (λ k fs at. (can-be k fs at).short);
      layout = layout_other f.layout;
      bounds = record {
        numbers = each_other _ f.bounds.numbers (λ k fs at. marks_neither fs);
        few_states = rw (kind_other 1 refl) f.bounds.few_states;
      };
      terms = terms_other f.terms;
      actions = λ g. f.actions (rw says (same_rows (rw design_other at g)));
    }
