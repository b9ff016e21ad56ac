-- Which design the lines of a text say (01, "Design text"). A line is given by its fields, the kind first. The lines of a kind are
-- taken in their order; what is said where lines are missing or wrong does not matter, since such a text is turned down (Faults).
use Rattle.std.specs.Prelude.{ℕ, cond, List, [], ◌∷◌, map, eqb, length, get_or}
use Rattle.reader.specs.Text.{fields_by_line}
use Rattle.criteria.specs.Design.{Design, Row}
use Rattle.criteria.specs.Step.{internal_rows}
use Rattle.design.specs.Line.{parameter_of, row_of, invariant_of, mapping_of, measure_value, marks_of}
use Rattle.design.specs.declared.Counts.{Counts}

-- "The first field of a line is its kind"
abbrev pub kind_of : List ℕ → ℕ
kind_of line = get_or line 0 0

-- the lines of a kind
unfoldable pub of_kind : ℕ → List (List ℕ) → List (List ℕ)
of_kind k [] = []
of_kind k (line ∷ lines) = let later = of_kind k lines in cond (eqb (kind_of line) k) (line ∷ later) later

-- the one line of a kind
abbrev pub the_line : ℕ → List (List ℕ) → List ℕ
the_line k lines = get_or (of_kind k lines) 0 []

abbrev pub count_of : ℕ → List (List ℕ) → ℕ
count_of k lines = length (of_kind k lines)

abbrev pub counts_of : List (List ℕ) → Counts
counts_of lines = record { kind1 = count_of 1 lines; kind2 = count_of 2 lines; kind3 = count_of 3 lines; kind4 = count_of 4 lines; kind8 = count_of 8 lines }

-- the rows of the implementation, and how many of them are internal: the kind 3 lines whose second field is 0, whatever their terms
abbrev pub rows_said : List (List ℕ) → List Row
rows_said lines = map (row_of (count_of 1 lines)) (of_kind 3 lines)

abbrev pub internal_of : List (List ℕ) → ℕ
internal_of lines = internal_rows (rows_said lines)

-- the design: "implementation parameter", "specification parameter", "implementation row", "specification row, the same with kind 2
-- lines", "invariant", "mapping: one value for each kind 2 line", "measure"; and what the kind 8 line says, if there is one
unfoldable pub design_of : List (List ℕ) → Design
design_of lines =
    let m = count_of 2 lines in
    record {
      impl = record { parameters = map parameter_of (of_kind 1 lines); rows = rows_said lines };
      spec = record { parameters = map parameter_of (of_kind 2 lines); rows = map (row_of m) (of_kind 4 lines) };
      invariant = invariant_of (the_line 5 lines);
      mapping = mapping_of m (the_line 6 lines);
      measure = measure_value (the_line 7 lines);
      marks = map (marks_of (internal_of lines)) (of_kind 8 lines);
    }

-- the design of a text
abbrev pub design_text : List ℕ → Design
design_text text = design_of (fields_by_line text)
