-- A desk's arrays: the fields of all lines one after the other, and where each line starts among them, with the end of the last;
-- 0 in the rest. How lines are held (`fields_held`, `starts_held`), which lines arrays hold (`held_lines`), and which design
-- (`design_at`, by the places of its lines; `design_in`, by their counts). Lines are counted from 0. That what is held is what was given is
-- in proofs/Loaded, that the design is that of the lines in proofs/Held.
use Rattle.std.specs.Prelude.{ℕ, zero, suc, ◌+◌, ◌-◌, List, [], ◌∷◌, ◌++◌, length, get_or, take, drop, replicate}
use Rattle.std.proofs.lemmas.List.Edits.{sets}
use Rattle.limits.specs.Limits.{max_fields, line_starts}
use Rattle.criteria.specs.Design.{Design}
use Rattle.criteria.specs.Design as design
use Rattle.criteria.specs.Step.{internal_rows}
use Rattle.design.specs.Line.{parameter_of, row_of, invariant_of, mapping_of, measure_value, marks_of}
use Rattle.design.specs.declared.Counts.{Counts}
use Rattle.design.specs.declared.Section.{Section}
use Rattle.design.specs.declared.Process.{Process}
use Rattle.design.specs.declared.Shape.{Shape}

-- the fields from the start of line i on
abbrev pub line_from : List ℕ → List ℕ → ℕ → List ℕ
line_from fields starts i = drop (get_or starts i 0) fields

-- line i alone
abbrev pub line_at : List ℕ → List ℕ → ℕ → List ℕ
line_at fields starts i = take (get_or starts (i + 1) 0 - get_or starts i 0) (line_from fields starts i)

-- what n lines say, from line i on
unfoldable pub each_line_of : {A : Type 0} → (List ℕ → A) → (ℕ → List ℕ) → ℕ → ℕ → List A
each_line_of says line zero i = []
each_line_of says line (suc n) i = says (line i) ∷ each_line_of says line n (suc i)

-- the first n lines
abbrev pub held_lines : List ℕ → List ℕ → ℕ → List (List ℕ)
held_lines fields starts n = each_line_of (λ line. line) (line_at fields starts) n 0

-- ---- how lines are held

unfoldable pub joined : List (List ℕ) → List ℕ
joined [] = []
joined (line ∷ lines) = line ++ joined lines

-- the starts of lines, the first being `at`, and the end of the last
unfoldable pub starts_from : ℕ → List (List ℕ) → List ℕ
starts_from at [] = at ∷ []
starts_from at (line ∷ lines) = at ∷ starts_from (at + length line) lines

unfoldable pub fields_held : List (List ℕ) → List ℕ
fields_held lines = sets (replicate max_fields 0) 0 (joined lines)

unfoldable pub starts_held : List (List ℕ) → List ℕ
starts_held lines = sets (replicate line_starts 0) 0 (starts_from 0 lines)

-- ---- the design

-- what the lines of a section say
abbrev pub each_in : {A : Type 0} → (List ℕ → A) → List ℕ → List ℕ → Section → List A
each_in says fields starts c = each_line_of says (line_from fields starts) c.count c.first

-- the process whose lines stand there
abbrev pub process_in : List ℕ → List ℕ → Process → design.Process
process_in fields starts p = record {
  parameters = each_in parameter_of fields starts p.parameters;
  rows = each_in (row_of p.parameters.count) fields starts p.rows;
}

-- the design
abbrev pub design_at : List ℕ → List ℕ → Shape → Design
design_at fields starts h = record {
  impl = process_in fields starts h.implementation;
  spec = process_in fields starts h.specification;
  invariant = invariant_of (line_from fields starts h.invariant);
  mapping = mapping_of h.specification.parameters.count (line_from fields starts h.mapping);
  measure = measure_value (line_from fields starts h.measure);
  marks = each_in (marks_of (internal_rows (process_in fields starts h.implementation).rows)) fields starts h.marks;
}

-- where the lines stand that are counted, kind after kind
abbrev pub sections : Counts → Shape
sections c =
    let rows : ℕ = c.kind1 + c.kind2 in
    let others : ℕ = rows + c.kind3 in
    let invariant : ℕ = others + c.kind4 in
    record {
      implementation = record {
        parameters = record { first = 0; count = c.kind1 };
        rows = record { first = rows; count = c.kind3 };
      };
      specification = record {
        parameters = record { first = c.kind1; count = c.kind2 };
        rows = record { first = others; count = c.kind4 };
      };
      invariant = invariant;
      mapping = invariant + 1;
      measure = invariant + 2;
      marks = record { first = invariant + 3; count = c.kind8 };
    }

abbrev pub design_in : List ℕ → List ℕ → Counts → Design
design_in fields starts c = design_at fields starts (sections c)
