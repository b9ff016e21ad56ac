-- What the fields of one line say (01, "Design text", the table of kinds): a parameter, a row, the invariant, the mapping, the measure,
-- the marks. The fields are given from the line's kind on; what stands after the line's last term is not looked at. Terms are read as in the
-- crate terms, at most 32 deep. Which lines a text has is not here (Lines), nor what is wrong with a line (Faults).
use Rattle.std.specs.Prelude.{ℕ, zero, suc, ◌+◌, List, [], ◌∷◌, get_or, drop}
use Rattle.limits.specs.Limits.{max_depth}
use Rattle.terms.specs.Tree.{Value, Formula}
use Rattle.terms.specs.Read.{Read, read_v, read_f}
use Rattle.criteria.specs.Design.{Parameter, Row}

-- "the deepest term allowed has depth 32"
abbrev pub value_in : List ℕ → Read Value
value_in fields = read_v max_depth fields

abbrev pub formula_in : List ℕ → Read Formula
formula_in fields = read_f max_depth fields

-- n values one after the other
unfoldable pub values_in : ℕ → List ℕ → List Value
values_in zero fields = []
values_in (suc n) fields = let v = value_in fields in v.tree ∷ values_in n (drop v.used fields)

-- n formulas
unfoldable pub formulas_in : ℕ → List ℕ → List Formula
formulas_in zero fields = []
formulas_in (suc n) fields = let f = formula_in fields in f.tree ∷ formulas_in n (drop f.used fields)

-- how many fields these are
unfoldable pub formulas_used : ℕ → List ℕ → ℕ
formulas_used zero fields = 0
formulas_used (suc n) fields = let u : ℕ = (formula_in fields).used in u + formulas_used n (drop u fields)

-- kinds 1 and 2: "size, initial value"
abbrev pub parameter_of : List ℕ → Parameter
parameter_of line = record { size = get_or line 1 0; initial = get_or line 2 0 }

-- kinds 3 and 4: "action, span, condition, data, one next value for each" parameter, of which there are n
abbrev pub row_of : ℕ → List ℕ → Row
row_of n line =
    let condition = formula_in (drop 3 line) in
    let carried = value_in (drop condition.used (drop 3 line)) in
    record {
      action = get_or line 1 0;
      span = get_or line 2 0;
      condition = condition.tree;
      carries = carried.tree;
      next = values_in n (drop carried.used (drop condition.used (drop 3 line)));
    }

-- kind 5: "a formula"; kind 6: "one value for each kind 2 line", of which there are n; kind 7: "a value"
abbrev pub invariant_of : List ℕ → Formula
invariant_of line = (formula_in (drop 1 line)).tree

abbrev pub mapping_of : ℕ → List ℕ → List Value
mapping_of n line = values_in n (drop 1 line)

abbrev pub measure_value : List ℕ → Value
measure_value line = (value_in (drop 1 line)).tree

-- kind 8: "a formula for each internal row", of which there are n
abbrev pub marks_of : ℕ → List ℕ → List Formula
marks_of n line = formulas_in n (drop 1 line)
