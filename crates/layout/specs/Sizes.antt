-- Which counts of lines fit, which shape they have, how many states the design in a desk's arrays has, and which number its initial state
-- has, each for any arrays and counts. The design itself is in design/specs/Loaded; that a loaded design
-- has at most 65,536 states, and that its initial state is one of them, is no matter here: where it is so, nothing is cut off.
use Rattle.std.specs.Prelude.{Bool, ◌&&◌, cond, List, [], ℕ, ◌≤◌, min, leb}
use Rattle.foundation.specs.Radix.{product, number_of}
use Rattle.criteria.specs.Design.{Parameter, sizes, initial_state, states, state_number}
use Rattle.design.specs.Line.{parameter_of}
use Rattle.design.specs.Loaded.{line_from, each_line_of, sections, design_in}
use Rattle.design.specs.declared.Counts.{Counts}
use Rattle.design.specs.declared.Process.{Process}
use Rattle.design.specs.declared.Shape.{Shape}

-- "1 to 8" lines of kinds 1 and 2, "0 to 32" of kinds 3 and 4, "one kind 8 line": there are no more
abbrev pub counts_fit : Counts → Bool
counts_fit c = leb c.kind1 8 && (leb c.kind2 8 && (leb c.kind3 32 && (leb c.kind4 32 && leb c.kind8 1)))

-- as facts
pub record Fit (c : Counts) : Type 0 where
  pub kind1 : c.kind1 ≤ 8
  pub kind2 : c.kind2 ≤ 8
  pub kind3 : c.kind3 ≤ 32
  pub kind4 : c.kind4 ≤ 32
  pub kind8 : c.kind8 ≤ 1

-- the places of n and m parameters, k and l rows, the three lines after them, and j of marks
unfoldable pub sections_of : ℕ → ℕ → ℕ → ℕ → ℕ → Shape
sections_of n m k l j = sections (record { kind1 = n; kind2 = m; kind3 = k; kind4 = l; kind8 = j })

-- of lines that are counted, where the counts fit, and else of none
unfoldable pub shape_of : Counts → Shape
shape_of c = cond (counts_fit c) (sections c) (sections_of 0 0 0 0 0)

-- no more parameters than a state has values, and no more rows than there may be
pub record FitsIn (p : Process) : Type 0 where
  pub parameters : p.parameters.count ≤ 8
  pub rows : p.rows.count ≤ 32

pub record Fits (h : Shape) : Type 0 where
  pub implementation : FitsIn h.implementation
  pub specification : FitsIn h.specification

-- what the lines from line i on say of n parameters
abbrev pub parameters_from : List ℕ → List ℕ → ℕ → ℕ → List Parameter
parameters_from fields starts n i = each_line_of parameter_of (line_from fields starts) n i

abbrev pub sizes_of : List Parameter → List ℕ
sizes_of ps = sizes (record { parameters = ps; rows = [] })

abbrev pub initials_of : List Parameter → List ℕ
initials_of ps = initial_state (record { parameters = ps; rows = [] })

-- the product of the first n sizes, and the number of the first n initial values, cut off
unfoldable pub product_up_to : List ℕ → List ℕ → ℕ → ℕ
product_up_to fields starts n = min (product (sizes_of (parameters_from fields starts n 0))) 65537

unfoldable pub number_up_to : List ℕ → List ℕ → ℕ → ℕ
number_up_to fields starts n = let ps = parameters_from fields starts n 0 in min (number_of (sizes_of ps) (initials_of ps)) 65535

-- how many states, 65,537 standing for all that are too many
unfoldable pub state_count_in : List ℕ → List ℕ → Counts → ℕ
state_count_in fields starts c = cond (counts_fit c) (min (states (design_in fields starts c)) 65537) 0

-- the number of the initial state
unfoldable pub initial_number_in : List ℕ → List ℕ → Counts → ℕ
initial_number_in fields starts c =
    let d = design_in fields starts c in
    cond (counts_fit c) (min (state_number d (initial_state d.impl)) 65535) 0
