-- What the code asks: f the fields, s the starts of lines, h the shape; v the values of a state, e a sum value.
use Rattle.std.specs.Prelude.{Bool, not, ◌&&◌, ◌||◌, cond, List, ℕ, ◌+◌, min, eqb, drop}
use Rattle.foundation.specs.First.{all_in_range}
use Rattle.terms.specs.Tree.{Formula, eval_f, has_v, has_f}
use Rattle.terms.specs.Read.{read_f}
use Rattle.sum_free.specs.SumFree.{sum_free_f}
use Rattle.decision.specs.Tests.{have_b, has_invariant_b, has_mapping_b, has_measure_b, has_at}
use Rattle.design.specs.Line.{row_of, formula_in, value_in, values_in}
use Rattle.design.specs.Loaded.{line_from, design_at}
use Rattle.design.specs.declared.Shape.{Shape}
use Rattle.marks.specs.Marks.{mark_has_in}

-- n terms from a place on have values
unfoldable pub have_in : List ℕ → ℕ → ℕ → List ℕ → ℕ → Bool
have_in f at n v e = have_b (values_in n (drop at f)) v e

-- so have the formula, the n values and the value in line k, for the sum value 0
unfoldable pub formula_has_in : List ℕ → List ℕ → ℕ → List ℕ → Bool
formula_has_in f s k v = has_f (formula_in (drop 1 (line_from f s k))).tree v 0

unfoldable pub values_have_in : List ℕ → List ℕ → ℕ → ℕ → List ℕ → Bool
values_have_in f s k n v = have_b (values_in n (drop 1 (line_from f s k))) v 0

unfoldable pub value_has_in : List ℕ → List ℕ → ℕ → List ℕ → Bool
value_has_in f s k v = has_v (value_in (drop 1 (line_from f s k))).tree v 0

-- the invariant, the mapping and the measure of the design in the arrays do
unfoldable pub has_invariant_in : List ℕ → List ℕ → Shape → List ℕ → Bool
has_invariant_in f s h v = has_invariant_b (design_at f s h) v

unfoldable pub has_mapping_in : List ℕ → List ℕ → Shape → List ℕ → Bool
has_mapping_in f s h v = has_mapping_b (design_at f s h) v

unfoldable pub has_measure_in : List ℕ → List ℕ → Shape → List ℕ → Bool
has_measure_in f s h v = has_measure_b (design_at f s h) v

-- the row in the line at a place, of n next values, does for a sum value; it and the mark at another place do for each below a span
unfoldable pub row_at_in : List ℕ → ℕ → ℕ → List ℕ → ℕ → Bool
row_at_in f line n v e = has_at (row_of n (drop line f)) v e

unfoldable pub row_has_in : List ℕ → ℕ → ℕ → ℕ → ℕ → List ℕ → Bool
row_has_in f line n place span v = all_in_range (λ e. row_at_in f line n v e && mark_has_in f place v e) span 0

-- ---- how many sum values are asked

-- the condition of the row in the line at a place
abbrev pub condition_in : List ℕ → ℕ → Formula
condition_in f line = (read_f 32 (drop (line + 3) f)).tree

-- the mark at a place does not read the sum value, nor does none
unfoldable pub mark_free_in : List ℕ → ℕ → Bool
mark_free_in f place = eqb place 0 || sum_free_f (read_f 32 (drop place f)).tree

-- one does for all where the condition fails, and neither it nor the mark reads the sum value
unfoldable pub asks_in : List ℕ → ℕ → ℕ → ℕ → List ℕ → ℕ
asks_in f line place span v =
    cond (not (eval_f (condition_in f line) v 0) && (sum_free_f (condition_in f line) && mark_free_in f place)) (min span 1) span
