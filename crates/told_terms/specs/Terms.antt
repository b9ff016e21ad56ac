-- What C is told of a term: numbers and truth values are those of terms/specs/Meaning, at the values of a state and for a sum value.
use Rattle.std.specs.Prelude.{ℕ, Bool, cond, List, map, unwrap_or, option_map}
use Rattle.std.specs.Result.{result_ok}
use Rattle.std.proofs.Math.Option.{Option, some, none}
use Rattle.terms.specs.Tree.{Value, Formula}
use Rattle.terms.specs.Meaning.{meant_v, meant_f}
use Rattle.criteria.specs.Design.{State}
use Rattle.has_value.specs.declared.Held.{Held}
use Rattle.has_value.specs.declared.Valued.{Valued}
use Rattle.steps.specs.Arrays.{padded}

-- a number, and 65,536 where there is none; 1 for what holds, 0 for what does not, and 2 where there is no truth value
abbrev pub number_told : Option ℕ → ℕ
number_told (some n) = n
number_told none = 65536

abbrev pub truth_told : Option Bool → ℕ
truth_told (some h) = cond h 1 0
truth_told none = 2

-- a value term and a formula
unfoldable pub value_told : Value → State → ℕ → ℕ
value_told t s e = number_told (meant_v t s e)

unfoldable pub formula_told : Formula → State → ℕ → ℕ
formula_told f s e = truth_told (meant_f f s e)

-- values in eight places, 0 after the last
unfoldable pub values_told : List Value → State → ℕ → List ℕ
values_told ts s e = padded (map (λ (t : Value). value_told t s e) ts)

-- ---- as the evaluator answers

abbrev pub number_of : Valued → ℕ
number_of x = unwrap_or (result_ok x.value) 65536

abbrev pub truth_of : Held → ℕ
truth_of x = unwrap_or (option_map (λ h. cond h 1 0) (result_ok x.holds)) 2
