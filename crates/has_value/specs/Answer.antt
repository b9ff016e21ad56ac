-- What the evaluator answers for a reading of the fields from the place `at` on: what is computed of the tree at the parameter values ps and
-- the sum value s, `Ok` where the tree has a value there and `Err` where it has none, and the place after the fields that it took. Trees and
-- their values are in the crate terms.
use Rattle.std.specs.Prelude.{List, ℕ, ◌+◌, Bool, cond, Result, Ok, Err}
use Rattle.terms.specs.Tree.{Value, Formula, eval_v, eval_f, has_v, has_f}
use Rattle.terms.specs.Read.{Read}
use Rattle.has_value.specs.declared.Valued.{Valued}
use Rattle.has_value.specs.declared.Held.{Held}

abbrev pub value_of : Value → List ℕ → ℕ → Result ℕ ℕ
value_of t ps s = cond (has_v t ps s) (Ok (eval_v t ps s)) (Err (eval_v t ps s))

abbrev pub truth_of : Formula → List ℕ → ℕ → Result Bool Bool
truth_of t ps s = cond (has_f t ps s) (Ok (eval_f t ps s)) (Err (eval_f t ps s))

abbrev pub answer_v : ℕ → List ℕ → ℕ → Read Value → Valued
answer_v at ps s r = record { value = value_of r.tree ps s; next = at + r.used }

abbrev pub answer_f : ℕ → List ℕ → ℕ → Read Formula → Held
answer_f at ps s r = record { holds = truth_of r.tree ps s; next = at + r.used }

-- What was computed, with a value or without.
abbrev pub computed : {A : Type 0} → Result A A → A
computed (Ok x) = x
computed (Err x) = x
