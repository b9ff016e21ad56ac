-- What a term means at the parameter values ps and the sum value s: a number, a truth value, or none (01, "Terms"; 02, order 5). Each line
-- says which parts are evaluated, and in which case there is no value. How it is computed is in Tree, as a number or a truth value (eval_v,
-- eval_f) and whether there is one (has_v, has_f): `Computed`.
use Rattle.std.specs.Prelude.{◌≡◌, ℕ, Bool, true, cond, not, List, slice_index}
use Rattle.std.proofs.Math.Option.{Option, some, none}
use Rattle.terms.specs.Tree.{Value, Formula, num, par, sum_value, arith, choice, const, compare, negation, join, no_value, no_formula, arith_of, arith_has, compare_of, join_of, eval_v, eval_f, has_v, has_f}

-- what comes of a part that is evaluated: "any term that evaluates" one without a value "has no value"
abbrev pub then : {A B : Type 0} → Option A → (A → Option B) → Option B
then (some a) f = f a
then none f = none

unfoldable mutual
  pub meant_v : Value → List ℕ → ℕ → Option ℕ
  meant_v (num n) ps s = some n
  meant_v (par i) ps s = some (slice_index ps i)
  meant_v sum_value ps s = some s
  -- "Remainder by zero has no value."
  meant_v (arith o a b) ps s = then (meant_v a ps s) (λ x. then (meant_v b ps s) (λ y. cond (arith_has o y) (some (arith_of o x y)) none))
  -- "`6` evaluates only the branch it takes"
  meant_v (choice f a b) ps s = then (meant_f f ps s) (λ h. cond h (meant_v a ps s) (meant_v b ps s))
  meant_v no_value ps s = none

  pub meant_f : Formula → List ℕ → ℕ → Option Bool
  meant_f (const b) ps s = some b
  meant_f (compare o a b) ps s = then (meant_v a ps s) (λ x. then (meant_v b ps s) (λ y. some (compare_of o x y)))
  meant_f (negation f) ps s = then (meant_f f ps s) (λ h. some (not h))
  -- "`15` and `16` always both parts"
  meant_f (join o f g) ps s = then (meant_f f ps s) (λ h. then (meant_f g ps s) (λ k. some (join_of o h k)))
  meant_f no_formula ps s = none

-- what is computed (Tree) is what is meant: proofs/Meaning
pub record Computed : Type 0 where
  pub value : (t : Value) (ps : List ℕ) (s : ℕ) → meant_v t ps s ≡ cond (has_v t ps s) (some (eval_v t ps s)) none
  pub formula : (f : Formula) (ps : List ℕ) (s : ℕ) → meant_f f ps s ≡ cond (has_f f ps s) (some (eval_f f ps s)) none

-- it has a value
pub record Has {A : Type 0} (o : Option A) : Type 0 where
  pub value : A
  pub is : o ≡ some value

-- a formula holds: it has a value, and that is true
abbrev pub Holds : Formula → List ℕ → ℕ → Type 0
Holds f ps s = meant_f f ps s ≡ some true
