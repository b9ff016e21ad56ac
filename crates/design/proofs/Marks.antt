-- Formulas one after the other: where each stands, and that they are no more fields than there are.
use Prim.Native.Nat.{ℕ, zero, suc, ◌≤◌, ◌<◌}
use mathlib.Core.Path.{◌≡◌, refl, ap, ◌∙◌}
use mathlib.Core.List.{List}
use native.Mathlib.Omega.{arith}
use lib.ListN.{length, get_or, drop, length-drop}
use lib.Seq.{drop-drop}
use Rattle.terms.specs.Tree.{no_formula}
use Rattle.terms.proofs.Used.{used_f}
use Rattle.design.specs.Line.{formula_in, formulas_in, formulas_used}

-- formula j, counted from 0, stands after the fields of those before it
pub formula_at : (n j : ℕ) (fields : List ℕ) → j < n → get_or (formulas_in n fields) j no_formula ≡ (formula_in (drop (formulas_used j fields) fields)).tree
unfolding formulas_in formulas_used
formula_at zero j fields l = absurd (omega arith)
formula_at (suc n) zero fields l = refl
formula_at (suc n) (suc j) fields l =
    let u : ℕ = (formula_in fields).used in
    formula_at n j (drop u fields) (omega arith) ∙ ap (λ g. (formula_in g).tree) (drop-drop (formulas_used j (drop u fields)) u fields)

pub formulas_within : (n : ℕ) (fields : List ℕ) → formulas_used n fields ≤ length fields
unfolding formulas_used
formulas_within zero fields = omega arith
formulas_within (suc n) fields =
    let u : ℕ = (formula_in fields).used in
    omega (arith, used_f 32 fields, formulas_within n (drop u fields), length-drop u fields)
