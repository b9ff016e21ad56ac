-- The conjuncts in front of a formula: of `15 f g` f is one, and those in front of g are more. Those that do not read the sum value
-- may be evaluated once for all sum values, and what is left of the formula is then evaluated alone (proofs/Conjuncts). f the
-- fields, v parameter values, e a sum value, at a place, d the depth that a term there may have.
use Rattle.std.specs.Prelude.{Bool, true, false, not, ◌&&◌, cond, List, ℕ, zero, suc, ◌+◌, ◌-◌, eqb, ltb, length, get_or, drop, Some, None, option_map, unwrap_or}
use Rattle.std.specs.declared.option.Option.{Option}
use Rattle.terms.specs.Read.{read_f}
use Rattle.eval.specs.Answer.{answer_f}
use Rattle.sum_free.specs.SumFree.{found_f}
use Rattle.conjuncts.specs.declared.Conjunct.{Conjunct}
use Rattle.conjuncts.specs.declared.Guarded.{Guarded}

-- a conjunction stands at the place
unfoldable pub is_and : List ℕ → ℕ → ℕ → Bool
is_and f at d = not (eqb d 0) && (ltb at (length f) && eqb (get_or f at 0) 15)

-- how many conjuncts in front do not read the sum value
unfoldable pub front_of : List ℕ → ℕ → ℕ → ℕ
front_of f at zero = 0
front_of f at (suc d) =
    let left = found_f (at + 1) (read_f d (drop (at + 1) f)) in
    cond (is_and f at (suc d) && left.free) (suc (front_of f left.next d)) 0

-- the first conjunct, if there is one
unfoldable pub conjunct_in : List ℕ → List ℕ → ℕ → ℕ → ℕ → Option Conjunct
conjunct_in f v e at d =
    let left = answer_f (at + 1) v e (read_f (d - 1) (drop (at + 1) f)) in
    cond (is_and f at d) (Some (record { holds = left.holds; next = left.next; depth = d - 1 })) None

-- whether n conjuncts in front hold, and where the rest stands
abbrev pub after : Option Conjunct → (Conjunct → Guarded) → Guarded → Guarded
after left go_on none_left = unwrap_or (option_map go_on left) none_left

unfoldable pub guard_in : List ℕ → List ℕ → ℕ → ℕ → ℕ → ℕ → Guarded
guard_in f v e zero at d = record { holds = true; at = at; depth = d }
guard_in f v e (suc n) at d =
    after (conjunct_in f v e at d)
    (λ left. cond left.holds (guard_in f v e n left.next left.depth) (record { holds = false; at = at; depth = d }))
    (record { holds = true; at = at; depth = d })
