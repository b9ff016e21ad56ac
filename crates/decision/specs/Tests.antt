-- The ten criteria as tests that compute, row by row and sum value by sum value. Those of 2 to 9 are for a state where criterion 10 holds:
-- of values there they ask only in the state that a step leads to; so is that whether any internal row is enabled. What they decide is said
-- in criteria/specs/Criteria, and of that one in Step; that they decide it, in proofs/Tests and NoInternal.
use Rattle.std.specs.Prelude.{Bool, not, ◌&&◌, cond, List, [], ◌∷◌, ℕ, suc, eqb, ltb, length}
use Rattle.foundation.specs.First.{passes, all_in_range}
use Rattle.foundation.specs.Nth.{each_b}
use Rattle.foundation.specs.Radix.{below_b, same_b}
use Rattle.foundation.specs.Reflects.{◌⇒◌}
use Rattle.terms.specs.Tree.{Value, eval_f, has_v, has_f}
use Rattle.criteria.specs.Design.{Design, Process, Row, State, sizes, initial_state, mapped, measure_at}
use Rattle.criteria.specs.Step.{next_state, data_number}
use Rattle.criteria.specs.Rows.{row_at, mark_of, first_marked}

-- a row's condition, where the sum value is known to be in its span, and the condition to have a value
abbrev pub enabled_b : Row → State → ℕ → Bool
enabled_b r s e = eval_f r.condition s e

abbrev pub internal_b : Row → Bool
internal_b r = eqb r.action 0

-- the mark of row k, if it is internal
abbrev pub marked_b : Design → ℕ → State → ℕ → Bool
marked_b d k s e = eval_f (mark_of d k) s e

abbrev pub invariant_b : Design → State → Bool
invariant_b d s = eval_f d.invariant s 0

-- there are values: of terms, and of a design's invariant, mapping and measure
abbrev pub have_b : List Value → State → ℕ → Bool
have_b vs s e = each_b (λ (v : Value). has_v v s e) vs

abbrev pub has_invariant_b : Design → State → Bool
has_invariant_b d s = has_f d.invariant s 0

abbrev pub has_mapping_b : Design → State → Bool
has_mapping_b d s = have_b d.mapping s 0

abbrev pub has_measure_b : Design → State → Bool
has_measure_b d s = has_v d.measure s 0

-- inside the sizes, where the invariant holds if it has a value
abbrev pub inside_b : Design → State → Bool
inside_b d s = below_b (sizes d.impl) s && invariant_b d s

-- the test says yes at each row by its number, from 1 on, for each sum value in its span
abbrev pub all_rows : List Row → (ℕ → Row → ℕ → Bool) → Bool
all_rows rows t = all_in_range (λ k. all_in_range (λ e. t k (row_at rows k) e) (row_at rows k).span 0) (length rows) 1

abbrev pub focus_b : Design → State → Bool
focus_b d s = passes (first_marked d s)

-- the row is not internal, or not enabled, marked or not; and so is each of the implementation's
abbrev pub not_internal : Row → State → ℕ → Bool
not_internal r s e = not (internal_b r && enabled_b r s e)

abbrev pub no_internal_b : Design → State → Bool
no_internal_b d s = all_rows d.impl.rows (λ _ r e. not_internal r s e)

-- the number of the first row of an action, counted from k; 0 if there is none
unfoldable pub row_from : List Row → ℕ → ℕ → ℕ
row_from [] action k = 0
row_from (r ∷ rows) action k = let n = row_from rows action (suc k) in cond (eqb r.action action) k n

abbrev pub row_number : Process → ℕ → ℕ
row_number p action = row_from p.rows action 1

abbrev pub partner : Process → ℕ → Row
partner p action = row_at p.rows (row_number p action)

-- ---- the criteria

abbrev pub holds1 : Design → Bool
holds1 d =
    let s : State = initial_state d.impl in
    (invariant_b d s && has_invariant_b d s) && (same_b (mapped d s) (initial_state d.spec) && has_mapping_b d s)

abbrev pub holds2 : Design → State → Bool
holds2 d s = below_b (sizes d.spec) (mapped d s)

abbrev pub holds3 : Design → State → Row → ℕ → Bool
holds3 d s r e = enabled_b r s e ⇒ (inside_b d (next_state r s e) && has_invariant_b d (next_state r s e))

abbrev pub holds4 : Design → State → Row → ℕ → Bool
holds4 d s r e = enabled_b r s e ⇒ internal_b r ⇒ (same_b (mapped d s) (mapped d (next_state r s e)) && has_mapping_b d (next_state r s e))

-- k is the row's number
abbrev pub holds5 : Design → State → ℕ → Row → ℕ → Bool
holds5 d s k r e = enabled_b r s e ⇒ internal_b r ⇒ marked_b d k s e ⇒ (ltb (measure_at d (next_state r s e)) (measure_at d s) && has_measure_b d (next_state r s e))

abbrev pub holds6 : Design → State → Row → ℕ → Bool
holds6 d s r e = enabled_b r s e ⇒ not (internal_b r) ⇒ enabled_b (partner d.spec r.action) (mapped d s) e

-- q is the specification's row
abbrev pub holds7 : Design → State → Row → ℕ → Bool
holds7 d s q e = focus_b d s ⇒ enabled_b q (mapped d s) e ⇒ enabled_b (partner d.impl q.action) s e

-- where the specification has no row of the action, criterion 6 has failed, and there is nothing to compare
abbrev pub holds8 : Design → State → Row → ℕ → Bool
holds8 d s r e =
    enabled_b r s e ⇒ not (internal_b r) ⇒ not (eqb (row_number d.spec r.action) 0)
    ⇒ eqb (data_number r s e) (data_number (partner d.spec r.action) (mapped d s) e)

abbrev pub holds9 : Design → State → Row → ℕ → Bool
holds9 d s r e =
    enabled_b r s e ⇒ not (internal_b r) ⇒ not (eqb (row_number d.spec r.action) 0)
    ⇒ (same_b (mapped d (next_state r s e)) (next_state (partner d.spec r.action) (mapped d s) e) && has_mapping_b d (next_state r s e))

-- ---- criterion 10

-- at a row and a sum value: the condition has a value, and where it holds so do data and next values
abbrev pub has_at : Row → State → ℕ → Bool
has_at r s e = has_f r.condition s e && (enabled_b r s e ⇒ (has_v r.carries s e && have_b r.next s e))

-- and so does the mark of row k, if it is internal
abbrev pub has_mark_at : Design → State → ℕ → Row → ℕ → Bool
has_mark_at d s k r e = internal_b r ⇒ has_f (mark_of d k) s e

abbrev pub others_have_b : Design → State → Bool
others_have_b d s =
    has_mapping_b d s
    && (all_rows d.impl.rows (λ k r e. has_at r s e && has_mark_at d s k r e) && all_rows d.spec.rows (λ _ q e. has_at q (mapped d s) e))

-- the measure apart
abbrev pub apart_b : Design → State → Bool
apart_b d s = has_invariant_b d s && (invariant_b d s ⇒ others_have_b d s)

abbrev pub holds10 : Design → State → Bool
holds10 d s = apart_b d s && (invariant_b d s ⇒ has_measure_b d s)
