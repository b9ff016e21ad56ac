-- The ten criteria (01, "Nine criteria"; 02, orders 1 and 5), a definition for each, in 01's order, with the number and the formula of
-- source 004, definitions 3.2 and 4.7, where it has one: there h is the mapping, b the condition, f the data, g the next state of an
-- action's row, b', f', g' those of the specification's, and ξ, of definition 4.3, the mark. Criteria 3 to 9 are stated for a row and a sum
-- value, 5 also for the row's number, by which it has its mark; `Criteria` says for which rows, and `Meets` for which states. "In criteria
-- 1, 3, 4, 5 and 9 a missing value elsewhere counts as not meeting them": in the initial state, and in the one that a step leads to. In the
-- state itself criterion 10 asks for the values; 2 to 9 say something of a state where it holds (in `Failure` it comes before them).
use Rattle.std.specs.Prelude.{◌≡◌, ℕ, ◌<◌}
use Rattle.foundation.specs.Nth.{EachIs}
use Rattle.terms.specs.Meaning.{meant_v, meant_f, Has}
use Rattle.criteria.specs.Design.{Design, Process, Row, State, RowIs, InSize, InvariantState, Invariant, Have, Maps, HasMeasure, mapped, measure_at, initial_state}
use Rattle.criteria.specs.Step.{Enabled, InternalRow, VisibleRow, Marked, MarkHas, FocusPoint, ActionEnabled, next_state, data_number}

-- 1. "The invariant holds in the initial state, whose mapping is the specification's initial state." (ours: the start)
pub record Criterion1 (d : Design) : Type 0 where
  pub invariant : Invariant d (initial_state d.impl)
  pub mapping : Maps d (initial_state d.impl) (initial_state d.spec)

-- 2. "Each mapped value is below its size." (ours: the sizes)
abbrev pub Criterion2 : Design → State → Type 0
Criterion2 d s = InSize d.spec (mapped d s)

-- 3. "Each enabled row leads inside the kind 1 sizes to a state where the invariant holds." (ours: the invariant; 004, definition
-- 2.5: b(d,e) and I(d) → I(g(d,e)))
abbrev pub Criterion3 : Design → State → Row → ℕ → Type 0
Criterion3 d s r e = Enabled r s e → InvariantState d (next_state r s e)

-- 4. "An enabled internal row keeps the mapping (source 004, criterion 2)"; "criteria 3 and 4 still concern every internal step". b(d,e) →
-- h(d) = h(g(d,e)), for every internal action
abbrev pub Criterion4 : Design → State → Row → ℕ → Type 0
Criterion4 d s r e = Enabled r s e → InternalRow r → Maps d (next_state r s e) (mapped d s)

-- 5. "An enabled internal row leads to a smaller measure (criterion 1, with the measure given)"; it looks "at marked steps only". 004:
-- convergent with respect to ξ, definition 4.4: b(d,e) and ξ(d,e) → g(d,e) < d, for every internal action. Here k is the row's number, and
-- what is lower is said by any measure.
abbrev pub Criterion5By : (State → State → Type 0) → Design → State → ℕ → Row → ℕ → Type 0
Criterion5By Lower d s k r e = Enabled r s e → InternalRow r → Marked d k s e → Lower (next_state r s e) s

-- with the measure of the text, which has a value where the step leads
abbrev pub Criterion5 : Design → State → ℕ → Row → ℕ → Type 0
Criterion5 d = Criterion5By (λ x s. HasMeasure d x × (measure_at d x < measure_at d s)) d

-- 6. "For an enabled visible row, the specification row of that action is enabled at the mapped state for the same sum value
-- (criterion 3)." b(d,e) → b'(h(d),e)
abbrev pub Criterion6 : Design → State → Row → ℕ → Type 0
Criterion6 d s r e = Enabled r s e → VisibleRow r → ActionEnabled d.spec r.action (mapped d s) e

-- 7. "At a focus point each specification row enabled at the mapped state has its implementation row enabled, for the same sum
-- value (criterion 4)." FC(d) and b'(h(d),e) → b(d,e), FC being that of definition 4.6. Here q is the specification's row.
abbrev pub Criterion7 : Design → State → Row → ℕ → Type 0
Criterion7 d s q e = FocusPoint d s → Enabled q (mapped d s) e → ActionEnabled d.impl q.action s e

-- the specification's row of that action (fault 7: one at most; where there is none, criterion 6 fails)
abbrev pub Partner : Design → Row → Row → Type 0
Partner d r q = (j : ℕ) × (RowIs d.spec.rows j q × (q.action ≡ r.action))

-- 8. "An enabled visible row has equal data on both sides (criterion 5)." b(d,e) → f(d,e) = f'(h(d),e)
abbrev pub Criterion8 : Design → State → Row → ℕ → Type 0
Criterion8 d s r e = Enabled r s e → VisibleRow r → (q : Row) → Partner d r q → data_number r s e ≡ data_number q (mapped d s) e

-- 9. "The mapping of its next state is the specification's next state (criterion 6)." b(d,e) → h(g(d,e)) = g'(h(d),e)
abbrev pub Criterion9 : Design → State → Row → ℕ → Type 0
Criterion9 d s r e = Enabled r s e → VisibleRow r → (q : Row) → Partner d r q → Maps d (next_state r s e) (next_state q (mapped d s) e)

-- 10. "the invariant has a value, and where it holds, so do mapping, measure, all conditions and marks, and the data and next values of
-- enabled rows, the specification's at the mapped state included" (ours: the values)

-- of a row: "all conditions", for each sum value, "and the data and next values of enabled rows"
pub record RowHas (r : Row) (s : State) : Type 0 where
  pub condition : (e : ℕ) → e < r.span → Has (meant_f r.condition s e)
  pub carries : (e : ℕ) → Enabled r s e → Has (meant_v r.carries s e)
  pub next : (e : ℕ) → Enabled r s e → Have r.next s e

-- of marks, of rows that are enabled or not
abbrev pub MarksHave : Design → State → Type 0
MarksHave d s = (k : ℕ) (r : Row) → RowIs d.impl.rows k r → InternalRow r → (e : ℕ) → e < r.span → MarkHas d k s e

-- of all but the invariant and the measure
pub record OthersHave (d : Design) (s : State) : Type 0 where
  pub mapping : Have d.mapping s 0
  pub impl : EachIs d.impl.rows (λ r. RowHas r s)
  pub marks : MarksHave d s
  pub spec : EachIs d.spec.rows (λ q. RowHas q (mapped d s))

-- "criterion 10 .. the measure apart", which order 4's 18 covers
pub record MeasureApart (d : Design) (s : State) : Type 0 where
  pub invariant : Has (meant_f d.invariant s 0)
  pub others : Invariant d s → OthersHave d s

pub record Criterion10 (d : Design) (s : State) : Type 0 where
  pub apart : MeasureApart d s
  pub measure : Invariant d s → HasMeasure d s

-- ---- all of them

-- at each row of the process by its number, for each sum value
abbrev pub EachNumbered : Process → (ℕ → Row → ℕ → Type 0) → Type 0
EachNumbered p C = (k : ℕ) (r : Row) (e : ℕ) → RowIs p.rows k r → C k r e

abbrev pub Each : Process → (Row → ℕ → Type 0) → Type 0
Each p C = EachNumbered p (λ _. C)

-- criteria 2 to 9 at a state
pub record Criteria (d : Design) (s : State) : Type 0 where
  pub second : Criterion2 d s
  pub third : Each d.impl (Criterion3 d s)
  pub fourth : Each d.impl (Criterion4 d s)
  pub fifth : EachNumbered d.impl (Criterion5 d s)
  pub sixth : Each d.impl (Criterion6 d s)
  pub seventh : Each d.spec (Criterion7 d s)
  pub eighth : Each d.impl (Criterion8 d s)
  pub ninth : Each d.impl (Criterion9 d s)

-- all ten: "the start's in the initial state, the others in every state where the invariant holds" (00, demand 2), and 10 in every state,
-- where it asks for the invariant's value first
pub record Meets (d : Design) : Type 0 where
  pub start : Criterion1 d
  pub tenth : (s : State) → InSize d.impl s → Criterion10 d s
  pub others : (s : State) → InvariantState d s → Criteria d s
