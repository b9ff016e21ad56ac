-- What a design text says (01, "Design text"; 02, order 1): parameters, rows, invariant, mapping, measure, marks; states of the two
-- processes; and what a text that is not turned down keeps. How a text is read is not here; terms and their values are in the crate terms.
-- Throughout: d a design, s a state of the implementation, t one of the specification, r a row, q a row of the specification,
-- e a sum value.
use Rattle.std.specs.Prelude.{◌≡◌, ◌≢◌, List, map, ℕ, ◌≤◌, ◌<◌}
use Rattle.limits.specs.Limits.{max_span, max_states}
use Rattle.foundation.specs.Radix.{Below, product, number_of}
use Rattle.foundation.specs.Nth.{Nth, EachIs}
use Rattle.terms.specs.Tree.{Value, Formula, num, eval_v}
use Rattle.terms.specs.Meaning.{meant_v, Has, Holds}

pub record Parameter : Type 0 where
  pub size : ℕ
  pub initial : ℕ

-- "action, span, condition, data, one next value for each" parameter; `carries` is the data
pub record Row : Type 0 where
  pub action : ℕ
  pub span : ℕ
  pub condition : Formula
  pub carries : Value
  pub next : List Value

-- the implementation (kinds 1 and 3) or the specification (kinds 2 and 4)
pub record Process : Type 0 where
  pub parameters : List Parameter
  pub rows : List Row

pub record Design : Type 0 where
  pub impl : Process
  pub spec : Process
  pub invariant : Formula
  pub mapping : List Value
  pub measure : Value
  -- the formulas of each kind 8 line, of which there is none or one: "A text may end with one kind 8 line: a formula for each internal
  -- row, in row order". `MarkIs` in Step says which formula is whose.
  pub marks : List (List Formula)

-- the design with other marks
abbrev pub with_marks : Design → List (List Formula) → Design
with_marks d ms = record { impl = d.impl; spec = d.spec; invariant = d.invariant; mapping = d.mapping; measure = d.measure; marks = ms }

-- row number k of these rows is r: "rows count from 1 within their process"
abbrev pub RowIs : List Row → ℕ → Row → Type 0
RowIs = Nth

-- ---- states

abbrev pub State : Type 0
State = List ℕ

-- "a state of a process is one number from 0 to 65,535 for each of its parameters, in size or not"
abbrev pub StateOf : Process → State → Type 0
StateOf p s = Below (map (λ (_ : Parameter). 65536) p.parameters) s

abbrev pub sizes : Process → List ℕ
sizes p = map (λ (q : Parameter). q.size) p.parameters

-- "an implementation state has each below its size"; of the specification's: "each mapped value is below its size"
abbrev pub InSize : Process → State → Type 0
InSize p s = Below (sizes p) s

abbrev pub initial_state : Process → State
initial_state p = map (λ (q : Parameter). q.initial) p.parameters

-- "a state's number counts its parameter values in mixed radix, the first parameter most significant"
abbrev pub state_number : Design → State → ℕ
state_number d s = number_of (sizes d.impl) s

-- how many states there are
abbrev pub states : Design → ℕ
states d = product (sizes d.impl)

-- ---- invariant, mapping, measure. Kinds 5 to 7 have no sum value: 0 stands for it, and no term there reads it.

-- the values of terms at a state, for a sum value, where each has one
abbrev pub values : List Value → State → ℕ → State
values vs s e = map (λ (v : Value). eval_v v s e) vs

-- each has one
abbrev pub Have : List Value → State → ℕ → Type 0
Have vs s e = EachIs vs (λ v. Has (meant_v v s e))

-- their values are t: each has one, and these are they
pub record Are (vs : List Value) (s : State) (e : ℕ) (t : State) : Type 0 where
  pub have : Have vs s e
  pub same : values vs s e ≡ t

-- "in which the invariant holds"
abbrev pub Invariant : Design → State → Type 0
Invariant d s = Holds d.invariant s 0

-- "the mapped state and the measure of a state are the kind 6 and kind 7 values there"
abbrev pub mapped : Design → State → State
mapped d s = values d.mapping s 0

abbrev pub measure_at : Design → State → ℕ
measure_at d s = eval_v d.measure s 0

-- the mapped state of s is t; s has a measure
abbrev pub Maps : Design → State → State → Type 0
Maps d s t = Are d.mapping s 0 t

abbrev pub HasMeasure : Design → State → Type 0
HasMeasure d s = Has (meant_v d.measure s 0)

-- an implementation state in which the invariant holds
pub record InvariantState (d : Design) (s : State) : Type 0 where
  pub in_size : InSize d.impl s
  pub invariant : Invariant d s

-- ---- what a text that is not turned down keeps of its numbers: fault 5, and that a field is at most 65,535

-- "Sizes and spans are at least 1, .. initial values below their size."
abbrev pub SizesFit : Process → Type 0
SizesFit p = EachIs p.parameters (λ q. (q.size < 65536) × (q.initial < q.size))

-- "Sizes and spans are at least 1, spans at most 256"
abbrev pub SpansFit : Process → Type 0
SpansFit p = EachIs p.rows (λ r. (1 ≤ r.span) × (r.span ≤ max_span))

-- ---- and of its rows: fault 7

-- "a visible action in two rows of one process"
abbrev pub OneEach : List Row → Type 0
OneEach rows = (k j : ℕ) (r q : Row) → RowIs rows k r → RowIs rows j q → r.action ≢ 0 → r.action ≡ q.action → k ≡ j

abbrev pub OneRowEach : Process → Type 0
OneRowEach p = OneEach p.rows

pub record Admitted (d : Design) : Type 0 where
  pub impl_sizes : SizesFit d.impl
  pub spec_sizes : SizesFit d.spec
  pub impl_spans : SpansFit d.impl
  pub spec_spans : SpansFit d.spec
  -- "the product of the kind 1 sizes is at most 65,536"
  pub few_states : states d ≤ max_states
  pub impl_one_row : OneRowEach d.impl
  pub spec_one_row : OneRowEach d.spec
  -- "action 0 in a kind 4 line"
  pub spec_visible : EachIs d.spec.rows (λ q. q.action ≢ 0)
  -- "action 0 with data other than `0 0`"
  pub internal_data : EachIs d.impl.rows (λ r. r.action ≡ 0 → r.carries ≡ num 0)
  -- "one action with different spans in the two processes"
  pub same_span : EachIs d.impl.rows (λ r. EachIs d.spec.rows (λ q. r.action ≡ q.action → r.span ≡ q.span))
