-- Enabled rows, marks, focus points, steps and their labels, lists of internal and of marked steps (01, "Nine criteria", "What demand 3
-- speaks of"; 02, orders 1, 5 and 6; source 004, section 4). Where a value is missing nothing is enabled, marked or a step.
use Rattle.std.specs.Prelude.{◌≡◌, ◌≢◌, cond, List, [], ◌∷◌, ℕ, suc, ◌<◌, eqb}
use Rattle.std.proofs.Math.Option.{some}
use Rattle.foundation.specs.Nth.{Nth}
use Rattle.terms.specs.Tree.{Formula, eval_v}
use Rattle.terms.specs.Meaning.{meant_v, meant_f, Has, Holds}
use Rattle.criteria.specs.Design.{Design, Process, Row, State, RowIs, Are, values}

-- "A row is enabled at a state for a sum value if its condition holds." "The sum value of a row runs from 0 to span - 1."
pub record Enabled (r : Row) (s : State) (e : ℕ) : Type 0 where
  pub in_span : e < r.span
  pub condition : Holds r.condition s e

-- "Its step goes to the next values and carries the data number", where these have values.
abbrev pub next_state : Row → State → ℕ → State
next_state r s e = values r.next s e

abbrev pub data_number : Row → State → ℕ → ℕ
data_number r s e = eval_v r.carries s e

-- "Action 0 is the internal step."
abbrev pub InternalRow : Row → Type 0
InternalRow r = r.action ≡ 0

abbrev pub VisibleRow : Row → Type 0
VisibleRow r = r.action ≢ 0

-- ---- marks

-- how many of these rows are internal
unfoldable pub internal_rows : List Row → ℕ
internal_rows [] = 0
internal_rows (r ∷ rows) = let n = internal_rows rows in cond (eqb r.action 0) (suc n) n

-- f is the formula of row k among these: "a formula for each internal row, in row order". A visible row has none.
pub data MarkIs : List Row → List Formula → ℕ → Formula → Type 0 where
  here : {r : Row} {rows : List Row} {f : Formula} {fs : List Formula} → InternalRow r → MarkIs (r ∷ rows) (f ∷ fs) 1 f
  past_internal : {r : Row} {rows : List Row} {f g : Formula} {fs : List Formula} {k : ℕ} → InternalRow r → MarkIs rows fs k g → MarkIs (r ∷ rows) (f ∷ fs) (suc k) g
  past_visible : {r : Row} {rows : List Row} {g : Formula} {fs : List Formula} {k : ℕ} → VisibleRow r → MarkIs rows fs k g → MarkIs (r ∷ rows) fs (suc k) g

-- the step of the internal row k from s, for the sum value e, is marked (004, definition 4.3: ξ holds there; each internal row is an action
-- of its own among its Int, none its τ)
pub data Marked (d : Design) (k : ℕ) (s : State) (e : ℕ) : Type 0 where
  -- "Without the line all steps are marked."
  all_marked : d.marks ≡ [] → Marked d k s e
  -- "A marked step is one whose formula holds", "over its parameters and sum value"
  by_formula : {fs : List Formula} {f : Formula} → Nth d.marks 1 fs → MarkIs d.impl.rows fs k f → Holds f s e → Marked d k s e

-- the mark of the internal row k has a value there, if there are marks
pub data MarkHas (d : Design) (k : ℕ) (s : State) (e : ℕ) : Type 0 where
  no_marks : d.marks ≡ [] → MarkHas d k s e
  has_mark : {fs : List Formula} {f : Formula} → Nth d.marks 1 fs → MarkIs d.impl.rows fs k f → Has (meant_f f s e) → MarkHas d k s e

-- "A focus point is a state with no internal row enabled"; "Criterion 5 and the focus point then look at marked steps only": no marked
-- step starts there
abbrev pub FocusPoint : Design → State → Type 0
FocusPoint d s = (k : ℕ) (r : Row) (e : ℕ) → RowIs d.impl.rows k r → InternalRow r → Enabled r s e → Marked d k s e → ⊥

-- "no internal row, marked or not, is enabled in" the state (02, order 6)
abbrev pub NoInternal : Process → State → Type 0
NoInternal p s = (k : ℕ) (r : Row) (e : ℕ) → RowIs p.rows k r → InternalRow r → Enabled r s e → ⊥

-- some internal row is: which, and for which sum value
pub record SomeInternal (p : Process) (s : State) : Type 0 where
  pub at : ℕ
  pub row : Row
  pub sum : ℕ
  pub is_row : RowIs p.rows at row
  pub internal : InternalRow row
  pub enabled : Enabled row s sum

-- the row of an action is enabled: "An action with no row in a process is never enabled there."
pub record ActionEnabled (p : Process) (action : ℕ) (s : State) (e : ℕ) : Type 0 where
  pub at : ℕ
  pub row : Row
  pub is_row : RowIs p.rows at row
  pub same : row.action ≡ action
  pub enabled : Enabled row s e

-- ---- steps

-- "its label is its action with its data number, neither row nor sum value"
pub record Label : Type 0 where
  pub action : ℕ
  pub number : ℕ

-- "A row enabled at a state for a sum value gives one step, to the next values"; the step and its label exist where the values do.
pub record Step (p : Process) (l : Label) (s s' : State) : Type 0 where
  pub at : ℕ
  pub row : Row
  pub sum : ℕ
  pub is_row : RowIs p.rows at row
  pub enabled : Enabled row s sum
  pub action : row.action ≡ l.action
  pub number : meant_v row.carries s sum ≡ some l.number
  pub goes : Are row.next s sum s'

-- "A step of action 0 is internal."
pub record Internal (p : Process) (s s' : State) : Type 0 where
  pub label : Label
  pub step : Step p label s s'
  pub zero : label.action ≡ 0

-- "A marked step is one whose formula holds."
pub record MarkedStep (d : Design) (s s' : State) : Type 0 where
  pub internal : Internal d.impl s s'
  pub marked : Marked d internal.step.at s internal.step.sum

-- "Any other is visible"
pub record Visible (p : Process) (l : Label) (s s' : State) : Type 0 where
  pub step : Step p l s s'
  pub nonzero : l.action ≢ 0

-- ---- lists of steps

-- a list of n steps, "none or more, the first from the state in question, each later one from where the one before led", to s'
pub data Steps (Goes : State → State → Type 0) : State → ℕ → State → Type 0 where
  none : {s : State} → Steps Goes s 0 s
  more : {s u s' : State} {n : ℕ} → Goes s u → Steps Goes u n s' → Steps Goes s (suc n) s'

-- its states: where it starts, and where each step leads
abbrev pub states_of : {Goes : State → State → Type 0} {s s' : State} {n : ℕ} → Steps Goes s n s' → List State
states_of (none {s = s}) = s ∷ []
states_of (more {s = s} step rest) = s ∷ states_of rest

-- "some chain of internal steps from s, none or more", marked or not
abbrev pub Chain : Design → State → ℕ → State → Type 0
Chain d = Steps (Internal d.impl)

-- "A run in demand 3 is a list of internal steps, none or more"; 02: "its runs being of marked steps"
abbrev pub Run : Design → State → ℕ → State → Type 0
Run d = Steps (MarkedStep d)

-- "It can't go on if no" marked step "starts where it ends."
abbrev pub CantGoOn : Design → State → Type 0
CantGoOn d s = (s' : State) → MarkedStep d s s' → ⊥
