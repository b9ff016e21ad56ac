-- Branching bisimilarity, rooted and not, and demand 3 of a design (01, "What demand 3 speaks of"; 00, demand 3; 02, orders 1 and 6).
-- Source 000, section 6.1, has it for processes that may both have internal steps; here the specification has none. Bisimilarity knows
-- nothing of marks: its chains are of internal steps.
use Rattle.std.specs.Prelude.{◌≡◌, ℕ, ◌≤◌}
use Rattle.foundation.specs.Nth.{Nth}
use Rattle.criteria.specs.Design.{Design, State, StateOf, InSize, InvariantState, Have, Maps, HasMeasure, mapped, measure_at, initial_state}
use Rattle.criteria.specs.Step.{Label, Step, Internal, Visible, FocusPoint, Steps, Chain, Run, states_of, CantGoOn}

-- "there is a step from t with the same label, and the two lead to related states": s' is where the implementation's step led
pub record Answer (d : Design) (R : State → State → Type 0) (l : Label) (t s' : State) : Type 0 where
  pub to : State
  pub step : Step d.spec l t to
  pub related : R s' to

-- "some chain of internal steps from s, none or more, leads to a state related to t, and from there some step with the same label
-- leads to a state related to the one that t's step leads to": that one is t'
pub record Reply (d : Design) (R : State → State → Type 0) (l : Label) (s t t' : State) : Type 0 where
  pub length : ℕ
  pub before : State
  pub chain : Chain d s length before
  pub still : R before t
  pub to : State
  pub step : Step d.impl l before to
  pub related : R to t'

-- "A relation between states of the implementation and of the specification is a branching bisimulation if for each related pair,
-- s and t:"
pub record BranchingBisimulation (d : Design) (R : State → State → Type 0) : Type 0 where
  -- it is between states of the implementation and of the specification
  pub between : (s t : State) → R s t → InSize d.impl s × StateOf d.spec t
  -- "each internal step from s leads to a state related to t"
  pub internal : (s t s' : State) → R s t → Internal d.impl s s' → R s' t
  -- "for each visible step from s there is a step from t with the same label, and the two lead to related states"
  pub visible : (s t s' : State) (l : Label) → R s t → Visible d.impl l s s' → Answer d R l t s'
  -- "for each step from t, some chain of internal steps from s, none or more, leads to a state related to t, and from there some
  -- step with the same label leads to a state related to the one that t's step leads to"
  pub back : (s t t' : State) (l : Label) → R s t → Step d.spec l t t' → Reply d R l s t t'

-- "Two states are branching bisimilar if some branching bisimulation relates them."
pub record Bisimilar (d : Design) (s t : State) : Type 1 where
  pub relation : State → State → Type 0
  pub is_bisimulation : BranchingBisimulation d relation
  pub relates : relation s t

-- ---- rooted (source 000, section 6.1: "initial τ-transitions are never truly silent. In other words, two states are considered equivalent
-- if they can simulate each other's initial transitions, such that the resulting states are branching bisimilar")

-- "t -a-> t' with s' ↔b t'": s' is where the implementation's step led
pub record RootedAnswer (d : Design) (l : Label) (t s' : State) : Type 1 where
  pub to : State
  pub step : Step d.spec l t to
  pub bisimilar : Bisimilar d s' to

-- "s -a-> s' with s' ↔b t'": t' is where the specification's step led
pub record RootedReply (d : Design) (l : Label) (s t' : State) : Type 1 where
  pub to : State
  pub step : Step d.impl l s to
  pub bisimilar : Bisimilar d to t'

-- "A rooted branching bisimulation relation B is a binary relation on states in process graphs such that:" (clauses 3 and 4 are about states
-- in which a process ends, "s ↓"; ours don't end)
pub record RootedBranchingBisimulation (d : Design) (R : State → State → Type 0) : Type 1 where
  -- it is between states of the implementation and of the specification
  pub between : (s t : State) → R s t → InSize d.impl s × StateOf d.spec t
  -- "1. if s B t and s -a-> s', then t -a-> t' with s' ↔b t'": for every step, an internal one too
  pub forth : (s t s' : State) (l : Label) → R s t → Step d.impl l s s' → RootedAnswer d l t s'
  -- "2. if s B t and t -a-> t', then s -a-> s' with s' ↔b t'": at once, without internal steps before it
  pub back : (s t t' : State) (l : Label) → R s t → Step d.spec l t t' → RootedReply d l s t'

-- "Two states s and t are rooted branching bisimilar, .. if there is a rooted branching bisimulation relation B such that s B t."
pub record RootedBisimilar (d : Design) (s t : State) : Type 1 where
  pub relation : State → State → Type 0
  pub is_rooted : RootedBranchingBisimulation d relation
  pub relates : relation s t

-- "both initial states rooted branching bisimilar" (02, order 6)
abbrev pub InitialRooted : Design → Type 1
InitialRooted d = RootedBisimilar d (initial_state d.impl) (initial_state d.spec)

-- ---- demand 3

-- a list of steps "stays where the invariant holds and the mapped state is the same": so is each state u of it
abbrev pub Stays : (d : Design) {Goes : State → State → Type 0} {s s' : State} {n : ℕ} → Steps Goes s n s' → Type 0
Stays d {s = s} steps = (k : ℕ) (u : State) → Nth (states_of steps) k u → InvariantState d u × (mapped d u ≡ mapped d s)

-- what is so of a run of n marked steps from s to s'
pub record RunKept (d : Design) {s s' : State} {n : ℕ} (run : Run d s n s') : Type 0 where
  -- "has at most as many steps as the state's measure"
  pub at_most : n ≤ measure_at d s
  -- "and stays where the invariant holds and the mapped state is the same"
  pub stays : Stays d run
  -- "a run that can't go on has stopped at a focus point"
  pub stopped : CantGoOn d s' → FocusPoint d s'

-- "marked steps alone reach a focus point within the measure": there is such a run from s; `runs` below bounds every run
pub record Reaches (d : Design) (s : State) : Type 0 where
  pub length : ℕ
  pub end : State
  pub run : Run d s length end
  pub within : length ≤ measure_at d s
  pub focus : FocusPoint d end

-- of a state
pub record Promised (d : Design) (s : State) : Type 1 where
  -- its mapped state and its measure have values
  pub has_mapped : Have d.mapping s 0
  pub has_measure : HasMeasure d s
  -- "That state and its mapped specification state are branching bisimilar"
  pub bisimilar : Bisimilar d s (mapped d s)
  -- "Every run of" marked "steps from it, whichever enabled rows and sum values it takes"
  pub runs : (n : ℕ) (s' : State) (run : Run d s n s') → RunKept d run
  -- "from each invariant state marked steps alone reach a focus point within the measure"
  pub reaches : Reaches d s
  -- "criteria 3 and 4 still concern every internal step": marked or not, as many as there are, they stay
  pub chains : (n : ℕ) (s' : State) (chain : Chain d s n s') → Stays d chain

-- of a design
pub record Demand3 (d : Design) : Type 1 where
  -- "every implementation state where its invariant holds"
  pub each : (s : State) → InvariantState d s → Promised d s
  -- "the initial one among them", and its mapped state is the specification's initial one
  pub initial_among : InvariantState d (initial_state d.impl)
  pub initial_mapped : Maps d (initial_state d.impl) (initial_state d.spec)
