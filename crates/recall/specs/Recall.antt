-- What is known of a state from those before it. Beside each row stands a set of parameters, as in the crate reads: what is known of the row is
-- so in every state of the invariant that differs from the last one in none of them. 256 is no parameter: in a set it says that nothing is
-- known. f the fields, s the starts of lines, h the shape, p the plan; v, x arrays that hold states, t the mapped state; i counts rows from 0.
use Rattle.std.specs.Prelude.{◌≡◌, Bool, true, false, not, cond, List, ℕ, ◌+◌, ◌≤◌, ◌<◌, eqb, length, get_or, drop, set, Option, Some, is_some, unwrap_or}
use Rattle.std.specs.Int.Bits.{bit_and, bit_or}
use Rattle.foundation.specs.First.{all_in_range}
use Rattle.foundation.specs.Reflects.{◌⇒◌}
use Rattle.terms.specs.Tree.{eval_f}
use Rattle.terms.specs.Read.{read_f}
use Rattle.criteria.specs.Design.{Design, Row, states, mapped}
use Rattle.criteria.specs.Rows.{row_at, marked_test}
use Rattle.decision.specs.Tests.{enabled_b, invariant_b, partner, holds2}
use Rattle.decision.specs.Quick.{row_holds, state_holds}
use Rattle.design.specs.Loaded.{design_at}
use Rattle.design.specs.declared.Shape.{Shape}
use Rattle.layout.specs.Sizes.{Fits}
use Rattle.steps.specs.Arrays.{line_of, state_in, mapped_in, measure_in}
use Rattle.conjuncts.specs.Conjuncts.{guard_in}
use Rattle.conjuncts.specs.declared.Guarded.{Guarded}
use Rattle.row_plan.specs.RowPlan.{row_plan_at}
use Rattle.row_plan.specs.declared.RowPlan.{RowPlan}
use Rattle.plan.specs.Plan.{plan_in, sure_in}
use Rattle.state_passes.specs.Passes.{impl_between, spec_between}
use Rattle.reads.specs.Reads.{differ}
use Rattle.watched.specs.Watched.{all_of, map_reads, enabling, watched, reply_watched}
use Rattle.recall.specs.declared.Look.{Look}

-- what is so if an answer is yes; of a no nothing is said
pub record When (yes : Bool) (P : Type 0) : Type 0 where
  pub so : yes ≡ true → P

-- ---- sets

-- nothing is known
abbrev pub unknown : ℕ
unknown = 256

-- in what v differs from the last state, and that there was one
unfoldable pub since : List ℕ → List ℕ → ℕ
since last v = bit_or unknown (differ last v)

-- the sets of a design: what enables each row of the implementation, what its criteria watch, what the reply to each row of the
-- specification watches, what the mapping reads
pub record SetsAre (d : Design) (sets : List ℕ) : Type 0 where
  pub enable : (i : ℕ) → i < length d.impl.rows → get_or sets i 0 ≡ enabling d (i + 1)
  pub watch : (i : ℕ) → i < length d.impl.rows → get_or sets (32 + i) 0 ≡ watched d (i + 1)
  pub reply : (i : ℕ) → i < length d.spec.rows → get_or sets (64 + i) 0 ≡ reply_watched d (i + 1)
  pub mapping : get_or sets 96 0 ≡ all_of (map_reads d)

-- the first i rows of the implementation and j of the specification have theirs
pub record SetsTo (d : Design) (sets : List ℕ) (i j : ℕ) : Type 0 where
  pub long : length sets ≡ 97
  pub enable : (k : ℕ) → k < i → get_or sets k 0 ≡ enabling d (k + 1)
  pub watch : (k : ℕ) → k < i → get_or sets (32 + k) 0 ≡ watched d (k + 1)
  pub reply : (k : ℕ) → k < j → get_or sets (64 + k) 0 ≡ reply_watched d (k + 1)

-- ---- states

-- an array that holds a state
pub record StateArray (f s : List ℕ) (h : Shape) (v : List ℕ) : Type 0 where
  pub number : ℕ
  pub below : number < states (design_at f s h)
  pub is : v ≡ state_in f s h.implementation number

-- a state of the invariant that is looked at, in a design that is well planned and in which nothing lacks a value
pub record Task (f s : List ℕ) (h : Shape) (p sets v : List ℕ) : Type 0 where
  pub fits : Fits h
  pub planned : p ≡ plan_in f s h
  pub sure : sure_in f s h ≡ true
  pub sets_are : SetsAre (design_at f s h) sets
  pub state : StateArray f s h v
  pub holds : invariant_b (design_at f s h) v ≡ true

-- ---- what is known

module _ (f s : List ℕ) (h : Shape) where
  abbrev d : Design
  d = design_at f s h

  -- P is so in each state of the invariant that differs from v in nothing that is in the set w
  abbrev pub Known : List ℕ → ℕ → (List ℕ → Type 0) → Type 0
  Known v w P = (x : List ℕ) → StateArray f s h x → invariant_b d x ≡ true → bit_and w (since v x) ≡ 0 → P x

  -- a row keeps its criteria; it has a marked step; a row of the specification is replied to
  abbrev pub Keeps : ℕ → List ℕ → Type 0
  Keeps i x = let r : Row = row_at d.impl.rows (i + 1) in all_in_range (λ e. row_holds d x (i + 1) r e) r.span 0 ≡ true

  abbrev pub Loud : ℕ → List ℕ → Type 0
  Loud i x = let r : Row = row_at d.impl.rows (i + 1) in all_in_range (λ e. not (marked_test d x (i + 1) r e)) r.span 0 ≡ false

  abbrev pub Replied : ℕ → List ℕ → Type 0
  Replied i x = let q : Row = row_at d.spec.rows (i + 1) in all_in_range (λ e. enabled_b q (mapped d x) e ⇒ enabled_b (partner d.impl q.action) x e) q.span 0 ≡ true

  -- of row i: it keeps its criteria, and has a marked step if `loud` is not 0
  pub record RowIs (i loud : ℕ) (x : List ℕ) : Type 0 where
    pub keeps : Keeps i x
    pub is_loud : (loud ≡ 0 → ⊥) → Loud i x

  -- the mapped state is t, and in size
  pub record MappedIs (t x : List ℕ) : Type 0 where
    pub is : t ≡ mapped_in f s h x
    pub in_size : holds2 d x ≡ true

  -- what is written beside row i, beside the reply to row i of the specification, and beside the mapping, is so from v on
  abbrev pub RowKnown : List ℕ → List ℕ → ℕ → Type 0
  RowKnown watch v i = Known v (get_or watch i 0) (RowIs i (get_or watch (65 + i) 0))

  abbrev pub ReplyKnown : List ℕ → List ℕ → ℕ → Type 0
  ReplyKnown watch v i = Known v (get_or watch (32 + i) 0) (Replied i)

  abbrev pub MappedKnown : List ℕ → List ℕ → List ℕ → Type 0
  MappedKnown watch t v = Known v (get_or watch 64 0) (MappedIs t)

  -- all of it
  pub record Recalls (watch t v : List ℕ) : Type 0 where
    pub rows : (i : ℕ) → i < h.implementation.rows.count → RowKnown watch v i
    pub replies : (i : ℕ) → i < h.specification.rows.count → ReplyKnown watch v i
    pub mapping : MappedKnown watch t v

  -- what was written before v is so at v and from there on wherever it has nothing in common with what changed
  pub record RowsCarried (changed : ℕ) (watch v : List ℕ) : Type 0 where
    pub row : (i : ℕ) → i < h.implementation.rows.count → bit_and (get_or watch i 0) changed ≡ 0 → RowKnown watch v i × RowIs i (get_or watch (65 + i) 0) v

  pub record RepliesCarried (changed : ℕ) (watch v : List ℕ) : Type 0 where
    pub row : (i : ℕ) → i < h.specification.rows.count → bit_and (get_or watch (32 + i) 0) changed ≡ 0 → ReplyKnown watch v i × Replied i v

  pub record MappedCarried (changed : ℕ) (watch t v : List ℕ) : Type 0 where
    pub mapping : bit_and (get_or watch 64 0) changed ≡ 0 → MappedKnown watch t v × MappedIs t v

-- ---- a look at a row

-- row i of the implementation is not enabled for any sum value, as far as a look at its condition for one tells
unfoldable pub idle_in : List ℕ → List ℕ → Shape → List ℕ → ℕ → List ℕ → Bool
idle_in f s h p i v =
    let e : RowPlan = row_plan_at p i in
    let front : Guarded = guard_in f v 0 e.front (line_of s h.implementation (i + 1) + 3) 32 in
    cond front.holds (cond e.free (not (eval_f (read_f front.depth (drop front.at f)).tree v 0)) false) true

-- what is seen of it
abbrev pub seen_in : List ℕ → List ℕ → Shape → List ℕ → ℕ → List ℕ → List ℕ → Option Bool
seen_in f s h p i v t = impl_between f s h p i (i + 1) v t (measure_in f s h v)

-- a row that is not enabled keeps its criteria until what enables it changes
unfoldable pub look_inside : List ℕ → List ℕ → Shape → List ℕ → List ℕ → ℕ → List ℕ → List ℕ → Look
look_inside f s h p sets i v t =
    cond (idle_in f s h p i v) (record { seen = Some true; watch = get_or sets i 0 }) (record { seen = seen_in f s h p i v t; watch = get_or sets (32 + i) 0 })

-- ---- rows, one after the other

-- 1 if there is a marked step
abbrev pub loud_of : Bool → ℕ
loud_of quiet = cond quiet 0 1

-- what is known of row i is kept, or it is looked at; and whether it holds
unfoldable pub noted_in : List ℕ → List ℕ → Shape → List ℕ → List ℕ → ℕ → ℕ → List ℕ → List ℕ → List ℕ → List ℕ
noted_in f s h p sets changed i v t watch =
    let r : Look = look_inside f s h p sets i v t in
    cond (eqb (bit_and (get_or watch i 0) changed) 0) watch (set (set watch i r.watch) (65 + i) (loud_of (unwrap_or r.seen false)))

unfoldable pub row_passes_in : List ℕ → List ℕ → Shape → List ℕ → List ℕ → ℕ → ℕ → List ℕ → List ℕ → List ℕ → Bool
row_passes_in f s h p sets changed i v t watch = cond (eqb (bit_and (get_or watch i 0) changed) 0) true (is_some (look_inside f s h p sets i v t).seen)

-- one of the rows before row i has a marked step
pub record OneLoud (f s : List ℕ) (h : Shape) (v : List ℕ) (i : ℕ) : Type 0 where
  pub row : ℕ
  pub before : row < i
  pub is : Loud f s h row v

-- the rows before row i pass at v and are noted; the others are as they were; and if it isn't quiet one of the former has a marked step
pub record RowsTo (f s : List ℕ) (h : Shape) (before v watch : List ℕ) (i : ℕ) (quiet : Bool) : Type 0 where
  pub long : length watch ≡ 97
  pub done : (j : ℕ) → j < i → RowKnown f s h watch v j × RowIs f s h j (get_or watch (65 + j) 0) v
  pub ahead : (j : ℕ) → i ≤ j → j < 32 → (get_or watch j 0 ≡ get_or before j 0) × (get_or watch (65 + j) 0 ≡ get_or before (65 + j) 0)
  pub others : (j : ℕ) → 32 ≤ j → j < 65 → get_or watch j 0 ≡ get_or before j 0
  pub loud : quiet ≡ false → OneLoud f s h v i

-- ---- replies, one after the other

-- what is known of the reply to row i is kept; where it isn't, the row is looked at at a focus point, and elsewhere forgotten
unfoldable pub reply_noted_in : List ℕ → ℕ → Bool → ℕ → List ℕ → List ℕ
reply_noted_in sets changed quiet i watch =
    cond (eqb (bit_and (get_or watch (32 + i) 0) changed) 0) watch (cond quiet (set watch (32 + i) (get_or sets (64 + i) 0)) (set watch (32 + i) unknown))

unfoldable pub reply_passes_in : List ℕ → List ℕ → Shape → List ℕ → ℕ → Bool → ℕ → List ℕ → List ℕ → List ℕ → Bool
reply_passes_in f s h p changed quiet i v t watch =
    cond (eqb (bit_and (get_or watch (32 + i) 0) changed) 0) true (cond quiet (spec_between f s h p i (i + 1) v t) true)

-- the rows before row i are replied to at v, if it is a focus point, and noted; the others are as they were
pub record RepliesTo (f s : List ℕ) (h : Shape) (before v watch : List ℕ) (i : ℕ) (quiet : Bool) : Type 0 where
  pub long : length watch ≡ 97
  pub done : (j : ℕ) → j < i → ReplyKnown f s h watch v j × (quiet ≡ true → Replied f s h j v)
  pub ahead : (j : ℕ) → i ≤ j → j < 32 → get_or watch (32 + j) 0 ≡ get_or before (32 + j) 0
  pub rows : (j : ℕ) → j < 32 → get_or watch j 0 ≡ get_or before j 0
  pub others : (j : ℕ) → 64 ≤ j → get_or watch j 0 ≡ get_or before j 0

-- ---- the mapping

-- the mapped state is t, in size, and known from v on; the others are as they were
pub record MappedTo (f s : List ℕ) (h : Shape) (before v watch t : List ℕ) : Type 0 where
  pub long : length watch ≡ 97
  pub here : MappedIs f s h t v
  pub on : MappedKnown f s h watch t v
  pub others : (j : ℕ) → (j ≡ 64 → ⊥) → get_or watch j 0 ≡ get_or before j 0

-- ---- the state

-- v passes, and what is known is known from v on
pub record Passed (f s : List ℕ) (h : Shape) (v watch t : List ℕ) : Type 0 where
  pub long : length watch ≡ 97
  pub holds : state_holds (design_at f s h) v ≡ true
  pub recalls : Recalls f s h watch t v

-- nothing is written yet
pub record Forgets (watch : List ℕ) : Type 0 where
  pub long : length watch ≡ 97
  pub each : (i : ℕ) → i < 97 → get_or watch i 0 ≡ unknown
