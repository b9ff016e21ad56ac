-- A look at state s over the arrays, f the fields and st the starts of lines: what holds in its loop, and what it gives.
use mathlib.Core.Path.{◌≡◌, sym, ◌∙◌}
use mathlib.Core.Bool.{Bool, true, false, not}
use mathlib.Core.List.{List}
use Prim.Native.Nat.{ℕ, ◌+◌, ◌-◌, ◌<◌, ◌≤◌, max}
use native.Mathlib.Omega.{arith}
use borrow.Author.Tests.{not-true, not-false}
use mir.Syntax.{w16}
use mir.Val.{Fits}
use lib.ListN.{get_or}
use Rattle.design.specs.declared.Shape.{Shape}
use Rattle.steps.specs.Arrays.{state_in, invariant_in}
use Rattle.marked_edges.specs.Edges.{edges, nowhere, leads_in, FirstFrom, NoneFrom, next_in}
use Rattle.longest_runs.specs.Search.{done, view, SettledTo, ReadyIn, Seen, StepLeft, SeenIn}
use Rattle.longest_runs.specs.declared.Sight.{Sight}
use Rattle.marked_edges.specs.declared.Edge.{Edge}
use Rattle.std.specs.Prelude.{Some, None}
use Rattle.longest_runs.proofs.Settled.{settled_past, settled_by, seen_all}

-- the steps of s are those at its values x; those before number k are settled, and the longest run by them has length `best`
pub record Looking (f st : List ℕ) (h : Shape) (n s : ℕ) (mark out x : List ℕ) (k best : ℕ) : Type 0 where
  pub ready : ReadyIn f st h n mark out s
  pub at_values : (j : ℕ) → next_in f st h s j ≡ leads_in f st h x j
  pub so_far : SettledTo (next_in f st h) n (view mark) (view out) s k best

-- ---- the invariant, which holds if b says so

module _ (f st : List ℕ) (h : Shape) (s : ℕ) (x : List ℕ) (b : Bool) (ex : x ≡ state_in f st h.implementation s)
    (eb : b ≡ invariant_in f st h x) where
  pub look_inside_lem : not b ≡ false → (j : ℕ) → next_in f st h s j ≡ leads_in f st h x j
  unfolding next_in
  look_inside_lem y j = rw (← ex, ← eb, not-false b y)

  pub look_outside : (n : ℕ) (mark out : List ℕ) → ReadyIn f st h n mark out s → not b ≡ true → Seen (next_in f st h) n (view mark) (view out) s edges (get_or out s 0) 0
  unfolding next_in
  look_outside n mark out r y =
      seen_all (next_in f st h) n (view mark) (view out) s (get_or out s 0) r.here
      (settled_past (next_in f st h) n (view mark) (view out) s (get_or mark s 0 - 1) edges (get_or out s 0) r.settled.most (omega arith) none
      r.settled)
    where
      none : (j : ℕ) → get_or mark s 0 - 1 ≤ j → j < edges → n ≤ next_in f st h s j
      none j k l = rw (← ex, ← eb, not-true b y) r.states

-- ---- the loop

module _ (f st : List ℕ) (h : Shape) (n s : ℕ) (mark out x : List ℕ) where
  pub look_begins : (a : ℕ) → ReadyIn f st h n mark out s → ((j : ℕ) → next_in f st h s j ≡ leads_in f st h x j) → a ≡ get_or mark s 0
      → Looking f st h n s mark out x (a - 1) (get_or out s 0)
  look_begins a r v e = record { ready = r; at_values = v; so_far = rw e r.settled }

  -- no step from number k on
  pub look_ends : (k best : ℕ) → NoneFrom (leads_in f st h x) k → Looking f st h n s mark out x k best → Seen (next_in f st h) n (view mark) (view out) s edges best 0
  look_ends k best found g =
      seen_all (next_in f st h) n (view mark) (view out) s best g.ready.here
      (settled_past (next_in f st h) n (view mark) (view out) s k edges best g.so_far.most (omega arith) none g.so_far)
    where
      none : (j : ℕ) → k ≤ j → j < edges → n ≤ next_in f st h s j
      none j a l =
          let e : next_in f st h s j ≡ nowhere = g.at_values j ∙ found.none j a l in
          let q = g.ready.states in
          omega arith

  -- the first step from number k on

  module _ (k best edge to : ℕ) (found : FirstFrom (leads_in f st h x) k edge to) (g : Looking f st h n s mark out x k best) where
    there : edge < edges
    there = found.one

    up_to : SettledTo (next_in f st h) n (view mark) (view out) s edge best
    up_to = let u = there in settled_past (next_in f st h) n (view mark) (view out) s k edge best found.from (omega arith) none g.so_far
      where
        none : (j : ℕ) → k ≤ j → j < edge → n ≤ next_in f st h s j
        none j a l =
            let e : next_in f st h s j ≡ nowhere = g.at_values j ∙ found.none_before j a l in
            let q = g.ready.states in
            omega arith

    leads : to ≡ next_in f st h s edge
    leads = found.there ∙ sym (g.at_values edge)

    pub look_past : n ≤ to → Looking f st h n s mark out x (edge + 1) best
    look_past i =
        let u = there in
        record {
          ready = g.ready;
          at_values = g.at_values;
          so_far = settled_past (next_in f st h) n (view mark) (view out) s edge (edge + 1) best (omega arith) (omega arith) none up_to;
        }
      where
        none : (j : ℕ) → edge ≤ j → j < edge + 1 → n ≤ next_in f st h s j
        none j a l = let e : j ≡ edge = omega arith in rw (e, ← leads) i

    module _ (inside : to < n) where
      pub look_stops : (get_or mark to 0 ≡ done → ⊥) → StepLeft (next_in f st h) n (view mark) (view out) s edge best to
      look_stops d = record { one = there; seen = record { settled = up_to; inside = inside; leads = λ l. leads; not_done = λ l. d } }

      pub look_by : (b : ℕ) → get_or mark to 0 ≡ done → b ≡ max best (get_or out to 0 + 1) → Looking f st h n s mark out x (edge + 1) b
      look_by b d larger =
          record {
            ready = g.ready;
            at_values = g.at_values;
            so_far = settled_by (next_in f st h) n (view mark) (view out) s edge best to b there leads inside d larger up_to;
          }

  -- the value of a state that is done may be raised
  pub look_spare : (k best to : ℕ) → Looking f st h n s mark out x k best → to < n → get_or mark to 0 ≡ done → Fits w16 (get_or out to 0 + 1)
  look_spare k best to g i d = let q = g.ready.spare to i d in record { fits = omega arith }

-- ---- what it gives

pub left_step : (f st : List ℕ) (h : Shape) (n s : ℕ) (mark out : List ℕ) (r : Sight) (x : Edge) → SeenIn f st h n mark out s r → r.step ≡ Some x
    → StepLeft (next_in f st h) n (view mark) (view out) s x.edge r.best x.to
left_step f st h n s mark out r x seen e = rw e at seen

pub no_step : (f st : List ℕ) (h : Shape) (n s : ℕ) (mark out : List ℕ) (r : Sight) → SeenIn f st h n mark out s r → r.step ≡ None
    → Seen (next_in f st h) n (view mark) (view out) s edges r.best 0
no_step f st h n s mark out r seen e = rw e at seen
