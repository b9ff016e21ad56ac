-- What a desk that holds a text's lines comes to, in the words of the text's design.
use Prim.Native.Nat.{ℕ, ◌+◌, ◌≤◌}
use mathlib.Core.Path.{◌≡◌}
use mathlib.Core.List.{List}
use Rattle.foundation.specs.Walk.{walk}
use Rattle.criteria.specs.Design.{Design, states, state_number, initial_state}
use Rattle.decision.specs.Tests.{holds1}
use Rattle.decision.specs.Verdict.{acceptance_of}
use Rattle.decision.specs.Examine.{examine}
use Rattle.design.specs.Lines.{design_text}
use Rattle.layout.specs.Sizes.{state_count_in, initial_number_in}
use Rattle.loader.specs.Load.{fault_of}
use Rattle.start.specs.Start.{start_in, acceptance_in}
use Rattle.walk.specs.Walk.{plan_of, walked_under}
use Rattle.walk.specs.Told.{said_walked}
use Rattle.desk.specs.Desk.{HoldsText}
use Rattle.desk.specs.declared.Desk.{Desk}
use Rattle.checker.proofs.Opened.{start_held, accepted_held, total_held, initial_held, walk_held}

-- the text has no fault, the desk holds its lines, and its plan is that of its arrays
pub record Ready (text : List ℕ) (desk : Desk) : Type 0 where
  pub free : fault_of text ≡ 0
  pub held : HoldsText text desk
  pub plan_is : desk.plan ≡ plan_of desk.lines.fields desk.lines.starts desk.counts

module _ (text : List ℕ) (desk : Desk) (r : Ready text desk) where
  abbrev d : Design
  d = design_text text

  h : HoldsText text desk
  h = r.held

  pub start_is : start_in desk.lines.fields desk.lines.starts desk.counts ≡ holds1 d
  start_is = rw (h.fields_are, h.starts_are, h.counts_are) (start_held text r.free)

  pub acceptance_is : acceptance_in desk.lines.fields desk.lines.starts desk.counts ≡ acceptance_of d
  acceptance_is = rw (h.fields_are, h.starts_are, h.counts_are) (accepted_held text r.free)

  pub total_is : state_count_in desk.lines.fields desk.lines.starts desk.counts ≡ states d
  total_is = rw (h.fields_are, h.starts_are, h.counts_are) (total_held text r.free)

  pub initial_is : initial_number_in desk.lines.fields desk.lines.starts desk.counts ≡ state_number d (initial_state d.impl)
  initial_is = rw (h.fields_are, h.starts_are, h.counts_are) (initial_held text r.free)

  pub walk_is : (n from : ℕ) → from + n ≤ states (design_text text)
      → walked_under desk.lines.fields desk.lines.starts desk.counts desk.plan n from ≡ said_walked (walk (examine (design_text text)) n from)
  walk_is n from l = rw (r.plan_is, h.fields_are, h.starts_are, h.counts_are) (walk_held text r.free n from l)
