-- What the arrays that hold a text's lines come to, in the words of the text's design: the start, how it is accepted, the number of states,
-- the number of the initial state, and a walk. From here on nothing speaks of arrays.
use Prim.Native.Nat.{ℕ, ◌+◌, ◌≤◌, min}
use mathlib.Core.Path.{◌≡◌, ap, ◌∙◌}
use mathlib.Core.Bool.{true}
use mathlib.Core.List.{List}
use native.Mathlib.Omega.{arith}
use Rattle.foundation.specs.Walk.{walk}
use Rattle.foundation.proofs.Radix.{number_below}
use Rattle.reader.specs.Text.{fields_by_line}
use Rattle.criteria.specs.Design.{Design, sizes, states, state_number, initial_state}
use Rattle.criteria.proofs.Parameters.{initial_in_size}
use Rattle.decision.specs.Tests.{holds1}
use Rattle.decision.specs.Verdict.{acceptance_of}
use Rattle.decision.specs.Examine.{examine}
use Rattle.design.specs.Lines.{counts_of, design_text}
use Rattle.design.specs.Loaded.{fields_held, starts_held, design_in}
use Rattle.design.specs.declared.Counts.{Counts}
use Rattle.layout.specs.Sizes.{counts_fit, state_count_in, initial_number_in}
use Rattle.loader.specs.Load.{fault_of}
use Rattle.loader.proofs.Passed.{admitted, design_in_lem, counts_allowed_lem}
use Rattle.start.specs.Start.{start_in, acceptance_in}
use Rattle.walk.specs.Walk.{plan_of, walked_under}
use Rattle.start.proofs.Starting.{start_tried}
use Rattle.start.proofs.FirstStep.{acceptance_held}
use Rattle.walk.proofs.Acceptance.{states_walked}
use Rattle.walk.specs.Told.{said_walked}

-- ---- arrays that hold a design

module _ (f s : List ℕ) (c : Counts) (fit : counts_fit c ≡ true) (d : Design) (e : design_in f s c ≡ d) where
  start_of : start_in f s c ≡ holds1 d
  start_of = start_tried f s c fit ∙ ap holds1 e

  acceptance_of_lem : acceptance_in f s c ≡ acceptance_of d
  acceptance_of_lem = acceptance_held f s c fit ∙ ap acceptance_of e

  total_of : states d ≤ 65536 → state_count_in f s c ≡ states d
  unfolding state_count_in
  total_of l = rw fit (ap (λ x. min (states x) 65537) e ∙ least)
    where
      least : min (states d) 65537 ≡ states d
      least = omega arith

  initial_of : state_number d (initial_state d.impl) ≤ 65535 → initial_number_in f s c ≡ state_number d (initial_state d.impl)
  unfolding initial_number_in
  initial_of l = rw fit (ap (λ x. min (state_number x (initial_state x.impl)) 65535) e ∙ least)
    where
      least : min (state_number d (initial_state d.impl)) 65535 ≡ state_number d (initial_state d.impl)
      least = omega arith

  walk_of : (n from : ℕ) → from + n ≤ states d → states d ≤ 65536 → walked_under f s c (plan_of f s c) n from ≡ said_walked (walk (examine d) n from)
  unfolding walked_under
  walk_of n from l few =
      let same : states (design_in f s c) ≡ states d = ap states e in
      ap said_walked (states_walked f s c fit (omega arith) n from (omega arith) ∙ ap (λ x. walk (examine x) n from) e)

-- ---- arrays that hold a text

module _ (text : List ℕ) (ok : fault_of text ≡ 0) where
  abbrev d : Design
  d = design_text text

  abbrev f : List ℕ
  f = fields_held (fields_by_line text)

  abbrev s : List ℕ
  s = starts_held (fields_by_line text)

  abbrev c : Counts
  c = counts_of (fields_by_line text)

  pub few : states d ≤ 65536
  few = (admitted text ok).few_states

  pub start_held : start_in f s c ≡ holds1 d
  start_held = start_of f s c (counts_allowed_lem text ok) d (design_in_lem text ok)

  pub accepted_held : acceptance_in f s c ≡ acceptance_of d
  accepted_held = acceptance_of_lem f s c (counts_allowed_lem text ok) d (design_in_lem text ok)

  pub total_held : state_count_in f s c ≡ states d
  total_held = total_of f s c (counts_allowed_lem text ok) d (design_in_lem text ok) few

  pub initial_held : initial_number_in f s c ≡ state_number d (initial_state d.impl)
  initial_held =
      let most = few in
      let b = number_below (sizes d.impl) (initial_state d.impl) (initial_in_size d.impl (admitted text ok).impl_sizes) in
      initial_of f s c (counts_allowed_lem text ok) d (design_in_lem text ok) (omega arith)

  pub walk_held : (n from : ℕ) → from + n ≤ states d → walked_under f s c (plan_of f s c) n from ≡ said_walked (walk (examine d) n from)
  walk_held n from l = walk_of f s c (counts_allowed_lem text ok) d (design_in_lem text ok) n from l few
