-- What the functions return, as specs/Start says it; and that the start is tried as criterion 1.
use mathlib.Core.Path.{◌≡◌, sym, ◌∙◌, ap}
use mathlib.Core.Bool.{Bool, true, false, not, ◌&&◌}
use mathlib.Core.List.{List}
use Prim.Native.Nat.{ℕ, ◌≤◌}
use borrow.Author.Tests.{not-true, not-false}
use lib.ListN.{length}
use Rattle.criteria.specs.Design.{Design, mapped, initial_state}
use Rattle.decision.specs.Tests.{holds1}
use Rattle.decision.proofs.Alike.{has_formula_alike, have_alike}
use Rattle.design.specs.Loaded.{design_at, design_in}
use Rattle.design.specs.declared.Counts.{Counts}
use Rattle.design.specs.declared.Shape.{Shape}
use Rattle.layout.specs.Sizes.{counts_fit, Fits, shape_of, initial_number_in}
use Rattle.layout.proofs.Sizes.{shape_fits, sections_kept}
use Rattle.defined.specs.Defined.{has_invariant_in, has_mapping_in}
use Rattle.steps.specs.Arrays.{padded, initial_in, invariant_in, mapped_in, same_in}
use Rattle.steps.proofs.States as held
use Rattle.start.specs.Start.{start_in, start_failure_in, start_meets}

module _ (f s : List ℕ) (h : Shape) (fits : Fits h) where
  start_held : start_meets f s h ≡ holds1 (design_at f s h)
  unfolding start_meets initial_in has_invariant_in has_mapping_in
  start_held =
      let d : Design = design_at f s h in
      let x : List ℕ = initial_state d.impl in
      let short : length x ≤ 8 = rw (held.initial_length f s h.implementation) fits.implementation.parameters in
      rw (
        held.mapped_held f s h x short,
        held.invariant_held f s h x short,
        held.same_held (mapped d x) (initial_state d.spec) h.specification.parameters.count (held.mapped_length f s h x)
            (held.initial_length f s h.specification) fits.specification.parameters,
        has_formula_alike (padded x) x (held.same_values x short) d.invariant 0,
        have_alike (padded x) x (held.same_values x short) d.mapping 0,
      )

module _ (f s : List ℕ) (c : Counts) (b : Bool) (said : b ≡ counts_fit c) where
  pub start_fits : (h : Shape) (r : Bool) → not b ≡ false → h ≡ shape_of c → r ≡ start_meets f s h → r ≡ start_in f s c
  unfolding start_in
  start_fits h r so eh er =
      let all : counts_fit c ≡ true = sym said ∙ not-false b so in
      er ∙ ap (start_meets f s) eh ∙ start_held f s (shape_of c) (shape_fits c) ∙ ap (λ k. holds1 (design_at f s k)) (sections_kept c all) ∙ rw all

  pub start_unfit : not b ≡ true → false ≡ start_in f s c
  unfolding start_in
  start_unfit no-fit = rw (← said, not-true b no-fit)

pub start_is : (f s v t u : List ℕ) (h : Shape) (a ha b hb : Bool) → v ≡ initial_in f s h.implementation → t ≡ mapped_in f s h v → u ≡ initial_in f s h.specification
    → a ≡ invariant_in f s h v → ha ≡ has_invariant_in f s h v → b ≡ same_in h.specification.parameters.count t u → hb ≡ has_mapping_in f s h v
    → (a && ha) && (b && hb) ≡ start_meets f s h
unfolding start_meets
start_is f s v t u h a ha b hb ev et eu ea eha eb ehb = rw (ea, eha, eb, ehb, et, eu, ev)

pub start_failed : (f s : List ℕ) (c : Counts) (n : ℕ) → n ≡ initial_number_in f s c → record { criterion = 1; state = n; row = 0; sum = 0 } ≡ start_failure_in f s c
start_failed f s c n e = rw e

pub start_tried : (f s : List ℕ) (c : Counts) → counts_fit c ≡ true → start_in f s c ≡ holds1 (design_in f s c)
unfolding start_in
start_tried f s c fits = rw fits
