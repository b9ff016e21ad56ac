-- The loops over rows and sum values that look for an internal step, as specs/Start says it; and that it is looked for in the initial state.
use mathlib.Core.Path.{◌≡◌, sym, ◌∙◌, ap}
use mathlib.Core.Logic.{◌≢◌}
use mathlib.Core.Bool.{Bool, true, false, not, cond}
use mathlib.Core.List.{List}
use Prim.Native.Nat.{ℕ, suc, ◌+◌, ◌-◌, ◌≤◌, ◌<◌}
use native.Mathlib.Omega.{arith}
use borrow.Author.Tests.{not-true, not-false, eq-eqb, ne_eqb}
use lib.ListN.{length}
use Rattle.foundation.specs.First.{all_in_range}
use Rattle.foundation.proofs.All.{all_begin, all_turn, all_fail, all_end, all_in, all_yes}
use Rattle.foundation.proofs.First.{all_from}
use Rattle.verdicts.specs.declared.Acceptance.TheVariants.{AsIs, AfterInternal}
use Rattle.criteria.specs.Design.{Design, Row, initial_state}
use Rattle.criteria.specs.Rows.{row_at}
use Rattle.decision.specs.Tests.{enabled_b, not_internal, no_internal_b}
use Rattle.decision.specs.Verdict.{acceptance_of}
use Rattle.decision.proofs.Alike.{no_internal_alike}
use Rattle.design.specs.Loaded.{design_at, design_in}
use Rattle.design.specs.declared.Counts.{Counts}
use Rattle.design.specs.declared.Shape.{Shape}
use Rattle.layout.specs.Sizes.{counts_fit, Fits, shape_of}
use Rattle.layout.proofs.Sizes.{shape_fits, sections_kept}
use Rattle.steps.specs.Arrays.{padded, step_of, row_step, row_span, initial_in}
use Rattle.steps.specs.declared.Step.{Step}
use Rattle.steps.proofs.States as held
use Rattle.start.specs.Start.{no_internal_row, acceptance_in}

module _ (f s : List ℕ) (h : Shape) (v : List ℕ) where
  abbrev d : Design
  d = design_at f s h

  -- ---- the sum values of a row

  module _ (k : ℕ) where
    abbrev row : Row
    row = row_at d.impl.rows k

    abbrev off_at : ℕ → Bool
    off_at e = not_internal row v e

    unfoldable pub sums_left : ℕ → ℕ → Bool
    sums_left m e = all_in_range off_at (m - e) e

    pub sums_begin : (m : ℕ) → m ≡ row_span f s h.implementation k → sums_left m 0 ≡ no_internal_row d v k
    unfolding sums_left no_internal_row row_span
    sums_begin m em = all_begin off_at m ∙ ap (λ m. all_in_range off_at m 0) em

    module _ (m e : ℕ) (r : Step) (l : e < m) (er : r ≡ row_step f s h.implementation k v e) (inv : sums_left m e ≡ no_internal_row d v k) where
      action_is : r.action ≡ row.action
      unfolding row_step step_of
      action_is = rw er

      -- a visible row has none
      pub sums_visible : r.action ≢ 0 → true ≡ no_internal_row d v k
      unfolding no_internal_row
      sums_visible seen = sym (all_yes off_at (λ i. rw (ne_eqb row.action 0 (λ z. seen (action_is ∙ z)))) row.span 0)

      off_says : (b : Bool) → r.action ≡ 0 → r.enabled ≡ b → off_at e ≡ not b
      unfolding row_step step_of
      off_says b zero on =
          let action : row.action ≡ 0 = sym action_is ∙ zero in
          let enabled : enabled_b row v e ≡ b = sym (ap (λ x. x.enabled) er) ∙ on in
          rw (eq-eqb row.action 0 action, enabled)

      pub sums_fail : r.action ≡ 0 → r.enabled ≡ true → false ≡ no_internal_row d v k
      unfolding sums_left
      sums_fail zero on = sym (all_fail off_at m e l (off_says true zero on)) ∙ inv

      pub sums_turn : r.action ≡ 0 → r.enabled ≡ false → sums_left m (e + 1) ≡ no_internal_row d v k
      unfolding sums_left
      sums_turn zero off = sym (all_turn off_at m e l (off_says false zero off)) ∙ inv

    pub sums_end : (m e : ℕ) → m ≤ e → sums_left m e ≡ no_internal_row d v k → true ≡ no_internal_row d v k
    unfolding sums_left
    sums_end m e l inv = sym (all_end off_at m e l) ∙ inv

  -- ---- the rows

  abbrev rows : ℕ
  rows = h.implementation.rows.count

  unfoldable pub rows_left : ℕ → Bool
  rows_left i = all_in_range (λ j. no_internal_row d v (j + 1)) (rows - i) i

  pub rows_begin : rows_left 0 ≡ no_internal_b d v
  unfolding rows_left no_internal_row
  rows_begin =
      all_begin (λ j. no_internal_row d v (j + 1)) rows
      ∙ sym (all_in _ _ rows 0 (λ j z u. let e : j + 1 ≡ suc j = omega arith in rw e))
      ∙ sym (all_from (λ k. no_internal_row d v k) rows 0)
      ∙ ap (λ m. all_in_range (λ k. no_internal_row d v k) m 1) (sym (held.rows_count f s h.implementation))

  module _ (i : ℕ) (b : Bool) (l : i < rows) (eb : b ≡ no_internal_row d v (i + 1)) (inv : rows_left i ≡ no_internal_b d v) where
    pub rows_fail : not b ≡ true → false ≡ no_internal_b d v
    unfolding rows_left
    rows_fail y = sym (all_fail (λ j. no_internal_row d v (j + 1)) rows i l (sym eb ∙ not-true b y)) ∙ inv

    pub rows_turn : not b ≡ false → rows_left (i + 1) ≡ no_internal_b d v
    unfolding rows_left
    rows_turn y = sym (all_turn (λ j. no_internal_row d v (j + 1)) rows i l (sym eb ∙ not-false b y)) ∙ inv

  pub rows_end : (i : ℕ) → rows ≤ i → rows_left i ≡ no_internal_b d v → true ≡ no_internal_b d v
  unfolding rows_left
  rows_end i l inv = sym (all_end (λ j. no_internal_row d v (j + 1)) rows i l) ∙ inv

-- ---- the initial state

initial_none : (f s : List ℕ) (h : Shape) → Fits h → no_internal_b (design_at f s h) (initial_in f s h.implementation) ≡ no_internal_b (design_at f s h) (initial_state (design_at f s h).impl)
unfolding initial_in
initial_none f s h fits =
    let x : List ℕ = initial_state (design_at f s h).impl in
    let short : length x ≤ 8 = rw (held.initial_length f s h.implementation) fits.implementation.parameters in
    no_internal_alike (padded x) x (held.same_values x short) (design_at f s h)

module _ (f s : List ℕ) (c : Counts) (h : Shape) (v : List ℕ) (b : Bool) (eh : h ≡ shape_of c) (ev : v ≡ initial_in f s h.implementation) (eb : b ≡ no_internal_b (design_at f s h) v) where
  way : cond b AsIs AfterInternal ≡ acceptance_in f s c
  unfolding acceptance_in acceptance_of
  way = rw (eb, ev, eh, initial_none f s (shape_of c) (shape_fits c))

  pub as_is : b ≡ true → AsIs ≡ acceptance_in f s c
  as_is y = rw (← way, y)

  pub after_internal : b ≡ false → AfterInternal ≡ acceptance_in f s c
  after_internal y = rw (← way, y)

-- of the design in the arrays
pub acceptance_held : (f s : List ℕ) (c : Counts) → counts_fit c ≡ true → acceptance_in f s c ≡ acceptance_of (design_in f s c)
unfolding acceptance_in
acceptance_held f s c fits = ap (λ k. acceptance_of (design_at f s k)) (sections_kept c fits)
