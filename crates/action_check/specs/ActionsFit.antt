-- Fault 7 as a test. What it tests is `Fault7` in design/specs/Faults; that it does is in proofs/ActionsFit. The tests of rows are
-- those of decision/specs/Admitted.
use Rattle.std.specs.Prelude.{Bool, not, ◌&&◌, List, ℕ, eqb}
use Rattle.foundation.specs.Nth.{each_b}
use Rattle.foundation.specs.Reflects.{◌⇒◌}
use Rattle.criteria.specs.Design.{Design, Row}
use Rattle.decision.specs.Admitted.{one_each_b, is_zero}
use Rattle.design.specs.declared.Counts.{Counts}
use Rattle.design.specs.Loaded.{design_in}
use Rattle.layout.specs.Sizes.{counts_fit}

-- no row has action 0
abbrev pub visible_b : List Row → Bool
visible_b rows = each_b (λ q. not (eqb q.action 0)) rows

-- each row of action 0 has data `0 0`
abbrev pub bare_b : List Row → Bool
bare_b rows = each_b (λ r. eqb r.action 0 ⇒ is_zero r.carries) rows

-- rows of one action have one span
abbrev pub same_span_b : List Row → List Row → Bool
same_span_b rows others = each_b (λ r. each_b (λ q. eqb r.action q.action ⇒ eqb r.span q.span) others) rows

-- There is no "visible action in two rows of one process, action 0 in a kind 4 line, action 0 with data other than `0 0`, or one
-- action with different spans in the two processes".
unfoldable pub actions_fit : Design → Bool
actions_fit d =
    one_each_b d.impl.rows
    && (one_each_b d.spec.rows
    && (visible_b d.spec.rows
    && (bare_b d.impl.rows
    && same_span_b d.impl.rows d.spec.rows)))

-- of the design that a desk's arrays hold, where the counts of lines are those that a text may have (fault 4)
abbrev pub actions_fit_in : List ℕ → List ℕ → Counts → Bool
actions_fit_in fields starts c = counts_fit c && actions_fit (design_in fields starts c)
