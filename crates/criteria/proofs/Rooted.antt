-- When two bisimilar states are so rooted: exactly if no internal row is enabled in the implementation's, marked or not. The specification has
-- no internal step by which one could be answered; and where there is none, every first step is answered and replied at once.
use mathlib.Core.Path.{refl, subst}
use mathlib.Core.Logic.{◌↔◌}
use Rattle.foundation.specs.Nth.{EachIs}
use Rattle.criteria.specs.Design.{Design, State, Admitted, initial_state}
use Rattle.criteria.specs.Step.{Label, Step, NoInternal, next_state, data_number}
use Rattle.criteria.specs.Criteria.{RowHas, Meets}
use Rattle.criteria.specs.Bisimilar.{Bisimilar, RootedBisimilar, InitialRooted}
use Rattle.criteria.proofs.Bisimulation.{carries_some}
use Rattle.criteria.proofs.Demand3.{demand3}
use Rattle.criteria.proofs.QuietRooted.{quiet_rooted}

module _ (d : Design) (s t : State) where
  -- where an internal row is enabled, its step is answered by none of the specification's

  pub rooted_quiet : Admitted d → EachIs d.impl.rows (λ r. RowHas r s) → RootedBisimilar d s t → NoInternal d.impl s
  rooted_quiet a have b k r e is zero on =
      let h = have k r is in
      let label : Label = record { action = 0; number = data_number r s e } in
      let step : Step d.impl label s (next_state r s e) =
      record {
        at = k;
        row = r;
        sum = e;
        is_row = is;
        enabled = on;
        action = zero;
        number = carries_some h on;
        goes = record { have = h.next e on; same = refl };
      } in
      let answer = (b.is_rooted.forth s t (next_state r s e) label b.relates step).step in
      a.spec_visible answer.at answer.row answer.is_row answer.action

-- of a design that meets the criteria
pub rooted_exactly : (d : Design) → Admitted d → Meets d → InitialRooted d ↔ NoInternal d.impl (initial_state d.impl)
rooted_exactly d a m =
    let s = initial_state d.impl in
    let q = demand3 d a m in
    let i = q.initial_among in
    let bisimilar : Bisimilar d s (initial_state d.spec) = subst (Bisimilar d s) q.initial_mapped.same (q.each s i).bisimilar in (
      rooted_quiet d s (initial_state d.spec) a ((m.tenth s i.in_size).apart.others i.invariant).impl,
      quiet_rooted d s (initial_state d.spec) bisimilar,
    )
