-- Whether an internal row is enabled in a state is what the test says, where the conditions have values.
use mathlib.Core.Path.{◌≡◌}
use mathlib.Core.Bool.{false, ◌&&◌}
use Prim.Native.Nat.{ℕ, ◌<◌}
use native.Mathlib.Omega.{arith}
use borrow.Author.Tests.{not-false}
use lib.ListN.{length}
use Rattle.foundation.specs.First.{all_in_range}
use Rattle.foundation.specs.Reflects.{Reflects}
use Rattle.foundation.proofs.All.{one_no}
use Rattle.foundation.proofs.Reflects.{says_yes, is_so, by_eqb, by_not, by_and, by_iff}
use Rattle.criteria.specs.Design.{Design, Row, State, RowIs}
use Rattle.criteria.specs.Step.{Enabled, InternalRow, NoInternal, SomeInternal}
use Rattle.criteria.specs.Criteria.{OthersHave}
use Rattle.criteria.specs.Rows.{row_at}
use Rattle.criteria.proofs.Rows.{row_at_is}
use Rattle.decision.specs.Tests.{enabled_b, internal_b, not_internal, no_internal_b}
use Rattle.decision.proofs.Tests.{by_enabled, by_rows}

module _ (d : Design) (s : State) (have : OthersHave d s) where
  -- a row that is internal and enabled
  by_step : (k : ℕ) (r : Row) → RowIs d.impl.rows k r → (e : ℕ) → e < r.span → Reflects (InternalRow r × Enabled r s e) (internal_b r && enabled_b r s e)
  by_step k r is e u = by_and (by_eqb r.action 0) (by_enabled r s e ((have.impl k r is).condition e u) u)

  pub by_no_internal : Reflects (NoInternal d.impl s) (no_internal_b d s)
  by_no_internal =
      by_iff (λ h k r e is zero on. says_yes (by_not (by_step k r is e on.in_span)) (h k r is e on.in_span) (zero, on))
      (λ q k r is e u. is_so (by_not (by_step k r is e u)) (λ x. q k r e is x.0 x.1))
      (by_rows d.impl.rows (λ _ r e. not_internal r s e))

  -- where the test says no, there is one
  pub some_internal : no_internal_b d s ≡ false → SomeInternal d.impl s
  some_internal h =
      let x = one_no (λ k. all_in_range (λ e. not_internal (row k) s e) (row k).span 0) (length d.impl.rows) 1 h in
      let k = x.at in
      let y = one_no (λ e. not_internal (row k) s e) (row k).span 0 x.no in
      let e = y.at in
      let below = y.below in
      let inside : e < (row k).span = omega arith in
      let is = row_at_is d.impl.rows k e inside in
      let on = says_yes (by_step k (row k) is e inside) (not-false (internal_b (row k) && enabled_b (row k) s e) y.no) in
      record { at = k; row = row k; sum = e; is_row = is; internal = on.0; enabled = on.1 }
    where
      row : ℕ → Row
      row k = row_at d.impl.rows k
