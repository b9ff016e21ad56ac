-- The reports on the tables that may begin with an internal step, from the criteria themselves, in one result; that the first of them is
-- bisimilar to its specification, but not rooted so (`not_rooted`); and that the pump table is (`given_rooted`).
use mathlib.Core.Path.{◌≡◌, refl}
use mathlib.Core.Bool.{true, false}
use Rattle.foundation.specs.First.{first_in, all_in_range}
use Rattle.foundation.specs.Nth.{EachIs}
use Rattle.foundation.specs.Radix.{values_of, number_of}
use Rattle.foundation.specs.Walk.{walk}
use Rattle.foundation.proofs.Reflects.{says_yes}
use Rattle.verdicts.specs.declared.Acceptance.TheVariants.{AfterInternal}
use Rattle.terms.specs.Tree.{const, eval_v, has_v}
use Rattle.criteria.specs.Design.{Design, initial_state, mapped}
use Rattle.criteria.specs.Bisimilar.{Bisimilar, InitialRooted}
use Rattle.criteria.specs.Verdict.{accepted}
use Rattle.criteria.proofs.Demand3.{demand3}
use Rattle.criteria.proofs.Rooted.{rooted_exactly}
use Rattle.criteria.specs.Step.{internal_rows}
use Rattle.decision.specs.Tests.{row_from}
use Rattle.decision.specs.Examine.{examine}
use Rattle.decision.specs.Verdict.{checked, acceptance_of, verdict_of}
use Rattle.decision.specs.Admitted.{admitted_b}
use Rattle.decision.proofs.Admitted.{by_admitted}
use Rattle.decision.proofs.Demand2.{demand2}
use Rattle.pump.specs.Table.{is, given, Right}
use Rattle.pump.specs.FirstStep.{idling, marked_as, first_cases}
use Rattle.pump.proofs.Reports.{Computed, each_right, given_accepted, given_admitted}

computed : Computed first_cases
unfolding first_cases checked acceptance_of examine walk first_in all_in_range values_of number_of row_from eval_v has_v internal_rows
computed = ((refl, refl), ((refl, refl), ((refl, refl), ((refl, refl), ((refl, refl), tt)))))

pub first_reports : EachIs first_cases Right
first_reports = each_right first_cases computed

-- ---- rooted or not

abbrev idles : Design
idles = marked_as (const false) (idling (is 0) given)

idles_accepted : (admitted_b idles ≡ true) × (verdict_of idles ≡ accepted AfterInternal)
unfolding checked acceptance_of examine walk first_in all_in_range values_of number_of row_from eval_v has_v internal_rows
idles_accepted = (refl, refl)

pub not_rooted : Bisimilar idles (initial_state idles.impl) (mapped idles (initial_state idles.impl)) × (InitialRooted idles → ⊥)
not_rooted =
    let a = says_yes (by_admitted idles) idles_accepted.0 in
    let p = (demand2 idles a).after_internal.0 idles_accepted.1 in
    let q = demand3 idles a p.0 in
    let i = p.1 in (
      (q.each (initial_state idles.impl) q.initial_among).bisimilar,
      λ r. (rooted_exactly idles a p.0).0 r i.at i.row i.sum i.is_row i.internal i.enabled,
    )

pub given_rooted : InitialRooted given
given_rooted = let p = (demand2 given given_admitted).as_is.0 given_accepted.1 in (rooted_exactly given given_admitted p.0).1 p.1
