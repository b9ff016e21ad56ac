-- The ten reports marked P, from the criteria themselves, in one result; and the pump table keeps demand 3.
use mathlib.Core.Path.{◌≡◌, refl}
use mathlib.Core.Bool.{true}
use mathlib.Core.List.{List, [], ◌∷◌}
use Rattle.foundation.specs.First.{first_in, all_in_range}
use Rattle.foundation.specs.Nth.{EachIs}
use Rattle.foundation.proofs.Nth.{nth_nil, nth_cons}
use Rattle.foundation.specs.Radix.{values_of, number_of}
use Rattle.foundation.specs.Walk.{walk}
use Rattle.foundation.proofs.Reflects.{says_yes}
use Rattle.terms.specs.Tree.{eval_v, has_v}
use Rattle.criteria.specs.Design.{Admitted}
use Rattle.criteria.specs.Criteria.{Meets}
use Rattle.criteria.specs.Verdict.{accepted, report_of}
use Rattle.criteria.specs.Bisimilar.{Demand3}
use Rattle.criteria.proofs.Demand3.{demand3}
use Rattle.decision.specs.Admitted.{admitted_b}
use Rattle.decision.specs.Tests.{row_from}
use Rattle.decision.specs.Examine.{examine}
use Rattle.verdicts.specs.declared.Acceptance.TheVariants.{AsIs}
use Rattle.decision.specs.Verdict.{checked, acceptance_of, verdict_of}
use Rattle.decision.proofs.Admitted.{by_admitted}
use Rattle.decision.proofs.Demand2.{demand2}
use Rattle.pump.specs.Table.{given, Case, cases, Right}

-- what is computed of each
abbrev pub Computed : List Case → Type 0
Computed [] = Unit {0}
Computed (c ∷ cs) = ((admitted_b c.table ≡ true) × (report_of (verdict_of c.table) ≡ c.says)) × Computed cs

computed : Computed cases
unfolding cases checked acceptance_of examine walk first_in all_in_range values_of number_of row_from eval_v has_v
computed = ((refl, refl), ((refl, refl), ((refl, refl), ((refl, refl), ((refl, refl), ((refl, refl), ((refl, refl), ((refl, refl), ((refl, refl), ((refl, refl), tt))))))))))

right_by : (c : Case) → admitted_b c.table ≡ true → report_of (verdict_of c.table) ≡ c.says → Right c
right_by c h e =
    let a = says_yes (by_admitted c.table) h in
    record { admitted = a; verdict = verdict_of c.table; right = demand2 c.table a; reported = e }

pub each_right : (cs : List Case) → Computed cs → EachIs cs Right
each_right [] h = λ k x at. absurd (nth_nil at)
each_right (c ∷ cs) h = nth_cons Right (right_by c h.0.0 h.0.1) (each_right cs h.1)

pub ten_reports : EachIs cases Right
ten_reports = each_right cases computed

-- ---- the pump table meets the criteria, and so keeps demand 3

pub given_accepted : (admitted_b given ≡ true) × (verdict_of given ≡ accepted AsIs)
unfolding checked acceptance_of examine walk first_in all_in_range values_of row_from eval_v has_v
given_accepted = (refl, refl)

pub given_admitted : Admitted given
given_admitted = says_yes (by_admitted given) given_accepted.0

pub given_meets : Meets given
given_meets = (demand2 given given_admitted).accepts.0 (AsIs, given_accepted.1)

pub given_demand3 : Demand3 given
given_demand3 = demand3 given given_admitted given_meets
