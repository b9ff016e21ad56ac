-- The reports on the tables that divide, from the criteria themselves, in one result.
use mathlib.Core.Path.{refl}
use Rattle.foundation.specs.First.{first_in, all_in_range}
use Rattle.foundation.specs.Nth.{EachIs}
use Rattle.foundation.specs.Radix.{values_of, number_of}
use Rattle.foundation.specs.Walk.{walk}
use Rattle.terms.specs.Tree.{eval_v, has_v}
use Rattle.criteria.specs.Step.{internal_rows}
use Rattle.decision.specs.Tests.{row_from}
use Rattle.decision.specs.Examine.{examine}
use Rattle.decision.specs.Verdict.{checked, acceptance_of}
use Rattle.pump.specs.Table.{Right}
use Rattle.pump.specs.Values.{value_cases}
use Rattle.pump.proofs.Reports.{Computed, each_right}

computed : Computed value_cases
unfolding value_cases checked acceptance_of examine walk first_in all_in_range values_of number_of row_from eval_v has_v internal_rows
computed = ((refl, refl), ((refl, refl), ((refl, refl), ((refl, refl), ((refl, refl), ((refl, refl), ((refl, refl), ((refl, refl), ((refl, refl), ((refl, refl), ((refl, refl), ((refl, refl), ((refl, refl), ((refl, refl), ((refl, refl), ((refl, refl), ((refl, refl), ((refl, refl), tt))))))))))))))))))

pub value_reports : EachIs value_cases Right
value_reports = each_right value_cases computed
