-- Four stores and the risk's, or none where there is no row.
use Rattle.plan.proofs.Planned as laws
use Rattle.plan.proofs.put_row.Goals as goal

pub returns-then-not-is_there-clause-value : goal.returns-then-not-is_there-clause-value
returns-then-not-is_there-clause-value c = search laws.no_risk

pub returns-then-not-is_there-clause-out_after : goal.returns-then-not-is_there-clause-out_after
returns-then-not-is_there-clause-out_after c = search laws.put_none

pub risk_for-risk-requires-clause-place_value : goal.risk_for-risk-requires-clause-place_value
risk_for-risk-requires-clause-place_value c = search laws.place_planned

pub returns-clause-out_after : goal.returns-clause-out_after
returns-clause-out_after c = search laws.put_is
