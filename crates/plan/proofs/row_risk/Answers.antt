-- A row of too many sum values; else each term stands after the one before.
use Rattle.plan.proofs.Risks as laws
use Rattle.plan.proofs.row_risk.Goals as goal

pub returns-then-field_of-gt-MAX_SPAN : goal.returns-then-field_of-gt-MAX_SPAN
returns-then-field_of-gt-MAX_SPAN c = search laws.row_risk_wide

pub returns : goal.returns
returns c = search laws.row_risk_is
