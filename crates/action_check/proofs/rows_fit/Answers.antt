-- `action_check::rows_fit`: each part of fault 7 in turn.
use Rattle.action_check.proofs.Laws as laws
use Rattle.action_check.proofs.rows_fit.Goals as goal

pub returns-then-not-all_alone : goal.returns-then-not-all_alone
returns-then-not-all_alone c = search laws.twice_impl

pub returns-then-not-all_alone-2 : goal.returns-then-not-all_alone-2
returns-then-not-all_alone-2 c = search laws.twice_spec

pub returns-then-not-all_differ : goal.returns-then-not-all_differ
returns-then-not-all_differ c = search laws.internal_spec

pub returns-then-not-all_bare : goal.returns-then-not-all_bare
returns-then-not-all_bare c = search laws.internal_data

pub returns : goal.returns
returns c = search laws.spans
