-- `checker::judge` reports on a text.
use Rattle.checker.proofs.Judging as judging
use Rattle.checker.proofs.judge.Goals as goal

pub returns-in-Ok : goal.returns-in-Ok
returns-in-Ok c = search judging.judge_loaded

pub returns-in-Err : goal.returns-in-Err
returns-in-Err c = search judging.judge_refused
