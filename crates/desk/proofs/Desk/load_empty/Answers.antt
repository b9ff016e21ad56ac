-- `Desk::load_empty` opens the desk, or gives the fault.
use Rattle.desk.proofs.Answers as answers
use Rattle.desk.proofs.Desk.load_empty.Goals as goal

pub returns-in-Ok : goal.returns-in-Ok
returns-in-Ok c = search answers.loaded

pub returns-in-Err : goal.returns-in-Err
returns-in-Err c = search answers.not_loaded_lem
