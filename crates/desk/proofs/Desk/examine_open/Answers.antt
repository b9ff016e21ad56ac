-- `Desk::examine_open` leaves the desk as the examination says.
use Rattle.desk.proofs.Answers as answers
use Rattle.desk.proofs.Desk.examine_open.Goals as goal

pub returns : goal.returns
returns c = search answers.examined_open
