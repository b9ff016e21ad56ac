-- By the text's fault, if it has one.
use Rattle.measuring.proofs.Laws as laws
use Rattle.measuring.proofs.measure_text.Goals as goal

pub returns-in-Ok : goal.returns-in-Ok
returns-in-Ok c = search laws.text_measured

pub returns-in-Err : goal.returns-in-Err
returns-in-Err c = search laws.text_faulty
