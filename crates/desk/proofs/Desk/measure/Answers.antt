-- `Desk::measure` goes by the number of the phase.
use Rattle.desk.proofs.Measure as laws
use Rattle.desk.proofs.Desk.measure.Goals as goal

pub returns-then-number-ne0-clause-measure_of : goal.returns-then-number-ne0-clause-measure_of
returns-then-number-ne0-clause-measure_of c = search laws.measure_refused

pub returns-then-number-ne0-clause-measure_number : goal.returns-then-number-ne0-clause-measure_number
returns-then-number-ne0-clause-measure_number c = search laws.refused_number

pub returns-clause-measure_of : goal.returns-clause-measure_of
returns-clause-measure_of c = search laws.measure_on

pub returns-clause-measure_number : goal.returns-clause-measure_number
returns-clause-measure_number c = search laws.measured_number_lem
