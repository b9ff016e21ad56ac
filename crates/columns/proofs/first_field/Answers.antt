-- `columns::first_field` finds the field in six columns: blanks, and a number after them.
use Rattle.columns.proofs.Turns as turns
use Rattle.columns.proofs.first_field.Goals as goal

pub returns-then-b-eq-ONES : goal.returns-then-b-eq-ONES
returns-then-b-eq-ONES c = search turns.last_digit

pub returns-then-b-ge-COLUMNS : goal.returns-then-b-ge-COLUMNS
returns-then-b-ge-COLUMNS c = search turns.all_blank

pub returns-then-part-b-eq-DIGIT_0 : goal.returns-then-part-b-eq-DIGIT_0
returns-then-part-b-eq-DIGIT_0 c = search turns.zero_leads

pub returns : goal.returns
returns c = search turns.digit_leads
