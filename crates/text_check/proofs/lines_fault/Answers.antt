use Rattle.std.proofs.Common.{rules, arith}
use Rattle.reader.proofs.Turns as turns
use Rattle.text_check.proofs.lines_fault.Goals as goal

pub loop-at-init : goal.loop-at-init
loop-at-init c = (omega arith, (omega arith, turns.fault_start _))

pub overflow_mul-end : goal.overflow_mul-end
overflow_mul-end c = omega (arith, turns.line_within c.args.text.now c.loop-at.at c.count-n.result c.count-n.ensures)

pub overflow_add-end : goal.overflow_add-end
overflow_add-end c = omega (arith, turns.line_within c.args.text.now c.loop-at.at c.count-n.result c.count-n.ensures)

pub returns-then-n-eq0 : goal.returns-then-n-eq0
returns-then-n-eq0 c = search turns.fault_none

pub returns-then-text-end : goal.returns-then-text-end
returns-then-text-end c = search turns.fault_unended

pub returns-then-text-end-ne-LINE_END : goal.returns-then-text-end-ne-LINE_END
returns-then-text-end-ne-LINE_END c = search turns.fault_broken

pub loop-at-preserved : goal.loop-at-preserved
loop-at-preserved c = (search rules, (search rules, search turns.fault_turn))

pub returns-then-long : goal.returns-then-long
returns-then-long c = search turns.fault_long

pub returns-then-total-gt-MAX_FIELDS : goal.returns-then-total-gt-MAX_FIELDS
returns-then-total-gt-MAX_FIELDS c = search turns.fault_many

pub returns : goal.returns
returns c = search turns.fault_free
