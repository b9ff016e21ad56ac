-- `duty::same_section` compares counts, then lines.
use Rattle.duty.proofs.Laws as laws
use Rattle.duty.proofs.same_section.Goals as goal

pub returns-then-here-there : goal.returns-then-here-there
returns-then-here-there c = search laws.section_longer

pub returns : goal.returns
returns c = search laws.section_lines
