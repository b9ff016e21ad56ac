-- `line_faults::times` is a product, at most the cap.
use Rattle.line_faults.proofs.Laws as laws
use Rattle.line_faults.proofs.times.Goals as goal

pub overflow_mul-min : goal.overflow_mul-min
overflow_mul-min c = search laws.product_fits

pub returns : goal.returns
returns c = search laws.product_is
