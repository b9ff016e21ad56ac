-- `loader::line_terms_fit` asks for the terms of the line's kind.
use Rattle.loader.proofs.line_terms_fit.Goals as goal

pub returns : goal.returns
returns c = rw (← c.kind_of.ensures) c.line_fits.ensures
