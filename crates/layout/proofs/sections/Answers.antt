-- One section after the other.
use mathlib.Core.Path.{refl}
use Rattle.layout.specs.Sizes.{sections_of}
use Rattle.layout.proofs.sections.Goals as goal

pub returns : goal.returns
unfolding sections_of
returns c = refl
