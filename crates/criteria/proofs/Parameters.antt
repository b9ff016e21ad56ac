-- What the bounds on parameters give: in size is in 16 bits, and the initial state is in size.
use mathlib.Core.List.{List, [], ◌∷◌, map}
use Prim.Native.Nat.{suc, ◌<◌}
use native.Mathlib.Omega.{arith}
use Rattle.foundation.specs.Radix.{Below}
use Rattle.foundation.specs.Nth.{EachIs, first, later}
use Rattle.criteria.specs.Design.{Parameter, Process, State, SizesFit, InSize, StateOf, initial_state}

abbrev Fit : List Parameter → Type 0
Fit ps = EachIs ps (λ q. (q.size < 65536) × (q.initial < q.size))

in_16_bits : (ps : List Parameter) → Fit ps → (s : State) → Below (map (λ q. q.size) ps) s → Below (map (λ _. 65536) ps) s
in_16_bits [] f [] b = b
in_16_bits [] f (v ∷ s) b = b
in_16_bits (q ∷ ps) f [] b = b
in_16_bits (q ∷ ps) f (v ∷ s) b = ((let h = f 1 q first in omega arith), in_16_bits ps (λ k q h. f (suc k) q (later h)) s b.1)

pub size_16_bits : (p : Process) → SizesFit p → (s : State) → InSize p s → StateOf p s
size_16_bits p f s b = in_16_bits p.parameters f s b

below_sizes : (ps : List Parameter) → Fit ps → Below (map (λ q. q.size) ps) (map (λ q. q.initial) ps)
below_sizes [] f = tt
below_sizes (q ∷ ps) f = ((f 1 q first).1, below_sizes ps (λ k q h. f (suc k) q (later h)))

pub initial_in_size : (p : Process) → SizesFit p → InSize p (initial_state p)
initial_in_size p f = below_sizes p.parameters f
