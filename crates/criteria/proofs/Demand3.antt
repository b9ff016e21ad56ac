-- Demand 3 of a design: one that is admitted and meets the ten criteria keeps it.
use Rattle.criteria.specs.Design.{Design, Admitted}
use Rattle.criteria.specs.Criteria.{Meets}
use Rattle.criteria.specs.Bisimilar.{Demand3}
use Rattle.criteria.proofs.Parameters.{initial_in_size}
use Rattle.criteria.proofs.Bisimulation.{promised}

pub demand3 : (d : Design) → Admitted d → Meets d → Demand3 d
demand3 d a m = record {
  each = λ s i. promised d a (λ u j. (m.tenth u j.in_size).apart.others j.invariant) m.others s i ((m.tenth s i.in_size).measure i.invariant);
  initial_among = record { in_size = initial_in_size d.impl a.impl_sizes; invariant = m.start.invariant };
  initial_mapped = m.start.mapping;
}
