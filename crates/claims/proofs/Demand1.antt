-- Demand 1 holds of every call.
use mathlib.Core.Path.{refl, ◌∙◌}
use Rattle.loader.proofs.Lowest.{free_exactly}
use Rattle.claims.specs.Demand1.{Claim1}
use Rattle.claims.proofs.Lists.{asks_nothing, answered_all, answered, written}
use Rattle.claims.proofs.OneCall.{short_answer, short_buffer, check_ends}
use Rattle.claims.proofs.Outcomes.{opened_by, turned_by, refusals, measured_by, dropped_by}
use Rattle.claims.proofs.Reached.{walked_named}
use Rattle.claims.proofs.Writers.{refused_by_lem}

pub claim1 : Claim1
claim1 = record {
  asks_nothing = asks_nothing;
  answered = answered_all;
  loaded = opened_by;
  walked = λ t c w l p. walked_named c w l p;
  checked = λ {text} t c l. check_ends ((free_exactly text).1 t) c l;
  other_text = λ d text o. turned_by d text (λ z. o ((free_exactly text).0 z));
  other_call = refusals;
  other_measure = measured_by;
  dropped = λ d p e. p.0 ∙ dropped_by d d.phase refl e;
  other_writing = refused_by_lem;
  short_report = λ {text} {report} c l. (answered c ∙ short_answer text report l, written c ∙ short_buffer text report l);
}
