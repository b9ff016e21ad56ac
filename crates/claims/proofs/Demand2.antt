-- Demand 2 holds of every check, however it is divided among calls.
use mathlib.Core.Path.{◌≡◌, ap, ◌∙◌}
use mathlib.Core.List.{◌++◌}
use lib.ListN.{drop}
use Rattle.writer.specs.Report as bytes
use Rattle.decision.specs.Verdict.{verdict_of}
use Rattle.decision.proofs.Demand2.{demand2}
use Rattle.design.specs.Lines.{design_text}
use Rattle.loader.specs.Load.{fault_of}
use Rattle.loader.proofs.Lowest.{free_exactly}
use Rattle.loader.proofs.Passed.{admitted}
use Rattle.claims.specs.Demand2.{Claim2}
use Rattle.claims.proofs.Counted.{counted}
use Rattle.claims.proofs.Lists.{answered, written}
use Rattle.claims.proofs.OneCall.{long_answer, long_buffer, judged_free}
use Rattle.claims.proofs.Reached.{reached, ends_decided, tells_verdict, due_at}

pub claim2 : Claim2
claim2 text t =
    let free : fault_of text ≡ 0 = (free_exactly text).1 t in
    record {
      verdict = verdict_of (design_text text);
      is = demand2 (design_text text) (admitted text free);
      comes = record {
        ends = λ c w l. ends_decided (reached c w) l;
        tells = λ c w o p. tells_verdict (reached c w) o p;
        advances = λ {n = n} c w o some p. let r = reached c w in due_at n r r.stage o some p.0;
        counts = λ {m = m} c w. (reached c w).counts ∙ counted (design_text text) (admitted text free) m;
        answers = λ {report} c l. answered c ∙ long_answer text report l ∙ ap (λ j. j.verdict) (judged_free text free);
        reports = λ {report} c l. written c ∙ long_buffer text report l ∙ ap (λ j. bytes.report_bytes j ++ drop 31 report) (judged_free text free);
      };
    }
