-- The verdict on a design as a desk tells it.
use Rattle.criteria.specs.Verdict as criteria
use Rattle.answers.specs.declared.Verdict.{Verdict}
use Rattle.answers.specs.declared.Verdict.TheVariants as verdict

abbrev pub said_verdict : criteria.Verdict → Verdict
said_verdict (criteria.accepted how) = verdict.Accepted how
said_verdict (criteria.failed x) = verdict.Failed x
