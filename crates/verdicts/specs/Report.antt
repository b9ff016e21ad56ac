-- The report of five numbers.
use Rattle.std.specs.Prelude.{ℕ}
use Rattle.verdicts.specs.declared.Report.{Report}
use Rattle.verdicts.specs.declared.Acceptance.{Acceptance}
use Rattle.verdicts.specs.declared.Acceptance.TheVariants.{AsIs, AfterInternal}

abbrev pub report : ℕ → ℕ → ℕ → ℕ → ℕ → Report
report v c s r e = record { verdict = v; number = c; state = s; row = r; sum = e }

-- the verdict of a design that is accepted (02, order 6): "Verdict 0 is now given only if no internal row .. is enabled in the initial state;
-- other accepted tables get verdict 3"
abbrev pub accepted_number : Acceptance → ℕ
accepted_number AsIs = 0
accepted_number AfterInternal = 3
