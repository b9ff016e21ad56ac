-- A desk in memory that C lends: which desk stands there, and what stands there after a call. Fields, starts, counts of lines, plan, next state
-- and phase stand apart; counts and phase are numbers (desk_numbers/specs/Numbers).
use Rattle.std.specs.Prelude.{ℕ, ◌≡◌, List}
use Rattle.desk.specs.declared.Desk.{Desk}
use Rattle.desk_numbers.specs.Numbers.{counts_told, counts_in, phase_told, phase_in}

abbrev pub desk_in : List ℕ → List ℕ → List ℕ → List ℕ → ℕ → List ℕ → Desk
desk_in f s c p n k = record { lines = record { fields = f; starts = s }; counts = counts_in c; plan = p; next = n; phase = phase_in k }

pub record Keeps (d : Desk) (f s c p : List ℕ) (n : ℕ) (k : List ℕ) : Type 0 where
  pub fields : f ≡ d.lines.fields
  pub starts : s ≡ d.lines.starts
  pub counts : c ≡ counts_told d.counts
  pub plan : p ≡ d.plan
  pub next : n ≡ d.next
  pub phase_is : k ≡ phase_told d.phase
