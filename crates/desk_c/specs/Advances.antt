-- How many advances by n a desk takes till one is not answered open, at most k.
use Rattle.std.specs.Prelude.{ℕ, zero, suc, Bool, true, false, cond}
use Rattle.answers.specs.declared.Advance.{Advance}
use Rattle.answers.specs.declared.Advance.TheVariants as advance
use Rattle.desk.specs.declared.Desk.{Desk}
use Rattle.desk.specs.Desk.{advance_of}

abbrev pub is_open : Advance → Bool
is_open (advance.Open count) = true
is_open (advance.Accepted how count) = false
is_open (advance.Failed count) = false
is_open (advance.TurnedDown number) = false

unfoldable pub advances_till : ℕ → Desk → ℕ → ℕ
advances_till zero d n = 0
advances_till (suc k) d n = suc (cond (is_open (advance_of d n).answer) (advances_till k (advance_of d n).desk n) 0)
