-- What the check answers for a reading of a part's fields, with n parameters, in a row or not: the fields that a well-formed term took, or
-- none (01, fault 6: "A term with a wrong mark, a parameter that doesn't exist, a sum value outside a row, depth over 32, or a
-- line that ends early").
--
-- Well formed is ok_v, ok_f of the crate terms. Depth is the reading's: what is deeper than was asked for is read as no term.
use Rattle.std.specs.Prelude.{Bool, cond, ℕ, Option, Some, None}
use Rattle.terms.specs.Tree.{Value, Formula, ok_v, ok_f}
use Rattle.terms.specs.Read.{Read}

abbrev pub checked : Bool → ℕ → Option ℕ
checked ok used = cond ok (Some used) None

abbrev pub checked_v : ℕ → Bool → Read Value → Option ℕ
checked_v n row r = checked (ok_v r.tree n row) r.used

abbrev pub checked_f : ℕ → Bool → Read Formula → Option ℕ
checked_f n row r = checked (ok_f r.tree n row) r.used
