-- What the code finds on its way to the sets of watched/specs/Watched: the parts of a row, and what is answered for lists of values and for
-- formulas read from fields. f the fields, c what a step may change.
use Rattle.std.specs.Prelude.{◌≡◌, List, ℕ, ◌+◌, ◌≤◌, drop}
use Rattle.terms.specs.Tree.{Value, Formula}
use Rattle.terms.specs.Read.{Read}
use Rattle.reads.specs.Reads.{reads_v, reads_f}
use Rattle.reads.specs.declared.Seen.{Seen}
use Rattle.criteria.specs.Design.{Row}
use Rattle.design.specs.Line.{values_in}
use Rattle.watched.specs.Watched.{changes_from, changed_by_from, after_f}
use Rattle.watches.specs.declared.Parts.{Parts}
use Rattle.watches.specs.declared.Changed.{Changed}

-- of no row
abbrev pub no_parts : Parts
no_parts = record { action = 0; condition = 0; carries = 0; next = 0; count = 0 }

-- the parts are those of row r, which has no more than n next values
pub record PartsOf (f : List ℕ) (n : ℕ) (r : Row) (p : Parts) : Type 0 where
  pub action : p.action ≡ r.action
  pub condition : p.condition ≡ reads_f r.condition
  pub carries : p.carries ≡ reads_v r.carries
  pub next : values_in p.count (drop p.next f) ≡ r.next
  pub few : p.count ≤ n

-- of the next values of a row: which parameters they may change, and what those read that do
abbrev pub changed_of : List Value → Changed
changed_of ts = record { changes = changes_from 0 ts; by = changed_by_from 0 ts }

-- of a formula that held before a step, and the place after it
abbrev pub after_seen : ℕ → ℕ → Read Formula → Seen
after_seen c at r = record { reads = after_f c r.tree; next = at + r.used }
