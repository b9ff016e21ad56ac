use Rattle.std.proofs.Common.{◌≡◌, ◌*◌, ◌+◌, ◌<◌, ◌≤◌, ℕ, List, length, drop, set, refl, sym, ◌∙◌, Some, None}
use lib.Seq.{sets}
use Rattle.reader.specs.Line.{fields_of, next_of}
use Rattle.reader.specs.declared.LineReader.{LineReader}
use Rattle.reader.specs.declared.Next.{Next}
use Rattle.reader.proofs.Turns as turns
use Rattle.loader.proofs.Filling as filling
use Rattle.loader.proofs.copy_fields.Goals as goal

-- storing the fields ahead, from here, gives the whole
module _ (bytes : List ℕ) (r : LineReader) (next : Next) (same : r.line.now ≡ bytes) (told : next ≡ next_of r) (into whole : List ℕ) (to : ℕ) (ahead : sets into (to + r.at) (fields_of (drop (6 * r.at) bytes)) ≡ whole) where
  stop : next.field ≡ None → into ≡ whole
  stop e = filling.copy_stop bytes into whole to r.at ahead (sym (turns.field_on bytes r next same told) ∙ e)

  turn : (n : ℕ) → next.field ≡ Some n → (into' : List ℕ) → into' ≡ set into (to + r.at) n → sets into' (to + next.reader.at) (fields_of (drop (6 * next.reader.at) bytes)) ≡ whole
  turn n e into' ei = rw (ei, turns.at_on bytes r next same told) (filling.copy_turn bytes into whole to r.at ahead n (sym (turns.field_on bytes r next same told) ∙ e))

-- there is room for one more
room : (bytes : List ℕ) (r : LineReader) (next : Next) → r.line.now ≡ bytes → next ≡ next_of r
    → r.at + length (fields_of (drop (6 * r.at) bytes)) ≡ length (fields_of bytes) → (to : ℕ) → to + length (fields_of bytes) ≤ 4096 → (n : ℕ) → next.field ≡ Some n → to + r.at < 4096
room bytes r next same told passed to fit n e = filling.copy_place bytes to r.at passed fit n (sym (turns.field_on bytes r next same told) ∙ e)

pub returns-in_default-clause-value : goal.returns-in_default-clause-value
returns-in_default-clause-value c = search turns.turn_stop

pub returns-in_default-clause-fields_after : goal.returns-in_default-clause-fields_after
returns-in_default-clause-fields_after c = search stop

pub bounds-fields-to : goal.bounds-fields-to
bounds-fields-to c = search room

pub loop-n-smaller : goal.loop-n-smaller
loop-n-smaller c = search turns.turn_less

pub loop-n-preserved : goal.loop-n-preserved
loop-n-preserved c = record {
  same_part = search turns.same_on;
  passed = search turns.turn_passed;
  ahead = turn _ _ _ c.loop-n.invariant.same_part c.next-next.ensures _ _ _ c.loop-n.invariant.ahead _ c.in-Some.is _ refl;
}
