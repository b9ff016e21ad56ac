-- What a call answers and leaves in the buffer when its lines are put: if they fit, and with a line of marks added.
use Prim.Native.Nat.{ℕ, ◌+◌, ◌≤◌, ◌<◌}
use mathlib.Core.Path.{◌≡◌, ◌∙◌}
use mathlib.Core.Logic.{◌≢◌}
use mathlib.Core.List.{List, ◌∷◌}
use borrow.Author.Tests.{ne_eqb, lt-ltb, le-ltb}
use lib.ListN.{get_or, set, replicate}
use lib.Seq.{sets}
use Rattle.reader.specs.Text.{text_of}
use Rattle.writer.specs.Put.{put, put_length}
use Rattle.design.specs.Loaded.{held_lines}
use Rattle.conversion.specs.Written.{Written}
use Rattle.conversion.specs.Lines.{refused_by, done_with, end_of, marked_lines, marked_answer, marked_buffer}

-- ---- what was put

pub none_put : (n m : ℕ) → n ≡ m → n ≡ 0 → (r : Written) → r ≡ refused_by 16 → r ≡ done_with m
unfolding done_with
none_put n m e z r er = er ∙ rw (← e, z)

pub some_put : (n m : ℕ) → n ≡ m → n ≢ 0 → record { number = 0; length = n } ≡ done_with m
unfolding done_with
some_put n m e z = rw (← e, ne_eqb n 0 z)

-- ---- a line of marks added, or not

module _ (buffer fields starts : List ℕ) (i n at : ℕ) (ea : at ≡ get_or starts i 0) where
  module _ (long : 4096 < at + 1 + n) where
    over : 4096 < end_of starts i n
    over = rw (← ea) long

    pub over_answer : (r : Written) → r ≡ refused_by 16 → r ≡ marked_answer buffer fields starts i n
    unfolding marked_answer
    over_answer r e = e ∙ rw (lt-ltb 4096 (end_of starts i n) over)

    pub over_buffer : buffer ≡ marked_buffer buffer fields starts i n
    unfolding marked_buffer
    over_buffer = rw (lt-ltb 4096 (end_of starts i n) over)

  module _ (fit : at + 1 + n ≤ 4096) (more : List ℕ) (em : more ≡ sets fields at (8 ∷ replicate n 10)) (k : ℕ) (ek : k ≡ i + 1) where
    within : end_of starts i n ≤ 4096
    within = rw (← ea) fit

    lines_are : held_lines more (set starts (i + 1) (at + 1 + n)) k ≡ marked_lines fields starts i n
    lines_are = rw (em, ea, ek)

    pub within_answer : (r : Written) → r ≡ done_with (put_length buffer 0 (text_of (held_lines more (set starts (i + 1) (at + 1 + n)) k)))
        → r ≡ marked_answer buffer fields starts i n
    unfolding marked_answer
    within_answer r e = e ∙ rw (le-ltb 4096 (end_of starts i n) within, lines_are)

    pub within_buffer : (after : List ℕ) → after ≡ put buffer 0 (text_of (held_lines more (set starts (i + 1) (at + 1 + n)) k))
        → after ≡ marked_buffer buffer fields starts i n
    unfolding marked_buffer
    within_buffer after e = e ∙ rw (le-ltb 4096 (end_of starts i n) within, lines_are)
