-- What the writers find and leave in a desk's arrays, as the code computes it: the ends of a call, and the lines with one of marks added.
use Rattle.std.specs.Prelude.{ℕ, ◌+◌, cond, List, ◌∷◌, eqb, ltb, get_or, set, replicate}
use Rattle.std.proofs.lemmas.List.Edits.{sets}
use Rattle.limits.specs.Limits.{max_fields}
use Rattle.reader.specs.Text.{text_of}
use Rattle.writer.specs.Put.{put, put_length}
use Rattle.design.specs.Loaded.{held_lines}
use Rattle.conversion.specs.Written.{Written}

abbrev pub refused_by : ℕ → Written
refused_by k = record { number = k; length = 0 }

-- a result of no length did not fit
unfoldable pub done_with : ℕ → Written
done_with n = cond (eqb n 0) (refused_by 16) (record { number = 0; length = n })

-- ---- with a line of n marks behind the others, as line i

-- where it ends
abbrev pub end_of : List ℕ → ℕ → ℕ → ℕ
end_of starts i n = get_or starts i 0 + 1 + n

-- the lines that the arrays then hold
abbrev pub marked_lines : List ℕ → List ℕ → ℕ → ℕ → List (List ℕ)
marked_lines fields starts i n =
    held_lines (sets fields (get_or starts i 0) (8 ∷ replicate n 10)) (set starts (i + 1) (end_of starts i n)) (i + 1)

unfoldable pub marked_answer : List ℕ → List ℕ → List ℕ → ℕ → ℕ → Written
marked_answer buffer fields starts i n =
    let w : Written = done_with (put_length buffer 0 (text_of (marked_lines fields starts i n))) in
    cond (ltb max_fields (end_of starts i n)) (refused_by 16) w

unfoldable pub marked_buffer : List ℕ → List ℕ → List ℕ → ℕ → ℕ → List ℕ
marked_buffer buffer fields starts i n =
    cond (ltb max_fields (end_of starts i n)) buffer (put buffer 0 (text_of (marked_lines fields starts i n)))
