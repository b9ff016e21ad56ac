-- What the functions here look at: the end of a line, a number gathered line by line, and for each fault the test of a line. What the
-- tests decide is said in fault_lines/specs/Shows; that they decide it is in fault_lines/proofs/Decides.
use Rattle.std.specs.Prelude.{ℕ, suc, ◌+◌, ◌*◌, min, Bool, true, false, cond, not, ◌&&◌, ◌||◌, List, [], ◌∷◌, eqb, ltb, leb, length, get_or, drop}
use Rattle.limits.specs.Limits.{max_line_fields, max_fields, max_states}
use Rattle.foundation.specs.Reflects.{◌⇒◌}
use Rattle.terms.specs.Tree.{ok_f}
use Rattle.reader.specs.Line.{fields_of}
use Rattle.reader.specs.Text.{fields_by_line, is_line}
use Rattle.kinds.specs.Kinds.{whole_text}
use Rattle.design.specs.Line.{value_in, formula_in}
use Rattle.design.specs.Lines.{kind_of}
use Rattle.design.specs.Faults.{entry_of, size_of}
use Rattle.design.specs.Tests.{numbers_fit, length_fits}
use Rattle.decision.specs.Admitted.{is_zero}
use Rattle.loader.specs.Load.{line_test}

-- the action and the span of a row
abbrev pub action_of : List ℕ → ℕ
action_of line = get_or line 1 0

abbrev pub span_of : List ℕ → ℕ
span_of line = get_or line 2 0

-- how long the first line is, without its byte 10
unfoldable pub line_length : List ℕ → ℕ
line_length [] = 0
line_length (b ∷ text) = cond (eqb b 10) 0 (suc (line_length text))

-- ---- numbers gathered line by line; none goes past one more than there may be states

abbrev pub cap : ℕ → ℕ
cap n = min n 65537

abbrev pub one : Bool → ℕ
one true = 1
one false = 0

abbrev pub is_internal : List ℕ → Bool
is_internal line = eqb (kind_of line) 3 && eqb (action_of line) 0

abbrev pub has_action : ℕ → ℕ → List ℕ → Bool
has_action k a line = eqb (kind_of line) k && eqb (action_of line) a

abbrev pub clashes : ℕ → ℕ → List ℕ → Bool
clashes a s line = has_action 3 a line && not (eqb (span_of line) s)

-- what a line makes of the number so far: with its fields; one more if it is of the rank; its rank; times its size; one more if it is an
-- internal row, a row of the kind with the action, or a kind 3 line with the action and another span
abbrev pub add_fields : ℕ → List ℕ → ℕ
add_fields n line = cap (n + length line)

abbrev pub add_rank : ℕ → ℕ → List ℕ → ℕ
add_rank r n line = cap (n + one (eqb (entry_of whole_text line).rank r))

abbrev pub the_rank : ℕ → List ℕ → ℕ
the_rank n line = (entry_of whole_text line).rank

abbrev pub times_size : ℕ → List ℕ → ℕ
times_size n line = cond (eqb (kind_of line) 1) (cap (cap n * size_of line)) n

abbrev pub add_internal : ℕ → List ℕ → ℕ
add_internal n line = cap (n + one (is_internal line))

abbrev pub add_action : ℕ → ℕ → ℕ → List ℕ → ℕ
add_action k a n line = cap (n + one (has_action k a line))

abbrev pub add_clash : ℕ → ℕ → ℕ → List ℕ → ℕ
add_clash a s n line = cap (n + one (clashes a s line))

unfoldable pub gathered : (ℕ → List ℕ → ℕ) → ℕ → List (List ℕ) → ℕ
gathered by n [] = n
gathered by n (line ∷ lines) = gathered by (by n line) lines

-- a count that a field can be
abbrev pub small : ℕ → ℕ
small n = cond (ltb n 65536) n 0

-- ---- the tests, of a line and the lines before it

abbrev pub shows2 : Bool → List ℕ → Bool
shows2 last line = not (is_line line) || last

abbrev pub shows3 : List (List ℕ) → List ℕ → Bool
shows3 earlier line =
    let n = gathered add_fields 0 earlier in
    ltb max_line_fields (length line) || (leb n max_fields && ltb max_fields (cap (n + length line)))

abbrev pub shows4 : List (List ℕ) → List ℕ → Bool
shows4 earlier line =
    let e = entry_of whole_text line in
    (ltb e.rank (gathered the_rank 0 earlier) || leb e.most (gathered (add_rank e.rank) 0 earlier))
    || not (length_fits whole_text line)

abbrev pub shows5 : List (List ℕ) → List ℕ → Bool
shows5 earlier line =
    let n = gathered times_size 1 earlier in
    not (numbers_fit line) || (eqb (kind_of line) 1 && (leb n max_states && ltb max_states (cap (cap n * size_of line))))

abbrev pub shows6 : List (List ℕ) → List ℕ → Bool
shows6 lines line =
    not (line_test (small (gathered (add_rank 1) 0 lines)) (small (gathered (add_rank 2) 0 lines)) (small (gathered add_internal 0 lines)) line)

-- the data after a condition of n parameters is `0 0`
abbrev pub bare_by : ℕ → List ℕ → Bool
bare_by n fields =
    let condition = formula_in fields in
    ok_f condition.tree n true ⇒ is_zero (value_in (drop condition.used fields)).tree

abbrev pub shows7 : List (List ℕ) → List (List ℕ) → List ℕ → Bool
shows7 lines earlier line =
    let k = kind_of line in
    let a = action_of line in
    cond (eqb k 3)
    (cond (eqb a 0) (not (bare_by (small (gathered (add_rank 1) 0 lines)) (drop 3 line))) (ltb 0 (gathered (add_action 3 a) 0 earlier)))
    (cond (eqb k 4)
    (eqb a 0 || (ltb 0 (gathered (add_action 4 a) 0 earlier) || ltb 0 (gathered (add_clash a (span_of line)) 0 lines)))
    false)

-- of the fault with this number, for a line's bytes: the text, what is before the line, and whether the text ends with it
abbrev pub shown : ℕ → List ℕ → List ℕ → List ℕ → Bool → Bool
shown fault text before line last =
    let lines = fields_by_line text in
    let earlier = fields_by_line before in
    let fields = fields_of line in
    cond (eqb fault 2) (shows2 last line)
    (cond (eqb fault 3) (shows3 earlier fields)
    (cond (eqb fault 4) (shows4 earlier fields)
    (cond (eqb fault 5) (shows5 earlier fields) (cond (eqb fault 6) (shows6 lines fields) (cond (eqb fault 7) (shows7 lines earlier fields) false)))))
