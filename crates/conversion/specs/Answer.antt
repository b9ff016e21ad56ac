-- What a call of a writer answers and what its buffer is then, for every text and every buffer: the number by which it is turned down, or 0;
-- the length of the result; and the result in the buffer's first bytes (01: "Past a result, a lent buffer or slice keeps its content, and a
-- writer returns its result's length"; "A call turned down writes nothing"). That the number is the one due is in proofs/Due.
use Rattle.std.specs.Prelude.{ℕ, Bool, true, false, cond, ◌&&◌, ◌||◌, List, [], ◌∷◌, ◌++◌, eqb, ltb, length, drop, Result, Ok, Err}
use Rattle.limits.specs.Limits.{max_fields}
use Rattle.terms.specs.Tree.{Formula, const, compare, negation, join, no_formula}
use Rattle.reader.specs.Text.{count_all, text_of}
use Rattle.criteria.specs.Design.{Design}
use Rattle.design.specs.Lines.{design_text}
use Rattle.design.specs.Print.{print_lines}
use Rattle.loader.specs.Load.{fault_of}
use Rattle.conversion.specs.Result.{Way, there, back, converted, result_of}
use Rattle.verdicts.specs.declared.Refusal.{Refusal}
use Rattle.verdicts.specs.Refusals.{number_of as number}
use Rattle.conversion.specs.Written.{Written}

-- ---- as tests

-- a formula is `10`
abbrev pub true_b : Formula → Bool
true_b (const b) = b
true_b (compare o x y) = false
true_b (negation f) = false
true_b (join o f g) = false
true_b no_formula = false

-- a test says yes to each
unfoldable pub every : {A : Type 0} → (A → Bool) → List A → Bool
every test [] = true
every test (x ∷ xs) = test x && every test xs

-- the marks can be left out, on the way back
abbrev pub plain_b : Way → Design → Bool
plain_b there d = true
plain_b back d = every (every true_b) d.marks

abbrev pub too_long_b : ℕ → Design → Bool
too_long_b room d = ltb room (length (text_of (print_lines d))) || ltb max_fields (count_all (print_lines d))

-- ---- the answer

-- a call's result as a number and a length
abbrev pub told : Result ℕ Refusal → Written
told (Ok n) = record { number = 0; length = n }
told (Err r) = record { number = number r; length = 0 }

-- of a design text
abbrev pub design_number : Way → Design → ℕ → ℕ
design_number way d room = cond (plain_b way d) (cond (too_long_b room (converted way d)) 16 0) 15

unfoldable pub number_of : Way → List ℕ → ℕ → ℕ
number_of way text room = cond (eqb (fault_of text) 0) (design_number way (design_text text) room) (fault_of text)

unfoldable pub answer_of : Way → List ℕ → List ℕ → Written
answer_of way text buffer =
    let n : ℕ = number_of way text (length buffer) in
    record { number = n; length = cond (eqb n 0) (length (result_of way text)) 0 }

unfoldable pub buffer_written : Way → List ℕ → List ℕ → List ℕ
buffer_written way text buffer =
    cond (eqb (number_of way text (length buffer)) 0) (result_of way text ++ drop (length (result_of way text)) buffer) buffer
