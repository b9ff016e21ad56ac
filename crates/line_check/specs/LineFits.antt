-- Fault 6 as a test, on a line's fields: whether they are the terms that the line's kind asks for, one after the other, and nothing
-- else. What it tests is `Terms` and `LineTerms` in design/specs/Faults; that it does is in proofs/LineFits. How terms are
-- checked on a line's bytes is in the crate term_check.
use Rattle.std.specs.Prelude.{ℕ, zero, suc, ◌*◌, Bool, true, false, ◌&&◌, List, [], ◌∷◌, drop, Option, Some, None}
use Rattle.reader.specs.Line.{fields_of}
use Rattle.terms.specs.Tree.{ok_v, ok_f}
use Rattle.terms.specs.Read.{read_v, read_f}
use Rattle.foundation.specs.Reflects.{◌⇒◌}
use Rattle.kinds.specs.Kinds.{whole_text, entry_in, Sort, value, formula, has_terms, sorts_of, reads_sum, own_of}

-- no field is left
abbrev pub nothing : List ℕ → Bool
nothing [] = true
nothing (x ∷ fields) = false

-- what is left after one, if there is one, passes the test
abbrev pub one_more : (List ℕ → Bool) → Option ℕ → List ℕ → Bool
one_more test None bytes = false
one_more test (Some k) bytes = test (drop (6 * k) bytes)

-- bytes are so many terms, each of as many fields as is told of what is left, and nothing else
unfoldable pub each_fits : (List ℕ → Option ℕ) → ℕ → List ℕ → Bool
each_fits next zero bytes = nothing (fields_of bytes)
each_fits next (suc count) bytes = one_more (each_fits next count) (next bytes) bytes

-- The fields are terms of these sorts, of n parameters, in a row or not. Each is read from where the one before ended; none is "a
-- term with a wrong mark, a parameter that doesn't exist, a sum value outside a row", nor of "depth over 32"; and the line does not
-- "end early or late".
unfoldable pub terms_fit : ℕ → Bool → List Sort → List ℕ → Bool
terms_fit n row [] fields = nothing fields
terms_fit n row (value ∷ sorts) fields =
    let v = read_v 32 fields in ok_v v.tree n row && terms_fit n row sorts (drop v.used fields)
terms_fit n row (formula ∷ sorts) fields =
    let f = read_f 32 fields in ok_f f.tree n row && terms_fit n row sorts (drop f.used fields)

-- the terms of a kind, after its numbers, where n lines are of kind 1 and m of kind 2, and i rows are internal; a kind without terms has
-- nothing to keep
unfoldable pub line_fits : ℕ → ℕ → ℕ → List ℕ → ℕ → Bool
line_fits n m i line kind =
    let e = entry_in whole_text kind in
    let own = own_of e.side n m in
    has_terms e.terms ⇒ terms_fit own (reads_sum e.terms) (sorts_of e.terms own m i) (drop e.fixed line)
