-- Faults 4 and 5 as tests that compute, line by line. What they decide is said in Faults; that they decide it is proved in
-- proofs/Fault4 and proofs/Fault5.
use Rattle.std.specs.Prelude.{ℕ, suc, Bool, true, cond, ◌&&◌, ◌||◌, List, [], ◌∷◌, map, eqb, ltb, leb, length, get_or}
use Rattle.limits.specs.Limits.{max_span, max_states}
use Rattle.foundation.specs.First.{all_in_range}
use Rattle.foundation.specs.Radix.{product}
use Rattle.kinds.specs.Kinds.{Table, whole_text, entry_in, last_in, has_terms}
use Rattle.kinds.specs.declared.Entry.{Entry}
use Rattle.kinds.specs.declared.Role.{Role}
use Rattle.kinds.specs.declared.Role.TheVariants as role
use Rattle.design.specs.Lines.{of_kind}
use Rattle.design.specs.Faults.{entry_of, of_rank, size_of}

-- each line passes
unfoldable pub each_line_is : (List ℕ → Bool) → List (List ℕ) → Bool
each_line_is test [] = true
each_line_is test (line ∷ lines) = test line && each_line_is test lines

-- ---- 4

-- kinds are known, and do not fall in rank from p on
unfoldable pub climbs : Table → ℕ → List (List ℕ) → Bool
climbs table p [] = true
climbs table p (line ∷ lines) =
    let e = entry_of table line in leb 1 e.most && (leb p e.rank && climbs table e.rank lines)

-- as many lines as there may be; of what is no kind there are none anyway
abbrev pub count_fits_by : Entry → ℕ → Bool
count_fits_by e n = eqb e.most 0 || (leb e.fewest n && leb n e.most)

abbrev pub count_is_allowed : Table → List (List ℕ) → ℕ → Bool
count_is_allowed table lines k = let e = entry_in table k in count_fits_by e (length (of_rank table e.rank lines))

abbrev pub counts_allowed : Table → List (List ℕ) → Bool
counts_allowed table lines = all_in_range (count_is_allowed table lines) (suc (last_in table)) 0

abbrev pub length_fits_by : Entry → ℕ → Bool
length_fits_by e n = cond (has_terms e.terms) (leb e.fixed n) (eqb n e.fixed)

abbrev pub length_fits : Table → List ℕ → Bool
length_fits table line = length_fits_by (entry_of table line) (length line)

unfoldable pub layout_fits : Table → List (List ℕ) → Bool
layout_fits table lines = climbs table 0 lines && (counts_allowed table lines && each_line_is (length_fits table) lines)

-- ---- 5

-- by what a line's first two fields after its kind say: size and initial value, or action and span
abbrev pub numbers_fit_by : Role → ℕ → ℕ → Bool
numbers_fit_by role.Parameter a b = leb 1 a && ltb b a
numbers_fit_by role.Row a b = leb 1 b && leb b max_span
numbers_fit_by role.Other a b = true

abbrev pub numbers_fit : List ℕ → Bool
numbers_fit line = numbers_fit_by (entry_of whole_text line).role (size_of line) (get_or line 2 0)

unfoldable pub bounds_fit : List (List ℕ) → Bool
bounds_fit lines = each_line_is numbers_fit lines && leb (product (map size_of (of_kind 1 lines))) max_states
