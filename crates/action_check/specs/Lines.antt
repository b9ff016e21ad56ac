-- The rows of a desk's arrays by the numbers of their lines: what the functions here look at, line by line. That it is what the rows
-- of the design say is in proofs/Lines.
use Rattle.std.specs.Prelude.{Bool, not, ◌&&◌, List, ℕ, suc, ◌-◌, eqb, get_or, drop}
use Rattle.foundation.specs.First.{all_in_range}
use Rattle.foundation.specs.Reflects.{◌⇒◌}
use Rattle.decision.specs.Admitted.{is_zero}
use Rattle.design.specs.Line.{value_in, row_of}
use Rattle.design.specs.Loaded.{line_from}

-- the test says yes of each number from i on that is below the end
abbrev pub between : (ℕ → Bool) → ℕ → ℕ → Bool
between t i end = all_in_range t (end - i) i

-- the value at a place of the fields is `0 0`: "action 0 with data other than `0 0`" speaks of the two fields
abbrev pub zero_at : List ℕ → ℕ → Bool
zero_at fields at = is_zero (value_in (drop at fields)).tree

module _ (fields starts : List ℕ) where
  -- action and span of the row in line i, and whether its data is `0 0`
  abbrev pub action_at : ℕ → ℕ
  action_at i = get_or (line_from fields starts i) 1 0

  abbrev pub span_at : ℕ → ℕ
  span_at i = get_or (line_from fields starts i) 2 0

  abbrev pub bare_at : ℕ → Bool
  bare_at i = is_zero (row_of 0 (line_from fields starts i)).carries

  -- line i has another action than this
  abbrev pub differs : ℕ → ℕ → Bool
  differs action i = not (eqb action (action_at i))

  -- the row in line i, if visible, has another action than the later rows, which end before the line `end`
  abbrev pub alone : ℕ → ℕ → Bool
  alone end i = not (eqb (action_at i) 0) ⇒ between (differs (action_at i)) (suc i) end

  -- the row in line i, if internal, has data `0 0`
  abbrev pub bare : ℕ → Bool
  bare i = eqb (action_at i) 0 ⇒ bare_at i

  -- the rows in lines i and j, if of one action, have one span
  abbrev pub agree : ℕ → ℕ → Bool
  agree i j = eqb (action_at i) (action_at j) ⇒ eqb (span_at i) (span_at j)

  -- the row in line i does so with each from `from` on that is before the line `end`
  abbrev pub agrees : ℕ → ℕ → ℕ → Bool
  agrees from end i = between (agree i) from end

  -- the rows of the implementation stand in lines from i on, those of the specification from j on, up to the line `end`
  abbrev pub rows_are_allowed : ℕ → ℕ → ℕ → Bool
  rows_are_allowed i j end =
      between (alone j) i j && (between (alone end) j end && (between (differs 0) j end && (between bare i j && between (agrees j end) i j)))
