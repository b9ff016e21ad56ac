-- How many lines there are of each rank, and the test of these counts.
use Rattle.std.specs.Prelude.{ℕ, suc, ◌<◌, ◌≡◌, Bool, List, length, get_or}
use Rattle.foundation.specs.First.{all_in_range}
use Rattle.kinds.specs.Kinds.{whole_text, ranks, entry_in, last_in}
use Rattle.design.specs.Faults.{of_rank}
use Rattle.design.specs.Tests.{count_fits_by}

pub record Tallied (lines : List (List ℕ)) (tally : List ℕ) : Type 0 where
  pub of_rank_lem : (r : ℕ) → r < ranks → get_or tally r 0 ≡ length (of_rank whole_text r lines)

-- the count of a kind's rank fits
abbrev pub kind_fits : List ℕ → ℕ → Bool
kind_fits tally k = let e = entry_in whole_text k in count_fits_by e (get_or tally e.rank 0)

abbrev pub tally_fits : List ℕ → Bool
tally_fits tally = all_in_range (kind_fits tally) (suc (last_in whole_text)) 0
