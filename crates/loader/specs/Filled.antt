-- What filling a desk's arrays from lines leaves in them (design/specs/Loaded has how lines are held).
use Rattle.std.specs.Prelude.{ℕ, ◌≤◌, ◌<◌, ◌≡◌, List, length}
use Rattle.std.proofs.lemmas.List.Edits.{sets}
use Rattle.limits.specs.Limits.{max_lines, line_starts}
use Rattle.design.specs.Loaded.{joined, starts_from}

-- where there are not too many lines, they are held; else the number returned says so
pub record Filled (lines : List (List ℕ)) (fields starts : List ℕ) (r : ℕ) (fields' starts' : List ℕ) : Type 0 where
  pub few : length lines ≤ max_lines → r ≡ length lines
  pub fields_held_lem : length lines ≤ max_lines → fields' ≡ sets fields 0 (joined lines)
  pub starts_held_lem : length lines ≤ max_lines → starts' ≡ sets starts 0 (starts_from 0 lines)
  pub many : max_lines < length lines → r ≡ line_starts
