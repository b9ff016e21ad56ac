-- What is compared on arrays that hold lines (design/specs/Loaded), for any two of them: a part of the lines of the one, from f and s, with a
-- part of those of the other, from g and t.
use Rattle.std.specs.Prelude.{ℕ, ◌+◌, ◌-◌, Bool, ◌&&◌, List, eqb, get_or, drop}
use Rattle.foundation.specs.First.{all_in_range}
use Rattle.design.specs.declared.Section.{Section}
use Rattle.design.specs.declared.Process.{Process}

-- how many fields line i has
abbrev pub length_at : List ℕ → ℕ → ℕ
length_at starts i = get_or starts (i + 1) 0 - get_or starts i 0

-- field k from a place on
abbrev pub same_field : List ℕ → ℕ → List ℕ → ℕ → ℕ → Bool
same_field f a g b k = eqb (get_or (drop a f) k 0) (get_or (drop b g) k 0)

-- n fields from a place on
unfoldable pub same_from : List ℕ → ℕ → List ℕ → ℕ → ℕ → Bool
same_from f a g b n = all_in_range (same_field f a g b) n 0

-- line i and line j
unfoldable pub same_line : List ℕ → List ℕ → ℕ → List ℕ → List ℕ → ℕ → Bool
same_line f s i g t j = eqb (length_at s i) (length_at t j) && same_from f (get_or s i 0) g (get_or t j 0) (length_at s i)

-- n lines from line i and from line j on
unfoldable pub same_lines_from : List ℕ → List ℕ → ℕ → List ℕ → List ℕ → ℕ → ℕ → Bool
same_lines_from f s i g t j n = all_in_range (λ k. same_line f s (i + k) g t (j + k)) n 0

-- all lines of two sections
unfoldable pub same_section : List ℕ → List ℕ → Section → List ℕ → List ℕ → Section → Bool
same_section f s here g t there = eqb here.count there.count && same_lines_from f s here.first g t there.first here.count

-- parameters and rows
abbrev pub same_process : List ℕ → List ℕ → Process → List ℕ → List ℕ → Process → Bool
same_process f s here g t there =
    same_section f s here.parameters g t there.parameters && same_section f s here.rows g t there.rows
