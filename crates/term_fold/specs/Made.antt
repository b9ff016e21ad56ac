-- What is made of a term that was read from the place `at` on, by a function on trees, and the place after the fields that the tree took.
use Rattle.std.specs.Prelude.{ℕ, ◌+◌}
use Rattle.terms.specs.Read.{Read}
use Rattle.term_fold.specs.declared.Made.{Made}

abbrev pub made : {T A : Type 0} → (T → A) → ℕ → Read T → Made A
made f at r = record { made = f r.tree; next = at + r.used }
