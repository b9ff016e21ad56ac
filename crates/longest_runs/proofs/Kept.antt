-- Slices that keep their content past the first n places.
use mathlib.Core.Path.{refl, ◌∙◌}
use mathlib.Core.List.{List}
use Prim.Native.Nat.{ℕ, ◌<◌}
use native.Mathlib.Omega.{arith}
use lib.ListN.{length-set, set}
use lib.Seq.{get_or-set_other}
use Rattle.longest_runs.specs.Runs.{KeptPast}

pub kept_none : (n : ℕ) (l : List ℕ) → KeptPast n l l
kept_none n l = record { same_length = refl; past = λ s h. refl }

pub kept_then : (n : ℕ) (l m k : List ℕ) → KeptPast n l m → KeptPast n m k → KeptPast n l k
kept_then n l m k a b = record { same_length = b.same_length ∙ a.same_length; past = λ s h. b.past s h ∙ a.past s h }

pub kept_set : (n : ℕ) (l : List ℕ) (i a : ℕ) → i < n → KeptPast n l (set l i a)
kept_set n l i a h = record { same_length = length-set l i a; past = λ s p. get_or-set_other l i s a 0 (λ e. omega arith) }
