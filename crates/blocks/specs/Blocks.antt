-- Blocks of states: a part of the invariant that fails at a state fails also at those that do not differ from it in what the part reads. f the
-- fields, s the starts of lines, h the shape, v an array that holds a state.
use Rattle.std.specs.Prelude.{◌≡◌, true, false, List, ℕ, ◌+◌, ◌≤◌, ◌<◌, length, drop, Result, MatchResult}
use Rattle.std.specs.Int.Bits.{bit_and}
use Rattle.terms.specs.Tree.{Formula, eval_f}
use Rattle.terms.specs.Read.{read_f}
use Rattle.reads.specs.Reads.{only, differ}
use Rattle.design.specs.declared.Shape.{Shape}
use Rattle.steps.specs.Arrays.{state_in, invariant_in}

-- the invariant fails in every state from number n on, up to number r and without it
pub record RuledOut (f s : List ℕ) (h : Shape) (n r : ℕ) : Type 0 where
  pub fails : (k : ℕ) → n ≤ k → k < r → invariant_in f s h (state_in f s h.implementation k) ≡ false

-- the formula fails at every state that does not differ from v in the parameters of the set m
abbrev pub FailsBy : Formula → List ℕ → ℕ → Type 0
FailsBy t v m = (w : List ℕ) → length v ≤ 8 → length w ≤ 8 → bit_and m (differ v w) ≡ 0 → eval_f t w 0 ≡ false

-- the formula at a place, which may be d deep, holds, and `next` is where the next term stands
pub record HoldsTo (f v : List ℕ) (at d next : ℕ) : Type 0 where
  pub holds : eval_f (read_f d (drop at f)).tree v 0 ≡ true
  pub ends : next ≡ at + (read_f d (drop at f)).used

-- it does not, and the parameters of the set m decide that
pub record FailsAt (f v : List ℕ) (at d m : ℕ) : Type 0 where
  pub fails : eval_f (read_f d (drop at f)).tree v 0 ≡ false
  pub by : FailsBy (read_f d (drop at f)).tree v m

-- what is found of it
abbrev pub Tries : List ℕ → List ℕ → ℕ → ℕ → Result ℕ ℕ → Type 0
Tries f v at d r = MatchResult r (λ next. HoldsTo f v at d next) (λ m. FailsAt f v at d m)

-- of n parameters none from the i-th on, counted from 0, is in the set m
pub record NoneFrom (m i n : ℕ) : Type 0 where
  pub absent : (k : ℕ) → i ≤ k → k < n → bit_and m (only k) ≡ 0
