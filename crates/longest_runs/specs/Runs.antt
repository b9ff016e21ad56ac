-- Longest runs and loops over steps by number: step k of state s leads to state `next s k`, and to none where that is no number below n.
-- What is so of the first n places of a slice after `fill`. The words are those of criteria/specs/Step and Measure, over numbers; that they
-- agree with these is in measure/proofs/Runs.
use Rattle.std.specs.Prelude.{◌≡◌, List, ℕ, suc, ◌<◌, ◌≤◌, get_or, length, Result, Ok, Err}
use Rattle.marked_edges.specs.Edges.{edges}

-- a step from s to t
pub record Step (next : ℕ → ℕ → ℕ) (n s t : ℕ) : Type 0 where
  pub edge : ℕ
  pub one : edge < edges
  pub here : s < n
  pub there : t < n
  pub leads : next s edge ≡ t

-- a run of so many steps
pub data Run (next : ℕ → ℕ → ℕ) (n : ℕ) : ℕ → ℕ → ℕ → Type 0 where
  stay : {s : ℕ} → Run next n s s 0
  more : {s t u l : ℕ} → Step next n s t → Run next n t u l → Run next n s u (suc l)

-- a run of one step or more comes back to s
pub record OnLoop (next : ℕ → ℕ → ℕ) (n s : ℕ) : Type 0 where
  pub less : ℕ
  pub back : Run next n s s (suc less)

-- there is a run of l steps from s, and none longer; it has fewer steps than there are states
pub record LongestIs (next : ℕ → ℕ → ℕ) (n s l : ℕ) : Type 0 where
  pub end : ℕ
  pub run : Run next n s end l
  pub none_longer : (t m : ℕ) → Run next n s t m → m ≤ l
  pub few : l < n

-- "Past a result, a lent buffer or slice keeps its content" (01): the first n places are the result
pub record KeptPast (n : ℕ) (before after : List ℕ) : Type 0 where
  pub same_length : length after ≡ length before
  pub past : (s : ℕ) → n ≤ s → get_or after s 0 ≡ get_or before s 0

-- what `fill` wrote: the lengths, or zeros for a loop, on which state s is
pub data Written (next : ℕ → ℕ → ℕ) (n : ℕ) (before after : List ℕ) : Result (Unit {0}) ℕ → Type 0 where
  longest : KeptPast n before after → ((s : ℕ) → s < n → LongestIs next n s (get_or after s 0)) → Written next n before after (Ok tt)
  loop : (s : ℕ) → KeptPast n before after → ((t : ℕ) → t < n → get_or after t 0 ≡ 0) → s < n → OnLoop next n s → Written next n before after (Err s)
