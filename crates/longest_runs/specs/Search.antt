-- What the functions of the search promise. A state s has a mark m s: 0 as long as the search has not come to it, `done` when all its steps
-- are settled, else one more than the number of those that are; v s is the length of the longest run by these. A step is settled when it
-- leads to a state that is done, or to none.
use Rattle.std.specs.Prelude.{◌≡◌, List, ℕ, ◌+◌, ◌-◌, ◌<◌, ◌≤◌, get_or, length, MatchOption}
use Rattle.design.specs.declared.Shape.{Shape}
use Rattle.marked_edges.specs.Edges.{edges, next_in}
use Rattle.longest_runs.specs.Runs.{KeptPast}
use Rattle.longest_runs.specs.declared.Sight.{Sight}

abbrev pub done : ℕ
done = 8193

abbrev pub view : List ℕ → ℕ → ℕ
view l s = get_or l s 0

abbrev pub Zeros : ℕ → List ℕ → Type 0
Zeros n l = (s : ℕ) → s < n → get_or l s 0 ≡ 0

-- zeros in the first n places, and nothing else changed
pub record Cleared (n : ℕ) (before after : List ℕ) : Type 0 where
  pub kept : KeptPast n before after
  pub zeros : Zeros n after

-- b is 0, or one more than the value of a state that a step of s before number k leads to
pub data Attained (next : ℕ → ℕ → ℕ) (n : ℕ) (v : ℕ → ℕ) (s k b : ℕ) : Type 0 where
  nothing : b ≡ 0 → Attained next n v s k b
  by_step : (j : ℕ) → j < k → next s j < n → b ≡ v (next s j) + 1 → Attained next n v s k b

-- the steps of s before number k are settled, and the longest run by them has length b
pub record SettledTo (next : ℕ → ℕ → ℕ) (n : ℕ) (m v : ℕ → ℕ) (s k b : ℕ) : Type 0 where
  pub most : k ≤ edges
  pub finished : (j : ℕ) → j < k → next s j < n → m (next s j) ≡ done
  pub upper : (j : ℕ) → j < k → next s j < n → v (next s j) < b
  pub attained : Attained next n v s k b

abbrev pub Settled : (ℕ → ℕ → ℕ) → ℕ → (ℕ → ℕ) → (ℕ → ℕ) → ℕ → Type 0
Settled next n m v s = SettledTo next n m v s (m s - 1) (v s)

-- what a look at s asks, `room` being the length of the slice of lengths
pub record Ready (next : ℕ → ℕ → ℕ) (n : ℕ) (m v : ℕ → ℕ) (s room : ℕ) : Type 0 where
  pub states : n ≤ 65536
  pub fits : n ≤ room
  pub here : s < n
  pub begun : 0 < m s
  pub spare : (t : ℕ) → t < n → m t ≡ done → v t < 65535
  pub settled : Settled next n m v s

-- what it gives: `edge`, if it is one, leads to the state `to`, which is not done
pub record Seen (next : ℕ → ℕ → ℕ) (n : ℕ) (m v : ℕ → ℕ) (s edge best to : ℕ) : Type 0 where
  pub settled : SettledTo next n m v s edge best
  pub inside : to < n
  pub leads : edge < edges → to ≡ next s edge
  pub not_done : edge < edges → m to ≡ done → ⊥

-- a step is left
pub record StepLeft (next : ℕ → ℕ → ℕ) (n : ℕ) (m v : ℕ → ℕ) (s edge best to : ℕ) : Type 0 where
  pub one : edge < edges
  pub seen : Seen next n m v s edge best to

-- both over the arrays, f the fields, st the starts of lines and h the shape
abbrev pub ReadyIn : List ℕ → List ℕ → Shape → ℕ → List ℕ → List ℕ → ℕ → Type 0
ReadyIn f st h n mark out s = Ready (next_in f st h) n (view mark) (view out) s (length out)

abbrev pub SeenIn : List ℕ → List ℕ → Shape → ℕ → List ℕ → List ℕ → ℕ → Sight → Type 0
SeenIn f st h n mark out s r =
    MatchOption r.step (Seen (next_in f st h) n (view mark) (view out) s edges r.best 0) (λ x. StepLeft (next_in f st h) n (view mark) (view out) s x.edge r.best x.to)

-- the arrays before the search
pub record Fresh (n : ℕ) (mark path out : List ℕ) : Type 0 where
  pub states : n ≤ 65536
  pub fits : n ≤ length out
  pub marks : length mark ≡ 65536
  pub places : length path ≡ 65536
  pub no_mark_lem : Zeros n mark
  pub no_length : Zeros n out
