-- What a measure answers and writes is determined, the state that it names apart; and one that is turned down writes nothing.
use mathlib.Core.Path.{◌≡◌, sym, ◌∙◌, subst}
use mathlib.Core.Bool.{Bool}
use mathlib.Core.List.{List}
use Prim.Native.Nat.{ℕ, ◌<◌}
use native.Mathlib.Omega.{arith}
use native.Mathlib.Decide.{dec_lt}
use lib.ListN.{get_or}
use lib.Seq.{ext_get_or}
use Rattle.foundation.specs.Radix.{values_of}
use Rattle.foundation.proofs.Radix.{values_below, number_of_values}
use Rattle.criteria.specs.Design.{Design, State, InSize, Invariant, InvariantState, sizes, states, state_number}
use Rattle.criteria.specs.Measure.{OnLoop, Measurable}
use Rattle.criteria.proofs.Measure.{not_both, one_length, longest_meets, no_loop}
use Rattle.foundation.specs.Reflects.{Reflects, so, not_so}
use Rattle.decision.proofs.Tests.{by_holds}
use Rattle.design.specs.declared.Counts.{Counts}
use Rattle.answers.specs.declared.Measured.{Measured}
use Rattle.answers.specs.declared.Measured.TheVariants.{TurnedDown}
use Rattle.longest_runs.specs.Runs.{KeptPast}
use Rattle.measure.specs.Answer.{number_at, LongestRuns, Made, leaves, filled, loop, SameAnswer, both_filled, both_loop, both_refused, MeasureIn, short, has_room}

module _ (d : Design) (before a b : List ℕ) where
  -- slices that have the same number for each state, and the same past these
  same_slice : KeptPast (states d) before a → KeptPast (states d) before b → ((s : State) → InSize d.impl s → number_at d a s ≡ number_at d b s) → a ≡ b
  same_slice ka kb same = ext_get_or 0 a b (ka.same_length ∙ sym kb.same_length) (λ i _. at i (dec_lt i (states d)))
    where
      at : (i : ℕ) → Dec (i < states d) → get_or a i 0 ≡ get_or b i 0
      at i (no l) = ka.past i (omega arith) ∙ sym (kb.past i (omega arith))
      at i (yes l) =
          let e : state_number d (values_of (sizes d.impl) i) ≡ i = number_of_values (sizes d.impl) i l in
          subst (λ k. get_or a k 0 ≡ get_or b k 0) e (same (values_of (sizes d.impl) i) (values_below (sizes d.impl) i l))

  same_runs : LongestRuns d a → LongestRuns d b → (s : State) → InSize d.impl s → number_at d a s ≡ number_at d b s
  same_runs la lb s in_size = go (by_holds d s)
    where
      go : {y : Bool} → Reflects (Invariant d s) y → number_at d a s ≡ number_at d b s
      go (so holds) =
          let i : InvariantState d s = record { in_size = in_size; invariant = holds } in
          one_length d s (number_at d a s) (number_at d b s) (la.inside s i) (lb.inside s i)
      go (not_so out) = la.elsewhere s in_size out ∙ sym (lb.elsewhere s in_size out)

no_loop_measured : (d : Design) (slice : List ℕ) → Measurable d → LongestRuns d slice → (s : State) → OnLoop d s → ⊥
no_loop_measured d slice m runs s = no_loop d m (number_at d slice) (longest_meets d m (number_at d slice) runs.inside) s

pub one_made : (d : Design) {before a b : List ℕ} {r q : Measured} → Made d before a r → Made d before b q → (a ≡ b) × SameAnswer r q
one_made d (leaves x e) (leaves y g) = (e ∙ sym g, both_refused 18)
one_made d (leaves x e) (filled t k l) = absurd (not_both d t x)
one_made d (leaves x e) (loop s t k z o) = absurd (not_both d t x)
one_made d (filled t k l) (leaves x e) = absurd (not_both d t x)
one_made d {before} {a} {b} (filled t k l) (filled u j m) = (same_slice d before a b k j (same_runs d before a b l m), both_filled)
one_made d {a = a} (filled t k l) (loop s u j z o) = absurd (no_loop_measured d a t l s o)
one_made d (loop s t k z o) (leaves x e) = absurd (not_both d t x)
one_made d {b = b} (loop s t k z o) (filled u j l) = absurd (no_loop_measured d b u l s o)
one_made d {before} {a} {b} (loop s t k z o) (loop x u j y p) =
    (same_slice d before a b k j (λ w i. z w i ∙ sym (y w i)), both_loop (state_number d s) (state_number d x))

pub one_measure : {f s : List ℕ} {c : Counts} {before a b : List ℕ} {r q : Measured} → MeasureIn f s c before a r → MeasureIn f s c before b q
    → (a ≡ b) × SameAnswer r q
one_measure (short n e) (short m g) = (e ∙ sym g, both_refused 17)
one_measure (short n e) (has_room h m) = absurd (n h)
one_measure (has_room h m) (short n e) = absurd (n h)
one_measure (has_room h m) (has_room j k) = one_made _ m k

refused_made : {d : Design} {before after : List ℕ} {r : Measured} {k : ℕ} → r ≡ TurnedDown k → Made d before after r → after ≡ before
refused_made e (leaves x same) = same
refused_made e (filled t k l) = let z : ◌≡◌ {A = ℕ} 0 1 = cc in absurd (omega arith)
refused_made e (loop s t k z o) = let y : ◌≡◌ {A = ℕ} 0 1 = cc in absurd (omega arith)

pub refused_unwritten : {f s : List ℕ} {c : Counts} {before after : List ℕ} {r : Measured} {k : ℕ} → r ≡ TurnedDown k → MeasureIn f s c before after r → after ≡ before
refused_unwritten e (short n same) = same
refused_unwritten e (has_room h m) = refused_made e m
