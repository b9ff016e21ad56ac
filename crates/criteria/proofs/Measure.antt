-- Longest runs as a measure (02, order 4): where criterion 3 holds, and criterion 10 but for the measure, what is the length of a longest
-- run in each state where the invariant holds meets criterion 5 and is nowhere larger than any measure that does; a loop rules every such
-- measure out.
use mathlib.Core.Path.{◌≡◌, ◌∙◌, subst}
use Prim.Native.Nat.{ℕ, suc, ◌+◌, ◌≤◌, ◌<◌}
use native.Mathlib.Omega.{arith}
use Rattle.foundation.specs.Nth.{Nth, first}
use Rattle.foundation.proofs.Nth.{nth_nil, nth_cons}
use Rattle.criteria.specs.Design.{Design, State, InvariantState}
use Rattle.criteria.specs.Step.{MarkedStep, Run, none, more, states_of, next_state}
use Rattle.criteria.specs.Measure.{LongestRun, OnLoop, Measurable, Unmeasurable, third_fails, tenth_fails, MeetsFifth}
use Rattle.criteria.proofs.Rows.{step_of}

-- there is one such length
pub one_length : (d : Design) (s : State) (n m : ℕ) → LongestRun d s n → LongestRun d s m → n ≡ m
one_length d s n m a b =
    let l = b.none_longer n a.end a.run in
    let u = a.none_longer m b.end b.run in
    omega arith

-- criteria 3 and 10 don't both hold and fail
pub not_both : (d : Design) → Measurable d → Unmeasurable d → ⊥
not_both d m (third_fails {s = s} {k = k} {e = e} {r = r} i is fails) = fails (m.third s i k r e is)
not_both d m (tenth_fails {s = s} i fails) = fails (m.tenth s i)

-- a run starts in its first state, and so the invariant holds in a state on a loop
start_of : {d : Design} {s s' : State} {n : ℕ} (run : Run d s n s') → Nth (states_of run) 1 s
start_of none = first
start_of (more t rest) = first

pub loop_inside : (d : Design) (s : State) → OnLoop d s → InvariantState d s
loop_inside d s o = o.among 1 s (start_of o.run)

module _ (d : Design) (measurable : Measurable d) where
  -- a marked step leads inside
  pub marked_inside : (s u : State) → InvariantState d s → MarkedStep d s u → InvariantState d u
  marked_inside s u i t =
      let st = t.internal.step in
      subst (InvariantState d) st.goes.same (measurable.third s i st.at st.row st.sum st.is_row st.enabled)

  -- and so does a run, all along
  pub run_among : (s s' : State) (n : ℕ) → InvariantState d s → (run : Run d s n s') → (k : ℕ) (u : State) → Nth (states_of run) k u → InvariantState d u
  run_among s s' n i none = nth_cons (InvariantState d) i (λ k u at. absurd (nth_nil at))
  run_among s s' n i (more {u = v} {n = m} t rest) = nth_cons (InvariantState d) i (run_among v s' m (marked_inside s v i t) rest)

  -- ---- a measure that meets criterion 5

  module _ (μ : State → ℕ) (fifth : MeetsFifth d μ) where
    pub step_lowers : (s u : State) → InvariantState d s → MarkedStep d s u → μ u < μ s
    step_lowers s u i t =
        let st = t.internal.step in
        subst (λ w. μ w < μ s) st.goes.same (fifth s i st.at st.row st.sum st.is_row st.enabled (st.action ∙ t.internal.zero) t.marked)

    pub run_lowers : (s s' : State) (n : ℕ) → InvariantState d s → Run d s n s' → μ s' + n ≤ μ s
    run_lowers s s' n i none = omega arith
    run_lowers s s' n i (more {u = u} {n = m} t rest) =
        let l = step_lowers s u i t in
        let r = run_lowers u s' m (marked_inside s u i t) rest in
        omega arith

    -- is never smaller than the length of a run
    pub run_least : (s : State) (n : ℕ) → InvariantState d s → LongestRun d s n → n ≤ μ s
    run_least s n i a = let l = run_lowers s a.end n i a.run in omega arith

    -- and there is none on a loop
    pub no_loop : (s : State) → OnLoop d s → ⊥
    no_loop s o = let l = run_lowers s s (suc o.before_last) (loop_inside d s o) o.run in omega arith

  -- ---- longest runs are such a measure

  pub longest_meets : (μ : State → ℕ) → ((s : State) → InvariantState d s → LongestRun d s (μ s)) → MeetsFifth d μ
  longest_meets μ longest s i k r e is on zero_is mark =
      let u : State = next_state r s e in
      let j : InvariantState d u = measurable.third s i k r e is on in
      let t : MarkedStep d s u = step_of d s ((measurable.tenth s i.in_size).others i.invariant) (record { at = k; row = r; sum = e; is_row = is; zero = zero_is; enabled = on; marked = mark }) in
      let a = longest u j in
      let l = (longest s i).none_longer (suc (μ u)) a.end (more t a.run) in
      omega arith
