-- The check of all states is settled: what it comes to is the lowest failure of the design, or there is none, and then all ten
-- criteria hold. By mixed radix every state is examined, and each under its own number.
use mathlib.Core.Path.{◌≡◌, refl, sym, ◌∙◌, ap, subst}
use mathlib.Core.Logic.{◌↔◌, ◌≢◌}
use mathlib.Core.Bool.{Bool, cond}
use Prim.Native.Nat.{ℕ, ◌<◌, zero-le}
use native.Mathlib.Omega.{arith}
use borrow.Author.Tests.{ne_eqb}
use Rattle.foundation.specs.First.{Outcome, pass, fail}
use Rattle.foundation.specs.Lowest.{Lower, Lowest, Settled, none, lowest}
use Rattle.foundation.specs.Trial.{Place, place_turn}
use Rattle.foundation.specs.Reflects.{Reflects, so, not_so}
use Rattle.foundation.proofs.Lowest.{lower_not_self}
use Rattle.foundation.proofs.Radix.{number_below, values_below, values_of_number, number_of_values}
use Rattle.foundation.proofs.Walk.{walk_all, all_walk, walk_fails}
use Rattle.criteria.specs.Design.{Design, State, InSize, InvariantState, Admitted, sizes, states, state_number}
use Rattle.criteria.specs.Criteria.{Criteria, Criterion1, Criterion10, Meets}
use Rattle.criteria.specs.Failure.{Failure, late, turn, missing, FailsAt, start_failure, failure_at, Fails, start, tenth, at}
use Rattle.criteria.proofs.Failure.{Earlier, by_state, by_tenth, by_place, earlier, start_lowest}
use Rattle.decision.specs.Examine.{state_at, examine}
use Rattle.decision.specs.Verdict.{over_states, checked}
use Rattle.decision.proofs.Tests.{by_1, by_10}
use Rattle.decision.proofs.Examine.{Examined, lacking, unmet, examined, examine_passes, none_fails, all_hold, not_first, not_tenth}

module _ (d : Design) (a : Admitted d) where
  -- ---- states and their numbers

  state_of_number : (s : State) → InSize d.impl s → state_at d (state_number d s) ≡ s
  state_of_number s i = values_of_number (sizes d.impl) s i

  number_inside : (s : State) → InSize d.impl s → state_number d s < states d
  number_inside s i = number_below (sizes d.impl) s i

  -- where the examination of its number passes, a state meets the criteria
  passed : (s : State) → InvariantState d s → examine d (state_number d s) ≡ pass → Criteria d s
  passed s i h =
      let e = state_of_number s i.in_size in
      subst (Criteria d) e (((examine_passes d a (state_number d s) (number_inside s i.in_size)).0 h).1 (subst (InvariantState d) (sym e) i))

  -- and criterion 10
  passed_tenth : (s : State) → InSize d.impl s → examine d (state_number d s) ≡ pass → Criterion10 d s
  passed_tenth s i h = subst (Criterion10 d) (state_of_number s i) ((examine_passes d a (state_number d s) (number_inside s i)).0 h).0

  -- the walk to the end finds nothing exactly if criterion 10 holds in every state, and criteria 2 to 9 in every state where the invariant
  -- holds
  pub walk_accepts : (over_states d ≡ pass) ↔ (((s : State) → InSize d.impl s → Criterion10 d s) × ((s : State) → InvariantState d s → Criteria d s))
  walk_accepts = (
    λ h. (
      λ s i. passed_tenth s i (walk_all (examine d) (states d) 0 h (state_number d s) zero-le (let l = number_inside s i in omega arith)),
      λ s i. passed s i (walk_all (examine d) (states d) 0 h (state_number d s) zero-le (let l = number_inside s i.in_size in omega arith)),
    ),
    λ c. ap (λ w. w.outcome) (all_walk (examine d) (states d) 0
        (λ j l u. (examine_passes d a j (omega arith)).1 (c.0 (state_at d j) (values_below (sizes d.impl) j (omega arith)), c.1 (state_at d j)))),
  )

  -- ---- no failure at all: all ten criteria hold

  pub meets_exactly : Meets d ↔ ((x : Failure) → Fails d x → ⊥)
  meets_exactly = (
    no_failure,
    λ n. record {
      start = first n (by_1 d);
      tenth = λ s i. values n s i (by_10 d s);
      others = λ s i. all_hold d a s ((values n s i.in_size (by_10 d s)).apart.others i.invariant) (λ x f. n (failure_at (state_number d s) x) (at i f));
    },
  )
    where
      no_failure : Meets d → (x : Failure) → Fails d x → ⊥
      no_failure m x (start n) = n m.start
      no_failure m x (tenth {s = s} i f) = f (m.tenth s i)
      no_failure m x (at {s = s} {x = p} i f) = none_fails d s (m.others s i) p f

      values : ((x : Failure) → Fails d x → ⊥) → (s : State) → InSize d.impl s → {b : Bool} → Reflects (Criterion10 d s) b → Criterion10 d s
      values n s i (so c) = c
      values n s i (not_so m) = absurd (n (failure_at (state_number d s) missing) (tenth i m))

      first : ((x : Failure) → Fails d x → ⊥) → {b : Bool} → Reflects (Criterion1 d) b → Criterion1 d
      first n (so c) = c
      first n (not_so m) = absurd (n (start_failure d) (start m))

  -- ---- what comes before what

  -- nothing comes before the start
  before_start : (y : Failure) → Lower (turn y) (turn (start_failure d)) → Fails d y → ⊥
  before_start y l (start n) = lower_not_self (turn (start_failure d)) l
  before_start y l (tenth {s = s} i f) = start_lowest d (state_number d s) missing (λ e. omega arith) l
  before_start y l (at {s = s} {x = x} i f) = start_lowest d (state_number d s) x (not_first d s x f) l

  missing_later : missing.criterion ≢ 1
  missing_later e = omega arith

  late_one : (c : ℕ) → c ≢ 10 → late c ≡ 1
  late_one c n = rw (ne_eqb c 10 n)

  module _ (c : Criterion1 d) where
    -- nor before a missing value in a state before which all pass
    before_tenth : (n : ℕ) → ((j : ℕ) → j < n → examine d j ≡ pass) → (y : Failure) → Lower (turn y) (turn (failure_at n missing)) → Fails d y → ⊥
    before_tenth n b y l (start k) = k c
    before_tenth n b y l (tenth {s = s} i f) = go (earlier (state_number d s) n missing missing missing_later missing_later l)
      where
        go : Earlier (state_number d s) n missing missing missing_later missing_later → ⊥
        go (by_state e) = f (passed_tenth s i (b (state_number d s) e))
        go (by_tenth e k) = omega arith
        go (by_place e h k) = lower_not_self (place_turn missing) k
    before_tenth n b y l (at {s = s} {x = x} i f) = go (earlier (state_number d s) n x missing (not_first d s x f) missing_later l)
      where
        go : Earlier (state_number d s) n x missing (not_first d s x f) missing_later → ⊥
        go (by_state e) = none_fails d s (passed s i (b (state_number d s) e)) x f
        go (by_tenth e k) = omega arith
        go (by_place e h k) = let o = late_one x.criterion (not_tenth d s x f) in omega arith

    -- nor before the lowest failure of a state before which all pass
    before_at : (n : ℕ) (p : Place) → n < states d → Criterion10 d (state_at d n) → Lowest place_turn (FailsAt d (state_at d n)) p
        → ((j : ℕ) → j < n → examine d j ≡ pass) → (y : Failure) → Lower (turn y) (turn (failure_at n p)) → Fails d y → ⊥
    before_at n p u t m b y l (start k) = k c
    before_at n p u t m b y l (tenth {s = s} i f) = go (earlier (state_number d s) n missing p missing_later (not_first d (state_at d n) p m.fails) l)
      where
        go : Earlier (state_number d s) n missing p missing_later (not_first d (state_at d n) p m.fails) → ⊥
        go (by_state e) = f (passed_tenth s i (b (state_number d s) e))
        go (by_tenth e k) = f (subst (Criterion10 d) (sym (sym (state_of_number s i) ∙ ap (state_at d) e)) t)
        go (by_place e h k) = let o = late_one p.criterion (not_tenth d (state_at d n) p m.fails) in omega arith
    before_at n p u t m b y l (at {s = s} {x = x} i f) =
        go (earlier (state_number d s) n x p (not_first d s x f) (not_first d (state_at d n) p m.fails) l)
      where
        go : Earlier (state_number d s) n x p (not_first d s x f) (not_first d (state_at d n) p m.fails) → ⊥
        go (by_state e) = none_fails d s (passed s i (b (state_number d s) e)) x f
        go (by_tenth e k) =
            let o = late_one x.criterion (not_tenth d s x f) in
            let q = late_one p.criterion (not_tenth d (state_at d n) p m.fails) in
            omega arith
        go (by_place e h k) =
            let here : s ≡ state_at d n = sym (state_of_number s i.in_size) ∙ ap (state_at d) e in
            m.none_before x k (subst (λ v. FailsAt d v x) here f)

    walked : (o : Outcome Failure) → over_states d ≡ o → Settled turn (Fails d) o
    walked pass h = none (meets_exactly.0 (record { start = c; tenth = (walk_accepts.0 h).0; others = (walk_accepts.0 h).1 }))
    walked (fail x) h =
        let f = walk_fails (examine d) (states d) 0 x h in
        let inside : f.at < states d = omega arith in
        go f.at x inside (λ j l. f.before j zero-le l) (subst (Examined d f.at) f.fails (examined d a f.at inside))
      where
        go : (n : ℕ) (y : Failure) → n < states d → ((j : ℕ) → j < n → examine d j ≡ pass) → Examined d n (fail y) → Settled turn (Fails d) (fail y)
        go n y u b (lacking m) =
            lowest (record {
              fails = subst (λ k. Fails d (failure_at k missing)) (number_of_values (sizes d.impl) n u) (tenth (values_below (sizes d.impl) n u) m);
              none_before = before_tenth n b;
            })
        go n y u b (unmet {x = p} t i m) =
            lowest (record {
              fails = subst (λ k. Fails d (failure_at k p)) (number_of_values (sizes d.impl) n u) (at i m.fails);
              none_before = before_at n p u t m b;
            })

  pub check_settled : Settled turn (Fails d) (checked d)
  unfolding checked
  check_settled = go (by_1 d)
    where
      go : {b : Bool} → Reflects (Criterion1 d) b → Settled turn (Fails d) (cond b (over_states d) (fail (start_failure d)))
      go (so c) = walked c (over_states d) refl
      go (not_so n) = lowest (record { fails = start n; none_before = before_start })
