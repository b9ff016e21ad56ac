-- At a state the places that fail by the tests are those that fail by the criteria. So the search finds the lowest of them, and a
-- state passes exactly if criterion 10 holds there, and criteria 2 to 9 do or the invariant does not.
use mathlib.Core.Path.{◌≡◌, refl, subst}
use mathlib.Core.Logic.{◌↔◌, ◌≢◌}
use mathlib.Core.Bool.{Bool, true, not, cond}
use mathlib.Core.List.{List}
use Prim.Native.Nat.{ℕ, zero, suc, ◌<◌}
use native.Mathlib.Omega.{arith}
use native.Mathlib.Nat.{not-suc-le-zero}
use native.Mathlib.Decide.{dec_lt}
use borrow.Author.Tests.{not-true}
use lib.Arith.{lt-one}
use Rattle.foundation.specs.First.{Outcome, pass, fail}
use Rattle.foundation.specs.Lowest.{Lowest, Settled}
use Rattle.foundation.specs.Trial.{Place, place, place_turn, FailsIn}
use Rattle.foundation.specs.Reflects.{Reflects, so, not_so}
use Rattle.foundation.proofs.Lowest.{passes_exactly, fails_exactly, settled_same}
use Rattle.foundation.proofs.Trial.{place_turns, trial_settled}
use Rattle.foundation.proofs.Reflects.{says_no, is_not}
use Rattle.criteria.specs.Design.{Design, Row, State, RowIs, InvariantState, Invariant, Admitted, sizes, states}
use Rattle.criteria.specs.Criteria.{Criterion2, Criterion3, Criterion4, Criterion5, Criterion6, Criterion7, Criterion8, Criterion9, Criterion10, OthersHave, Criteria}
use Rattle.criteria.specs.Failure.{Failure, failure_at, missing, FailsAt, second, third, fourth, fifth, sixth, seventh, eighth, ninth}
use Rattle.foundation.proofs.Radix.{values_below}
use Rattle.criteria.specs.Rows.{row_at}
use Rattle.criteria.proofs.Rows.{is_row_at, is_row_below, row_at_is}
use Rattle.decision.specs.Tests.{invariant_b, holds3, holds4, holds5, holds6, holds7, holds8, holds9}
use Rattle.decision.specs.Examine.{trial, first_failing, state_at, named, examine}
use Rattle.decision.proofs.Tests.{by_2, by_3, by_4, by_5, by_6, by_7, by_8, by_9, by_10, by_invariant}

-- ---- one criterion over rows

pub record RowTest : Type 1 where
  pub rows : List Row
  pub criterion : ℕ → Row → ℕ → Type 0
  pub holds : ℕ → Row → ℕ → Bool
  pub says : (k : ℕ) (r : Row) (e : ℕ) → RowIs rows k r → e < r.span → Reflects (criterion k r e) (holds k r e)
  -- outside the span there is nothing to meet
  pub idle : (k : ℕ) (r : Row) (e : ℕ) → (e < r.span → ⊥) → criterion k r e

module _ (T : RowTest) where
  row_of_lem : (k e : ℕ) → e < (row_at T.rows k).span → RowIs T.rows k (row_at T.rows k)
  row_of_lem k e u = row_at_is T.rows k e u

  test_fails : (k e : ℕ) (u : e < (row_at T.rows k).span) → not (T.holds k (row_at T.rows k) e) ≡ true → T.criterion k (row_at T.rows k) e → ⊥
  test_fails k e u h = says_no (T.says k (row_at T.rows k) e (row_of_lem k e u) u) (not-true _ h)

  in_span : (k : ℕ) (r : Row) (e : ℕ) → (T.criterion k r e → ⊥) → e < r.span
  in_span k r e n = go (dec_lt e r.span)
    where
      go : Dec (e < r.span) → e < r.span
      go (yes u) = u
      go (no m) = absurd (n (T.idle k r e m))

  fails_in_span : {k : ℕ} {r : Row} (e : ℕ) → RowIs T.rows k r → (T.criterion k r e → ⊥) → e < (row_at T.rows k).span
  fails_in_span {k} {r} e is n = rw (is_row_at is) (in_span k r e n)

  fails_test : {k : ℕ} {r : Row} (e : ℕ) → RowIs T.rows k r → (T.criterion k r e → ⊥) → not (T.holds k (row_at T.rows k) e) ≡ true
  fails_test {k} {r} e is n = rw (is_row_at is, is_not (T.says k r e is (in_span k r e n)) n)

  -- it holds unless it fails
  holds_unless : (k : ℕ) (r : Row) (e : ℕ) → RowIs T.rows k r → ((T.criterion k r e → ⊥) → ⊥) → T.criterion k r e
  holds_unless k r e is n = go (dec_lt e r.span)
    where
      by : {b : Bool} → Reflects (T.criterion k r e) b → T.criterion k r e
      by (so c) = c
      by (not_so m) = absurd (n m)

      go : Dec (e < r.span) → T.criterion k r e
      go (yes u) = by (T.says k r e is u)
      go (no m) = T.idle k r e m

-- ---- what fails at a state, whether all have values there or not

module _ (d : Design) (s : State) where
  pub none_fails : Criteria d s → (x : Place) → FailsAt d s x → ⊥
  none_fails c x (second n) = n c.second
  none_fails c x (third {k = k} {e = e} {r = r} is n) = n (c.third k r e is)
  none_fails c x (fourth {k = k} {e = e} {r = r} is n) = n (c.fourth k r e is)
  none_fails c x (fifth {k = k} {e = e} {r = r} is n) = n (c.fifth k r e is)
  none_fails c x (sixth {k = k} {e = e} {r = r} is n) = n (c.sixth k r e is)
  none_fails c x (seventh {k = k} {e = e} {q = q} is n) = n (c.seventh k q e is)
  none_fails c x (eighth {k = k} {e = e} {r = r} is n) = n (c.eighth k r e is)
  none_fails c x (ninth {k = k} {e = e} {r = r} is n) = n (c.ninth k r e is)

  -- nothing of these is criterion 1's, or criterion 10's
  pub not_first : (x : Place) → FailsAt d s x → x.criterion ≢ 1
  not_first x (second n) e = omega arith
  not_first x (third is n) e = omega arith
  not_first x (fourth is n) e = omega arith
  not_first x (fifth is n) e = omega arith
  not_first x (sixth is n) e = omega arith
  not_first x (seventh is n) e = omega arith
  not_first x (eighth is n) e = omega arith
  not_first x (ninth is n) e = omega arith

  pub not_tenth : (x : Place) → FailsAt d s x → x.criterion ≢ 10
  not_tenth x (second n) e = omega arith
  not_tenth x (third is n) e = omega arith
  not_tenth x (fourth is n) e = omega arith
  not_tenth x (fifth is n) e = omega arith
  not_tenth x (sixth is n) e = omega arith
  not_tenth x (seventh is n) e = omega arith
  not_tenth x (eighth is n) e = omega arith
  not_tenth x (ninth is n) e = omega arith

-- ---- all of them, where all have values

module _ (d : Design) (a : Admitted d) (s : State) (have : OthersHave d s) where
  t3 : RowTest
  t3 = record { rows = d.impl.rows; criterion = λ _. Criterion3 d s; holds = λ _. holds3 d s; says = λ k r e is u. by_3 d a s have k r e u is; idle = λ k r e n on. absurd (n on.in_span) }

  t4 : RowTest
  t4 = record { rows = d.impl.rows; criterion = λ _. Criterion4 d s; holds = λ _. holds4 d s; says = λ k r e is u. by_4 d a s have k r e u is; idle = λ k r e n on. absurd (n on.in_span) }

  t5 : RowTest
  t5 = record { rows = d.impl.rows; criterion = Criterion5 d s; holds = holds5 d s; says = λ k r e is u. by_5 d a s have k r e u is; idle = λ k r e n on. absurd (n on.in_span) }

  t6 : RowTest
  t6 = record { rows = d.impl.rows; criterion = λ _. Criterion6 d s; holds = λ _. holds6 d s; says = λ k r e is u. by_6 d a s have k r e u is; idle = λ k r e n on. absurd (n on.in_span) }

  t7 : RowTest
  t7 = record { rows = d.spec.rows; criterion = λ _. Criterion7 d s; holds = λ _. holds7 d s; says = λ k q e is u. by_7 d a s have k q e u is; idle = λ k r e n focus on. absurd (n on.in_span) }

  t8 : RowTest
  t8 = record { rows = d.impl.rows; criterion = λ _. Criterion8 d s; holds = λ _. holds8 d s; says = λ k r e is u. by_8 d a s have k r e u is; idle = λ k r e n on. absurd (n on.in_span) }

  t9 : RowTest
  t9 = record { rows = d.impl.rows; criterion = λ _. Criterion9 d s; holds = λ _. holds9 d s; says = λ k r e is u. by_9 d a s have k r e u is; idle = λ k r e n on. absurd (n on.in_span) }

  second_at : (k e : ℕ) → k ≡ 0 → e ≡ 0 → (Criterion2 d s → ⊥) → FailsAt d s (place 2 k e)
  second_at k e p q n = rw (p, q) (second n)

  -- what fails by the tests fails by the criteria
  fails_at_lem : (c k e : ℕ) → FailsIn (trial d s) (place c k e) → FailsAt d s (place c k e)
  unfolding t3 t4 t5 t6 t7 t8 t9
  fails_at_lem zero k e f = absurd (not-suc-le-zero f.row)
  fails_at_lem (suc zero) k e f = absurd (not-suc-le-zero f.row)
  fails_at_lem (suc (suc zero)) k e f = second_at k e (lt-one f.row) (lt-one f.sum) (says_no (by_2 d s) (not-true _ f.test))
  fails_at_lem (suc (suc (suc zero))) k e f = third (row_of_lem t3 k e f.sum) (test_fails t3 k e f.sum f.test)
  fails_at_lem (suc (suc (suc (suc zero)))) k e f = fourth (row_of_lem t4 k e f.sum) (test_fails t4 k e f.sum f.test)
  fails_at_lem (suc (suc (suc (suc (suc zero))))) k e f = fifth (row_of_lem t5 k e f.sum) (test_fails t5 k e f.sum f.test)
  fails_at_lem (suc (suc (suc (suc (suc (suc zero)))))) k e f = sixth (row_of_lem t6 k e f.sum) (test_fails t6 k e f.sum f.test)
  fails_at_lem (suc (suc (suc (suc (suc (suc (suc zero))))))) k e f = seventh (row_of_lem t7 k e f.sum) (test_fails t7 k e f.sum f.test)
  fails_at_lem (suc (suc (suc (suc (suc (suc (suc (suc zero)))))))) k e f = eighth (row_of_lem t8 k e f.sum) (test_fails t8 k e f.sum f.test)
  fails_at_lem (suc (suc (suc (suc (suc (suc (suc (suc (suc zero))))))))) k e f = ninth (row_of_lem t9 k e f.sum) (test_fails t9 k e f.sum f.test)
  fails_at_lem (suc (suc (suc (suc (suc (suc (suc (suc (suc (suc c)))))))))) k e f = absurd (let l = f.criterion in omega arith)

  -- and the other way round
  at_fails : (x : Place) → FailsAt d s x → FailsIn (trial d s) x
  unfolding t3 t4 t5 t6 t7 t8 t9
  at_fails x (second n) = record { criterion = omega arith; row = omega arith; sum = omega arith; test = rw (is_not (by_2 d s) n) }
  at_fails x (third {e = e} is n) = record { criterion = omega arith; row = is_row_below is; sum = fails_in_span t3 e is n; test = fails_test t3 e is n }
  at_fails x (fourth {e = e} is n) = record { criterion = omega arith; row = is_row_below is; sum = fails_in_span t4 e is n; test = fails_test t4 e is n }
  at_fails x (fifth {e = e} is n) = record { criterion = omega arith; row = is_row_below is; sum = fails_in_span t5 e is n; test = fails_test t5 e is n }
  at_fails x (sixth {e = e} is n) = record { criterion = omega arith; row = is_row_below is; sum = fails_in_span t6 e is n; test = fails_test t6 e is n }
  at_fails x (seventh {e = e} is n) = record { criterion = omega arith; row = is_row_below is; sum = fails_in_span t7 e is n; test = fails_test t7 e is n }
  at_fails x (eighth {e = e} is n) = record { criterion = omega arith; row = is_row_below is; sum = fails_in_span t8 e is n; test = fails_test t8 e is n }
  at_fails x (ninth {e = e} is n) = record { criterion = omega arith; row = is_row_below is; sum = fails_in_span t9 e is n; test = fails_test t9 e is n }

  -- criteria 2 to 9 hold exactly if nothing of them fails
  pub all_hold : ((x : Place) → FailsAt d s x → ⊥) → Criteria d s
  unfolding t3 t4 t5 t6 t7 t8 t9
  all_hold none = record {
    second = by_second (by_2 d s);
    third = λ k r e is. holds_unless t3 k r e is (λ n. none (place 3 k e) (third is n));
    fourth = λ k r e is. holds_unless t4 k r e is (λ n. none (place 4 k e) (fourth is n));
    fifth = λ k r e is. holds_unless t5 k r e is (λ n. none (place 5 k e) (fifth is n));
    sixth = λ k r e is. holds_unless t6 k r e is (λ n. none (place 6 k e) (sixth is n));
    seventh = λ k r e is. holds_unless t7 k r e is (λ n. none (place 7 k e) (seventh is n));
    eighth = λ k r e is. holds_unless t8 k r e is (λ n. none (place 8 k e) (eighth is n));
    ninth = λ k r e is. holds_unless t9 k r e is (λ n. none (place 9 k e) (ninth is n));
  }
    where
      by_second : {b : Bool} → Reflects (Criterion2 d s) b → Criterion2 d s
      by_second (so c) = c
      by_second (not_so n) = absurd (none (place 2 0 0) (second n))

  pub state_settled : Settled place_turn (FailsAt d s) (first_failing d s)
  state_settled = settled_same place_turn (FailsIn (trial d s)) (FailsAt d s) (λ x. fails_at_lem x.criterion x.row x.sum) at_fails (trial_settled (trial d s))

  pub state_passes : (first_failing d s ≡ pass) ↔ Criteria d s
  state_passes =
      let exactly = passes_exactly place_turn place_turns (FailsAt d s) state_settled in
      (λ h. all_hold (exactly.0 h), λ c. exactly.1 (none_fails d s c))

  pub state_fails : (x : Place) → (first_failing d s ≡ fail x) ↔ Lowest place_turn (FailsAt d s) x
  state_fails = fails_exactly place_turn place_turns (FailsAt d s) state_settled

-- ---- the examination of a state's number

-- what it comes to
pub data Examined (d : Design) (n : ℕ) : Outcome Failure → Type 0 where
  lacking : (Criterion10 d (state_at d n) → ⊥) → Examined d n (fail (failure_at n missing))
  met : Criterion10 d (state_at d n) → (InvariantState d (state_at d n) → Criteria d (state_at d n)) → Examined d n pass
  unmet : {x : Place} → Criterion10 d (state_at d n) → InvariantState d (state_at d n) → Lowest place_turn (FailsAt d (state_at d n)) x → Examined d n (fail (failure_at n x))

module _ (d : Design) (a : Admitted d) (n : ℕ) (below : n < states d) where
  searched : Criterion10 d (state_at d n) → InvariantState d (state_at d n) → (o : Outcome Place) → first_failing d (state_at d n) ≡ o → Examined d n (named n o)
  searched t i pass h = met t (λ _. (state_passes d a (state_at d n) (t.apart.others i.invariant)).0 h)
  searched t i (fail x) h = unmet t i ((state_fails d a (state_at d n) (t.apart.others i.invariant) x).0 h)

  pub examined : Examined d n (examine d n)
  unfolding examine
  examined = of (by_10 d (state_at d n))
    where
      go : Criterion10 d (state_at d n) → {b : Bool} → Reflects (Invariant d (state_at d n)) b → Examined d n (cond b (named n (first_failing d (state_at d n))) pass)
      go t (so h) = searched t (record { in_size = values_below (sizes d.impl) n below; invariant = h }) (first_failing d (state_at d n)) refl
      go t (not_so m) = met t (λ i. absurd (m i.invariant))

      of : {b : Bool} → Reflects (Criterion10 d (state_at d n)) b
          → Examined d n (cond b (cond (invariant_b d (state_at d n)) (named n (first_failing d (state_at d n))) pass) (fail (failure_at n missing)))
      of (so t) = go t (by_invariant d (state_at d n) t.apart.invariant)
      of (not_so m) = lacking m

  -- a state passes exactly if criterion 10 holds there, and criteria 2 to 9 do or the invariant does not
  pub examine_passes : (examine d n ≡ pass) ↔ (Criterion10 d (state_at d n) × (InvariantState d (state_at d n) → Criteria d (state_at d n)))
  examine_passes = (λ h. of (subst (Examined d n) h examined), λ c. go (examine d n) examined c)
    where
      of : Examined d n pass → Criterion10 d (state_at d n) × (InvariantState d (state_at d n) → Criteria d (state_at d n))
      of (met t f) = (t, f)

      go : (o : Outcome Failure) → Examined d n o → Criterion10 d (state_at d n) × (InvariantState d (state_at d n) → Criteria d (state_at d n)) → o ≡ pass
      go pass e c = refl
      go (fail x) (lacking m) c = absurd (m c.0)
      go (fail x) (unmet {x = p} t i l) c = absurd (none_fails d (state_at d n) (c.1 i) p l.fails)

  -- a failure has the number of its state, and is not criterion 1's
  pub fails_there : (x : Failure) → examine d n ≡ fail x → (x.state ≡ n) × (x.criterion ≢ 1)
  fails_there x h = go x (subst (Examined d n) h examined)
    where
      go : (y : Failure) → Examined d n (fail y) → (y.state ≡ n) × (y.criterion ≢ 1)
      go y (lacking m) = (refl, λ e. omega arith)
      go y (unmet {x = p} t i l) = (refl, not_first d (state_at d n) p l.fails)
