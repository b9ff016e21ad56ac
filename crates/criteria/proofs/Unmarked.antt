-- A design in which all steps are marked (it has no marks, or each formula is `10`) means what 01 says of it: criteria, focus points and
-- runs are those of specs/Unmarked. And these read no marks.
use mathlib.Core.Path.{◌≡◌, refl, ◌∙◌}
use mathlib.Core.Logic.{◌↔◌}
use mathlib.Core.Bool.{true}
use mathlib.Core.List.{List, [], ◌∷◌}
use Prim.Native.Nat.{ℕ, ◌-◌}
use native.Mathlib.Omega.{arith}
use lib.ListN.{take, replicate, get_or-replicate}
use Rattle.foundation.specs.Trial.{Place}
use Rattle.foundation.proofs.Nth.{nth_positive}
use Rattle.terms.specs.Tree.{Formula, const, no_formula, eval_f, has_f}
use Rattle.criteria.specs.Design.{Design, Row, State, RowIs, InvariantState, with_marks}
use Rattle.criteria.specs.Step.{InternalRow, Internal, Marked, all_marked, by_formula, MarkHas, no_marks, has_mark, internal_rows, MarkedStep, FocusPoint, Chain, Run, none, more, states_of}
use Rattle.criteria.specs.Criteria.{Criterion1, Criteria, Criterion10, Meets}
use Rattle.criteria.specs.Failure.{Failure, FailsAt, second, third, fourth, fifth, sixth, seventh, eighth, ninth, Fails, start, tenth, at, LowestFailure}
use Rattle.criteria.specs.Bisimilar.{Promised, Demand3}
use Rattle.criteria.specs.Unmarked as plain
use Rattle.criteria.specs.Unmarked.{Unmarked}
use Rattle.criteria.proofs.Rows.{is_row_at, is_row_below, internal_below, holds_marked}

-- every internal step is marked
abbrev pub AllMarked : Design → Type 0
AllMarked d = (k : ℕ) (r : Row) → RowIs d.impl.rows k r → InternalRow r → (s : State) (e : ℕ) → Marked d k s e

-- "Without the line all steps are marked."
pub unmarked_all : (d : Design) → Unmarked d → AllMarked d
unmarked_all d unmarked k r is z s e = all_marked unmarked

-- and so they are if each formula is `10`
pub tens_all : (d : Design) → d.marks ≡ replicate (internal_rows d.impl.rows) (const true) ∷ [] → AllMarked d
unfolding eval_f has_f
tens_all d tens k r is z s e =
    let rows = d.impl.rows in
    let from = nth_positive is in
    let to = is_row_below is in
    let fewer = internal_below rows k (omega arith) (omega arith) (rw (is_row_at is) z) in
    let ten = get_or-replicate (internal_rows rows) (internal_rows (take (k - 1) rows)) (const true) no_formula fewer in
    holds_marked d k s e is z (rw (tens, ten)) (rw (tens, ten))

module _ (d : Design) (all : AllMarked d) where
  pub marked_step : {s s' : State} → Internal d.impl s s' → MarkedStep d s s'
  marked_step {s} t =
      let p = t.step in
      record { internal = t; marked = all p.at p.row p.is_row (p.action ∙ t.zero) s p.sum }

  pub chain_run : {s s' : State} {n : ℕ} → Chain d s n s' → Run d s n s'
  chain_run none = none
  chain_run (more t c) = more (marked_step t) (chain_run c)

  same_states : {s s' : State} {n : ℕ} (c : Chain d s n s') → states_of (chain_run c) ≡ states_of c
  unfolding chain_run
  same_states none = refl
  same_states (more {s = s} t c) = λ i. s ∷ same_states c i

  pub focus_same : (s : State) → FocusPoint d s ↔ plain.FocusPoint d s
  focus_same s = (λ f k r e is z on. f k r e is z on (all k r is z s e), λ f k r e is z on mark. f k r e is z on)

  -- a mark that holds has a value
  marked_has : {k : ℕ} {s : State} {e : ℕ} → Marked d k s e → MarkHas d k s e
  marked_has (all_marked n) = no_marks n
  marked_has (by_formula line is h) = has_mark line is (record { value = true; is = h })

  pub tenth_same : (s : State) → Criterion10 d s ↔ plain.Criterion10 d s
  tenth_same s = (
    λ c. record {
      invariant = c.apart.invariant;
      others = λ i. let o = c.apart.others i in record { mapping = o.mapping; measure = c.measure i; impl = o.impl; spec = o.spec };
    },
    λ c. record {
      apart = record {
        invariant = c.invariant;
        others = λ i.
            let o = c.others i in
            record { mapping = o.mapping; impl = o.impl; marks = λ k r is z e u. marked_has (all k r is z s e); spec = o.spec };
      };
      measure = λ i. (c.others i).measure;
    },
  )

  pub criteria_same : (s : State) → Criteria d s ↔ plain.Criteria d s
  criteria_same s = (there, back)
    where
      there : Criteria d s → plain.Criteria d s
      there c = record {
        second = c.second;
        third = c.third;
        fourth = c.fourth;
        fifth = λ k r e is on z. c.fifth k r e is on z (all k r is z s e);
        sixth = c.sixth;
        seventh = λ k q e is f. c.seventh k q e is ((focus_same s).1 f);
        eighth = c.eighth;
        ninth = c.ninth;
      }

      back : plain.Criteria d s → Criteria d s
      back c = record {
        second = c.second;
        third = c.third;
        fourth = c.fourth;
        fifth = λ k r e is on z mark. c.fifth k r e is on z;
        sixth = c.sixth;
        seventh = λ k q e is f. c.seventh k q e is ((focus_same s).0 f);
        eighth = c.eighth;
        ninth = c.ninth;
      }

  -- the ten criteria are those without marks
  pub meets_same : Meets d ↔ plain.Meets d
  meets_same = (
    λ m. record { start = m.start; tenth = λ s i. (tenth_same s).0 (m.tenth s i); others = λ s i. (criteria_same s).0 (m.others s i) },
    λ m. record { start = m.start; tenth = λ s i. (tenth_same s).1 (m.tenth s i); others = λ s i. (criteria_same s).1 (m.others s i) },
  )

  -- and so is the lowest failure
  there : {s : State} {x : Place} → FailsAt d s x → plain.FailsAt d s x
  there (second n) = plain.second n
  there (third is n) = plain.third is n
  there (fourth is n) = plain.fourth is n
  there (fifth is n) = plain.fifth is (λ c. n (λ on z mark. c on z))
  there (sixth is n) = plain.sixth is n
  there {s} (seventh is n) = plain.seventh is (λ c. n (λ f. c ((focus_same s).0 f)))
  there (eighth is n) = plain.eighth is n
  there (ninth is n) = plain.ninth is n

  back : {s : State} {x : Place} → plain.FailsAt d s x → FailsAt d s x
  back (plain.second n) = second n
  back (plain.third is n) = third is n
  back (plain.fourth is n) = fourth is n
  back {s} (plain.fifth {k = k} {e = e} {r = r} is n) = fifth is (λ c. n (λ on z. c on z (all k r is z s e)))
  back (plain.sixth is n) = sixth is n
  back {s} (plain.seventh is n) = seventh is (λ c. n (λ f. c ((focus_same s).1 f)))
  back (plain.eighth is n) = eighth is n
  back (plain.ninth is n) = ninth is n

  fails_there : (x : Failure) → Fails d x → plain.Fails d x
  fails_there x (start n) = plain.start n
  fails_there x (tenth {s = s} i n) = plain.tenth i (λ c. n ((tenth_same s).1 c))
  fails_there x (at i f) = plain.at i (there f)

  fails_back : (x : Failure) → plain.Fails d x → Fails d x
  fails_back x (plain.start n) = start n
  fails_back x (plain.tenth {s = s} i n) = tenth i (λ c. n ((tenth_same s).0 c))
  fails_back x (plain.at i f) = at i (back f)

  pub lowest_same : (x : Failure) → LowestFailure d x ↔ plain.LowestFailure d x
  lowest_same x = (
    λ l. record { fails = fails_there x l.fails; none_before = λ y b f. l.none_before y b (fails_back y f) },
    λ l. record { fails = fails_back x l.fails; none_before = λ y b f. l.none_before y b (fails_there y f) },
  )

  promised_plain : (s : State) → Promised d s → plain.Promised d s
  promised_plain s p = record {
    has_mapped = p.has_mapped;
    has_measure = p.has_measure;
    bisimilar = p.bisimilar;
    runs = λ n s' run.
        let r = p.runs n s' (chain_run run) in
        record {
          at_most = r.at_most;
          stays = λ k u at. r.stays k u (rw (same_states run) at);
          stopped = λ stop. (focus_same s').0 (r.stopped (λ u t. stop u t.internal));
        };
  }

  -- and demand 3 gives 00's
  pub demand3_plain : Demand3 d → plain.Demand3 d
  demand3_plain q = record { each = λ s i. promised_plain s (q.each s i); initial_among = q.initial_among; initial_mapped = q.initial_mapped }

-- ---- with other marks 01's criteria and lowest failure stay the same (d is the design with its own marks)

module _ (d : Design) where
  invariant_any : {ms ns : List (List Formula)} {s : State} → InvariantState (with_marks d ms) s → InvariantState (with_marks d ns) s
  invariant_any i = record { in_size = i.in_size; invariant = i.invariant }

  start_any : {ms ns : List (List Formula)} → Criterion1 (with_marks d ms) → Criterion1 (with_marks d ns)
  start_any c = record { invariant = c.invariant; mapping = c.mapping }

  tenth_any : {ms ns : List (List Formula)} {s : State} → plain.Criterion10 (with_marks d ms) s → plain.Criterion10 (with_marks d ns) s
  tenth_any c = record {
    invariant = c.invariant;
    others = λ i. let o = c.others i in record { mapping = o.mapping; measure = o.measure; impl = o.impl; spec = o.spec };
  }

  criteria_any : {ms ns : List (List Formula)} {s : State} → plain.Criteria (with_marks d ms) s → plain.Criteria (with_marks d ns) s
  criteria_any c = record {
    second = c.second;
    third = λ k r e is on. invariant_any (c.third k r e is on);
    fourth = c.fourth;
    fifth = c.fifth;
    sixth = c.sixth;
    seventh = c.seventh;
    eighth = c.eighth;
    ninth = c.ninth;
  }

  pub meets_any : (ms : List (List Formula)) → plain.Meets d ↔ plain.Meets (with_marks d ms)
  meets_any ms = (go, go)
    where
      go : {ms ns : List (List Formula)} → plain.Meets (with_marks d ms) → plain.Meets (with_marks d ns)
      go m = record { start = start_any m.start; tenth = λ s i. tenth_any (m.tenth s i); others = λ s i. criteria_any (m.others s (invariant_any i)) }

  fails_at_any : {ms ns : List (List Formula)} {s : State} {x : Place}
      → plain.FailsAt (with_marks d ms) s x → plain.FailsAt (with_marks d ns) s x
  fails_at_any (plain.second n) = plain.second n
  fails_at_any (plain.third is n) = plain.third is (λ c. n (λ on. invariant_any (c on)))
  fails_at_any (plain.fourth is n) = plain.fourth is n
  fails_at_any (plain.fifth is n) = plain.fifth is n
  fails_at_any (plain.sixth is n) = plain.sixth is n
  fails_at_any (plain.seventh is n) = plain.seventh is n
  fails_at_any (plain.eighth is n) = plain.eighth is n
  fails_at_any (plain.ninth is n) = plain.ninth is n

  fails_any : {ms ns : List (List Formula)} (x : Failure) → plain.Fails (with_marks d ms) x → plain.Fails (with_marks d ns) x
  fails_any x (plain.start n) = plain.start (λ c. n (start_any c))
  fails_any x (plain.tenth i n) = plain.tenth i (λ c. n (tenth_any c))
  fails_any x (plain.at i f) = plain.at (invariant_any i) (fails_at_any f)

  pub lowest_any : (ms : List (List Formula)) (x : Failure) → plain.LowestFailure d x ↔ plain.LowestFailure (with_marks d ms) x
  lowest_any ms x = (go, go)
    where
      go : {ms ns : List (List Formula)} → plain.LowestFailure (with_marks d ms) x → plain.LowestFailure (with_marks d ns) x
      go l = record { fails = fails_any x l.fails; none_before = λ y b f. l.none_before y b (fails_any y f) }
