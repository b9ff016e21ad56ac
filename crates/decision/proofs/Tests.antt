-- Each test says whether its criterion holds (at a row of the process, for a sum value in its span; 3 to 9 where criterion 10 does).
use mathlib.Core.Path.{◌≡◌, refl, sym, ◌∙◌, subst}
use mathlib.Core.Logic.{◌⊎◌, inl, inr, ◌≢◌}
use mathlib.Core.Bool.{Bool, true, false, not, ◌&&◌, true≢false}
use mathlib.Core.List.{List}
use Prim.Native.Nat.{ℕ, ◌+◌, ◌<◌, ◌≤◌, zero-le}
use native.Mathlib.Omega.{arith}
use borrow.Author.Tests.{eq-eqb}
use lib.Dec.{eqb}
use lib.ListN.{length}
use Rattle.foundation.specs.First.{Outcome, pass, fail, passes, all_in_range}
use Rattle.foundation.specs.Radix.{same_b}
use Rattle.foundation.specs.Reflects.{Reflects, so, not_so, ◌⇒◌}
use Rattle.foundation.proofs.Reflects.{says_yes, is_so, by_value, by_eqb, by_ltb, by_below, by_same, by_not, by_and, by_if, by_iff}
use Rattle.foundation.specs.Nth.{EachIs}
use Rattle.foundation.proofs.First.{by_all}
use Rattle.foundation.proofs.Nth.{by_each, nth_positive}
use Rattle.terms.specs.Tree.{Value, eval_f, has_v, has_f}
use Rattle.terms.specs.Meaning.{meant_v, meant_f, Has}
use Rattle.terms.proofs.Meaning.{holds_says, says_holds, has_says_v, says_has_v, has_says_f, says_has_f}
use Rattle.criteria.specs.Design.{Design, Process, Row, State, RowIs, OneRowEach, Admitted, InvariantState, Invariant, Have, Maps, sizes, initial_state, mapped, measure_at}
use Rattle.criteria.specs.Step.{Enabled, MarkHas, FocusPoint, ActionEnabled, InternalRow, next_state, data_number}
use Rattle.criteria.specs.Criteria.{Criterion1, Criterion2, Criterion3, Criterion4, Criterion5, Criterion6, Criterion7, Criterion8, Criterion9, Criterion10, RowHas, OthersHave, MeasureApart, Partner}
use Rattle.criteria.specs.Rows.{row_at, mark_of, first_marked}
use Rattle.criteria.proofs.Rows.{is_row_at, is_row_below, row_at_is, marked_holds, holds_marked, mark_has, has_marked, pass_focus, fail_marked, and-true, true_and}
use Rattle.decision.specs.Tests.{enabled_b, internal_b, marked_b, invariant_b, have_b, has_invariant_b, has_mapping_b, has_measure_b, inside_b, all_rows, focus_b, row_number, partner, holds1, holds2, holds3, holds4, holds5, holds6, holds7, holds8, holds9, has_at, has_mark_at, others_have_b, apart_b, holds10}
use Rattle.decision.proofs.Find.{Found, Missing, find, found_some, found_partner, found_only}

-- ---- the parts

-- values

by_has_v : (v : Value) (s : State) (e : ℕ) → Reflects (Has (meant_v v s e)) (has_v v s e)
by_has_v v s e = by_iff (says_has_v v s e) (has_says_v v s e) (by_value (has_v v s e))

by_have : (vs : List Value) (s : State) (e : ℕ) → Reflects (Have vs s e) (have_b vs s e)
by_have vs s e = by_each (λ v. Has (meant_v v s e)) (λ v. has_v v s e) (λ v. by_has_v v s e) vs

-- where the condition has a value
pub by_enabled : (r : Row) (s : State) (e : ℕ) → Has (meant_f r.condition s e) → e < r.span → Reflects (Enabled r s e) (enabled_b r s e)
by_enabled r s e has u =
    by_iff (λ h. record { in_span = u; condition = says_holds r.condition s e (has_says_f r.condition s e has) h })
    (λ on. (holds_says r.condition s e on.condition).1) (by_value (enabled_b r s e))

pub by_invariant : (d : Design) (s : State) → Has (meant_f d.invariant s 0) → Reflects (Invariant d s) (invariant_b d s)
by_invariant d s has = by_iff (says_holds d.invariant s 0 (has_says_f d.invariant s 0 has)) (λ h. (holds_says d.invariant s 0 h).1) (by_value (invariant_b d s))

pub by_holds : (d : Design) (s : State) → Reflects (Invariant d s) (invariant_b d s && has_invariant_b d s)
by_holds d s =
    by_iff (λ h. says_holds d.invariant s 0 h.1 h.0) (λ h. let p = holds_says d.invariant s 0 h in (p.1, p.0))
    (by_and (by_value (invariant_b d s)) (by_value (has_invariant_b d s)))

-- the mapped state is t, by a test of that
by_maps : (d : Design) (s t : State) (b : Bool) → Reflects (mapped d s ≡ t) b → Reflects (Maps d s t) (b && has_mapping_b d s)
by_maps d s t b same = by_iff (λ h. record { have = h.1; same = h.0 }) (λ h. (h.same, h.have)) (by_and same (by_have d.mapping s 0))

pub by_invariant_state : (d : Design) (s : State) → Reflects (InvariantState d s) (inside_b d s && has_invariant_b d s)
by_invariant_state d s =
    by_iff (λ h. record { in_size = h.0.0; invariant = says_holds d.invariant s 0 h.1 h.0.1 })
    (λ i. let p = holds_says d.invariant s 0 i.invariant in ((i.in_size, p.1), p.0))
    (by_and (by_and (by_below (sizes d.impl) s) (by_value (invariant_b d s))) (by_value (has_invariant_b d s)))

pub by_focus : (d : Design) (s : State) → OthersHave d s → Reflects (FocusPoint d s) (focus_b d s)
by_focus d s have = go (first_marked d s) refl
  where
    go : (o : Outcome (ℕ × ℕ)) → first_marked d s ≡ o → Reflects (FocusPoint d s) (passes o)
    go pass h = so (pass_focus d s h)
    go (fail x) h = not_so (λ f. let i = fail_marked d s have x h in f i.at i.row i.sum i.is_row i.zero i.enabled i.marked)

-- the row of a visible action is enabled; e is in the span of each row of that action
by_action : (p : Process) (action : ℕ) (s : State) (e : ℕ) → OneRowEach p → action ≢ 0
    → ((k : ℕ) (q : Row) → RowIs p.rows k q → q.action ≡ action → e < q.span) → EachIs p.rows (λ q. RowHas q s)
    → Reflects (ActionEnabled p action s e) (enabled_b (partner p action) s e)
unfolding eval_f
by_action p action s e one seen span have = go (find p.rows action 1)
  where
    go : Found p.rows action 1 ⊎ Missing p.rows action 1 → Reflects (ActionEnabled p action s e) (enabled_b (partner p action) s e)
    go (inl f) =
        subst (λ (q : Row). Reflects (ActionEnabled p action s e) (enabled_b q s e)) (sym (found_partner p action f))
        (by_iff
        (λ on. record { at = f.at; row = f.row; is_row = f.is_row; same = f.same; enabled = on })
        (λ a. subst (λ (q : Row). Enabled q s e) (sym (found_only p action one seen f a.at a.row a.is_row a.same)) a.enabled)
        (let u = span f.at f.row f.is_row f.same in by_enabled f.row s e ((have f.at f.row f.is_row).condition e u) u))
    go (inr m) =
        subst (λ (n : ℕ). Reflects (ActionEnabled p action s e) (enabled_b (row_at p.rows n) s e)) (sym m.number)
        (not_so (λ a. m.none a.at a.row a.is_row a.same))

-- something is so of the specification's row of a visible action, if it has one
by_partner : (d : Design) (r : Row) (D : Row → Type 0) (t : Row → Bool) → OneRowEach d.spec → r.action ≢ 0 → ((q : Row) → Reflects (D q) (t q))
    → Reflects ((q : Row) → Partner d r q → D q) (not (eqb (row_number d.spec r.action) 0) ⇒ t (partner d.spec r.action))
by_partner d r D t one seen says =
    by_iff (there (find d.spec.rows r.action 1)) (back (find d.spec.rows r.action 1))
    (by_if (t (partner d.spec r.action)) (by_not (by_eqb (row_number d.spec r.action) 0)) (λ _. says (partner d.spec r.action)))
  where
    there : Found d.spec.rows r.action 1 ⊎ Missing d.spec.rows r.action 1
        → (row_number d.spec r.action ≢ 0 → D (partner d.spec r.action)) → (q : Row) → Partner d r q → D q
    there (inl f) g q (j, (is, same)) =
        subst D (found_partner d.spec r.action f ∙ found_only d.spec r.action one seen f j q is same) (g (found_some d.spec r.action f))
    there (inr m) g q (j, (is, same)) = absurd (m.none j q is same)

    back : Found d.spec.rows r.action 1 ⊎ Missing d.spec.rows r.action 1
        → ((q : Row) → Partner d r q → D q) → row_number d.spec r.action ≢ 0 → D (partner d.spec r.action)
    back (inl f) g n = subst D (sym (found_partner d.spec r.action f)) (g f.row (f.at, (f.is_row, f.same)))
    back (inr m) g n = absurd (n m.number)

-- ---- the criteria

pub by_1 : (d : Design) → Reflects (Criterion1 d) (holds1 d)
by_1 d =
    by_iff (λ h. record { invariant = h.0; mapping = h.1 }) (λ h. (h.invariant, h.mapping))
    (let s : State = initial_state d.impl in by_and (by_holds d s) (by_maps d s (initial_state d.spec) _ (by_same (mapped d s) (initial_state d.spec))))

pub by_2 : (d : Design) (s : State) → Reflects (Criterion2 d s) (holds2 d s)
by_2 d s = by_below (sizes d.spec) (mapped d s)

module _ (d : Design) (a : Admitted d) (s : State) (have : OthersHave d s) (k : ℕ) (r : Row) (e : ℕ) (inspan : e < r.span) where
  on : RowIs d.impl.rows k r → Reflects (Enabled r s e) (enabled_b r s e)
  on is = by_enabled r s e ((have.impl k r is).condition e inspan) inspan

  internal : Reflects (InternalRow r) (internal_b r)
  internal = by_eqb r.action 0

  pub by_3 : RowIs d.impl.rows k r → Reflects (Criterion3 d s r e) (holds3 d s r e)
  by_3 is = by_if _ (on is) (λ _. by_invariant_state d (next_state r s e))

  pub by_4 : RowIs d.impl.rows k r → Reflects (Criterion4 d s r e) (holds4 d s r e)
  by_4 is =
      by_if _ (on is) (λ _. by_if _ internal (λ _.
      by_maps d (next_state r s e) (mapped d s) _ (by_iff sym sym (by_same (mapped d s) (mapped d (next_state r s e))))))

  pub by_5 : RowIs d.impl.rows k r → Reflects (Criterion5 d s k r e) (holds5 d s k r e)
  by_5 is =
      by_if _ (on is) (λ _. by_if _ internal (λ zero.
      by_if _ (by_iff (holds_marked d k s e is zero (mark_has d k s e (have.marks k r is zero e inspan))) (λ m. (marked_holds d k s e m).1) (by_value (marked_b d k s e))) (λ _.
      by_iff (λ h. (h.1, h.0)) (λ h. (h.1, h.0))
      (by_and (by_ltb (measure_at d (next_state r s e)) (measure_at d s)) (by_has_v d.measure (next_state r s e) 0)))))

  pub by_6 : RowIs d.impl.rows k r → Reflects (Criterion6 d s r e) (holds6 d s r e)
  by_6 is =
      by_if _ (on is) (λ _. by_if _ (by_not internal) (λ seen.
      by_action d.spec r.action (mapped d s) e a.spec_one_row seen
      (λ j q at same. subst (λ (n : ℕ). e < n) (a.same_span k r is j q at (sym same)) inspan) have.spec))

  -- r is the specification's row
  pub by_7 : RowIs d.spec.rows k r → Reflects (Criterion7 d s r e) (holds7 d s r e)
  by_7 is =
      by_if _ (by_focus d s have) (λ _. by_if _ (by_enabled r (mapped d s) e ((have.spec k r is).condition e inspan) inspan) (λ _.
      by_action d.impl r.action s e a.impl_one_row (a.spec_visible k r is)
      (λ j q at same. subst (λ (n : ℕ). e < n) (sym (a.same_span j q at k r is same)) inspan) have.impl))

  pub by_8 : RowIs d.impl.rows k r → Reflects (Criterion8 d s r e) (holds8 d s r e)
  by_8 is =
      by_if _ (on is) (λ _. by_if _ (by_not internal) (λ seen.
      by_partner d r (λ q. data_number r s e ≡ data_number q (mapped d s) e) (λ q. eqb (data_number r s e) (data_number q (mapped d s) e))
      a.spec_one_row seen (λ q. by_eqb (data_number r s e) (data_number q (mapped d s) e))))

  pub by_9 : RowIs d.impl.rows k r → Reflects (Criterion9 d s r e) (holds9 d s r e)
  by_9 is =
      let x : State = next_state r s e in
      by_if _ (on is) (λ _. by_if _ (by_not internal) (λ seen.
      by_partner d r (λ q. Maps d x (next_state q (mapped d s) e)) (λ q. same_b (mapped d x) (next_state q (mapped d s) e) && has_mapping_b d x)
      a.spec_one_row seen (λ q. by_maps d x (next_state q (mapped d s) e) _ (by_same (mapped d x) (next_state q (mapped d s) e)))))

-- ---- criterion 10

-- the test says yes at each row, by its number, for each sum value in its span
pub by_rows : (rows : List Row) (t : ℕ → Row → ℕ → Bool) → Reflects ((k : ℕ) (r : Row) → RowIs rows k r → (e : ℕ) → e < r.span → t k r e ≡ true) (all_rows rows t)
by_rows rows t = by_iff there back (by_all RowSays (λ k. all_in_range (λ e. t k (row_at rows k) e) (row_at rows k).span 0) row_says (length rows) 1)
  where
    RowSays : ℕ → Type 0
    RowSays k = (e : ℕ) → 0 ≤ e → e < 0 + (row_at rows k).span → t k (row_at rows k) e ≡ true

    row_says : (k : ℕ) → Reflects (RowSays k) (all_in_range (λ e. t k (row_at rows k) e) (row_at rows k).span 0)
    row_says k = by_all (λ e. t k (row_at rows k) e ≡ true) (λ e. t k (row_at rows k) e) (λ e. by_value (t k (row_at rows k) e)) (row_at rows k).span 0

    there : ((k : ℕ) → 1 ≤ k → k < 1 + length rows → RowSays k) → (k : ℕ) (r : Row) → RowIs rows k r → (e : ℕ) → e < r.span → t k r e ≡ true
    there h k r is e u =
        let p = is_row_at is in
        let from = nth_positive is in
        let to = is_row_below is in
        let below : e < 0 + (row_at rows k).span = rw p (omega arith) in
        rw (← p) (h k (omega arith) (omega arith) e zero-le below)

    back : ((k : ℕ) (r : Row) → RowIs rows k r → (e : ℕ) → e < r.span → t k r e ≡ true) → (k : ℕ) → 1 ≤ k → k < 1 + length rows → RowSays k
    back h k l u e z v = let below : e < (row_at rows k).span = omega arith in h k (row_at rows k) (row_at_is rows k e below) e below

-- where its condition has a value, a row for a sum value
module _ (r : Row) (s : State) (e : ℕ) where
  has_condition : has_at r s e ≡ true → Has (meant_f r.condition s e)
  has_condition h = says_has_f r.condition s e (and-true (has_f r.condition s e) _ h).0

  has_rest : has_at r s e ≡ true → Enabled r s e → Has (meant_v r.carries s e) × Have r.next s e
  has_rest h on =
      let p = (and-true (has_f r.condition s e) _ h).1 in
      let q : has_v r.carries s e && have_b r.next s e ≡ true = sym (rw (holds_says r.condition s e on.condition).1) ∙ p in
      let b = and-true (has_v r.carries s e) (have_b r.next s e) q in
      (says_has_v r.carries s e b.0, says_yes (by_have r.next s e) b.1)

  has_at_lem : e < r.span → RowHas r s → has_at r s e ≡ true
  has_at_lem u h =
      let has = h.condition e u in
      true_and _ _ (has_says_f r.condition s e has)
      (is_so (by_if _ (by_enabled r s e has u) (λ _. by_and (by_has_v r.carries s e) (by_have r.next s e))) (λ on. (h.carries e on, h.next e on)))

-- a row where the test says yes for each sum value
row_has : (r : Row) (s : State) → ((e : ℕ) → e < r.span → has_at r s e ≡ true) → RowHas r s
row_has r s h = record {
  condition = λ e u. has_condition r s e (h e u);
  carries = λ e on. (has_rest r s e (h e on.in_span) on).0;
  next = λ e on. (has_rest r s e (h e on.in_span) on).1;
}

module _ (d : Design) (s : State) where
  pub by_others : Reflects (OthersHave d s) (others_have_b d s)
  by_others =
      by_iff there back
      (by_and (by_have d.mapping s 0) (by_and (by_rows d.impl.rows (λ k r e. has_at r s e && has_mark_at d s k r e)) (by_rows d.spec.rows (λ _ q e. has_at q (mapped d s) e))))
    where
      Impl : Type 0
      Impl = (k : ℕ) (r : Row) → RowIs d.impl.rows k r → (e : ℕ) → e < r.span → has_at r s e && has_mark_at d s k r e ≡ true

      Spec : Type 0
      Spec = (k : ℕ) (q : Row) → RowIs d.spec.rows k q → (e : ℕ) → e < q.span → has_at q (mapped d s) e ≡ true

      mark : Impl → (k : ℕ) (r : Row) → RowIs d.impl.rows k r → InternalRow r → (e : ℕ) → e < r.span → MarkHas d k s e
      mark h k r is z e u =
          let m = (and-true (has_at r s e) (has_mark_at d s k r e) (h k r is e u)).1 in
          has_marked d k s e is z (sym (rw (eq-eqb r.action 0 z)) ∙ m)

      there : Have d.mapping s 0 × (Impl × Spec) → OthersHave d s
      there (m, (i, q)) = record {
        mapping = m;
        impl = λ k r is. row_has r s (λ e u. (and-true (has_at r s e) (has_mark_at d s k r e) (i k r is e u)).0);
        marks = mark i;
        spec = λ k r is. row_has r (mapped d s) (q k r is);
      }

      back : OthersHave d s → Have d.mapping s 0 × (Impl × Spec)
      back h = (
        h.mapping,
        (
          λ k r is e u.
              true_and _ _ (has_at_lem r s e u (h.impl k r is))
              (is_so (by_if _ (by_eqb r.action 0) (λ _. by_value (has_f (mark_of d k) s e))) (λ z. mark_has d k s e (h.marks k r is z e u))),
          λ k q is e u. has_at_lem q (mapped d s) e u (h.spec k q is),
        ),
      )

  pub by_apart : Reflects (MeasureApart d s) (apart_b d s)
  by_apart = go (has_invariant_b d s) refl
    where
      go : (b : Bool) → has_invariant_b d s ≡ b → Reflects (MeasureApart d s) (b && (invariant_b d s ⇒ others_have_b d s))
      go true h =
          let has = says_has_f d.invariant s 0 h in
          by_iff (λ o. record { invariant = has; others = o }) (λ c. c.others) (by_if _ (by_invariant d s has) (λ _. by_others))
      go false h = not_so (λ c. true≢false (sym (has_says_f d.invariant s 0 c.invariant) ∙ h))

  pub by_10 : Reflects (Criterion10 d s) (holds10 d s)
  by_10 = go by_apart
    where
      go : {b : Bool} → Reflects (MeasureApart d s) b → Reflects (Criterion10 d s) (b && (invariant_b d s ⇒ has_measure_b d s))
      go (so a) =
          by_iff (λ m. record { apart = a; measure = m }) (λ c. c.measure)
          (by_if _ (by_invariant d s a.invariant) (λ _. by_has_v d.measure s 0))
      go (not_so n) = not_so (λ c. n c.apart)
