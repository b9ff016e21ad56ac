-- The test for fault 7 (specs/ActionsFit) says whether it is absent:
--   admits      where the test says yes, the rows keep what `Admitted` says of them (criteria/specs/Design);
--   no_fault7   and where they keep that, fault 7 is not in the design;
--   has_fault7  where the test says no, there are rows at fault: the fault itself is in the design;
--   by_actions, rows_admitted   so the test says exactly whether it is absent, and without it the rows keep it;
--   in_arrays   the test on a desk's arrays is that of the design that they hold.
use mathlib.Core.Path.{◌≡◌, refl, sym, ap, ◌∙◌}
use mathlib.Core.Logic.{◌≢◌, ◌⊎◌, inl, inr, ⊎_elim}
use mathlib.Core.Bool.{Bool, true, false, not, ◌&&◌, true≢false, false≢true}
use mathlib.Core.List.{List, [], ◌∷◌}
use Prim.Native.Nat.{ℕ, suc}
use native.Mathlib.Nat.{suc_inj}
use borrow.Author.Tests.{eqb-true, eqb-false}
use lib.Dec.{eqb}
use Rattle.foundation.specs.Nth.{first, later, EachIs, each_b}
use Rattle.foundation.specs.Reflects.{Reflects, so, not_so, ◌⇒◌}
use Rattle.foundation.proofs.Nth.{nth_nil, nth_positive, by_each}
use Rattle.foundation.proofs.Reflects.{says_yes, says_no, is_so, by_value, by_eqb, by_not, by_and, by_if, by_iff}
use Rattle.terms.specs.Tree.{Value, num, par, sum_value, arith, choice, no_value}
use Rattle.terms.proofs.And.{and_left, and_right}
use Rattle.criteria.specs.Design.{Design, Row, RowIs, OneEach, OneRowEach}
use Rattle.decision.specs.Admitted.{one_each_b, is_zero}
use Rattle.design.specs.Faults.{Fault7, twice_impl, twice_spec, internal_spec, internal_data, spans_differ}
use Rattle.design.specs.declared.Counts.{Counts}
use Rattle.design.specs.Loaded.{design_in}
use Rattle.layout.specs.Sizes.{counts_fit}
use Rattle.action_check.specs.ActionsFit.{visible_b, bare_b, same_span_b, actions_fit, actions_fit_in}
use Rattle.action_check.proofs.Lines.{was_yes}

-- the term `0 0`
zero_is : (v : Value) → is_zero v ≡ true → v ≡ num 0
zero_is (num n) e = ap num (eqb-true n 0 e)
zero_is (par i) e = absurd (false≢true e)
zero_is sum_value e = absurd (false≢true e)
zero_is (arith o v w) e = absurd (false≢true e)
zero_is (choice f v w) e = absurd (false≢true e)
zero_is no_value e = absurd (false≢true e)

pub by_zero : (v : Value) → Reflects (v ≡ num 0) (is_zero v)
by_zero v = by_iff (zero_is v) (λ e. ap is_zero e) (by_value (is_zero v))

-- ---- where the test says yes

-- the first row, if visible, has another action than the others
abbrev Differs : Row → List Row → Type 0
Differs r rows = r.action ≢ 0 → EachIs rows (λ q. r.action ≢ q.action)

by_differs : (r : Row) (rows : List Row)
    → Reflects (Differs r rows) (not (eqb r.action 0) ⇒ each_b (λ q. not (eqb r.action q.action)) rows)
by_differs r rows = by_if _ (by_not (by_eqb r.action 0)) (λ _. by_each _ _ (λ q. by_not (by_eqb r.action q.action)) rows)

one_cons : (x : Row) (rows : List Row) → Differs x rows → OneEach rows → OneEach (x ∷ rows)
one_cons x rows n one k j r q first first seen same = refl
one_cons x rows n one k j r q first (later {k = i} at) seen same = absurd (n seen i q at same)
one_cons x rows n one k j r q (later {k = i} at) first seen same = absurd (n (λ z. seen (same ∙ z)) i r at (sym same))
one_cons x rows n one k j r q (later {k = i} at) (later {k = m} to) seen same = ap suc (one i m r q at to seen same)

one_each : (rows : List Row) → one_each_b rows ≡ true → OneEach rows
one_each [] e = λ k j r q at to seen same. absurd (nth_nil at)
one_each (x ∷ rows) e =
    let h = says_yes (by_and (by_differs x rows) (by_value (one_each_b rows))) e in one_cons x rows h.0 (one_each rows h.1)

pub record RowsAdmitted (d : Design) : Type 0 where
  pub impl_one_row : OneRowEach d.impl
  pub spec_one_row : OneRowEach d.spec
  pub spec_visible : EachIs d.spec.rows (λ q. q.action ≢ 0)
  pub internal_data : EachIs d.impl.rows (λ r. r.action ≡ 0 → r.carries ≡ num 0)
  pub same_span : EachIs d.impl.rows (λ r. EachIs d.spec.rows (λ q. r.action ≡ q.action → r.span ≡ q.span))

pub admits : (d : Design) → actions_fit d ≡ true → RowsAdmitted d
unfolding actions_fit
admits d e =
    let e2 = and_right (one_each_b d.impl.rows) _ e in
    let e3 = and_right (one_each_b d.spec.rows) _ e2 in
    let e4 = and_right (visible_b d.spec.rows) _ e3 in
    record {
      impl_one_row = one_each d.impl.rows (and_left _ _ e);
      spec_one_row = one_each d.spec.rows (and_left _ _ e2);
      spec_visible = says_yes (by_each _ _ (λ q. by_not (by_eqb q.action 0)) d.spec.rows) (and_left _ _ e3);
      internal_data = says_yes (by_each _ _ (λ r. by_if _ (by_eqb r.action 0) (λ _. by_zero r.carries)) d.impl.rows) (and_left _ _ e4);
      same_span = says_yes
          (by_each _ _ (λ r. by_each _ _ (λ q. by_if _ (by_eqb r.action q.action) (λ _. by_eqb r.span q.span)) d.spec.rows) d.impl.rows)
          (and_right (bare_b d.impl.rows) _ e4);
    }

pub no_fault7 : (d : Design) → RowsAdmitted d → Fault7 d → ⊥
no_fault7 d a (twice_impl t seen same) = t.apart (a.impl_one_row t.number_r t.number_q _ _ t.is_r t.is_q seen same)
no_fault7 d a (twice_spec t seen same) = t.apart (a.spec_one_row t.number_r t.number_q _ _ t.is_r t.is_q seen same)
no_fault7 d a (internal_spec at z) = a.spec_visible _ _ at z
no_fault7 d a (internal_data at z n) = n (a.internal_data _ _ at z)
no_fault7 d a (spans_differ at to same n) = n (a.same_span _ _ at _ _ to same)

-- ---- where it says no

and_fails : (a b : Bool) → a && b ≡ false → (a ≡ false) ⊎ (b ≡ false)
and_fails true b e = inr e
and_fails false b e = inl refl

if_fails : (a b : Bool) → (a ⇒ b) ≡ false → (a ≡ true) × (b ≡ false)
if_fails true b e = (refl, e)
if_fails false b e = absurd (true≢false e)

-- a row for which a test says no
record Fails (t : Row → Bool) (rows : List Row) : Type 0 where
  number : ℕ
  row : Row
  is : RowIs rows number row
  fails : t row ≡ false

each_fails : (t : Row → Bool) (rows : List Row) → each_b t rows ≡ false → Fails t rows
each_fails t [] e = absurd (true≢false e)
each_fails t (x ∷ rows) e =
    ⊎_elim
    (λ h. record { number = 1; row = x; is = first; fails = h })
    (λ h. let f = each_fails t rows h in record { number = suc f.number; row = f.row; is = later f.is; fails = f.fails })
    (and_fails (t x) _ e)

-- two rows of one visible action
record Twice (rows : List Row) : Type 0 where
  number_r : ℕ
  number_q : ℕ
  r : Row
  q : Row
  is_r : RowIs rows number_r r
  is_q : RowIs rows number_q q
  apart : number_r ≢ number_q
  seen : r.action ≢ 0
  same : r.action ≡ q.action

twice_first : (x : Row) (rows : List Row) → (not (eqb x.action 0) ⇒ each_b (λ q. not (eqb x.action q.action)) rows) ≡ false
    → Twice (x ∷ rows)
twice_first x rows e =
    let h = if_fails (not (eqb x.action 0)) _ e in
    let f = each_fails (λ q. not (eqb x.action q.action)) rows h.1 in
    record {
      number_r = 1;
      number_q = suc f.number;
      r = x;
      q = f.row;
      is_r = first;
      is_q = later f.is;
      apart = λ n. nth_positive f.is (suc_inj (sym n));
      seen = says_yes (by_not (by_eqb x.action 0)) h.0;
      same = eqb-true x.action f.row.action (was_yes _ f.fails);
    }

twice_later : (x : Row) (rows : List Row) → Twice rows → Twice (x ∷ rows)
twice_later x rows t = record {
  number_r = suc t.number_r;
  number_q = suc t.number_q;
  r = t.r;
  q = t.q;
  is_r = later t.is_r;
  is_q = later t.is_q;
  apart = λ n. t.apart (suc_inj n);
  seen = t.seen;
  same = t.same;
}

one_fails : (rows : List Row) → one_each_b rows ≡ false → Twice rows
one_fails [] e = absurd (true≢false e)
one_fails (x ∷ rows) e = ⊎_elim (twice_first x rows) (λ h. twice_later x rows (one_fails rows h)) (and_fails _ _ e)

module _ (d : Design) where
  two_impl : one_each_b d.impl.rows ≡ false → Fault7 d
  two_impl e =
      let t = one_fails d.impl.rows e in
      twice_impl record { number_r = t.number_r; number_q = t.number_q; is_r = t.is_r; is_q = t.is_q; apart = t.apart } t.seen t.same

  two_spec : one_each_b d.spec.rows ≡ false → Fault7 d
  two_spec e =
      let t = one_fails d.spec.rows e in
      twice_spec record { number_r = t.number_r; number_q = t.number_q; is_r = t.is_r; is_q = t.is_q; apart = t.apart } t.seen t.same

  zero_spec : visible_b d.spec.rows ≡ false → Fault7 d
  zero_spec e = let f = each_fails _ d.spec.rows e in internal_spec f.is (eqb-true _ 0 (was_yes _ f.fails))

  other_data : bare_b d.impl.rows ≡ false → Fault7 d
  other_data e =
      let f = each_fails _ d.impl.rows e in
      let h = if_fails (eqb f.row.action 0) _ f.fails in
      internal_data f.is (eqb-true _ 0 h.0) (says_no (by_zero f.row.carries) h.1)

  other_span : same_span_b d.impl.rows d.spec.rows ≡ false → Fault7 d
  other_span e =
      let f = each_fails _ d.impl.rows e in
      let g = each_fails _ d.spec.rows f.fails in
      let h = if_fails (eqb f.row.action g.row.action) _ g.fails in
      spans_differ f.is g.is (eqb-true _ _ h.0) (eqb-false _ _ h.1)

  pub has_fault7 : actions_fit d ≡ false → Fault7 d
  unfolding actions_fit
  has_fault7 e =
      ⊎_elim two_impl
      (λ e2. ⊎_elim two_spec (λ e3. ⊎_elim zero_spec (λ e4. ⊎_elim other_data other_span (and_fails _ _ e4)) (and_fails _ _ e3)) (and_fails _ _ e2))
      (and_fails _ _ e)

  -- ---- both

  pub by_actions : Reflects (Fault7 d → ⊥) (actions_fit d)
  by_actions = go (actions_fit d) refl
    where
      go : (b : Bool) → actions_fit d ≡ b → Reflects (Fault7 d → ⊥) b
      go true e = so (no_fault7 d (admits d e))
      go false e = not_so (λ n. n (has_fault7 e))

  pub rows_admitted : (Fault7 d → ⊥) → RowsAdmitted d
  rows_admitted n = admits d (is_so by_actions n)

-- ---- on a desk's arrays

pub in_arrays : (fields starts : List ℕ) (c : Counts) → counts_fit c ≡ true → actions_fit_in fields starts c ≡ actions_fit (design_in fields starts c)
in_arrays fields starts c h = rw h
