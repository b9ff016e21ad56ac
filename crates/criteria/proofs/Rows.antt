-- Rows by their number and by the relation `RowIs` are the same, and so are marks; a state is a focus point, or there is a marked step.
use mathlib.Core.Path.{◌≡◌, refl, sym, ◌∙◌, ap}
use mathlib.Core.Logic.{◌⊎◌, inl, inr}
use mathlib.Core.Bool.{Bool, true, false, ◌&&◌, true≢false, cond}
use mathlib.Core.List.{List, [], ◌∷◌}
use Prim.Native.Nat.{ℕ, zero, suc, ◌-◌, ◌≤◌, ◌<◌}
use native.Mathlib.Omega.{arith}
use native.Mathlib.Nat.{not-suc-le-zero}
use native.Mathlib.Decide.{dec_lt}
use borrow.Author.Tests.{eqb-true, eqb-false, eq-eqb, ne_eqb}
use lib.ListN.{length, get_or, take, get_or-eq_default}
use lib.Dec.{eqb}
use Rattle.foundation.specs.First.{Outcome, pass, fail}
use Rattle.foundation.proofs.Trial.{place_pass, place_fail}
use Rattle.terms.specs.Tree.{Formula, no_formula, eval_f, has_f}
use Rattle.terms.proofs.Meaning.{holds_says, says_holds, has_says_f, says_has_f, says_value, has_says_v}
use Rattle.criteria.specs.Design.{Design, Row, State, RowIs}
use Rattle.foundation.specs.Nth.{Nth, first, later}
use Rattle.foundation.proofs.Nth.{nth_positive}
use Rattle.criteria.specs.Step.{Enabled, InternalRow, internal_rows, MarkIs, here, past_internal, past_visible, Marked, all_marked, by_formula, MarkHas, no_marks, has_mark, FocusPoint, MarkedStep, next_state, data_number}
use Rattle.criteria.specs.Criteria.{OthersHave}
use Rattle.criteria.specs.Rows.{row_at, mark_by, mark_of, first_row, marked_test, first_marked}

pub is_row_at : {rows : List Row} {k : ℕ} {r : Row} → RowIs rows k r → row_at rows k ≡ r
is_row_at first = refl
is_row_at (later first) = refl
is_row_at (later (later h)) = is_row_at (later h)

pub is_row_below : {rows : List Row} {k : ℕ} {r : Row} → RowIs rows k r → k < suc (length rows)
is_row_below first = omega arith
is_row_below (later h) = let ih = is_row_below h in omega arith

-- a number at which there is a sum value is a row's
pub row_at_is : (rows : List Row) (k e : ℕ) → e < (row_at rows k).span → RowIs rows k (row_at rows k)
row_at_is rows zero e u = absurd (not-suc-le-zero u)
row_at_is [] (suc k) e u = absurd (not-suc-le-zero u)
row_at_is (r ∷ rows) (suc zero) e u = first
row_at_is (r ∷ rows) (suc (suc k)) e u = later (row_at_is rows (suc k) e u)

-- a number has one row at most
pub one_row : {rows : List Row} {k : ℕ} {r q : Row} → RowIs rows k r → RowIs rows k q → r ≡ q
one_row h j = sym (is_row_at h) ∙ is_row_at j

-- ---- marks: an internal row has fewer internal rows before it than there are

pub internal_below : (rows : List Row) (k : ℕ) → 1 ≤ k → k ≤ length rows → (row_at rows k).action ≡ 0 → internal_rows (take (k - 1) rows) < internal_rows rows
unfolding internal_rows
internal_below rows zero p l z = absurd (omega arith)
internal_below rows (suc k) p l z = let e : suc k - 1 ≡ k = omega arith in rw e (go rows k l z)
  where
    one : (r : Row) (n m : ℕ) → n < m → cond (eqb r.action 0) (suc n) n < cond (eqb r.action 0) (suc m) m
    one r n m h = by (eqb r.action 0)
      where
        by : (b : Bool) → cond b (suc n) n < cond b (suc m) m
        by true = omega arith
        by false = h

    go : (rows : List Row) (k : ℕ) → suc k ≤ length rows → (row_at rows (suc k)).action ≡ 0 → internal_rows (take k rows) < internal_rows rows
    go [] k l z = absurd (omega arith)
    go (r ∷ rows) zero l z = rw (eq-eqb r.action 0 z) (omega arith)
    go (r ∷ rows) (suc k) l z = one r _ _ (go rows k (omega arith) z)

-- a mark's number is a row's
mark_positive : {rows : List Row} {fs : List Formula} {k : ℕ} {f : Formula} → MarkIs rows fs k f → 1 ≤ k
mark_positive (here z) = omega arith
mark_positive (past_internal z m) = omega arith
mark_positive (past_visible z m) = omega arith

-- the formula of row k has as many before it as there are internal rows before row k
mark_from : {rows : List Row} {fs : List Formula} {k : ℕ} {f : Formula} → MarkIs rows fs k f → (j : ℕ) → k ≡ suc j → get_or fs (internal_rows (take j rows)) no_formula ≡ f
unfolding internal_rows
mark_from (here z) zero e = refl
mark_from (here z) (suc j) e = absurd (omega arith)
mark_from (past_internal z m) zero e = absurd (let p = mark_positive m in omega arith)
mark_from (past_internal {r = r} z m) (suc j) e = rw (eq-eqb r.action 0 z) (mark_from m j (omega arith))
mark_from (past_visible z m) zero e = absurd (let p = mark_positive m in omega arith)
mark_from (past_visible {r = r} z m) (suc j) e = rw (ne_eqb r.action 0 z) (mark_from m j (omega arith))

-- and there is one for each internal row, if there are enough
mark_there_lem : {rows : List Row} {k : ℕ} {r : Row} → RowIs rows k r → InternalRow r → (fs : List Formula) (j : ℕ) → k ≡ suc j → internal_rows (take j rows) < length fs
    → MarkIs rows fs k (get_or fs (internal_rows (take j rows)) no_formula)
unfolding internal_rows
mark_there_lem first z [] zero e l = absurd (omega arith)
mark_there_lem first z (f ∷ fs) zero e l = here z
mark_there_lem first z fs (suc j) e l = absurd (omega arith)
mark_there_lem (later is) z fs zero e l = absurd (nth_positive is (omega arith))
mark_there_lem {k = suc k} (later {y = y} {xs = rows} is) z fs (suc j) e l = go (eqb y.action 0) refl fs l (λ gs m. mark_there_lem is z gs j (omega arith) m)
  where
    n : ℕ
    n = internal_rows (take j rows)

    go : (b : Bool) → eqb y.action 0 ≡ b → (fs : List Formula) → cond b (suc n) n < length fs → ((gs : List Formula) → n < length gs → MarkIs rows gs k (get_or gs n no_formula))
        → MarkIs (y ∷ rows) fs (suc k) (get_or fs (cond b (suc n) n) no_formula)
    go true h [] l rest = absurd (omega arith)
    go true h (f ∷ fs) l rest = past_internal (eqb-true y.action 0 h) (rest fs (omega arith))
    go false h fs l rest = past_visible (eqb-false y.action 0 h) (rest fs l)

module _ (d : Design) (k : ℕ) (s : State) (e : ℕ) where
  j : ℕ
  j = internal_rows (take (k - 1) d.impl.rows)

  -- row k's formula is the one by its number
  mark_is : {fs : List Formula} {f : Formula} → Nth d.marks 1 fs → MarkIs d.impl.rows fs k f → mark_of d k ≡ f
  unfolding j
  mark_is {fs} {f} line is = go d.marks line
    where
      go : (marks : List (List Formula)) → Nth marks 1 fs → mark_by marks (internal_rows (take (k - 1) d.impl.rows)) ≡ f
      go marks first = mark_from is (k - 1) (let p = mark_positive is in omega arith)
      go marks (later n) = absurd (nth_positive n (omega arith))

  -- a marked step's formula, as it is computed, has a value and holds
  pub marked_holds : Marked d k s e → (has_f (mark_of d k) s e ≡ true) × (eval_f (mark_of d k) s e ≡ true)
  unfolding eval_f has_f
  marked_holds (all_marked none) = (rw none, rw none)
  marked_holds (by_formula line is h) = rw (mark_is line is) (holds_says _ s e h)

  -- and one that has a value, has it as it is computed
  pub mark_has : MarkHas d k s e → has_f (mark_of d k) s e ≡ true
  unfolding has_f
  mark_has (no_marks none) = rw none
  mark_has (has_mark line is h) = rw (mark_is line is) (has_says_f _ s e h)

  -- the other way round, of an internal row
  module _ {r : Row} (is : RowIs d.impl.rows k r) (z : InternalRow r) where
    -- there are no marks, or row k has a formula, or what stands for it has no value
    data Marking : Type 0 where
      none_there : d.marks ≡ [] → Marking
      there : {fs : List Formula} → Nth d.marks 1 fs → MarkIs d.impl.rows fs k (mark_of d k) → Marking
      lost : has_f (mark_of d k) s e ≡ false → Marking

    marking : Marking
    unfolding j has_f
    marking = go d.marks refl
      where
        by : (fs : List Formula) → Nth d.marks 1 fs → mark_of d k ≡ get_or fs j no_formula → Dec (j < length fs) → Marking
        by fs line same (yes l) = there line (rw same (mark_there_lem is z fs (k - 1) (let p = nth_positive is in omega arith) l))
        by fs line same (no l) = lost (ap (λ (f : Formula). has_f f s e) (same ∙ get_or-eq_default fs no_formula {n = j} (omega arith)))

        go : (marks : List (List Formula)) → d.marks ≡ marks → Marking
        go [] is_none = none_there is_none
        go (fs ∷ more) are = by fs (rw are first) (rw are) (dec_lt j (length fs))

    pub holds_marked : has_f (mark_of d k) s e ≡ true → eval_f (mark_of d k) s e ≡ true → Marked d k s e
    holds_marked has h = go marking
      where
        go : Marking → Marked d k s e
        go (none_there n) = all_marked n
        go (there line m) = by_formula line m (says_holds (mark_of d k) s e has h)
        go (lost n) = absurd (true≢false (sym has ∙ n))

    pub has_marked : has_f (mark_of d k) s e ≡ true → MarkHas d k s e
    has_marked has = go marking
      where
        go : Marking → MarkHas d k s e
        go (none_there n) = no_marks n
        go (there line m) = has_mark line m (says_has_f (mark_of d k) s e has)
        go (lost n) = absurd (true≢false (sym has ∙ n))

-- ---- the search through rows and sum values

module _ (rows : List Row) (test : ℕ → Row → ℕ → Bool) where
  -- it finds none: the test says no at each row and sum value
  pub no_row : {A : Type 0} (place : ℕ → ℕ → A) → first_row rows test place ≡ pass
      → (k : ℕ) (r : Row) (e : ℕ) → RowIs rows k r → e < r.span → test k r e ≡ false
  no_row place h k r e is u =
      let p = is_row_at is in
      rw (← p) (place_pass (suc (length rows)) (λ k. (row_at rows k).span) (λ k e. test k (row_at rows k) e) place h k e (is_row_below is) (rw p u))

  -- it finds one: a row and a sum value where the test says yes
  pub record RowFound : Type 0 where
    pub at : ℕ
    pub row : Row
    pub sum : ℕ
    pub is_row : RowIs rows at row
    pub in_span : sum < row.span
    pub says : test at row sum ≡ true

  pub row_found : {A : Type 0} (place : ℕ → ℕ → A) (x : A) → first_row rows test place ≡ fail x → RowFound
  row_found place x h =
      let p = place_fail (suc (length rows)) (λ k. (row_at rows k).span) (λ k e. test k (row_at rows k) e) place x h in
      record { at = p.row; row = row_at rows p.row; sum = p.sum; is_row = row_at_is rows p.row p.sum p.sum_below; in_span = p.sum_below; says = p.fails }

-- ---- both of two tests

pub and-true : (a b : Bool) → a && b ≡ true → (a ≡ true) × (b ≡ true)
and-true true b h = (refl, h)
and-true false b h = absurd (true≢false (sym h))

pub true_and : (a b : Bool) → a ≡ true → b ≡ true → a && b ≡ true
true_and a b p q = rw (p, q)

-- ---- focus points

pub pass_focus : (d : Design) (s : State) → first_marked d s ≡ pass → FocusPoint d s
pass_focus d s h k r e is z on mark =
    true≢false
    (sym (true_and _ _ (eq-eqb r.action 0 z) (true_and _ _ (holds_says r.condition s e on.condition).1 (marked_holds d k s e mark).1)) ∙ no_row d.impl.rows (marked_test d s) (λ k e. (k, e)) h k r e is on.in_span)

-- an internal row is enabled at s, and its step is marked
pub record SomeMarked (d : Design) (s : State) : Type 0 where
  pub at : ℕ
  pub row : Row
  pub sum : ℕ
  pub is_row : RowIs d.impl.rows at row
  pub zero : row.action ≡ 0
  pub enabled : Enabled row s sum
  pub marked : Marked d at s sum

pub fail_marked : (d : Design) (s : State) → OthersHave d s → (x : ℕ × ℕ) → first_marked d s ≡ fail x → SomeMarked d s
fail_marked d s have x h =
    let f = row_found d.impl.rows (marked_test d s) (λ k e. (k, e)) x h in
    let b = and-true (eqb f.row.action 0) (eval_f f.row.condition s f.sum && eval_f (mark_of d f.at) s f.sum) f.says in
    let c = and-true (eval_f f.row.condition s f.sum) (eval_f (mark_of d f.at) s f.sum) b.1 in
    let z = eqb-true f.row.action 0 b.0 in
    let on = has_says_f f.row.condition s f.sum ((have.impl f.at f.row f.is_row).condition f.sum f.in_span) in
    let mark = mark_has d f.at s f.sum (have.marks f.at f.row f.is_row z f.sum f.in_span) in
    record {
      at = f.at;
      row = f.row;
      sum = f.sum;
      is_row = f.is_row;
      zero = z;
      enabled = record { in_span = f.in_span; condition = says_holds f.row.condition s f.sum on c.0 };
      marked = holds_marked d f.at s f.sum f.is_row z mark c.1;
    }

-- evaluation decides it, where all have values
pub focus_or_marked : (d : Design) (s : State) → OthersHave d s → FocusPoint d s ⊎ SomeMarked d s
focus_or_marked d s have = go (first_marked d s) refl
  where
    go : (o : Outcome (ℕ × ℕ)) → first_marked d s ≡ o → FocusPoint d s ⊎ SomeMarked d s
    go pass h = inl (pass_focus d s h)
    go (fail x) h = inr (fail_marked d s have x h)

-- it gives its step
pub step_of : (d : Design) (s : State) → OthersHave d s → (i : SomeMarked d s) → MarkedStep d s (next_state i.row s i.sum)
step_of d s have i =
    let h = have.impl i.at i.row i.is_row in
    let data-has = has_says_v i.row.carries s i.sum (h.carries i.sum i.enabled) in
    record {
      internal = record {
        label = record { action = i.row.action; number = data_number i.row s i.sum };
        step = record {
          at = i.at;
          row = i.row;
          sum = i.sum;
          is_row = i.is_row;
          enabled = i.enabled;
          action = refl;
          number = says_value i.row.carries s i.sum data-has;
          goes = record { have = h.next i.sum i.enabled; same = refl };
        };
        zero = i.zero;
      };
      marked = i.marked;
    }
