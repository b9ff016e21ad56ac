-- The turns of the loops over the sum values of a row and over the rows: no marked step so far.
use mathlib.Core.Path.{◌≡◌, refl, sym, ◌∙◌, ap}
use mathlib.Core.Bool.{Bool, true, false, not, ◌&&◌, and-false, true≢false}
use mathlib.Core.List.{List}
use Prim.Native.Nat.{ℕ, ◌+◌, ◌*◌, ◌-◌, ◌/◌, ◌%◌, ◌≤◌, ◌<◌}
use native.Mathlib.Omega.{arith}
use native.Mathlib.Decide.{dec_lt}
use borrow.Author.Tests.{lt-ltb, le-ltb, not-true, not-false}
use lib.Dec.{ltb}
use Rattle.terms.specs.Tree.{eval_f}
use Rattle.criteria.specs.Design as design
use Rattle.criteria.specs.Step.{next_state}
use Rattle.criteria.specs.Rows.{marked_test}
use Rattle.decision.specs.Tests.{enabled_b, internal_b, marked_b}
use Rattle.design.specs.Loaded.{design_at}
use Rattle.design.specs.declared.Shape.{Shape}
use Rattle.layout.specs.Sizes.{Fits}
use Rattle.steps.specs.Arrays.{padded, number_in}
use Rattle.steps.proofs.Arrays.{row_past}
use Rattle.marks.specs.Marks.{mark_holds}
use Rattle.plan.specs.Plan.{impl_plan}
use Rattle.row_looks.specs.Looks.{left, next_from, row_of, IsAt, FoundOn, NoneOn}
use Rattle.row_looks.specs.declared.Row.{Row}
use Rattle.row_looks.specs.declared.Look.{Look}
use Rattle.marked_edges.specs.Edges.{nowhere, edge_row, edge_in, leads_in, FoundMarked, NoneMarked, FirstFrom, NoneFrom}

-- ---- the sum values of a row

module _ (f : List ℕ) (row : Row) (v : List ℕ) (from : ℕ) where
  abbrev test : ℕ → Bool
  test e = eval_f (left f row).tree v e && mark_holds f row.mark v e

  pub record NoneTo (sum : ℕ) : Type 0 where
    pub after : from ≤ sum
    pub none_before : (e : ℕ) → from ≤ e → e < sum → test e ≡ false

  pub none_visible : not row.internal ≡ true → NoneMarked f row v from
  none_visible y = record { none = λ q. absurd (true≢false (sym q ∙ not-true row.internal y)) }

  pub none_starts : NoneTo from
  none_starts = record { after = omega arith; none_before = λ e a b. absurd (omega arith) }

  -- up to the next for which the row is enabled
  none_on : (sum : ℕ) (r : Look) → FoundOn f row v sum r → NoneTo sum → NoneTo r.sum
  none_on sum r o n =
      record {
        after = let a = o.after in let b = n.after in omega arith;
        none_before = λ e a b. go e a b (dec_lt e sum);
      }
    where
      go : (e : ℕ) → from ≤ e → e < r.sum → Dec (e < sum) → test e ≡ false
      go e a b (yes l) = n.none_before e a l
      go e a b (no l) = rw (o.none_before e (omega arith) b)

  pub one_found : (sum : ℕ) (r : Look) (b : Bool) → not row.internal ≡ false → FoundOn f row v sum r → r.sum < 256 → b ≡ mark_holds f row.mark v r.sum → b ≡ true → NoneTo sum
      → FoundMarked f row v from r
  one_found sum r b int o few eb y n =
      let k = none_on sum r o n in
      record {
        internal = not-false row.internal int;
        after = k.after;
        below = o.below;
        small = few;
        none_before = k.none_before;
        holds = o.holds;
        marked = sym eb ∙ y;
        at = o.at;
      }

  -- the next has no number
  pub none_far : (sum : ℕ) (r : Look) → FoundOn f row v sum r → 256 ≤ r.sum → NoneTo sum → NoneMarked f row v from
  none_far sum r o far n = let k = none_on sum r o n in record { none = λ _ e a u l. k.none_before e a (omega arith) }

  pub none_turns : (sum : ℕ) (r : Look) (b : Bool) → FoundOn f row v sum r → b ≡ mark_holds f row.mark v r.sum → b ≡ false → NoneTo sum
      → NoneTo (r.sum + 1)
  none_turns sum r b o eb y n =
      let k = none_on sum r o n in
      record {
        after = let a = k.after in omega arith;
        none_before = λ e a l. go k e a l (dec_lt e r.sum);
      }
    where
      go : NoneTo r.sum → (e : ℕ) → from ≤ e → e < r.sum + 1 → Dec (e < r.sum) → test e ≡ false
      go k e a l (yes u) = k.none_before e a u
      go k e a l (no u) = let q : e ≡ r.sum = omega arith in rw (q, ← eb, y) (and-false (eval_f (left f row).tree v r.sum))

  pub none_ends : (sum : ℕ) → NoneOn f row v sum → NoneTo sum → NoneMarked f row v from
  none_ends sum o n = record { none = λ _ e a u l. go e a u (dec_lt e sum) }
    where
      go : (e : ℕ) → from ≤ e → e < row.looks → Dec (e < sum) → test e ≡ false
      go e a u (yes l) = n.none_before e a l
      go e a u (no l) = rw (o.none e (omega arith) u)

-- ---- the rows

module _ (f s : List ℕ) (h : Shape) (v : List ℕ) where
  abbrev d : design.Design
  d = design_at f s h

  abbrev rows : ℕ
  rows = h.implementation.rows.count

  abbrev leads : ℕ → ℕ
  leads = leads_in f s h v

  -- no step, no state
  pub leads_nowhere : (j : ℕ) → edge_in f s h v j ≡ false → leads j ≡ nowhere
  unfolding leads_in
  leads_nowhere j e = rw e

  pub leads_there : (j : ℕ) → edge_in f s h v j ≡ true → leads j ≡ number_in f s h.implementation (padded (next_state (edge_row f s h j) v (j % 256)))
  unfolding leads_in
  leads_there j e = rw e

  -- a row that is not there
  pub past_rows : (j : ℕ) → rows ≤ j / 256 → edge_in f s h v j ≡ false
  unfolding edge_in eval_f
  past_rows j l =
      ap (λ (r : design.Row). ltb (j % 256) (impl_plan f s h (j / 256)).looks && marked_test d v (j / 256 + 1) r (j % 256)) (row_past f s h.implementation (j / 256 + 1) (omega arith))
      ∙ and-false (ltb (j % 256) (impl_plan f s h (j / 256)).looks)

  -- none from number `from` on up to row i and the sum value `sum`
  pub record Passed (from i sum : ℕ) : Type 0 where
    pub after : from ≤ 256 * i + sum
    pub none_before : (j : ℕ) → from ≤ j → j < 256 * i + sum → leads j ≡ nowhere
    pub small : sum < 256

  pub passed_starts : (from : ℕ) → Passed from (from / 256) (from % 256)
  passed_starts from = record { after = omega arith; none_before = λ j a b. absurd (omega arith); small = omega arith }

  pub passed_ends : (from i sum : ℕ) → rows ≤ i → Passed from i sum → NoneFrom leads from
  passed_ends from i sum past p = record { none = λ j a b. go j a (dec_lt j (256 * i + sum)) }
    where
      go : (j : ℕ) → from ≤ j → Dec (j < 256 * i + sum) → leads j ≡ nowhere
      go j a (yes l) = p.none_before j a l
      go j a (no l) = leads_nowhere j (past_rows j (omega arith))

  -- the whole of row i from `sum` on
  passes_row : (from i sum : ℕ) → ((e : ℕ) → sum ≤ e → e < 256 → leads (256 * i + e) ≡ nowhere) → Passed from i sum → Passed from (i + 1) 0
  passes_row from i sum none p =
      record {
        after = let a = p.after in let b = p.small in omega arith;
        none_before = λ j a b. go j a b (dec_lt j (256 * i + sum));
        small = omega arith;
      }
    where
      go : (j : ℕ) → from ≤ j → j < 256 * (i + 1) + 0 → Dec (j < 256 * i + sum) → leads j ≡ nowhere
      go j a b (yes l) = p.none_before j a l
      go j a b (no l) =
          let e : ℕ = j - 256 * i in
          let is : j ≡ 256 * i + (j - 256 * i) = omega arith in
          rw is (none (j - 256 * i) (omega arith) (omega arith))

  -- an edge by its row and sum value
  module _ (i e : ℕ) (small : e < 256) where
    pub row_of_lem : (256 * i + e) / 256 ≡ i
    row_of_lem = omega arith

    pub sum_of : (256 * i + e) % 256 ≡ e
    sum_of = omega arith

    pub edge_is : edge_in f s h v (256 * i + e) ≡ ltb e (impl_plan f s h i).looks && marked_test d v (i + 1) (row_of f s h i) e
    unfolding edge_in
    edge_is = rw (row_of_lem, sum_of)

    edge_off : (b : Bool) → internal_b (row_of f s h i) && (enabled_b (row_of f s h i) v e && marked_b d (i + 1) v e) ≡ false → leads (256 * i + e) ≡ nowhere
    edge_off b z = leads_nowhere (256 * i + e) (edge_is ∙ rw z (and-false (ltb e (impl_plan f s h i).looks)))

    edge_past : (impl_plan f s h i).looks ≤ e → leads (256 * i + e) ≡ nowhere
    edge_past l = leads_nowhere (256 * i + e) (edge_is ∙ rw (le-ltb e (impl_plan f s h i).looks l))

  module _ (from i sum : ℕ) (row : Row) (here : IsAt f s h i v row) (p : Passed from i sum) where
    visible_turns : row.internal ≡ false → Passed from (i + 1) 0
    visible_turns z = passes_row from i sum (λ e a b. edge_off i e b true (rw (← here.internal, z))) p

    module _ (z : row.internal ≡ true) where
      int : internal_b (row_of f s h i) ≡ true
      int = sym here.internal ∙ z

      -- a sum value that needs none, or for which there is no marked step
      not_there : (e : ℕ) → e < 256 → (e < row.looks → eval_f (left f row).tree v e && mark_holds f row.mark v e ≡ false) → leads (256 * i + e) ≡ nowhere
      not_there e b off = go (dec_lt e row.looks) (dec_lt e (impl_plan f s h i).looks)
        where
          go : Dec (e < row.looks) → Dec (e < (impl_plan f s h i).looks) → leads (256 * i + e) ≡ nowhere
          go (yes u) k = edge_off i e b true (rw int (rw (← here.on e u, ← here.marked e int) (off u)))
          go (no u) (yes k) = edge_off i e b true (rw (int, here.off e (omega arith) k))
          go (no u) (no k) = edge_past i e b (omega arith)

    pub row_none : NoneMarked f row v sum → Passed from (i + 1) 0
    row_none m = go row.internal refl
      where
        go : (c : Bool) → row.internal ≡ c → Passed from (i + 1) 0
        go true z = passes_row from i sum (λ e a b. not_there z e b (λ u. m.none z e a u b)) p
        go false z = visible_turns z

    module _ (r : Look) (m : FoundMarked f row v sum r) where
      -- a sum value before the one found
      not_yet : (e : ℕ) → sum ≤ e → e < 256 → e < r.sum → leads (256 * i + e) ≡ nowhere
      not_yet e a b l = not_there m.internal e b (λ _. m.none_before e a l)

      pub row_found : (x : List ℕ) (to : ℕ) → Fits h → i < rows → x ≡ next_from f h r.at v r.sum
          → to ≡ number_in f s h.implementation x → FirstFrom leads from (i * 256 + r.sum) to
      row_found x to fits under ex et =
          let few = fits.implementation.rows in
          let a = p.after in
          let b = m.after in
          let u = m.small in
          let l = m.below in
          record {
            from = omega arith;
            one = omega arith;
            none_before = λ j c g. before j c g (dec_lt j (256 * i + sum));
            there = et ∙ ap (number_in f s h.implementation) (ex ∙ ap (λ k. next_from f h k v r.sum) m.at ∙ here.next r.sum (omega arith)) ∙ sym arrives;
          }
        where
          before : (j : ℕ) → from ≤ j → j < i * 256 + r.sum → Dec (j < 256 * i + sum) → leads j ≡ nowhere
          before j c g (yes k) = p.none_before j c k
          before j c g (no k) =
              let is : j ≡ 256 * i + (j - 256 * i) = omega arith in
              let u = m.small in
              rw is (not_yet (j - 256 * i) (omega arith) (omega arith) (omega arith))

          is_edge : edge_in f s h v (256 * i + r.sum) ≡ true
          is_edge =
              let k = here.most in
              let l = m.below in
              edge_is i r.sum m.small
              ∙ rw (lt-ltb r.sum (impl_plan f s h i).looks (omega arith), int m.internal, ← here.on r.sum l, m.holds, ← here.marked r.sum (int m.internal), m.marked)

          arrives : leads (i * 256 + r.sum) ≡ number_in f s h.implementation (padded (next_state (row_of f s h i) v r.sum))
          arrives =
              let e : i * 256 + r.sum ≡ 256 * i + r.sum = omega arith in
              ap leads e ∙ leads_there (256 * i + r.sum) is_edge ∙ rw (row_of_lem i r.sum m.small, sum_of i r.sum m.small)
