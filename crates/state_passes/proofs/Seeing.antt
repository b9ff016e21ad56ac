-- What the functions of the quick test return, as specs/Passes says it, and the turns of their loops.
use mathlib.Core.Path.{◌≡◌, refl, sym, ◌∙◌, ap}
use mathlib.Core.Bool.{Bool, true, false, not, ◌&&◌, ◌||◌, or-true, and-true, and_assoc, cond}
use mathlib.Core.List.{List}
use Rattle.std.specs.Prelude.{Option, Some, None, is_some}
use Prim.Native.Nat.{ℕ, zero, suc, ◌+◌, ◌-◌, ◌≤◌, ◌<◌}
use native.Mathlib.Numerals.{add-one}
use native.Mathlib.Omega.{arith}
use borrow.Author.Tests.{not-true, not-false, ne_eqb}
use lib.Dec.{eqb, eqb-suc-zero}
use lib.ListN.{drop}
use Rattle.foundation.specs.First.{all_in_range}
use Rattle.foundation.specs.Reflects.{◌⇒◌}
use Rattle.foundation.proofs.First.{all_alike, all_both}
use Rattle.foundation.proofs.All.{all_begin, all_turn, all_fail, all_end, all_yes}
use Rattle.terms.specs.Tree.{eval_f}
use Rattle.terms.specs.Read.{read_f}
use Rattle.terms.proofs.Read.{place}
use Rattle.terms.proofs.And.{and_left, and_right}
use Rattle.eval.specs.Answer.{answer_f}
use Rattle.eval.specs.declared.Held.{Held}
use Rattle.decision.specs.Tests.{enabled_b}
use Rattle.design.specs.declared.Process.{Process}
use Rattle.design.specs.declared.Shape.{Shape}
use Rattle.layout.specs.Sizes.{Fits}
use Rattle.steps.specs.Arrays.{line_of, below_in, measure_in, row_by, partner_by}
use Rattle.conjuncts.specs.Conjuncts.{guard_in}
use Rattle.conjuncts.specs.declared.Guarded.{Guarded}
use Rattle.marks.specs.Marks.{place_from, mark_holds}
use Rattle.row_plan.specs.RowPlan.{row_plan_at, risk_at}
use Rattle.row_plan.specs.declared.RowPlan.{RowPlan}
use Rattle.step_passes.specs.Steps.{internal_step, visible_step}
use Rattle.state_passes.specs.Passes.{row_for, left, on_at, known_in, mark_at, known_mark, step_inside, seen, quiet, visible_look, visible_looks, internal_look, internal_looks, looks_in, row_in, impl_in, impl_between, replied_in, reply_looks, reply_in, spec_in, spec_between, passes_in}
use Rattle.state_passes.specs.declared.Row.{Row}
use Rattle.state_passes.specs.declared.First.{First}

-- ---- what is known of a condition

module _ (f : List ℕ) (row : Row) (v : List ℕ) (first : Held) (e : ℕ) where
  pub kept_known : row.free || eqb e 0 ≡ true → first ≡ known_in f row v first e
  unfolding known_in
  kept_known y = rw y

  pub not_kept : (r : Held) → row.free || eqb e 0 ≡ false → r ≡ answer_f row.at v e (read_f row.depth (drop row.at f)) → r ≡ known_in f row v first e
  unfolding known_in
  not_kept r y er = er ∙ rw y

  -- it is the condition, evaluated for 0 where nothing reads the sum value
  on_is : first ≡ answer_f row.at v 0 (left f row) → known_in f row v first e ≡ answer_f row.at v (cond row.free 0 e) (left f row)
  unfolding known_in
  on_is ef = go row.free e
    where
      go : (b : Bool) (x : ℕ) → cond (b || eqb x 0) first (answer_f row.at v x (left f row)) ≡ answer_f row.at v (cond b 0 x) (left f row)
      go true x = ef
      go false zero = ef
      go false (suc x) = rw (eqb-suc-zero x)

-- ---- and of a mark

module _ (f : List ℕ) (row : Row) (v : List ℕ) (first : Bool) (e : ℕ) where
  pub mark_kept : row.steady || eqb e 0 ≡ true → first ≡ known_mark f row v first e
  unfolding known_mark
  mark_kept y = rw y

  pub mark_not_kept : (r : Bool) → row.steady || eqb e 0 ≡ false → r ≡ mark_holds f row.mark v e → r ≡ known_mark f row v first e
  unfolding known_mark
  mark_not_kept r y er = er ∙ rw y

  -- it is the mark, evaluated for 0 where nothing reads the sum value
  mark_is : first ≡ mark_holds f row.mark v 0 → known_mark f row v first e ≡ mark_at f row v e
  unfolding known_mark
  mark_is ef = go row.steady e
    where
      go : (b : Bool) (x : ℕ) → cond (b || eqb x 0) first (mark_holds f row.mark v x) ≡ mark_holds f row.mark v (cond b 0 x)
      go true x = ef
      go false zero = ef
      go false (suc x) = rw (eqb-suc-zero x)

-- ---- all that are tried one after the other

-- one more that holds, whose second says q
all_step : (g : ℕ → Bool) (n i : ℕ) → i < n → all_in_range g (n - i) i ≡ g i && all_in_range g (n - (i + 1)) (i + 1)
unfolding all_in_range
all_step g n i l = let e : n - i ≡ suc (n - (i + 1)) = omega arith in rw (e, add-one i)

-- n sights g, of which each says whether it holds, and if all do, whether all are quiet
module _ (g : ℕ → Option Bool) (n : ℕ) (all : Option Bool) where
  abbrev h : ℕ → Bool
  h i = is_some (g i)

  abbrev q : ℕ → Bool
  q i = quiet (g i)

  abbrev seen_left : Bool → ℕ → Option Bool
  seen_left a i = seen (all_in_range h (n - i) i) (a && all_in_range q (n - i) i)

  seen_begin : seen_left true 0 ≡ seen (all_in_range h n 0) (all_in_range q n 0)
  seen_begin = let e : n - 0 ≡ n = omega arith in rw e

  module _ (a : Bool) (i : ℕ) (r : Option Bool) (l : i < n) (is : r ≡ g i) (inv : seen_left a i ≡ all) where
    seen_turn : (b : Bool) → r ≡ Some b → seen_left (a && b) (i + 1) ≡ all
    seen_turn b e =
        let here : g i ≡ Some b = sym is ∙ e in
        let holds : h i ≡ true = ap is_some here in
        let q-here : q i ≡ b = ap quiet here in
        ap (λ x. seen_left (a && x) (i + 1)) (sym q-here)
        ∙ sym (rw (all_turn h n i l holds, all_step q n i l) (ap (λ b. seen (all_in_range h (n - (i + 1)) (i + 1)) b) (sym (and_assoc a (q i) (all_in_range q (n - (i + 1)) (i + 1)))))) ∙ inv

    seen_fail : r ≡ None → None ≡ all
    seen_fail e = rw (all_fail h n i l (ap is_some (sym is ∙ e))) at inv

  seen_end : (a : Bool) (i : ℕ) → n ≤ i → seen_left a i ≡ all → Some a ≡ all
  seen_end a i l inv = rw (all_end h n i l, all_end q n i l, and-true a) at inv

-- of sights that all hold, whether they are quiet counts
pub seen_holds : (a b : Bool) → is_some (seen a b) ≡ a
seen_holds true b = refl
seen_holds false b = refl

pub seen_quiet : (a b : Bool) → quiet (seen a b) ≡ a && b
seen_quiet true b = refl
seen_quiet false b = refl

seen_both : (a b : Bool) → seen a (a && b) ≡ seen a b
seen_both true b = refl
seen_both false b = refl

-- ---- the looks at a visible row

module _ (f s v t : List ℕ) (h : Shape) (row : Row) (first : Held) where
  module _ (o : Held) (e : ℕ) (eo : o ≡ known_in f row v first e) where
    pub visible_off : not o.holds ≡ true → true ≡ visible_look f s h row first v t e
    unfolding visible_look
    visible_off y = rw (← eo, not-true o.holds y)

    pub visible_on : (b : Bool) → not o.holds ≡ false → b ≡ visible_step f s h row.risk o.next row.partner v t e → b ≡ visible_look f s h row first v t e
    unfolding visible_look
    visible_on b y eb = rw (← eo, not-false o.holds y, eb)

  abbrev looked : ℕ → Bool
  looked e = visible_look f s h row first v t e

  unfoldable pub visible_left : ℕ → Bool
  visible_left e = all_in_range looked (row.looks - e) e

  pub visible_begin : visible_left 0 ≡ visible_looks f s h row first v t
  unfolding visible_left visible_looks
  visible_begin = all_begin looked row.looks

  module _ (e : ℕ) (b : Bool) (l : e < row.looks) (eb : b ≡ visible_look f s h row first v t e) (inv : visible_left e ≡ visible_looks f s h row first v t) where
    pub visible_turn : not b ≡ false → visible_left (e + 1) ≡ visible_looks f s h row first v t
    unfolding visible_left
    visible_turn ok = sym (all_turn looked row.looks e l (sym eb ∙ not-false b ok)) ∙ inv

    pub visible_fail : not b ≡ true → false ≡ visible_looks f s h row first v t
    unfolding visible_left
    visible_fail ok = sym (all_fail looked row.looks e l (sym eb ∙ not-true b ok)) ∙ inv

  pub visible_end : (e : ℕ) → row.looks ≤ e → visible_left e ≡ visible_looks f s h row first v t → true ≡ visible_looks f s h row first v t
  unfolding visible_left
  visible_end e l inv = sym (all_end looked row.looks e l) ∙ inv

-- ---- the looks at an internal row

module _ (f s v t : List ℕ) (h : Shape) (row : Row) (first : First) (m : ℕ) where
  module _ (o : Held) (e : ℕ) (eo : o ≡ known_in f row v first.on e) where
    pub internal_off : not o.holds ≡ true → Some true ≡ internal_look f s h row first v t m e
    unfolding internal_look
    internal_off y = rw (← eo, not-true o.holds y)

    pub internal_on : (k b : Bool) (x : Option Bool) → not o.holds ≡ false → k ≡ known_mark f row v first.marked e → b ≡ internal_step f s h row.risk o.next k v t m e
        → x ≡ seen b (not k) → x ≡ internal_look f s h row first v t m e
    unfolding internal_look
    internal_on k b x y ek eb ex = ex ∙ rw (← eo, ← ek, not-false o.holds y, eb)

  abbrev look : ℕ → Option Bool
  look e = internal_look f s h row first v t m e

  unfoldable pub internal_left : Bool → ℕ → Option Bool
  internal_left a e = seen_left look row.looks (internal_looks f s h row first v t m) a e

  pub internal_begin : internal_left true 0 ≡ internal_looks f s h row first v t m
  unfolding internal_left internal_looks
  internal_begin = seen_begin look row.looks (internal_looks f s h row first v t m)

  module _ (a : Bool) (e : ℕ) (r : Option Bool) (l : e < row.looks) (er : r ≡ internal_look f s h row first v t m e) (inv : internal_left a e ≡ internal_looks f s h row first v t m) where
    pub internal_turn : (b : Bool) → r ≡ Some b → internal_left (a && b) (e + 1) ≡ internal_looks f s h row first v t m
    unfolding internal_left internal_looks
    internal_turn b ok = seen_turn look row.looks (internal_looks f s h row first v t m) a e r l er inv b ok

    pub internal_fail : (x : Option Bool) → r ≡ None → x ≡ None → x ≡ internal_looks f s h row first v t m
    unfolding internal_left internal_looks
    internal_fail x en ex = ex ∙ seen_fail look row.looks (internal_looks f s h row first v t m) a e r l er inv en

  pub internal_end : (a : Bool) (e : ℕ) → row.looks ≤ e → internal_left a e ≡ internal_looks f s h row first v t m → Some a ≡ internal_looks f s h row first v t m
  unfolding internal_left internal_looks
  internal_end a e l inv = seen_end look row.looks (internal_looks f s h row first v t m) a e l inv

-- ---- the looks at a row

-- a condition that does not read the sum value, and does not hold for 0, never holds
never : (f v : List ℕ) (row : Row) (first : Held) → row.free && not first.holds ≡ true → first ≡ answer_f row.at v 0 (left f row) → (e : ℕ) → on_at f row v e ≡ false
never f v row first y ef e =
    ap (λ b. eval_f (left f row).tree v (cond b 0 e)) (and_left row.free (not first.holds) y)
    ∙ sym (ap (λ x. x.holds) ef) ∙ not-true first.holds (and_right row.free (not first.holds) y)

module _ (f s v t : List ℕ) (h : Shape) (row : Row) (m : ℕ) (on : Held) (eo : on ≡ answer_f row.at v 0 (left f row)) where
  abbrev past : ℕ
  past = row.at + (left f row).used

  abbrev held : ℕ → Bool
  held e = on_at f row v e ⇒ step_inside f s h row past (mark_at f row v e) v t m e

  abbrev off : ℕ → Bool
  off e = not (on_at f row v e && mark_at f row v e)

  pub row_ruled_out : row.free && not on.holds ≡ true → Some true ≡ looks_in f s h row v t m
  unfolding looks_in
  row_ruled_out y =
      rw (
        all_yes held (λ e. ap (λ b. b ⇒ step_inside f s h row past (mark_at f row v e) v t m e) (never f v row on y eo e)) row.looks 0,
        all_yes off (λ e. ap (λ b. not (b && mark_at f row v e)) (never f v row on y eo e)) row.looks 0,
        or-true (not row.internal),
      )

  pub row_internal : (k : Bool) (r : Option Bool) → row.internal ≡ true → k ≡ mark_holds f row.mark v 0 → r ≡ internal_looks f s h row (record { on = on; marked = k }) v t m
      → r ≡ looks_in f s h row v t m
  unfolding looks_in internal_looks internal_look
  row_internal k r int ek er =
      er
      ∙ (λ i. seen (all_alike _ held row.looks 0 (λ e. ap is_some (look_is e) ∙ seen_holds (held e) (off e)) i)
      ((all_alike _ (λ e. held e && off e) row.looks 0 (λ e. ap quiet (look_is e) ∙ seen_quiet (held e) (off e)) ∙ all_both held off row.looks 0) i))
      ∙ seen_both (all_in_range held row.looks 0) (all_in_range off row.looks 0)
      ∙ rw int
    where
      look_is : (e : ℕ) → internal_look f s h row (record { on = on; marked = k }) v t m e ≡ seen (held e) (off e)
      look_is e = rw (on_is f row v on e eo, mark_is f row v k e ek, int)

  pub row_visible : (b : Bool) (r : Option Bool) → row.internal ≡ false → b ≡ visible_looks f s h row on v t → r ≡ seen b true → r ≡ looks_in f s h row v t m
  unfolding looks_in visible_looks visible_look
  row_visible b r vis eb er =
      er ∙ ap (λ x. seen x true) (eb ∙ all_alike _ held row.looks 0 look_is)
      ∙ ap (λ i. seen (all_in_range held row.looks 0) (not i || all_in_range off row.looks 0)) (sym vis)
    where
      look_is : (e : ℕ) → visible_look f s h row on v t e ≡ held e
      look_is e = rw (on_is f row v on e eo, vis)

-- the conjuncts in front
module _ (f s p v t : List ℕ) (h : Shape) (i k m line n : ℕ) (g : Guarded) (ek : k ≡ i + 1) (el : line ≡ line_of s h.implementation k) (en : n ≡ (row_plan_at p i).front)
    (eg : g ≡ guard_in f v 0 n (line + 3) 32) where
  abbrev planned : RowPlan
  planned = row_plan_at p i

  pub row_off : not g.holds ≡ true → Some true ≡ row_in f s h (i + 1) planned (risk_at p 64) v t m
  unfolding row_in
  row_off y = rw (← ek, ← el, ← en, ← eg, not-true g.holds y)

  pub row_on : (e : RowPlan) (at risk : ℕ) (row : Row) (r : Option Bool) → not g.holds ≡ false → e ≡ row_plan_at p i → at ≡ place_from s h e.mark.at → risk ≡ risk_at p 64 → row ≡ row_for g e at risk → r ≡ looks_in f s h row v t m
      → r ≡ row_in f s h (i + 1) planned (risk_at p 64) v t m
  unfolding row_in
  row_on e at risk row r y ee ea ek' ew er = er ∙ rw (ew, ek', ea, ee, ← ek, ← el, ← en, ← eg, not-false g.holds y)

-- ---- all rows of the implementation

module _ (f s p v t : List ℕ) (h : Shape) (m first end : ℕ) where
  abbrev seen_row : ℕ → Option Bool
  seen_row i = row_in f s h (i + 1) (row_plan_at p i) (risk_at p 64) v t m

  abbrev all_rows_seen : Option Bool
  all_rows_seen = impl_between f s h p first end v t m

  unfoldable pub impl_left : Bool → ℕ → Option Bool
  impl_left a i = seen_left seen_row end all_rows_seen a i

  pub impl_begin : impl_left true first ≡ all_rows_seen
  unfolding impl_left impl_between
  impl_begin = refl

  module _ (a : Bool) (i : ℕ) (r : Option Bool) (l : i < end) (is : r ≡ row_in f s h (i + 1) (row_plan_at p i) (risk_at p 64) v t m) (inv : impl_left a i ≡ all_rows_seen) where
    pub impl_turn : (b : Bool) → r ≡ Some b → impl_left (a && b) (i + 1) ≡ all_rows_seen
    unfolding impl_left
    impl_turn b ok = seen_turn seen_row end all_rows_seen a i r l is inv b ok

    pub impl_fail : (x : Option Bool) → r ≡ None → x ≡ None → x ≡ all_rows_seen
    unfolding impl_left
    impl_fail x en ex = ex ∙ seen_fail seen_row end all_rows_seen a i r l is inv en

  pub impl_end : (a : Bool) (i : ℕ) → end ≤ i → impl_left a i ≡ all_rows_seen → Some a ≡ all_rows_seen
  unfolding impl_left
  impl_end a i l inv = seen_end seen_row end all_rows_seen a i l inv

-- a plan has their entries
pub impl_few : (h : Shape) → Fits h → h.implementation.rows.count ≤ 64
impl_few h fits = let n = fits.implementation.rows in omega arith

pub spec_few : (h : Shape) → Fits h → h.specification.rows.count ≤ 32
spec_few h fits = fits.specification.rows

-- ---- the rows of the specification

module _ (f s v t : List ℕ) (p : Process) (row : Row) (first o : Held) (e : ℕ) (eo : o ≡ known_in f row t first e) where
  pub reply_off : not o.holds ≡ true → true ≡ replied_in f s p row first v t e
  unfolding replied_in
  reply_off y = rw (← eo, not-true o.holds y)

  pub reply_none : not o.holds ≡ false → row.partner ≡ 0 → false ≡ replied_in f s p row first v t e
  unfolding replied_in partner_by eval_f
  reply_none y z = rw (← eo, not-false o.holds y, z)

  pub reply_on : (line : ℕ) (b : Bool) → not o.holds ≡ false → (row.partner ≡ 0 → ⊥) → line ≡ line_of s p row.partner → b ≡ eval_f (read_f 32 (drop (line + 3) f)).tree v e
      → b ≡ replied_in f s p row first v t e
  unfolding replied_in partner_by row_by
  reply_on line b ok some el eb = rw (← eo, not-false o.holds ok, ne_eqb row.partner 0 some, ← el, place f line 3 refl, eb)

module _ (f s v t : List ℕ) (p : Process) (row : Row) where
  abbrev answers : ℕ → Bool
  answers e = on_at f row t e ⇒ enabled_b (partner_by f s p row.partner) v e

  unfoldable pub reply_left : ℕ → Bool
  reply_left e = all_in_range answers (row.looks - e) e

  module _ (first : Held) (ef : first ≡ answer_f row.at t 0 (left f row)) where
    pub reply_ruled_out : row.free && not first.holds ≡ true → true ≡ reply_looks f s p row v t
    unfolding reply_looks
    reply_ruled_out y = sym (all_yes answers (λ e. ap (λ b. b ⇒ enabled_b (partner_by f s p row.partner) v e) (never f t row first y ef e)) row.looks 0)

    pub reply_begin : reply_left 0 ≡ reply_looks f s p row v t
    unfolding reply_left reply_looks
    reply_begin = all_begin answers row.looks

    module _ (e : ℕ) (b : Bool) (eb : b ≡ replied_in f s p row first v t e) where
      replied_row : b ≡ answers e
      unfolding replied_in
      replied_row = eb ∙ ap (λ x. x.holds ⇒ enabled_b (partner_by f s p row.partner) v e) (on_is f row t first e ef)

      pub reply_turn : e < row.looks → not b ≡ false → reply_left e ≡ reply_looks f s p row v t → reply_left (e + 1) ≡ reply_looks f s p row v t
      unfolding reply_left
      reply_turn l ok inv = sym (all_turn answers row.looks e l (sym replied_row ∙ not-false b ok)) ∙ inv

      pub reply_fail : e < row.looks → not b ≡ true → reply_left e ≡ reply_looks f s p row v t → false ≡ reply_looks f s p row v t
      unfolding reply_left
      reply_fail l ok inv = sym (all_fail answers row.looks e l (sym replied_row ∙ not-true b ok)) ∙ inv

  pub reply_end : (e : ℕ) → row.looks ≤ e → reply_left e ≡ reply_looks f s p row v t → true ≡ reply_looks f s p row v t
  unfolding reply_left
  reply_end e l inv = sym (all_end answers row.looks e l) ∙ inv

module _ (f s p v t : List ℕ) (h : Shape) (i k line n : ℕ) (g : Guarded) (ek : k ≡ i + 1) (el : line ≡ line_of s h.specification k) (en : n ≡ (row_plan_at p (32 + i)).front)
    (eg : g ≡ guard_in f t 0 n (line + 3) 32) where
  pub reply_guarded : not g.holds ≡ true → true ≡ reply_in f s h (i + 1) (row_plan_at p (32 + i)) v t
  unfolding reply_in
  reply_guarded y = rw (← ek, ← el, ← en, ← eg, not-true g.holds y)

  pub reply_row : (e : RowPlan) (row : Row) (r : Bool) → not g.holds ≡ false → e ≡ row_plan_at p (32 + i) → row ≡ row_for g e 0 0 → r ≡ reply_looks f s h.implementation row v t
      → r ≡ reply_in f s h (i + 1) (row_plan_at p (32 + i)) v t
  unfolding reply_in
  reply_row e row r y ee ew er = er ∙ rw (ew, ee, ← ek, ← el, ← en, ← eg, not-false g.holds y)

module _ (f s p v t : List ℕ) (h : Shape) (first end : ℕ) where
  abbrev replied : ℕ → Bool
  replied i = reply_in f s h (i + 1) (row_plan_at p (32 + i)) v t

  unfoldable pub spec_left : ℕ → Bool
  spec_left i = all_in_range replied (end - i) i

  pub spec_begin : spec_left first ≡ spec_between f s h p first end v t
  unfolding spec_left spec_between
  spec_begin = refl

  module _ (i : ℕ) (b : Bool) (l : i < end) (eb : b ≡ reply_in f s h (i + 1) (row_plan_at p (32 + i)) v t) (inv : spec_left i ≡ spec_between f s h p first end v t) where
    pub spec_turn : not b ≡ false → spec_left (i + 1) ≡ spec_between f s h p first end v t
    unfolding spec_left
    spec_turn ok = sym (all_turn replied end i l (sym eb ∙ not-false b ok)) ∙ inv

    pub spec_fail : not b ≡ true → false ≡ spec_between f s h p first end v t
    unfolding spec_left
    spec_fail ok = sym (all_fail replied end i l (sym eb ∙ not-true b ok)) ∙ inv

  pub spec_end : (i : ℕ) → end ≤ i → spec_left i ≡ spec_between f s h p first end v t → true ≡ spec_between f s h p first end v t
  unfolding spec_left
  spec_end i l inv = sym (all_end replied end i l) ∙ inv

-- ---- the state

module _ (f s p v t : List ℕ) (h : Shape) (two : Bool) (said : two ≡ below_in f s h.specification t) where
  pub pass_two : not two ≡ true → false ≡ passes_in f s h p v t
  unfolding passes_in
  pass_two y = rw (← said, not-true two y)

  module _ (m : ℕ) (r : Option Bool) (ok : not two ≡ false) (em : m ≡ measure_in f s h v) (er : r ≡ impl_in f s h p v t m) where
    pub pass_rows : r ≡ None → false ≡ passes_in f s h p v t
    unfolding passes_in
    pass_rows y = rw (← said, not-false two ok, ← em, ← er, y)

    pub pass_busy : (q : Bool) → r ≡ Some q → not q ≡ true → true ≡ passes_in f s h p v t
    unfolding passes_in
    pass_busy q y z = rw (← said, not-false two ok, ← em, ← er, y, not-true q z)

    pub pass_quiet : (q b : Bool) → r ≡ Some q → not q ≡ false → b ≡ spec_in f s h p v t → b ≡ passes_in f s h p v t
    unfolding passes_in
    pass_quiet q b y z eb = eb ∙ rw (← said, not-false two ok, ← em, ← er, y, not-false q z)
