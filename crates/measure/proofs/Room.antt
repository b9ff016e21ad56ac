-- Whether a slice has room, and the turns of the loop over the spans; and what the operation comes to.
use mathlib.Core.Path.{◌≡◌, refl, sym, ◌∙◌, ap, subst}
use mathlib.Core.Bool.{Bool, true, false, not, ◌&&◌, true≢false}
use mathlib.Core.List.{List}
use Prim.Native.Nat.{ℕ, zero, suc, ◌+◌, ◌≤◌, ◌<◌, min}
use native.Mathlib.Omega.{arith}
use native.Mathlib.Decide.{dec_lt}
use borrow.Author.Tests.{not-true, not-false, leb-true, leb-false}
use lib.Dec.{leb}
use lib.ListN.{length}
use Rattle.foundation.specs.Reflects.{Reflects, so, not_so}
use Rattle.criteria.specs.Design.{states}
use Rattle.criteria.specs.Rows.{row_at}
use Rattle.criteria.specs.Measure.{Unmeasurable}
use Rattle.criteria.proofs.Rows.{is_row_at, is_row_below, row_at_is}
use Rattle.design.specs.Loaded.{sections, process_in, design_at, design_in}
use Rattle.design.specs.declared.Counts.{Counts}
use Rattle.design.specs.declared.Process.{Process}
use Rattle.design.specs.declared.Shape.{Shape}
use Rattle.layout.specs.Sizes.{counts_fit, shape_of, Fits, state_count_in}
use Rattle.layout.proofs.Sizes.{sections_kept, shape_fits}
use Rattle.steps.specs.Arrays.{row_span}
use Rattle.steps.proofs.States.{rows_count}
use Rattle.marked_edges.specs.Edges.{next_in, SumsNumbered}
use Rattle.longest_runs.specs.Runs.{Written}
use Rattle.std.specs.Prelude.{Result}
use Rattle.measurable.specs.Measurable.{CanMeasure, can, cannot}
use Rattle.answers.specs.declared.Measured.{Measured}
use Rattle.answers.specs.declared.Measured.TheVariants as measured
use Rattle.measure.specs.Answer.{HasRoom, Made, leaves, MeasureIn, short, has_room, answer_of}
use Rattle.measure.proofs.Runs.{made_is}

-- ---- spans

pub record SpansTo (f s : List ℕ) (p : Process) (k : ℕ) : Type 0 where
  pub all : (j : ℕ) → j < k → row_span f s p j ≤ 256

module _ (f s : List ℕ) (p : Process) where
  pub spans_start : SpansTo f s p 1
  unfolding row_span
  spans_start = record { all = λ j l. go j l }
    where
      go : (j : ℕ) → j < 1 → row_span f s p j ≤ 256
      go zero l = omega arith
      go (suc j) l = absurd (omega arith)

  pub spans_turn : (k z : ℕ) → z ≡ row_span f s p k → z ≤ 256 → SpansTo f s p k → SpansTo f s p (k + 1)
  spans_turn k z ez l g = record { all = λ j u. go j u (dec_lt j k) }
    where
      go : (j : ℕ) → j < k + 1 → Dec (j < k) → row_span f s p j ≤ 256
      go j u (yes w) = g.all j w
      go j u (no w) = let q : j ≡ k = omega arith in rw (q, ← ez) l

  pub spans_fail : (k z : ℕ) → z ≡ row_span f s p k → 256 < z → Reflects (SumsNumbered f s p) false
  unfolding row_span
  spans_fail k z ez l = not_so (λ all. let a = all k (row_at (process_in f s p).rows k) (row_at_is (process_in f s p).rows k 0 (omega arith)) in omega arith)

  pub spans_end : (k : ℕ) → p.rows.count < k → SpansTo f s p k → Reflects (SumsNumbered f s p) true
  unfolding row_span
  spans_end k past g = so (λ j r is. let b = is_row_below is in let n = rows_count f s p in rw (← is_row_at is) (g.all j (omega arith)))

-- ---- room

module _ (f s : List ℕ) (c : Counts) (n : ℕ) (b : Bool) (eb : b ≡ counts_fit c) where
  pub room_unfit : not b ≡ true → Reflects (HasRoom f s c n) false
  room_unfit y = not_so (λ r. true≢false (sym r.counts ∙ sym eb ∙ not-true b y))

  module _ (h : Shape) (y : not b ≡ false) (eh : h ≡ shape_of c) where
    fit : counts_fit c ≡ true
    fit = sym eb ∙ not-false b y

    pub room_spans : (z : Bool) → Reflects (SumsNumbered f s h.implementation) z → not z ≡ true → Reflects (HasRoom f s c n) false
    room_spans z (so a) w = absurd (true≢false (sym w))
    room_spans z (not_so a) w = not_so (λ r. a (subst (λ (k : Shape). SumsNumbered f s k.implementation) (sym eh) r.spans))

    pub room_is : (z : Bool) (m : ℕ) (q : Bool) → Reflects (SumsNumbered f s h.implementation) z → not z ≡ false → m ≡ state_count_in f s c → q ≡ leb m n && leb m 65536
        → Reflects (HasRoom f s c n) q
    unfolding state_count_in
    room_is z m q (not_so a) w em eq = absurd (true≢false w)
    room_is z m q (so a) w em eq = subst (Reflects (HasRoom f s c n)) (sym eq) (go (leb m n) (leb m 65536) refl refl)
      where
        count : state_count_in f s c ≡ min (states (design_in f s c)) 65537
        count = rw fit

        go : (x z : Bool) → leb m n ≡ x → leb m 65536 ≡ z → Reflects (HasRoom f s c n) (x && z)
        go true true e g =
            let u = leb-true m n e in
            let v = leb-true m 65536 g in
            let k = em ∙ count in
            so (record { counts = fit; spans = subst (λ (k : Shape). SumsNumbered f s k.implementation) eh a; places = omega arith; numbers = omega arith })
        go true false e g = let v = leb-false m 65536 g in let k = em ∙ count in not_so (λ r. let t = r.numbers in omega arith)
        go false z e g = let u = leb-false m n e in let k = em ∙ count in not_so (λ r. let t = r.numbers in let p = r.places in omega arith)

-- ---- what the operation comes to

pub measure_short : (f s slice : List ℕ) (c : Counts) (b : Bool) → Reflects (HasRoom f s c (length slice)) b → not b ≡ true
    → MeasureIn f s c slice slice (measured.TurnedDown 17)
measure_short f s slice c b (so r) y = absurd (true≢false (sym y))
measure_short f s slice c b (not_so r) y = short r refl

-- what holds where there is room
module _ (f s : List ℕ) (c : Counts) (h : Shape) (m n : ℕ) (b : Bool) (eh : h ≡ shape_of c) (em : m ≡ state_count_in f s c) (r : Reflects (HasRoom f s c n) b)
    (y : not b ≡ false) where
  pub room : HasRoom f s c n
  room = go r y
    where
      go : {z : Bool} → Reflects (HasRoom f s c n) z → not z ≡ false → HasRoom f s c n
      go (so a) w = a
      go (not_so a) w = absurd (true≢false w)

  shape_is : h ≡ sections c
  shape_is = eh ∙ sections_kept c room.counts

  pub fits : Fits h
  fits = rw eh (shape_fits c)

  pub count_is : m ≡ states (design_at f s h)
  unfolding state_count_in
  count_is =
      let k : m ≡ min (states (design_in f s c)) 65537 = em ∙ rw room.counts in
      let few = room.numbers in
      let e : states (design_at f s h) ≡ states (design_in f s c) = ap (λ (g : Shape). states (design_at f s g)) shape_is in
      omega arith

  pub few_states : m ≤ 65536
  few_states =
      let few = room.numbers in
      let e : states (design_at f s h) ≡ states (design_in f s c) = ap (λ (g : Shape). states (design_at f s g)) shape_is in
      let k = count_is in
      omega arith

  pub enough : m ≤ n
  enough =
      let few = room.places in
      let e : states (design_at f s h) ≡ states (design_in f s c) = ap (λ (g : Shape). states (design_at f s g)) shape_is in
      let k = count_is in
      omega arith

module _ (f s before after : List ℕ) (c : Counts) (h : Shape) (m : ℕ) (b : Bool) (eh : h ≡ shape_of c) (em : m ≡ state_count_in f s c)
    (r : Reflects (HasRoom f s c (length before)) b) (y : not b ≡ false) where
  has : HasRoom f s c (length before)
  has = room f s c h m (length before) b eh em r y

  same_shape : h ≡ sections c
  same_shape = eh ∙ sections_kept c has.counts

  pub measure_leaves : (z : Bool) → CanMeasure (design_at f s h) z → not z ≡ true → after ≡ before → MeasureIn f s c before after (measured.TurnedDown 18)
  measure_leaves z (can a) w e = absurd (true≢false (sym w))
  measure_leaves z (cannot a) w e = has_room has (leaves (subst (λ (g : Shape). Unmeasurable (design_at f s g)) same_shape a) e)

  pub measure_made : (z : Bool) (q : Result (Unit {0}) ℕ) (a : Measured) → CanMeasure (design_at f s h) z → not z ≡ false → Written (next_in f s h) m before after q → a ≡ answer_of q
      → MeasureIn f s c before after a
  measure_made z q a (cannot t) w g ea = absurd (true≢false w)
  measure_made z q a (can t) w g ea =
      let k = count_is f s c h m (length before) b eh em r y in
      let few = few_states f s c h m (length before) b eh em r y in
      let all : Written (next_in f s h) (states (design_at f s h)) before after q = subst (λ i. Written (next_in f s h) i before after q) k g in
      let spans : SumsNumbered f s h.implementation = subst (λ (g : Shape). SumsNumbered f s g.implementation) (sym eh) has.spans in
      let made = made_is f s h (fits f s c h m (length before) b eh em r y) (rw (← k) few) spans t before after q all in
      subst (MeasureIn f s c before after) (sym ea) (has_room has (subst (λ (g : Shape). Made (design_at f s g) before after (answer_of q)) same_shape made))
