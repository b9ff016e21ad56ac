-- The turns of the loop over the rows of the implementation: those that are done pass and are noted, the others are as they were.
use mathlib.Core.Path.{◌≡◌, refl, sym, subst, ap, ◌∙◌}
use mathlib.Core.Bool.{Bool, true, false, not, ◌&&◌, cond, true≢false, false≢true}
use mathlib.Core.List.{List}
use Prim.Native.Nat.{ℕ, ◌+◌, ◌≤◌, ◌<◌}
use native.Mathlib.Omega.{arith}
use native.Mathlib.Decide.{dec_lt}
use borrow.Author.Tests.{not-false, eqb-true, eqb-false}
use lib.Bits.{bit_and}
use lib.Dec.{eqb}
use lib.ListN.{length, get_or, set, replicate, length-set, length-replicate, get_or-replicate}
use lib.Seq.{get_or-set_same, get_or-set_other}
use lib.Seq.{sets as sets'}
use Rattle.design.specs.declared.Shape.{Shape}
use Rattle.layout.specs.Sizes.{Fits}
use Rattle.terms.proofs.Sets.{apart_of}
use Rattle.reads.specs.Reads.{differ}
use Rattle.criteria.specs.Design.{mapped}
use Rattle.design.specs.Loaded.{design_at}
use Rattle.steps.specs.Arrays.{below_in, mapped_in}
use Rattle.steps.proofs.Arrays.{mapped_is}
use Rattle.steps.proofs.States as steps
use Rattle.state_passes.specs.Passes.{spec_between}
use Rattle.recall.specs.Recall.{When, since, Task, Known, Replied, RowIs, MappedIs, RowKnown, ReplyKnown, RowsCarried, RepliesCarried, MappedCarried, look_inside, loud_of, noted_in, row_passes_in, OneLoud, RowsTo, reply_noted_in, reply_passes_in, RepliesTo, MappedTo, Recalls, Forgets}
use Rattle.recall.specs.declared.Look.{Look}
use Rattle.std.specs.Prelude.{is_some, unwrap_or}
use Rattle.recall.proofs.Known.{looked, replied_on, reply_looked, mapped_on}

-- of a no nothing is said
pub when_not : (P : Type 0) → When false P
when_not P = record { so = λ y. absurd (false≢true y) }

module _ (f s v : List ℕ) (h : Shape) where
  pub rows_begin : (watch : List ℕ) → length watch ≡ 97 → RowsTo f s h watch v watch 0 true
  rows_begin watch long = record {
    long = long;
    done = λ j l. absurd (omega arith);
    ahead = λ j l u. (refl, refl);
    others = λ j l u. refl;
    loud = λ z. absurd (true≢false z);
  }

module _ (f s p sets v t before watch after : List ℕ) (h : Shape) (changed i : ℕ) (quiet b : Bool) (task : Task f s h p sets v) (et : t ≡ mapped_in f s h v)
    (carried : RowsCarried f s h changed before v) (l : i < h.implementation.rows.count) (inv : RowsTo f s h before v watch i quiet)
    (ea : after ≡ noted_in f s h p sets changed i v t watch) (eb : b ≡ row_passes_in f s h p sets changed i v t watch) (ok : not b ≡ false) where
  below : i < 32
  below = let few = task.fits.implementation.rows in omega arith

  -- what stands beside row j after the turn
  abbrev Noted : ℕ → Type 0
  Noted j = RowKnown f s h after v j × RowIs f s h j (get_or after (65 + j) 0) v

  -- the same numbers stand beside row j
  noted_as : (other : List ℕ) (j : ℕ) → get_or after j 0 ≡ get_or other j 0 → get_or after (65 + j) 0 ≡ get_or other (65 + j) 0
      → RowKnown f s h other v j × RowIs f s h j (get_or other (65 + j) 0) v → Noted j
  noted_as other j p q k = subst (λ w. Known f s h v w (RowIs f s h j (get_or after (65 + j) 0)) × RowIs f s h j (get_or after (65 + j) 0) v) (sym p)
      (subst (λ m. Known f s h v (get_or other j 0) (RowIs f s h j m) × RowIs f s h j m v) (sym q) k)

  -- this row, and that no other place moved
  record Turned : Type 0 where
    noted : Noted i
    long : length after ≡ 97
    same : (j : ℕ) → (j ≡ i → ⊥) → (j ≡ 65 + i → ⊥) → get_or after j 0 ≡ get_or watch j 0

  kept : bit_and (get_or watch i 0) changed ≡ 0 → after ≡ watch → Turned
  kept a e = record {
    noted =
        let w = inv.ahead i (omega arith) below in
        noted_as before i (ap (λ m. get_or m i 0) e ∙ w.0) (ap (λ m. get_or m (65 + i) 0) e ∙ w.1) (carried.row i l (ap (λ m. bit_and m changed) (sym w.0) ∙ a));
    long = ap length e ∙ inv.long;
    same = λ j n m. ap (λ z. get_or z j 0) e;
  }

  seen : (r : Look) → r ≡ look_inside f s h p sets i v t → is_some r.seen ≡ true → after ≡ set (set watch i r.watch) (65 + i) (loud_of (unwrap_or r.seen false)) → Turned
  seen r er holds e = record {
    noted =
        let k = looked f s h p sets v t task et i l r er holds in
        subst (λ w. Known f s h v w (RowIs f s h i (get_or after (65 + i) 0)) × RowIs f s h i (get_or after (65 + i) 0) v) (sym first)
        (subst (λ m. Known f s h v r.watch (RowIs f s h i m) × RowIs f s h i m v) (sym second) (k.on, k.here));
    long = whole;
    same = λ j n m. ap (λ z. get_or z j 0) e ∙ get_or-set_other one (65 + i) j (loud_of (unwrap_or r.seen false)) 0 m ∙ get_or-set_other watch i j r.watch 0 n;
  }
    where
      one : List ℕ
      one = set watch i r.watch

      one_long : length one ≡ 97
      one_long = length-set watch i r.watch ∙ inv.long

      whole : length after ≡ 97
      whole = ap length e ∙ length-set one (65 + i) (loud_of (unwrap_or r.seen false)) ∙ one_long

      first : get_or after i 0 ≡ r.watch
      first =
          let n = inv.long in
          ap (λ z. get_or z i 0) e ∙ get_or-set_other one (65 + i) i (loud_of (unwrap_or r.seen false)) 0 (λ z. omega arith) ∙ get_or-set_same watch i r.watch 0 (let b = below in omega arith)

      second : get_or after (65 + i) 0 ≡ loud_of (unwrap_or r.seen false)
      second = let n = one_long in ap (λ z. get_or z (65 + i) 0) e ∙ get_or-set_same one (65 + i) (loud_of (unwrap_or r.seen false)) 0 (let b = below in omega arith)

  turned : Turned
  unfolding noted_in row_passes_in
  turned = go (eqb (bit_and (get_or watch i 0) changed) 0) refl (sym eb ∙ not-false b ok) ea
    where
      r : Look
      r = look_inside f s h p sets i v t

      go : (z : Bool) → eqb (bit_and (get_or watch i 0) changed) 0 ≡ z → cond z true (is_some r.seen) ≡ true → after ≡ cond z watch (set (set watch i r.watch) (65 + i) (loud_of (unwrap_or r.seen false))) → Turned
      go true a y e = kept (eqb-true (bit_and (get_or watch i 0) changed) 0 a) e
      go false a y e = seen r refl y e

  -- whether there is a marked step now
  louder : (q n : Bool) → quiet ≡ q → eqb (get_or after (65 + i) 0) 0 ≡ n → q && n ≡ false → OneLoud f s h v (i + 1)
  louder false n eq en z = let o = inv.loud eq in let before-it = o.before in record { row = o.row; before = omega arith; is = o.is }
  louder true n eq en z =
      record { row = i; before = omega arith; is = turned.noted.1.is_loud (λ y. eqb-false (get_or after (65 + i) 0) 0 (en ∙ z) y) }

  pub rows_turn : RowsTo f s h before v after (i + 1) (quiet && eqb (get_or after (65 + i) 0) 0)
  rows_turn = record {
    long = turned.long;
    done = λ j u. go j u (dec_lt j i);
    ahead = λ j u m. (
      turned.same j (λ z. omega arith) (λ z. omega arith) ∙ (inv.ahead j (omega arith) m).0,
      turned.same (65 + j) (λ z. let q = below in omega arith) (λ z. omega arith) ∙ (inv.ahead j (omega arith) m).1,
    );
    others = λ j u m. let q = below in turned.same j (λ z. omega arith) (λ z. omega arith) ∙ inv.others j u m;
    loud = λ z. louder quiet (eqb (get_or after (65 + i) 0) 0) refl refl z;
  }
    where
      go : (j : ℕ) → j < i + 1 → Dec (j < i) → Noted j
      go j u (yes m) =
          let q = below in
          noted_as watch j (turned.same j (λ z. omega arith) (λ z. omega arith)) (turned.same (65 + j) (λ z. omega arith) (λ z. omega arith)) (inv.done j m)
      go j u (no m) = let e : i ≡ j = omega arith in subst Noted e turned.noted

module _ (f s v before watch : List ℕ) (h : Shape) (i : ℕ) (quiet : Bool) where
  pub rows_end : i ≤ h.implementation.rows.count → h.implementation.rows.count ≤ i → RowsTo f s h before v watch i quiet
      → RowsTo f s h before v watch h.implementation.rows.count quiet
  rows_end u m inv = let e : i ≡ h.implementation.rows.count = omega arith in subst (λ n. RowsTo f s h before v watch n quiet) e inv

pub row_below : (f s p sets v : List ℕ) (h : Shape) (i : ℕ) → Task f s h p sets v → i < h.implementation.rows.count → i < 32
row_below f s p sets v h i task l = let few = task.fits.implementation.rows in omega arith

-- ---- replies

module _ (f s v : List ℕ) (h : Shape) (quiet : Bool) where
  pub replies_begin : (watch : List ℕ) → length watch ≡ 97 → RepliesTo f s h watch v watch 0 quiet
  replies_begin watch long = record { long = long; done = λ j l. absurd (omega arith); ahead = λ j l u. refl; rows = λ j l. refl; others = λ j l. refl }

-- nothing is known by a set that says so
nothing_known : (f s : List ℕ) (h : Shape) (v : List ℕ) (P : List ℕ → Type 0) → Known f s h v 256 P
unfolding since
nothing_known f s h v P x xa holds a = let z = (apart_of 256 256 (differ v x) a).0 in absurd (omega arith)

module _ (f s p sets v t before watch after : List ℕ) (h : Shape) (changed i : ℕ) (quiet b : Bool) (task : Task f s h p sets v) (et : t ≡ mapped_in f s h v)
    (carried : RepliesCarried f s h changed before v) (l : i < h.specification.rows.count) (inv : RepliesTo f s h before v watch i quiet)
    (ea : after ≡ reply_noted_in sets changed quiet i watch) (eb : b ≡ reply_passes_in f s h p changed quiet i v t watch) (ok : not b ≡ false) where
  few : i < 32
  few = let n = task.fits.specification.rows in omega arith

  abbrev NotedReply : ℕ → Type 0
  NotedReply j = ReplyKnown f s h after v j × (quiet ≡ true → Replied f s h j v)

  record ReplyTurned : Type 0 where
    noted : NotedReply i
    long : length after ≡ 97
    same : (j : ℕ) → (j ≡ 32 + i → ⊥) → get_or after j 0 ≡ get_or watch j 0

  stored : (w : ℕ) → after ≡ set watch (32 + i) w → Known f s h v w (Replied f s h i) → (quiet ≡ true → Replied f s h i v) → ReplyTurned
  stored w e on here = record {
    noted = (subst (λ z. Known f s h v z (Replied f s h i)) (sym (ap (λ z. get_or z (32 + i) 0) e ∙ get_or-set_same watch (32 + i) w 0 (let n = inv.long in let q = few in omega arith))) on, here);
    long = ap length e ∙ length-set watch (32 + i) w ∙ inv.long;
    same = λ j m. ap (λ z. get_or z j 0) e ∙ get_or-set_other watch (32 + i) j w 0 m;
  }

  replied : ReplyTurned
  unfolding reply_noted_in reply_passes_in
  replied = go (eqb (bit_and (get_or watch (32 + i) 0) changed) 0) refl quiet refl (sym eb ∙ not-false b ok) ea
    where
      go : (z : Bool) → eqb (bit_and (get_or watch (32 + i) 0) changed) 0 ≡ z → (q : Bool) → quiet ≡ q → cond z true (cond q (spec_between f s h p i (i + 1) v t) true) ≡ true
          → after ≡ cond z watch (cond q (set watch (32 + i) (get_or sets (64 + i) 0)) (set watch (32 + i) 256)) → ReplyTurned
      go true a q eq y e =
          let w = inv.ahead i (omega arith) few in
          let k = carried.row i l (ap (λ m. bit_and m changed) (sym w) ∙ eqb-true (bit_and (get_or watch (32 + i) 0) changed) 0 a) in
          record {
            noted = (subst (λ z. Known f s h v z (Replied f s h i)) (sym (ap (λ z. get_or z (32 + i) 0) e ∙ w)) k.0, λ _. k.1);
            long = ap length e ∙ inv.long;
            same = λ j m. ap (λ z. get_or z j 0) e;
          }
      go false a true eq y e =
          let k = reply_looked f s h p sets v t task et i l y in
          stored (get_or sets (64 + i) 0) e (subst (λ z. Known f s h v z (Replied f s h i)) (sym (task.sets_are.reply i (rw (steps.rows_count f s h.specification) l))) (replied_on f s h p sets v t task i k)) (λ _. k)
      go false a false eq y e = stored 256 e (nothing_known f s h v (Replied f s h i)) (λ z. absurd (true≢false (sym z ∙ eq)))

  pub replies_turn : RepliesTo f s h before v after (i + 1) quiet
  replies_turn = record {
    long = replied.long;
    done = λ j u. go j u (dec_lt j i);
    ahead = λ j u m. replied.same (32 + j) (λ z. omega arith) ∙ inv.ahead j (omega arith) m;
    rows = λ j u. replied.same j (λ z. omega arith) ∙ inv.rows j u;
    others = λ j u. replied.same j (λ z. let q = few in omega arith) ∙ inv.others j u;
  }
    where
      go : (j : ℕ) → j < i + 1 → Dec (j < i) → NotedReply j
      go j u (yes m) =
          let k = inv.done j m in
          (subst (λ z. Known f s h v z (Replied f s h j)) (sym (replied.same (32 + j) (λ z. omega arith))) k.0, k.1)
      go j u (no m) = let e : i ≡ j = omega arith in subst NotedReply e replied.noted

module _ (f s v before watch : List ℕ) (h : Shape) (i : ℕ) (quiet : Bool) where
  pub replies_end : i ≤ h.specification.rows.count → h.specification.rows.count ≤ i → RepliesTo f s h before v watch i quiet
      → When true (RepliesTo f s h before v watch h.specification.rows.count quiet)
  replies_end u m inv = let e : i ≡ h.specification.rows.count = omega arith in record { so = λ y. subst (λ n. RepliesTo f s h before v watch n quiet) e inv }

pub reply_below : (f s p sets v : List ℕ) (h : Shape) (i : ℕ) → Task f s h p sets v → i < h.specification.rows.count → i < 32
reply_below f s p sets v h i task l = let n = task.fits.specification.rows in omega arith

-- ---- the mapping

module _ (f s p sets v t t' watch : List ℕ) (h : Shape) (changed : ℕ) (task : Task f s h p sets v) (carried : MappedCarried f s h changed watch t v) (long : length watch ≡ 97) where
  pub mapping_kept : bit_and (get_or watch 64 0) changed ≡ 0 → When true (MappedTo f s h watch v watch t)
  mapping_kept a = let k = carried.mapping a in record { so = λ y. record { long = long; here = k.1; on = k.0; others = λ j n. refl } }

  pub mapping_new : (b : Bool) → t' ≡ sets' (replicate 8 0) 0 (mapped (design_at f s h) v) → b ≡ below_in f s h.specification t'
      → When b (MappedTo f s h watch v (set watch 64 (get_or sets 96 0)) t')
  unfolding mapped_in
  mapping_new b et eb = record { so = λ y. made y }
    where
      is : t' ≡ mapped_in f s h v
      is = mapped_is f s v h t' et

      here : b ≡ true → MappedIs f s h t' v
      here y = record {
        is = is;
        in_size = sym (steps.below_held f s h.specification task.fits.specification (mapped (design_at f s h) v) (steps.mapped_length f s h v)) ∙ ap (λ z. below_in f s h.specification z) (sym is) ∙ sym eb ∙ y;
      }

      made : b ≡ true → MappedTo f s h watch v (set watch 64 (get_or sets 96 0)) t'
      made y = record {
        long = length-set watch 64 (get_or sets 96 0) ∙ long;
        here = here y;
        on = subst (λ z. Known f s h v z (MappedIs f s h t')) (sym (get_or-set_same watch 64 (get_or sets 96 0) 0 (omega arith) ∙ task.sets_are.mapping)) (mapped_on f s h p sets v t' task (here y));
        others = λ j n. get_or-set_other watch 64 j (get_or sets 96 0) 0 n;
      }

-- ---- nothing

pub forgets : Forgets (replicate 97 256)
forgets = record { long = length-replicate {A = ℕ} 97 256; each = λ i l. get_or-replicate 97 i 256 0 l }

-- where nothing is written all that is written is so
pub nothing_recalled : (f s : List ℕ) (h : Shape) (watch t v : List ℕ) → Fits h → Forgets watch → Recalls f s h watch t v
nothing_recalled f s h watch t v fits none = record {
  rows = λ i l. let n = fits.implementation.rows in unknown_at i (omega arith) (RowIs f s h i (get_or watch (65 + i) 0));
  replies = λ i l. let n = fits.specification.rows in unknown_at (32 + i) (omega arith) (Replied f s h i);
  mapping = unknown_at 64 (omega arith) (MappedIs f s h t);
}
  where
    unknown_at : (i : ℕ) → i < 97 → (P : List ℕ → Type 0) → Known f s h v (get_or watch i 0) P
    unknown_at i l P = subst (λ w. Known f s h v w P) (sym (none.each i l)) (nothing_known f s h v P)
