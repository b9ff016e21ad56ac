-- The sets of a design, stored row after row.
use mathlib.Core.Path.{◌≡◌, subst, ◌∙◌}
use mathlib.Core.List.{List}
use Prim.Native.Nat.{ℕ, ◌+◌, ◌≤◌, ◌<◌}
use native.Mathlib.Omega.{arith}
use native.Mathlib.Decide.{dec_lt}
use lib.ListN.{length, get_or, set, length-set}
use lib.Seq.{get_or-set_same, get_or-set_other}
use Rattle.criteria.specs.Design.{Design}
use Rattle.design.specs.Loaded.{design_at}
use Rattle.design.specs.declared.Shape.{Shape}
use Rattle.layout.specs.Sizes.{Fits}
use Rattle.steps.proofs.States as steps
use Rattle.watched.specs.Watched.{all_of, map_reads, enabling, watched, reply_watched}
use Rattle.recall.specs.Recall.{SetsAre, SetsTo}

module _ (d : Design) where
  pub sets_begin : (out : List ℕ) → length out ≡ 97 → SetsTo d out 0 0
  sets_begin out long = record { long = long; enable = λ k l. absurd (omega arith); watch = λ k l. absurd (omega arith); reply = λ k l. absurd (omega arith) }

  sets_row : (out : List ℕ) (i x y : ℕ) → i < 32 → SetsTo d out i 0 → x ≡ enabling d (i + 1) → y ≡ watched d (i + 1) → SetsTo d (set (set out i x) (32 + i) y) (i + 1) 0
  sets_row out i x y few inv ex ey = record {
    long = length-set one (32 + i) y ∙ one_long;
    enable = λ k l. enable k l (dec_lt k i);
    watch = λ k l. watch k l (dec_lt k i);
    reply = λ k l. absurd (omega arith);
  }
    where
      one : List ℕ
      one = set out i x

      one_long : length one ≡ 97
      one_long = length-set out i x ∙ inv.long

      enable : (k : ℕ) → k < i + 1 → Dec (k < i) → get_or (set one (32 + i) y) k 0 ≡ enabling d (k + 1)
      enable k l (yes m) = get_or-set_other one (32 + i) k y 0 (λ z. omega arith) ∙ get_or-set_other out i k x 0 (λ z. omega arith) ∙ inv.enable k m
      enable k l (no m) =
          let e : i ≡ k = omega arith in
          let n = inv.long in
          subst (λ j. get_or (set one (32 + i) y) j 0 ≡ enabling d (j + 1)) e (get_or-set_other one (32 + i) i y 0 (λ z. omega arith) ∙ get_or-set_same out i x 0 (omega arith) ∙ ex)

      watch : (k : ℕ) → k < i + 1 → Dec (k < i) → get_or (set one (32 + i) y) (32 + k) 0 ≡ watched d (k + 1)
      watch k l (yes m) = get_or-set_other one (32 + i) (32 + k) y 0 (λ z. omega arith) ∙ get_or-set_other out i (32 + k) x 0 (λ z. omega arith) ∙ inv.watch k m
      watch k l (no m) =
          let e : i ≡ k = omega arith in
          let n = one_long in
          subst (λ j. get_or (set one (32 + i) y) (32 + j) 0 ≡ watched d (j + 1)) e (get_or-set_same one (32 + i) y 0 (omega arith) ∙ ey)

  sets_reply : (out : List ℕ) (i j x : ℕ) → i ≤ 32 → j < 32 → SetsTo d out i j → x ≡ reply_watched d (j + 1) → SetsTo d (set out (64 + j) x) i (j + 1)
  sets_reply out i j x few small inv ex = record {
    long = length-set out (64 + j) x ∙ inv.long;
    enable = λ k l. get_or-set_other out (64 + j) k x 0 (λ z. omega arith) ∙ inv.enable k l;
    watch = λ k l. get_or-set_other out (64 + j) (32 + k) x 0 (λ z. omega arith) ∙ inv.watch k l;
    reply = λ k l. go k l (dec_lt k j);
  }
    where
      go : (k : ℕ) → k < j + 1 → Dec (k < j) → get_or (set out (64 + j) x) (64 + k) 0 ≡ reply_watched d (k + 1)
      go k l (yes m) = get_or-set_other out (64 + j) (64 + k) x 0 (λ z. omega arith) ∙ inv.reply k m
      go k l (no m) =
          let e : j ≡ k = omega arith in
          let n = inv.long in
          subst (λ i. get_or (set out (64 + j) x) (64 + i) 0 ≡ reply_watched d (i + 1)) e (get_or-set_same out (64 + j) x 0 (omega arith) ∙ ex)

  pub rows_done : (out : List ℕ) (i n : ℕ) → i ≤ n → n ≤ i → SetsTo d out i 0 → SetsTo d out n 0
  rows_done out i n l u inv = let e : i ≡ n = omega arith in subst (λ k. SetsTo d out k 0) e inv

  pub replies_done : (out : List ℕ) (i j n : ℕ) → j ≤ n → n ≤ j → SetsTo d out i j → SetsTo d out i n
  replies_done out i j n l u inv = let e : j ≡ n = omega arith in subst (λ k. SetsTo d out i k) e inv

module _ (f s : List ℕ) (h : Shape) (fits : Fits h) (out : List ℕ) where
  pub row_stored : (i x y : ℕ) → i < h.implementation.rows.count → SetsTo (design_at f s h) out i 0 → x ≡ enabling (design_at f s h) (i + 1)
      → y ≡ watched (design_at f s h) (i + 1) → SetsTo (design_at f s h) (set (set out i x) (32 + i) y) (i + 1) 0
  row_stored i x y l inv ex ey = let few = fits.implementation.rows in sets_row (design_at f s h) out i x y (omega arith) inv ex ey

  pub reply_stored : (j x : ℕ) → j < h.specification.rows.count → SetsTo (design_at f s h) out h.implementation.rows.count j
      → x ≡ reply_watched (design_at f s h) (j + 1) → SetsTo (design_at f s h) (set out (64 + j) x) h.implementation.rows.count (j + 1)
  reply_stored j x l inv ex =
      let few = fits.specification.rows in
      sets_reply (design_at f s h) out h.implementation.rows.count j x fits.implementation.rows (omega arith) inv ex

module _ (f s : List ℕ) (h : Shape) (fits : Fits h) (out : List ℕ) (x : ℕ) where
  pub sets_end : SetsTo (design_at f s h) out h.implementation.rows.count h.specification.rows.count → x ≡ all_of (map_reads (design_at f s h)) → SetsAre (design_at f s h) (set out 96 x)
  sets_end inv ex = record {
    enable = λ i l. let k = impl i l in let few = fits.implementation.rows in get_or-set_other out 96 i x 0 (λ z. omega arith) ∙ inv.enable i k;
    watch = λ i l. let k = impl i l in let few = fits.implementation.rows in get_or-set_other out 96 (32 + i) x 0 (λ z. omega arith) ∙ inv.watch i k;
    reply = λ i l. let k = spec i l in let few = fits.specification.rows in get_or-set_other out 96 (64 + i) x 0 (λ z. omega arith) ∙ inv.reply i k;
    mapping = let n = inv.long in get_or-set_same out 96 x 0 (omega arith) ∙ ex;
  }
    where
      impl : (i : ℕ) → i < length (design_at f s h).impl.rows → i < h.implementation.rows.count
      impl i l = rw (← steps.rows_count f s h.implementation) l

      spec : (i : ℕ) → i < length (design_at f s h).spec.rows → i < h.specification.rows.count
      spec i l = rw (← steps.rows_count f s h.specification) l
