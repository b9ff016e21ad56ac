-- What the functions return, as specs/Recall says it, and the turns of their loops.
use mathlib.Core.Path.{◌≡◌, refl, ◌∙◌}
use mathlib.Core.Bool.{Bool, true, false, not}
use mathlib.Core.List.{List}
use Prim.Native.Nat.{ℕ, ◌+◌}
use native.Mathlib.Omega.{arith}
use borrow.Author.Tests.{not-true, not-false, eq-eqb, ne_eqb}
use lib.Bits.{bit_and, bit_or}
use lib.ListN.{get_or, drop, set}
use Rattle.terms.specs.Read.{read_f}
use Rattle.eval.specs.Answer.{answer_f}
use Rattle.eval.specs.declared.Held.{Held}
use Rattle.design.specs.declared.Shape.{Shape}
use Rattle.steps.specs.Arrays.{line_of, measure_in}
use Rattle.conjuncts.specs.Conjuncts.{guard_in}
use Rattle.conjuncts.specs.declared.Guarded.{Guarded}
use Rattle.row_plan.specs.RowPlan.{row_plan_at}
use Rattle.row_plan.specs.declared.RowPlan.{RowPlan}
use Rattle.state_passes.specs.Passes.{impl_between, spec_between}
use Rattle.std.specs.Prelude.{Option, Some, is_some, unwrap_or}
use Rattle.std.specs.Int.{from_bool}
use Rattle.reads.specs.Reads.{differ}
use Rattle.recall.specs.Recall.{since, idle_in, look_inside, loud_of, noted_in, row_passes_in, reply_noted_in, reply_passes_in}
use Rattle.recall.specs.declared.Look.{Look}

-- ---- a row that is not enabled

module _ (f s p v : List ℕ) (h : Shape) (i line n : ℕ) (g : Guarded) (el : line ≡ line_of s h.implementation (i + 1)) (en : n ≡ (row_plan_at p i).front)
    (eg : g ≡ guard_in f v 0 n (line + 3) 32) where
  pub idle_front : not g.holds ≡ true → true ≡ idle_in f s h p i v
  unfolding idle_in
  idle_front y = rw (← en, ← el, ← eg, not-true g.holds y)

  module _ (e : RowPlan) (y : not g.holds ≡ false) (ee : e ≡ row_plan_at p i) where
    pub idle_unknown : not e.free ≡ true → false ≡ idle_in f s h p i v
    unfolding idle_in
    idle_unknown z = rw (← en, ← el, ← eg, not-false g.holds y, ← ee, not-true e.free z)

    pub idle_rest : (o : Held) → not e.free ≡ false → o ≡ answer_f g.at v 0 (read_f g.depth (drop g.at f)) → not o.holds ≡ idle_in f s h p i v
    unfolding idle_in
    idle_rest o z eo = rw (← en, ← el, ← eg, not-false g.holds y, ← ee, not-false e.free z, eo)

-- ---- a look

module _ (f s p sets v t : List ℕ) (h : Shape) (i : ℕ) (b : Bool) (eb : b ≡ idle_in f s h p i v) where
  pub look_idle : b ≡ true → record { seen = Some true; watch = get_or sets i 0 } ≡ look_inside f s h p sets i v t
  unfolding look_inside
  look_idle y = rw (← eb, y)

  pub look_seen : (m : ℕ) (r : Option Bool) → b ≡ false → m ≡ measure_in f s h v → r ≡ impl_between f s h p i (i + 1) v t m
      → record { seen = r; watch = get_or sets (32 + i) 0 } ≡ look_inside f s h p sets i v t
  unfolding look_inside
  look_seen m r y em er = rw (← eb, y, ← em, er)

-- ---- a row

module _ (f s p sets v t watch : List ℕ) (h : Shape) (changed i : ℕ) where
  pub kept_passes : bit_and (get_or watch i 0) changed ≡ 0 → true ≡ row_passes_in f s h p sets changed i v t watch
  unfolding row_passes_in
  kept_passes z = rw (eq-eqb (bit_and (get_or watch i 0) changed) 0 z)

  pub kept_noted : bit_and (get_or watch i 0) changed ≡ 0 → watch ≡ noted_in f s h p sets changed i v t watch
  unfolding noted_in
  kept_noted z = rw (eq-eqb (bit_and (get_or watch i 0) changed) 0 z)

  module _ (n : bit_and (get_or watch i 0) changed ≡ 0 → ⊥) (r : Look) (er : r ≡ look_inside f s h p sets i v t) where
    pub seen_passes : (b : Bool) → b ≡ is_some r.seen → b ≡ row_passes_in f s h p sets changed i v t watch
    unfolding row_passes_in
    seen_passes b eb = eb ∙ rw (ne_eqb (bit_and (get_or watch i 0) changed) 0 n, er)

    as_flag : (q : Bool) → from_bool (not q) ≡ loud_of q
    as_flag true = refl
    as_flag false = refl

    pub seen_noted : (q : Bool) (x : ℕ) → q ≡ unwrap_or r.seen false → x ≡ from_bool (not q) → set (set watch i r.watch) (65 + i) x ≡ noted_in f s h p sets changed i v t watch
    unfolding noted_in
    seen_noted q x eq ex = rw (ne_eqb (bit_and (get_or watch i 0) changed) 0 n, ← er, ex, as_flag q, eq)

-- ---- a reply

module _ (f s p sets v t watch : List ℕ) (h : Shape) (changed i : ℕ) (quiet : Bool) where
  pub reply_kept : bit_and (get_or watch (32 + i) 0) changed ≡ 0 → true ≡ reply_passes_in f s h p changed quiet i v t watch
  unfolding reply_passes_in
  reply_kept z = rw (eq-eqb (bit_and (get_or watch (32 + i) 0) changed) 0 z)

  pub reply_noted : bit_and (get_or watch (32 + i) 0) changed ≡ 0 → watch ≡ reply_noted_in sets changed quiet i watch
  unfolding reply_noted_in
  reply_noted z = rw (eq-eqb (bit_and (get_or watch (32 + i) 0) changed) 0 z)

  module _ (n : bit_and (get_or watch (32 + i) 0) changed ≡ 0 → ⊥) where
    pub reply_passed : not quiet ≡ true → true ≡ reply_passes_in f s h p changed quiet i v t watch
    unfolding reply_passes_in
    reply_passed z = rw (ne_eqb (bit_and (get_or watch (32 + i) 0) changed) 0 n, not-true quiet z)

    pub reply_forgotten : not quiet ≡ true → set watch (32 + i) 256 ≡ reply_noted_in sets changed quiet i watch
    unfolding reply_noted_in
    reply_forgotten z = rw (ne_eqb (bit_and (get_or watch (32 + i) 0) changed) 0 n, not-true quiet z)

    pub reply_seen : (b : Bool) → not quiet ≡ false → b ≡ spec_between f s h p i (i + 1) v t → b ≡ reply_passes_in f s h p changed quiet i v t watch
    unfolding reply_passes_in
    reply_seen b z eb = rw (ne_eqb (bit_and (get_or watch (32 + i) 0) changed) 0 n, not-false quiet z, eb)

    pub reply_written : not quiet ≡ false → set watch (32 + i) (get_or sets (32 + (32 + i)) 0) ≡ reply_noted_in sets changed quiet i watch
    unfolding reply_noted_in
    reply_written z = let e : 32 + (32 + i) ≡ 64 + i = omega arith in rw (ne_eqb (bit_and (get_or watch (32 + i) 0) changed) 0 n, not-false quiet z, e)

-- ---- what changed

pub since_is : (last v : List ℕ) (m : ℕ) → m ≡ differ last v → bit_or 256 m ≡ since last v
unfolding since
since_is last v m e = rw e
