-- What the functions return is what specs/Defined says: a law for each return, and the turns of the loops.
use mathlib.Core.Path.{◌≡◌, refl, sym, ◌∙◌, ap}
use mathlib.Core.Bool.{Bool, true, false, not, ◌&&◌, ◌||◌, cond}
use mathlib.Core.List.{List}
use Prim.Native.Nat.{ℕ, zero, suc, ◌+◌, ◌-◌, ◌≤◌, ◌<◌, min}
use native.Mathlib.Omega.{arith}
use borrow.Author.Tests.{not-true, not-false, eq-eqb, ne_eqb}
use lib.Dec.{eqb}
use lib.ListN.{get_or, drop}
use Rattle.foundation.specs.First.{all_in_range}
use Rattle.foundation.specs.Reflects.{◌⇒◌}
use Rattle.foundation.proofs.All.{all_yes}
use Rattle.terms.specs.Tree.{Formula, eval_f, has_f, has_v}
use Rattle.terms.specs.Read.{read_v, read_f}
use Rattle.terms.proofs.And.{and_left, and_right}
use Rattle.terms.proofs.Read.{place}
use Rattle.eval.specs.Answer.{answer_f as answered_f}
use Rattle.eval.specs.declared.Held.{Held as Answered}
use Rattle.std.specs.Prelude.{Ok, Err, is_ok}
use Rattle.has_value.specs.Answer.{answer_v, answer_f, computed}
use Rattle.has_value.proofs.Laws.{ok_is, computed_is}
use Rattle.has_value.specs.declared.Valued.{Valued}
use Rattle.has_value.specs.declared.Held.{Held}
use Rattle.sum_free.specs.SumFree.{sum_free_f, found_f}
use Rattle.sum_free.specs.declared.Found.{Found}
use Rattle.sum_free.proofs.SumFree.{same_f, same_has_f}
use Rattle.design.specs.Line.{values_in}
use Rattle.design.specs.declared.Shape.{Shape}
use Rattle.marks.specs.Marks.{mark_has_in}
use Rattle.defined.specs.Defined.{have_in, formula_has_in, values_have_in, value_has_in, has_invariant_in, has_mapping_in, has_measure_in, row_at_in, row_has_in, mark_free_in, asks_in}

-- ---- what has a value

module _ {A : Type 0} (h : Bool) (a : A) where
  err_if : (b : A) → cond h (Ok a) (Err a) ≡ Err b → h ≡ false
  err_if b e = sym (ok_is h a) ∙ ap is_ok e

  ok_if : (b : A) → cond h (Ok a) (Err a) ≡ Ok b → (h ≡ true) × (a ≡ b)
  ok_if b e = (sym (ok_is h a) ∙ ap is_ok e, sym (computed_is h a) ∙ ap computed e)

-- ---- n values

module _ (f v : List ℕ) (e at n : ℕ) where
  unfoldable pub have_left : ℕ → ℕ → Bool
  have_left p i = have_in f p (n - i) v e

  pub have_begin : have_left at 0 ≡ have_in f at n v e
  unfolding have_left
  have_begin = let k : n - 0 ≡ n = omega arith in rw k

  have_one : (p i : ℕ) (x : Valued) → i < n → x ≡ answer_v p v e (read_v 32 (drop p f)) → have_left p i ≡ is_ok x.value && have_left x.next (i + 1)
  unfolding have_left have_in values_in
  have_one p i x l said = let k : n - i ≡ suc (n - (i + 1)) = omega arith in rw (k, said, ok_is (has_v (read_v 32 (drop p f)).tree v e) _, place f p _ refl)

  pub have_turn : (p i : ℕ) (x : Valued) (o : Bool) → i < n → x ≡ answer_v p v e (read_v 32 (drop p f)) → is_ok x.value ≡ not o → o ≡ false → have_left p i ≡ have_in f at n v e
      → have_left x.next (i + 1) ≡ have_in f at n v e
  have_turn p i x o l said h z inv = sym (have_one p i x l said ∙ rw (h, z)) ∙ inv

  pub have_fail : (p i : ℕ) (x : Valued) (o : Bool) → i < n → x ≡ answer_v p v e (read_v 32 (drop p f)) → is_ok x.value ≡ not o → o ≡ true → have_left p i ≡ have_in f at n v e
      → false ≡ have_in f at n v e
  have_fail p i x o l said h z inv = sym (have_one p i x l said ∙ rw (h, z)) ∙ inv

  pub have_end : (p i : ℕ) → n ≤ i → have_left p i ≡ have_in f at n v e → true ≡ have_in f at n v e
  unfolding have_left have_in values_in
  have_end p i l inv = (let k : n - i ≡ 0 = omega arith in rw k) ∙ inv

-- ---- invariant, mapping, measure

module _ (f s v : List ℕ) (k line : ℕ) (el : line ≡ get_or s k 0) where
  pub formula_is : (x : Held) (b : Bool) → x ≡ answer_f (line + 1) v 0 (read_f 32 (drop (line + 1) f)) → b ≡ is_ok x.holds → b ≡ formula_has_in f s k v
  unfolding formula_has_in
  formula_is x b ex eb = eb ∙ rw (← el, place f line 1 refl, ex) (ok_is _ _)

  pub values_are : (n : ℕ) (b : Bool) → b ≡ have_in f (line + 1) n v 0 → b ≡ values_have_in f s k n v
  unfolding values_have_in have_in
  values_are n b eb = rw (← el, place f line 1 refl, eb)

  pub value_is : (x : Valued) (b : Bool) → x ≡ answer_v (line + 1) v 0 (read_v 32 (drop (line + 1) f)) → b ≡ is_ok x.value → b ≡ value_has_in f s k v
  unfolding value_has_in
  value_is x b ex eb = eb ∙ rw (← el, place f line 1 refl, ex) (ok_is _ _)

module _ (f s v : List ℕ) (h : Shape) (b : Bool) where
  pub invariant_is : b ≡ formula_has_in f s h.invariant v → b ≡ has_invariant_in f s h v
  unfolding has_invariant_in formula_has_in
  invariant_is e = e

  pub mapping_is : (n : ℕ) → n ≡ h.specification.parameters.count → b ≡ values_have_in f s h.mapping n v → b ≡ has_mapping_in f s h v
  unfolding has_mapping_in values_have_in
  mapping_is n en e = e ∙ rw en

  pub measure_is : b ≡ value_has_in f s h.measure v → b ≡ has_measure_in f s h v
  unfolding has_measure_in value_has_in
  measure_is e = e

-- ---- a row for a sum value

module _ (f v : List ℕ) (line n e : ℕ) (h : Held) (eh : h ≡ answer_f (line + 3) v e (read_f 32 (drop (line + 3) f))) where
  abbrev whole : Bool
  whole = row_at_in f line n v e

  abbrev condition_is : Formula
  condition_is = (read_f 32 (drop (line + 3) f)).tree

  has_is : (x : Valued) → x ≡ answer_v h.next v e (read_v 32 (drop h.next f)) → has_f condition_is v e && (eval_f condition_is v e ⇒ (is_ok x.value && have_in f x.next n v e)) ≡ whole
  unfolding have_in row_at_in
  has_is x ex = rw (ex, eh, ok_is (has_v (read_v 32 (drop (line + 3 + (read_f 32 (drop (line + 3) f)).used) f)).tree v e) _, place f line 3 refl, place f (line + 3) _ refl, place f (line + 3 + _) _ refl)

  lacks : (b : Bool) → h.holds ≡ Err b → has_f condition_is v e ≡ false
  lacks b k = err_if _ _ b (sym (ap (λ (x : Held). x.holds) eh) ∙ k)

  given : (b : Bool) → h.holds ≡ Ok b → (has_f condition_is v e ≡ true) × (eval_f condition_is v e ≡ b)
  given b k = ok_if _ _ b (sym (ap (λ (x : Held). x.holds) eh) ∙ k)

  pub condition_lacks : (b : Bool) → h.holds ≡ Err b → false ≡ whole
  condition_lacks b k = sym (rw (lacks b k)) ∙ has_is _ refl

  pub condition_fails : (b : Bool) → h.holds ≡ Ok b → not b ≡ true → true ≡ whole
  condition_fails b k j = sym (rw ((given b k).0, (given b k).1, not-true b j)) ∙ has_is _ refl

  module _ (x : Valued) (ex : x ≡ answer_v h.next v e (read_v 32 (drop h.next f))) (b : Bool) (k : h.holds ≡ Ok b) (j : not b ≡ false) where
    pub data_lacks : (o : Bool) → is_ok x.value ≡ not o → o ≡ true → false ≡ whole
    data_lacks o l y = sym (rw ((given b k).0, (given b k).1, not-false b j, l, y)) ∙ has_is x ex

    pub row_has : (o r : Bool) → is_ok x.value ≡ not o → o ≡ false → r ≡ have_in f x.next n v e → r ≡ whole
    row_has o r l y er = er ∙ sym (rw ((given b k).0, (given b k).1, not-false b j, l, y)) ∙ has_is x ex

-- ---- its mark

module _ (f v : List ℕ) (at e : ℕ) where
  pub no_mark_lem : at ≡ 0 → true ≡ mark_has_in f at v e
  unfolding mark_has_in
  no_mark_lem z = rw (eq-eqb at 0 z)

  pub some_mark : (x : Held) (b : Bool) → (at ≡ 0 → ⊥) → x ≡ answer_f at v e (read_f 32 (drop at f)) → b ≡ is_ok x.holds → b ≡ mark_has_in f at v e
  unfolding mark_has_in
  some_mark x b z ex eb = eb ∙ rw (ne_eqb at 0 z, ex) (ok_is _ _)

-- ---- how many sum values are asked

module _ (f : List ℕ) (at : ℕ) where
  pub none_free : at ≡ 0 → true ≡ mark_free_in f at
  unfolding mark_free_in
  none_free z = rw z

  pub mark_free : (x : Found) → (at ≡ 0 → ⊥) → x ≡ found_f at (read_f 32 (drop at f)) → x.free ≡ mark_free_in f at
  unfolding mark_free_in
  mark_free x z ex = rw (ne_eqb at 0 z, ex)

module _ (f v : List ℕ) (line at span : ℕ) (c : Answered) (ec : c ≡ answered_f (line + 3) v 0 (read_f 32 (drop (line + 3) f))) where
  abbrev many : ℕ
  many = asks_in f line at span v

  pub asks_on : c.holds ≡ true → span ≡ many
  unfolding asks_in
  asks_on y = rw (sym (ap (λ (x : Answered). x.holds) ec) ∙ y)

  module _ (n : c.holds ≡ false) (x : Found) (ex : x ≡ found_f (line + 3) (read_f 32 (drop (line + 3) f))) where
    off : eval_f (read_f 32 (drop (line + 3) f)).tree v 0 ≡ false
    off = sym (ap (λ (y : Answered). y.holds) ec) ∙ n

    free : x.free ≡ sum_free_f (read_f 32 (drop (line + 3) f)).tree
    free = ap (λ (y : Found). y.free) ex

    pub asks_reading : not x.free ≡ true → span ≡ many
    unfolding asks_in
    asks_reading y = rw (off, ← free, not-true x.free y)

    module _ (y : not x.free ≡ false) (m : Bool) (em : m ≡ mark_free_in f at) where
      pub asks_mark : not m ≡ true → span ≡ many
      unfolding asks_in
      asks_mark z = rw (off, ← free, not-false x.free y, ← em, not-true m z)

      pub asks_one : not m ≡ false → (r : ℕ) → r ≡ min span 1 → r ≡ many
      unfolding asks_in
      asks_one z r er = er ∙ rw (off, ← free, not-false x.free y, ← em, not-false m z)

-- what is the same for all sum values need be asked for one
all_same : (g : ℕ → Bool) (n : ℕ) → ((e : ℕ) → g e ≡ g 0) → all_in_range g (min n 1) 0 ≡ all_in_range g n 0
unfolding all_in_range
all_same g zero h = refl
all_same g (suc n) h = go (g 0) refl
  where
    one : min (suc n) 1 ≡ 1
    one = omega arith

    go : (b : Bool) → g 0 ≡ b → all_in_range g (min (suc n) 1) 0 ≡ all_in_range g (suc n) 0
    go true e = rw (one, e) (sym (all_yes g (λ i. h i ∙ e) n 1))
    go false e = rw (one, e)

module _ (f v : List ℕ) (line n at span : ℕ) where
  abbrev condition : Formula
  condition = (read_f 32 (drop (line + 3) f)).tree

  abbrev test : Bool
  test = not (eval_f condition v 0) && (sum_free_f condition && mark_free_in f at)

  same_mark : mark_free_in f at ≡ true → (e : ℕ) → mark_has_in f at v e ≡ mark_has_in f at v 0
  unfolding mark_free_in mark_has_in
  same_mark h e = go (eqb at 0) h
    where
      go : (b : Bool) → b || sum_free_f (read_f 32 (drop at f)).tree ≡ true → b || has_f (read_f 32 (drop at f)).tree v e ≡ b || has_f (read_f 32 (drop at f)).tree v 0
      go true k = refl
      go false k = same_has_f (read_f 32 (drop at f)).tree v e 0 k

  same_row : eval_f condition v 0 ≡ false → sum_free_f condition ≡ true → (e : ℕ) → row_at_in f line n v e ≡ row_at_in f line n v 0
  unfolding row_at_in
  same_row off free e = rw (place f line 3 refl, same_f condition v e 0 free, off, same_has_f condition v e 0 free)

  pub asked_enough : (k : ℕ) (r : Bool) → k ≡ asks_in f line at span v → r ≡ row_has_in f line n at k v → r ≡ row_has_in f line n at span v
  unfolding asks_in row_has_in
  asked_enough k r ek er = er ∙ ap (λ m. all_in_range g m 0) ek ∙ go test refl
    where
      g : ℕ → Bool
      g e = row_at_in f line n v e && mark_has_in f at v e

      go : (b : Bool) → test ≡ b → all_in_range g (cond b (min span 1) span) 0 ≡ all_in_range g span 0
      go true e =
          let off = not-true (eval_f condition v 0) (and_left (not (eval_f condition v 0)) (sum_free_f condition && mark_free_in f at) e) in
          let rest = and_right (not (eval_f condition v 0)) (sum_free_f condition && mark_free_in f at) e in
          let free = and_left (sum_free_f condition) (mark_free_in f at) rest in
          let marked = and_right (sum_free_f condition) (mark_free_in f at) rest in
          all_same g span (λ i. rw (same_row off free i, same_mark marked i))
      go false e = refl
