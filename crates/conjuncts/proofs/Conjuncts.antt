-- A condition holds exactly if the conjuncts in front of it and its rest do. Where the conjuncts do not read the sum value they may be
-- evaluated for 0. And the laws of the two loops that count and evaluate them.
use mathlib.Core.Path.{◌≡◌, refl, sym, ◌∙◌, ap, subst}
use mathlib.Core.Bool.{Bool, true, false, not, ◌&&◌, true≢false, cond}
use mathlib.Core.List.{List}
use Prim.Native.Nat.{ℕ, zero, suc, ◌+◌, ◌-◌, ◌≤◌, ◌<◌}
use native.Mathlib.Numerals.{sub-one}
use native.Mathlib.Omega.{arith}
use borrow.Author.Tests.{not-true, not-false, eqb-true, ltb-true, ne_eqb, lt-ltb, le-ltb}
use lib.Dec.{eqb, ltb, eqb-suc-zero}
use lib.ListN.{length, get_or, drop}
use Rattle.terms.specs.Tree.{eval_f}
use Rattle.terms.specs.Mark.{formula_mark}
use Rattle.terms.specs.Read.{read_f}
use Rattle.terms.proofs.Read.{step_f, place}
use Rattle.terms.proofs.And.{and_left, and_right}
use Rattle.eval.specs.Answer.{answer_f}
use Rattle.eval.specs.declared.Held.{Held}
use Rattle.sum_free.specs.SumFree.{found_f, sum_free_f}
use Rattle.sum_free.specs.declared.Found.{Found}
use Rattle.sum_free.proofs.SumFree.{same_f}
use Rattle.conjuncts.specs.Conjuncts.{is_and, front_of, conjunct_in, after, guard_in}
use Rattle.std.specs.Prelude.{Some, None}
use Rattle.std.specs.declared.option.Option.{Option}
use Rattle.conjuncts.specs.declared.Conjunct.{Conjunct}
use Rattle.conjuncts.specs.declared.Guarded.{Guarded}

-- ---- a conjunction, where it stands

module _ (f : List ℕ) (at d : ℕ) where
  is_and_lem : (d ≡ 0 → ⊥) → at < length f → get_or f at 0 ≡ 15 → is_and f at d ≡ true
  unfolding is_and
  is_and_lem p l e = rw (ne_eqb d 0 p, lt-ltb at (length f) l, e)

  not_and_past : length f ≤ at → is_and f at d ≡ false
  unfolding is_and
  not_and_past l = rw (le-ltb at (length f) l) (and-false (not (eqb d 0)))
    where
      and-false : (b : Bool) → b && false ≡ false
      and-false true = refl
      and-false false = refl

  not_and_mark : (get_or f at 0 ≡ 15 → ⊥) → is_and f at d ≡ false
  unfolding is_and
  not_and_mark p = rw (ne_eqb (get_or f at 0) 15 p) (and-false (not (eqb d 0)) (ltb at (length f)))
    where
      and-false : (b a : Bool) → b && (a && false) ≡ false
      and-false true true = refl
      and-false true false = refl
      and-false false a = refl

  not_and_shallow : d ≡ 0 → is_and f at d ≡ false
  unfolding is_and
  not_and_shallow e = rw e

  -- what is read there
  and_read : is_and f at (suc d) ≡ true
      → (v : List ℕ) (e : ℕ) → let a = read_f d (drop (at + 1) f) in let b = read_f d (drop (at + 1 + a.used) f) in
      (eval_f (read_f (suc d) (drop at f)).tree v e ≡ eval_f a.tree v e && eval_f b.tree v e) × (at + (read_f (suc d) (drop at f)).used ≡ at + 1 + a.used + b.used)
  unfolding is_and formula_mark eval_f
  and_read h v e =
      let deep : not (eqb (suc d) 0) ≡ true = ap not (eqb-suc-zero d) in
      let rest : ltb at (length f) && eqb (get_or f at 0) 15 ≡ true = and_right (not (eqb (suc d) 0)) _ h in
      let inside : at < length f = ltb-true at (length f) (and_left (ltb at (length f)) _ rest) in
      let mark : get_or f at 0 ≡ 15 = eqb-true (get_or f at 0) 15 (and_right (ltb at (length f)) _ rest) in (
        rw (step_f f at (suc d) (omega arith) inside, mark, sub-one, place f (at + 1) _ refl),
        rw (step_f f at (suc d) (omega arith) inside, mark, sub-one, place f (at + 1) _ refl) (omega arith),
      )

-- ---- the law

-- what a guard says of the condition at a place: it holds if the guard and the rest do, and the rest ends where the condition does
pub record Guards (f v : List ℕ) (at d : ℕ) (g : Guarded) (e : ℕ) : Type 0 where
  pub says : eval_f (read_f d (drop at f)).tree v e ≡ g.holds && eval_f (read_f g.depth (drop g.at f)).tree v e
  pub ends : g.holds ≡ true → at + (read_f d (drop at f)).used ≡ g.at + (read_f g.depth (drop g.at f)).used

pub guards : (f v : List ℕ) (e d at : ℕ) → Guards f v at d (guard_in f v 0 (front_of f at d) at d) e
unfolding front_of guard_in conjunct_in
guards f v e zero at = record { says = refl; ends = λ h. refl }
guards f v e (suc d) at = go (is_and f at (suc d)) refl (found_f (at + 1) (read_f d (drop (at + 1) f))).free refl (guards f v e d (at + 1 + (read_f d (drop (at + 1) f)).used))
  where
    left : ℕ
    left = at + 1 + (read_f d (drop (at + 1) f)).used

    go : (b : Bool) → is_and f at (suc d) ≡ b → (c : Bool) → sum_free_f (read_f d (drop (at + 1) f)).tree ≡ c
        → Guards f v left d (guard_in f v 0 (front_of f left d) left d) e
        → Guards f v at (suc d) (guard_in f v 0 (cond (b && c) (suc (front_of f left d)) 0) at (suc d)) e
    go false h c k ih = record { says = refl; ends = λ z. refl }
    go true h false k ih = record { says = refl; ends = λ z. refl }
    go true h true k ih = subst (λ g. Guards f v at (suc d) g e) (sym opened) (by (eval_f (read_f d (drop (at + 1) f)).tree v 0) refl)
      where
        m : ℕ
        m = front_of f left d

        off : Guarded
        off = record { holds = false; at = at; depth = suc d }

        opened : guard_in f v 0 (suc m) at (suc d) ≡ cond (eval_f (read_f d (drop (at + 1) f)).tree v 0) (guard_in f v 0 m left d) off
        opened = rw (h, sub-one)

        here : (x : Bool) → eval_f (read_f d (drop (at + 1) f)).tree v 0 ≡ x → eval_f (read_f d (drop (at + 1) f)).tree v e ≡ x
        here x ex = same_f (read_f d (drop (at + 1) f)).tree v e 0 k ∙ ex

        by : (x : Bool) → eval_f (read_f d (drop (at + 1) f)).tree v 0 ≡ x → Guards f v at (suc d) (cond x (guard_in f v 0 m left d) off) e
        by true ex = record { says = (and_read f at d h v e).0 ∙ rw (here true ex) ih.says; ends = λ z. (and_read f at d h v e).1 ∙ ih.ends z }
        by false ex = record { says = (and_read f at d h v e).0 ∙ rw (here false ex); ends = λ z. absurd (true≢false (sym z)) }

-- any number of conjuncts, evaluated for the sum value itself
pub guards_any : (f v : List ℕ) (e n d at : ℕ) → Guards f v at d (guard_in f v e n at d) e
unfolding guard_in conjunct_in is_and
guards_any f v e zero d at = record { says = refl; ends = λ h. refl }
guards_any f v e (suc n) zero at = record { says = refl; ends = λ h. refl }
guards_any f v e (suc n) (suc d) at = go (is_and f at (suc d)) refl (guards_any f v e n d (at + 1 + (read_f d (drop (at + 1) f)).used))
  where
    left : ℕ
    left = at + 1 + (read_f d (drop (at + 1) f)).used

    off : Guarded
    off = record { holds = false; at = at; depth = suc d }

    go : (b : Bool) → is_and f at (suc d) ≡ b → Guards f v left d (guard_in f v e n left d) e → Guards f v at (suc d) (guard_in f v e (suc n) at (suc d)) e
    go false h ih = subst (λ g. Guards f v at (suc d) g e) (sym closed) (record { says = refl; ends = λ z. refl })
      where
        closed : guard_in f v e (suc n) at (suc d) ≡ record { holds = true; at = at; depth = suc d }
        closed = rw h
    go true h ih = subst (λ g. Guards f v at (suc d) g e) (sym opened) (by (eval_f (read_f d (drop (at + 1) f)).tree v e) refl)
      where
        opened : guard_in f v e (suc n) at (suc d) ≡ cond (eval_f (read_f d (drop (at + 1) f)).tree v e) (guard_in f v e n left d) off
        opened = rw (h, sub-one)

        by : (x : Bool) → eval_f (read_f d (drop (at + 1) f)).tree v e ≡ x → Guards f v at (suc d) (cond x (guard_in f v e n left d) off) e
        by true ex = record { says = (and_read f at d h v e).0 ∙ rw ex ih.says; ends = λ z. (and_read f at d h v e).1 ∙ ih.ends z }
        by false ex = record { says = (and_read f at d h v e).0 ∙ rw ex; ends = λ z. absurd (true≢false (sym z)) }

-- ---- whether a formula holds

module _ (f v : List ℕ) (e at : ℕ) (g : Guarded) (eg : g ≡ guard_in f v e 32 at 32) where
  whole_is : eval_f (read_f 32 (drop at f)).tree v e ≡ g.holds && eval_f (read_f g.depth (drop g.at f)).tree v e
  whole_is = rw eg (guards_any f v e 32 32 at).says

  pub fails_in_front : not g.holds ≡ true → false ≡ eval_f (read_f 32 (drop at f)).tree v e
  fails_in_front h = sym (whole_is ∙ rw (not-true g.holds h))

  pub by_the_rest : (x : Held) → not g.holds ≡ false → x ≡ answer_f g.at v e (read_f g.depth (drop g.at f)) → x.holds ≡ eval_f (read_f 32 (drop at f)).tree v e
  by_the_rest x h ex = rw ex (sym (whole_is ∙ rw (not-false g.holds h)))

-- ---- the loop that counts them

at_the_end : (f : List ℕ) (p d n : ℕ) → d ≡ 0 → n ≡ n + front_of f p d
unfolding front_of
at_the_end f p d n z = rw z (omega arith)

-- where there is no conjunction, or one whose first part reads the sum value, there are no more; else one more
module _ (f : List ℕ) (p d n : ℕ) where
  ended : is_and f p (suc d) ≡ false → n ≡ n + front_of f p (suc d)
  unfolding front_of
  ended h = rw h (omega arith)

  module _ (x : Found) (a : is_and f p (suc d) ≡ true) (ex : x ≡ found_f (p + 1) (read_f d (drop (p + 1) f))) where
    reads : x.free ≡ false → n ≡ n + front_of f p (suc d)
    unfolding front_of
    reads h = let k : sum_free_f (read_f d (drop (p + 1) f)).tree ≡ false = sym (ap (λ y. y.free) ex) ∙ h in rw (a, k) (omega arith)

    turns : x.free ≡ true → n + 1 + front_of f x.next d ≡ n + front_of f p (suc d)
    unfolding front_of
    turns h =
        let k : sum_free_f (read_f d (drop (p + 1) f)).tree ≡ true = sym (ap (λ y. y.free) ex) ∙ h in
        let q : x.next ≡ p + 1 + (read_f d (drop (p + 1) f)).used = ap (λ y. y.next) ex in
        rw (a, k, q) (omega arith)

module _ (f : List ℕ) (at : ℕ) where
  unfoldable pub front_left : ℕ → ℕ → ℕ → ℕ
  front_left p d n = n + front_of f p d

  pub front_begin : front_left at (32 - 0) 0 ≡ front_of f at 32
  unfolding front_left
  front_begin = omega arith

  -- n are counted, and so deep the rest may be
  module _ (p n : ℕ) (few : n < 32) (inv : front_left p (32 - n) n ≡ front_of f at 32) where
    deep : 0 < 32 - n
    deep = omega arith

    none : is_and f p (32 - n) ≡ false → n ≡ front_of f at 32
    unfolding front_left
    none h = go (32 - n) deep h inv
      where
        go : (d : ℕ) → 0 < d → is_and f p d ≡ false → front_left p d n ≡ front_of f at 32 → n ≡ front_of f at 32
        go zero l h i = absurd (omega arith)
        go (suc d) l h i = ended f p d n h ∙ i

    pub front_past : length f ≤ p → n ≡ front_of f at 32
    front_past l = none (not_and_past f p (32 - n) l)

    pub front_other : (get_or f p 0 ≡ 15 → ⊥) → n ≡ front_of f at 32
    front_other h = none (not_and_mark f p (32 - n) h)

    module _ (x : Found) (inside : p < length f) (mark : get_or f p 0 ≡ 15) (ex : x ≡ found_f (p + 1) (read_f (32 - n - 1) (drop (p + 1) f))) where
      pub front_reads : not x.free ≡ true → n ≡ front_of f at 32
      unfolding front_left
      front_reads h = go (32 - n) deep (is_and_lem f p (32 - n) (λ z. omega arith) inside mark) ex inv
        where
          go : (d : ℕ) → 0 < d → is_and f p d ≡ true → x ≡ found_f (p + 1) (read_f (d - 1) (drop (p + 1) f)) → front_left p d n ≡ front_of f at 32 → n ≡ front_of f at 32
          go zero l a e i = absurd (omega arith)
          go (suc d) l a e i = reads f p d n x a (e ∙ rw sub-one) (not-true x.free h) ∙ i

      pub front_turn : not x.free ≡ false → front_left x.next (32 - (n + 1)) (n + 1) ≡ front_of f at 32
      unfolding front_left
      front_turn h =
          let less : 32 - (n + 1) ≡ 32 - n - 1 = omega arith in
          rw less (go (32 - n) deep (is_and_lem f p (32 - n) (λ z. omega arith) inside mark) ex inv)
        where
          go : (d : ℕ) → 0 < d → is_and f p d ≡ true → x ≡ found_f (p + 1) (read_f (d - 1) (drop (p + 1) f)) → front_left p d n ≡ front_of f at 32 → front_left x.next (d - 1) (n + 1) ≡ front_of f at 32
          go zero l a e i = absurd (omega arith)
          go (suc d) l a e i = rw sub-one (turns f p d n x a (e ∙ rw sub-one) (not-false x.free h) ∙ i)

  pub front_end : (p n : ℕ) → n ≤ 32 → 32 ≤ n → front_left p (32 - n) n ≡ front_of f at 32 → 32 ≡ front_of f at 32
  unfolding front_left
  front_end p n l h inv = let z : n ≡ 32 = omega arith in sym z ∙ at_the_end f p (32 - n) n (omega arith) ∙ inv

-- ---- the loop that evaluates them

module _ (f v : List ℕ) (e p d : ℕ) where
  pub conjunct_shallow : d ≡ 0 → None ≡ conjunct_in f v e p d
  unfolding conjunct_in
  conjunct_shallow h = rw (not_and_shallow f p d h)

  pub conjunct_past : length f ≤ p → None ≡ conjunct_in f v e p d
  unfolding conjunct_in
  conjunct_past h = rw (not_and_past f p d h)

  pub conjunct_other : (get_or f p 0 ≡ 15 → ⊥) → None ≡ conjunct_in f v e p d
  unfolding conjunct_in
  conjunct_other h = rw (not_and_mark f p d h)

  pub conjunct_is : (x : Held) → (d ≡ 0 → ⊥) → p < length f → get_or f p 0 ≡ 15 → x ≡ answer_f (p + 1) v e (read_f (d - 1) (drop (p + 1) f))
      → Some (record { holds = x.holds; next = x.next; depth = d - 1 }) ≡ conjunct_in f v e p d
  unfolding conjunct_in
  conjunct_is x deep inside mark ex = rw (is_and_lem f p d deep inside mark, ex)

module _ (f v : List ℕ) (e at n : ℕ) where
  abbrev whole : Guarded
  whole = guard_in f v e n at 32

  unfoldable pub guard_left : ℕ → ℕ → ℕ → Guarded
  guard_left p d i = guard_in f v e (n - i) p d

  pub guard_begin : guard_left at 32 0 ≡ whole
  unfolding guard_left
  guard_begin = let z : n - 0 ≡ n = omega arith in rw z

  module _ (p d i : ℕ) (x : Option Conjunct) (l : i < n) (ex : x ≡ conjunct_in f v e p d) (inv : guard_left p d i ≡ whole) where
    goes : guard_left p d i
        ≡ after x (λ c. cond c.holds (guard_left c.next c.depth (i + 1)) (record { holds = false; at = p; depth = d })) (record { holds = true; at = p; depth = d })
    unfolding guard_left guard_in
    goes = let z : n - i ≡ suc (n - (i + 1)) = omega arith in rw (z, ← ex)

    pub guard_none : x ≡ None → record { holds = true; at = p; depth = d } ≡ whole
    guard_none h = sym (goes ∙ rw h) ∙ inv

    module _ (c : Conjunct) (ec : x ≡ Some c) where
      pub guard_off : not c.holds ≡ true → record { holds = false; at = p; depth = d } ≡ whole
      guard_off h = sym (goes ∙ rw (ec, not-true c.holds h)) ∙ inv

      pub guard_turn : not c.holds ≡ false → guard_left c.next c.depth (i + 1) ≡ whole
      guard_turn h = sym (goes ∙ rw (ec, not-false c.holds h)) ∙ inv

  pub guard_end : (p d i : ℕ) → n ≤ i → guard_left p d i ≡ whole → record { holds = true; at = p; depth = d } ≡ whole
  unfolding guard_left guard_in
  guard_end p d i l inv = go ∙ inv
    where
      go : record { holds = true; at = p; depth = d } ≡ guard_left p d i
      go = let z : n - i ≡ 0 = omega arith in rw z
