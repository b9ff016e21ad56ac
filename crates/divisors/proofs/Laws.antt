-- What the functions return is what their contracts say: a law for each place where they return and the check does not see it, its premises what
-- the code knows there. The laws of what is looked for are in Divisors.
use mathlib.Core.Path.{◌≡◌, refl, sym, ◌∙◌, ap}
use mathlib.Core.Bool.{Bool, true, false, ◌&&◌, ◌||◌, cond}
use mathlib.Core.List.{List}
use Prim.Native.Nat.{ℕ, zero, suc, ◌+◌, ◌*◌, ◌/◌, ◌%◌, ◌^◌, ◌<◌, ◌≤◌}
use native.Mathlib.Omega.{arith}
use borrow.Author.Tests.{eq-eqb, ne_eqb}
use lib.Bits.{bit_or, and_le_l, or_zero_r}
use lib.Dec.{eqb, ltb}
use lib.ListN.{get_or}
use Rattle.terms.specs.Tree as tree
use Rattle.terms.specs.Tree.{Value, Formula}
use Rattle.terms.specs.declared.Arith.{Arith}
use Rattle.terms.specs.declared.Arith.TheVariants.{Sum, Difference, Remainder}
use Rattle.terms.specs.declared.Compare.{Compare}
use Rattle.terms.specs.declared.Compare.TheVariants.{Equal, Less}
use Rattle.terms.specs.declared.Join.{Join}
use Rattle.terms.specs.declared.Join.TheVariants.{And, Or}
use Rattle.divisors.specs.Divisors.{nothing, other, small_to, small_at, so_to, so_at, agree, both, common, spared, most_v, leaf_v, named_v, zero_v, yes_f, known_of, operation_known, guards_of, comparison_guards, join_guards}
use Rattle.divisors.specs.declared.Known.{Known}
use Rattle.divisors.specs.declared.Guards.{Guards}

-- ---- the numbers

module _ (ps : List ℕ) where
  pub small_begin : true ≡ small_to 0 ps
  unfolding small_to
  small_begin = refl

  pub small_turn : (i x : ℕ) (z : Bool) → x ≡ get_or ps i 0 → z ≡ small_to i ps → z && ltb x 32768 ≡ small_to (i + 1) ps
  unfolding small_to
  small_turn i x z ex ez = let e : suc i ≡ i + 1 = omega arith in rw (ex, ez) (ap (λ n. small_to n ps) e)

  pub small_end : (i : ℕ) (z : Bool) → i ≤ 8 → 8 ≤ i → z ≡ small_to i ps → z ≡ small_at ps
  small_end i z l h ez = let e : i ≡ 8 = omega arith in rw (← e) ez

pub being_0 : (i : ℕ) → i < 8 → 2 * 2 ^ i % 4294967296 ≡ 2 ^ (i + 1)
being_0 zero l = refl
being_0 (suc zero) l = refl
being_0 (suc (suc zero)) l = refl
being_0 (suc (suc (suc zero))) l = refl
being_0 (suc (suc (suc (suc zero)))) l = refl
being_0 (suc (suc (suc (suc (suc zero))))) l = refl
being_0 (suc (suc (suc (suc (suc (suc zero)))))) l = refl
being_0 (suc (suc (suc (suc (suc (suc (suc zero))))))) l = refl
being_0 (suc (suc (suc (suc (suc (suc (suc (suc i)))))))) l = omega arith

module _ (ps : List ℕ) where
  pub so_small : (small : Bool) (z : ℕ) → small ≡ small_at ps → small ≡ true → z ≡ 512 → z ≡ so_to 0 ps
  unfolding so_to
  so_small small z es e ez = ez ∙ rw (← es, e)

  pub so_large : (small : Bool) (z : ℕ) → small ≡ small_at ps → small ≡ false → z ≡ bit_or 512 1 → z ≡ so_to 0 ps
  unfolding so_to
  so_large small z es e ez = ez ∙ rw (← es, e)

  pub so_zero : (i y z x one : ℕ) → x ≡ get_or ps i 0 → x ≡ 0 → one ≡ 2 ^ (i + 1) → y ≡ so_to i ps → z ≡ bit_or y one → z ≡ so_to (i + 1) ps
  unfolding so_to
  so_zero i y z x one ex e0 eo ey ez = let e : suc i ≡ i + 1 = omega arith in ez ∙ (rw (eo, ey) (go ∙ ap (λ n. so_to n ps) e))
    where
      go : bit_or (so_to i ps) (2 ^ (i + 1)) ≡ so_to (suc i) ps
      go = rw (eq-eqb (get_or ps i 0) 0 (sym ex ∙ e0))

  pub so_other : (i y z x : ℕ) → x ≡ get_or ps i 0 → (x ≡ 0 → ⊥) → y ≡ so_to i ps → z ≡ y → z ≡ so_to (i + 1) ps
  unfolding so_to
  so_other i y z x ex n ey ez = let e : suc i ≡ i + 1 = omega arith in ez ∙ (ey ∙ (go ∙ ap (λ n. so_to n ps) e))
    where
      go : so_to i ps ≡ so_to (suc i) ps
      go = rw (ne_eqb (get_or ps i 0) 0 (λ q. n (ex ∙ q))) (sym (or_zero_r (so_to i ps)))

  pub so_end : (i z : ℕ) → i ≤ 8 → 8 ≤ i → z ≡ so_to i ps → z ≡ so_at ps
  so_end i z l h ez = let e : i ≡ 8 = omega arith in rw (← e) ez

-- ---- two sets

module _ (a b : ℕ) where
  pub both_first : b ≡ 0 → a ≡ both a b
  unfolding both agree
  both_first e = rw (e, or_zero_r a) (go (eqb (a / 1024) 0))
    where
      go : (c : Bool) → a ≡ bit_or a (cond (c || true) 0 other)
      go true = sym (or_zero_r a)
      go false = sym (or_zero_r a)

  pub both_agree : (c : Bool) → c ≡ agree a b → c ≡ true → bit_or a b ≡ both a b
  unfolding both
  both_agree c e h = rw (← e, h) (sym (or_zero_r (bit_or a b)))

  pub both_not : (c : Bool) → c ≡ agree a b → c ≡ false → bit_or (bit_or a b) other ≡ both a b
  unfolding both
  both_not c e h = rw (← e, h)

  module _ (k : ℕ) (ek : k ≡ common a b) where
    -- a set has no more than itself in common with another
    pub common_below : k ≤ a
    unfolding common
    common_below = rw ek (and_le_l a _)

-- ---- branches

pub branches_safe : (a b : ℕ) → a ≡ 0 → b ≡ 0 → (y n : ℕ) → nothing ≡ both (spared a y) (spared b n)
unfolding both agree spared common
branches_safe a b ea eb y n = rw (ea, eb)

-- ---- what is known of an operation, and what comparisons and connectives say, by what is known of their parts

pub operation_is : (o : Arith) (x y : Value) (a b r : Known) → a ≡ known_of x → b ≡ known_of y → r ≡ operation_known o a b → r ≡ known_of (tree.arith o x y)
unfolding zero_v most_v named_v leaf_v
operation_is Sum x y a b r ea eb er = er ∙ rw (ea, eb)
operation_is Difference x y a b r ea eb er = er ∙ rw (ea, eb)
operation_is Remainder x y a b r ea eb er = er ∙ rw (ea, eb)

pub comparison_is : (o : Compare) (x y : Value) (a b : Known) (r : Guards) → a ≡ known_of x → b ≡ known_of y → r ≡ comparison_guards o a b → r ≡ guards_of (tree.compare o x y)
unfolding yes_f
comparison_is Equal x y a b r ea eb er = er ∙ rw (ea, eb)
comparison_is Less x y a b r ea eb er = er ∙ rw (ea, eb)

pub connective_is : (o : Join) (x y : Formula) (f g r : Guards) → f ≡ guards_of x → g ≡ guards_of y → r ≡ join_guards o f g → r ≡ guards_of (tree.join o x y)
unfolding yes_f
connective_is And x y f g r ef eg er = er ∙ rw (ef, eg)
connective_is Or x y f g r ef eg er = er ∙ rw (ef, eg)
