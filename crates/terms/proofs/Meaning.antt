-- What a term means is what is computed: eval_v and eval_f where has_v and has_f say so, and nothing elsewhere.
use Rattle.std.proofs.Common.{◌≡◌, ℕ, Bool, true, false, cond, ◌&&◌, List, sym, refl, ap, ◌∙◌}
use mathlib.Core.Option.{Option, some, none}
use native.Mathlib.Omega as omegas
use Rattle.terms.specs.Tree.{Value, Formula, num, par, sum_value, arith, choice, const, compare, negation, join, no_value, no_formula, eval_v, eval_f, has_v, has_f}
use Rattle.terms.specs.Meaning.{meant_v, meant_f, then, Computed, Has, Holds}

abbrev given : {A : Type 0} → Bool → A → Option A
given b a = cond b (some a) none

-- a part, and what comes of it
then_given : {A B : Type 0} (h k : Bool) (a : A) (b : B) (f : A → Option B) → f a ≡ given k b → then (given h a) f ≡ given (h && k) b
then_given true k a b f e = e
then_given false k a b f e = refl

-- a last part, of which something always comes
then_some : {A B : Type 0} (h : Bool) (a : A) (f : A → B) → then (given h a) (λ x. some (f x)) ≡ given h (f a)
then_some true a f = refl
then_some false a f = refl

cond_given : {A : Type 0} (c h k : Bool) (a b : A) → cond c (given h a) (given k b) ≡ given (cond c h k) (cond c a b)
cond_given true h k a b = refl
cond_given false h k a b = refl

mutual
  unfolding eval_v has_v meant_v

  pub meant_v_lem : (t : Value) (ps : List ℕ) (s : ℕ) → meant_v t ps s ≡ cond (has_v t ps s) (some (eval_v t ps s)) none
  meant_v_lem (num n) ps s = refl
  meant_v_lem (par i) ps s = refl
  meant_v_lem sum_value ps s = refl
  meant_v_lem (arith o a b) ps s =
      rw (meant_v_lem a ps s, meant_v_lem b ps s)
      (then_given (has_v a ps s) _ _ _ _ (then_given (has_v b ps s) _ _ _ _ refl))
  meant_v_lem (choice f a b) ps s =
      rw (meant_f_lem f ps s, meant_v_lem a ps s, meant_v_lem b ps s)
      (then_given (has_f f ps s) _ _ _ _ (cond_given (eval_f f ps s) _ _ _ _))
  meant_v_lem no_value ps s = refl

  pub meant_f_lem : (t : Formula) (ps : List ℕ) (s : ℕ) → meant_f t ps s ≡ cond (has_f t ps s) (some (eval_f t ps s)) none
  meant_f_lem (const b) ps s = refl
  meant_f_lem (compare o a b) ps s =
      rw (meant_v_lem a ps s, meant_v_lem b ps s)
      (then_given (has_v a ps s) _ _ _ _ (then_some (has_v b ps s) _ _))
  meant_f_lem (negation f) ps s = rw (meant_f_lem f ps s) (then_some (has_f f ps s) _ _)
  meant_f_lem (join o f g) ps s =
      rw (meant_f_lem f ps s, meant_f_lem g ps s)
      (then_given (has_f f ps s) _ _ _ _ (then_some (has_f g ps s) _ _))
  meant_f_lem no_formula ps s = refl

pub computed : Computed
computed = record { value = meant_v_lem; formula = meant_f_lem }

-- ---- so a formula holds, or has a value, exactly where it is computed

abbrev tag : {A : Type 0} → Option A → ℕ
tag none = 0
tag (some a) = 1

abbrev held : {A : Type 0} → A → Option A → A
held x none = x
held x (some a) = a

given_is : {A : Type 0} (b : Bool) (a x : A) → cond b (some a) none ≡ some x → (b ≡ true) × (a ≡ x)
given_is true a x e = (refl, ap (held a) e)
given_is false a x e = let z : ◌≡◌ {A = ℕ} 0 1 = ap tag e in absurd (omega omegas.arith)

pub value_says : (t : Value) (ps : List ℕ) (s n : ℕ) → meant_v t ps s ≡ some n → (has_v t ps s ≡ true) × (eval_v t ps s ≡ n)
value_says t ps s n e = given_is (has_v t ps s) (eval_v t ps s) n (sym (meant_v_lem t ps s) ∙ e)

pub says_value : (t : Value) (ps : List ℕ) (s : ℕ) → has_v t ps s ≡ true → meant_v t ps s ≡ some (eval_v t ps s)
says_value t ps s h = meant_v_lem t ps s ∙ rw h

pub holds_says : (f : Formula) (ps : List ℕ) (s : ℕ) → Holds f ps s → (has_f f ps s ≡ true) × (eval_f f ps s ≡ true)
holds_says f ps s e = given_is (has_f f ps s) (eval_f f ps s) true (sym (meant_f_lem f ps s) ∙ e)

pub says_holds : (f : Formula) (ps : List ℕ) (s : ℕ) → has_f f ps s ≡ true → eval_f f ps s ≡ true → Holds f ps s
says_holds f ps s h e = meant_f_lem f ps s ∙ rw (h, e)

pub has_says_v : (t : Value) (ps : List ℕ) (s : ℕ) → Has (meant_v t ps s) → has_v t ps s ≡ true
has_says_v t ps s h = (value_says t ps s h.value h.is).0

pub says_has_v : (t : Value) (ps : List ℕ) (s : ℕ) → has_v t ps s ≡ true → Has (meant_v t ps s)
says_has_v t ps s h = record { value = eval_v t ps s; is = says_value t ps s h }

pub has_says_f : (f : Formula) (ps : List ℕ) (s : ℕ) → Has (meant_f f ps s) → has_f f ps s ≡ true
has_says_f f ps s h = (given_is (has_f f ps s) (eval_f f ps s) h.value (sym (meant_f_lem f ps s) ∙ h.is)).0

pub says_has_f : (f : Formula) (ps : List ℕ) (s : ℕ) → has_f f ps s ≡ true → Has (meant_f f ps s)
says_has_f f ps s h = record { value = eval_f f ps s; is = meant_f_lem f ps s ∙ rw h }
