-- What the functions return is what specs/Terms says.
use mathlib.Core.Path.{◌≡◌, refl, sym, ◌∙◌, ap, subst}
use mathlib.Core.Bool.{Bool, true, false, cond}
use mathlib.Core.List.{List, map}
use mathlib.Core.Option.{some, none}
use Prim.Native.Nat.{ℕ, suc, ◌+◌, ◌-◌, ◌≤◌, ◌<◌, min}
use native.Mathlib.Numerals.{add-one}
use native.Mathlib.Decide.{dec_lt}
use native.Mathlib.Omega.{arith}
use lib.ListN.{length, drop, set, replicate}
use lib.Seq.{sets}
use Rattle.terms.specs.Tree.{Value, Formula, has_v, has_f, eval_v, eval_f}
use Rattle.terms.specs.Read.{read_v, read_f}
use Rattle.terms.proofs.Meaning.{meant_v_lem, meant_f_lem}
use Rattle.terms.proofs.Read.{place}
use Rattle.has_value.specs.Answer.{value_of, truth_of as truth_of_term, answer_v, answer_f}
use Rattle.std.specs.Prelude.{Ok, Err, unwrap_or, option_map}
use Rattle.std.specs.Result.{result_ok}
use Rattle.has_value.specs.declared.Valued.{Valued}
use Rattle.has_value.specs.declared.Held.{Held}
use Rattle.design.specs.Line.{values_in}
use Rattle.steps.specs.Arrays.{padded, first_values}
use Rattle.steps.proofs.Arrays.{sets_out}
use Rattle.steps.proofs.States.{same_values, first_all}
use Rattle.decision.proofs.Alike.{value_alike, formula_alike, has_value_alike, has_formula_alike}
use Rattle.told_terms.specs.Terms.{number_told, truth_told, number_of, truth_of, value_told, formula_told, values_told}

-- ---- terms: what is meant is what the evaluator answers

number_given : (h : Bool) (n : ℕ) → unwrap_or (result_ok (cond h (Ok n) (Err n))) 65536 ≡ number_told (cond h (some n) none)
number_given true n = refl
number_given false n = refl

truth_given : (h b : Bool) → unwrap_or (option_map (λ x. cond x 1 0) (result_ok (cond h (Ok b) (Err b)))) 2 ≡ truth_told (cond h (some b) none)
truth_given true b = refl
truth_given false b = refl

pub value_is : (t : Value) (v : List ℕ) (e : ℕ) → unwrap_or (result_ok (value_of t v e)) 65536 ≡ value_told t v e
unfolding value_told
value_is t v e = number_given (has_v t v e) (eval_v t v e) ∙ sym (ap number_told (meant_v_lem t v e))

pub formula_is : (f : Formula) (v : List ℕ) (e : ℕ) → unwrap_or (option_map (λ x. cond x 1 0) (result_ok (truth_of_term f v e))) 2 ≡ formula_told f v e
unfolding formula_told
formula_is f v e = truth_given (has_f f v e) (eval_f f v e) ∙ sym (ap truth_told (meant_f_lem f v e))

-- at eight values that hold a state it is what it is at the state
module _ (s : List ℕ) (short : length s ≤ 8) (e : ℕ) where
  pub value_at_state : (t : Value) → value_told t (padded s) e ≡ value_told t s e
  value_at_state t =
      sym (value_is t (padded s) e)
      ∙ rw (has_value_alike (padded s) s (same_values s short) t e, value_alike (padded s) s (same_values s short) t e)
      (value_is t s e)

  pub formula_at_state : (t : Formula) → formula_told t (padded s) e ≡ formula_told t s e
  formula_at_state t =
      sym (formula_is t (padded s) e)
      ∙ rw (has_formula_alike (padded s) s (same_values s short) t e, formula_alike (padded s) s (same_values s short) t e)
      (formula_is t s e)

module _ (f v : List ℕ) (at e : ℕ) where
  pub value_told_lem : (x : Valued) (r : ℕ) → x ≡ answer_v at v e (read_v 32 (drop at f)) → r ≡ number_of x → r ≡ value_told (read_v 32 (drop at f)).tree v e
  value_told_lem x r ex er = er ∙ ap number_of ex ∙ value_is (read_v 32 (drop at f)).tree v e

  pub formula_told_lem : (x : Held) (r : ℕ) → x ≡ answer_f at v e (read_f 32 (drop at f)) → r ≡ truth_of x → r ≡ formula_told (read_f 32 (drop at f)).tree v e
  formula_told_lem x r ex er = er ∙ ap truth_of ex ∙ formula_is (read_f 32 (drop at f)).tree v e

-- ---- the values of n terms, one after the other

module _ (f v : List ℕ) (e at n : ℕ) where
  abbrev pub told_at : ℕ → ℕ → List ℕ
  told_at p k = map (λ (t : Value). value_told t v e) (values_in k (drop p f))

  abbrev all : List ℕ
  all = values_told (values_in n (drop at f)) v e

  -- the values from the i-th on, stored in w
  unfoldable pub told_left : List ℕ → ℕ → ℕ → List ℕ
  told_left w p i = sets w i (told_at p (n - i))

  pub told_start : told_left (replicate 8 0) at 0 ≡ all
  unfolding told_left values_told padded
  told_start = let k : n - 0 ≡ n = omega arith in rw k

  pub told_turn : (w : List ℕ) (p i m : ℕ) (x : Valued) (y : ℕ) → m ≡ min n 8 → i < m → x ≡ answer_v p v e (read_v 32 (drop p f)) → y ≡ number_of x
      → told_left w p i ≡ all → told_left (set w i y) x.next (i + 1) ≡ all
  unfolding told_left values_in
  told_turn w p i m x y em l said ey inv = go ∙ inv
    where
      go : told_left (set w i y) x.next (i + 1) ≡ told_left w p i
      go =
          let k : n - i ≡ suc (n - (i + 1)) = omega arith in
          rw (k, value_told_lem f v p e x y said ey, said, add-one i, place f p _ refl)

  pub told_end : (w : List ℕ) (p i m : ℕ) → m ≡ min n 8 → m ≤ i → length w ≡ 8 → told_left w p i ≡ all → w ≡ all
  unfolding told_left values_in
  told_end w p i m em l long inv = go (dec_lt 8 n) ∙ inv
    where
      go : Dec (8 < n) → w ≡ told_left w p i
      go (no h) = let k : n - i ≡ 0 = omega arith in rw k
      go (yes h) = sym (sets_out w i (told_at p (n - i)) (omega arith))

-- ---- eight places

pub eight : (w : List ℕ) → length w ≡ 8 → first_values 8 0 w ≡ w
eight w e = subst (λ (n : ℕ). first_values n 0 w ≡ w) e (first_all w)
