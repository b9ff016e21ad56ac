-- What is told where a text is compared with a duty: each number exactly where its test says so, and the tests are those of design texts and of
-- equal lines.
use Prim.Native.Nat.{ℕ}
use mathlib.Core.Path.{◌≡◌, refl, sym, subst}
use mathlib.Core.Logic.{◌↔◌}
use mathlib.Core.Bool.{Bool, true, false, cond, not, ◌&&◌}
use mathlib.Core.List.{List, []}
use borrow.Author.Tests.{eq-eqb, eqb-true}
use lib.Dec.{eqb}
use denote.Ref.{Bor}
use Rattle.foundation.specs.Reflects.{Reflects}
use Rattle.foundation.proofs.Reflects.{says_yes, is_so, by_eqb, by_iff, by_not, by_and}
use Rattle.reader.specs.Text.{fields_by_line}
use Rattle.design.specs.Faults.{DesignText}
use Rattle.loader.specs.Load.{fault_of}
use Rattle.loader.proofs.Lowest.{free_exactly}
use Rattle.duty.specs.Duty.{same_specification, duty_told}
use Rattle.duty.proofs.Same.{by_specification}
use Rattle.claims.specs.Duty.{Compared, compared, BothDesigns, SameSpecification, Compares}

-- ---- the number, by three tests

abbrev number : Bool → Bool → Bool → ℕ
number a b s = cond a (cond b (cond s 0 1) 3) 2

abbrev Which : Bool → Bool → Bool → ℕ → Type 0
Which a b s r = (eqb r 0 ≡ ((a && b) && s)) × (eqb r 1 ≡ ((a && b) && not s)) × (eqb r 2 ≡ not a) × (eqb r 3 ≡ (a && not b))

which : (a b s : Bool) → Which a b s (number a b s)
which true true true = (refl, refl, refl, refl)
which true true false = (refl, refl, refl, refl)
which true false s = (refl, refl, refl, refl)
which false b s = (refl, refl, refl, refl)

number_by : {P : Type 0} {t : Bool} (r k : ℕ) → eqb r k ≡ t → Reflects P t → (r ≡ k) ↔ P
number_by {P} r k e by =
    let q : Reflects P (eqb r k) = subst (λ b. Reflects P b) (sym e) by in
    (λ z. says_yes q (eq-eqb r k z), λ p. eqb-true r k (is_so q p))

-- ---- the tests

by_text : (text : List ℕ) → Reflects (DesignText text) (eqb (fault_of text) 0)
by_text text = by_iff (free_exactly text).0 (free_exactly text).1 (by_eqb (fault_of text) 0)

by_both : (text duty : List ℕ) → Reflects (BothDesigns text duty) (eqb (fault_of text) 0 && eqb (fault_of duty) 0)
by_both text duty = by_and (by_text text) (by_text duty)

by_duty : (text duty : List ℕ) → Reflects (SameSpecification text duty) (same_specification (fields_by_line text) (fields_by_line duty))
by_duty text duty = by_specification (fields_by_line text) (fields_by_line duty)

-- ---- every call

told : {text duty : List ℕ} {r : ℕ} → Compared text duty r → r ≡ duty_told text duty
told (compared κs text duty r p) = p

module _ {text duty : List ℕ} {r : ℕ} (call : Compared text duty r) where
  numbers : Which (eqb (fault_of text) 0) (eqb (fault_of duty) 0) (same_specification (fields_by_line text) (fields_by_line duty)) r
  unfolding duty_told
  numbers =
      let a = eqb (fault_of text) 0 in
      let b = eqb (fault_of duty) 0 in
      let s = same_specification (fields_by_line text) (fields_by_line duty) in
      subst (λ n. Which a b s n) (sym (told call)) (which a b s)

-- bytes lent from anywhere
abbrev lent : List ℕ → Bor (List ℕ)
lent x = record { ref_ptr = (0, 0); now = x }

pub compares : Compares
compares = record {
  same = λ {text} {duty} {r} call. number_by r 0 (numbers call).0 (by_and (by_both text duty) (by_duty text duty));
  differs = λ {text} {duty} {r} call. number_by r 1 (numbers call).1 (by_and (by_both text duty) (by_not (by_duty text duty)));
  no_design = λ {text} {duty} {r} call. number_by r 2 (numbers call).2 (by_not (by_text text));
  no_duty = λ {text} {duty} {r} call. number_by r 3 (numbers call).3 (by_and (by_text text) (by_not (by_text duty)));
  asks_nothing = λ κs text duty. tt;
  answered = λ text duty. (duty_told text duty, compared ([], ([], tt)) (lent text) (lent duty) (duty_told text duty) refl);
}
