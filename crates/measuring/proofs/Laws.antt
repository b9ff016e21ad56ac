-- What the functions come to; and that there is an answer for every text and every slice.
use Prim.Native.Nat.{ℕ}
use mathlib.Core.Path.{◌≡◌, refl, sym, ◌∙◌, subst}
use mathlib.Core.Bool.{Bool, true, false}
use mathlib.Core.List.{List}
use borrow.Author.Tests.{eqb-true, eqb-false}
use lib.Dec.{eqb}
use Rattle.loader.specs.declared.Loaded.{Loaded}
use Rattle.std.specs.Prelude.{Result, Ok, Err}
use Rattle.reader.specs.Text.{fields_by_line}
use Rattle.design.specs.Lines.{counts_of}
use Rattle.design.specs.Loaded.{fields_held, starts_held}
use Rattle.verdicts.specs.declared.Fault.{Fault}
use Rattle.verdicts.specs.Refusals.{fault_number}
use Rattle.verdicts.proofs.Refusals.{number_is_some}
use Rattle.loader.specs.Load.{fault_of, loaded_of}
use Rattle.loader.proofs.Passed.{of_ok, of_err}
use Rattle.answers.specs.declared.Measured.{Measured}
use Rattle.answers.specs.declared.Measured.TheVariants.{TurnedDown}
use Rattle.measure.specs.Answer.{MeasureIn, SameAnswer, both_refused}
use Rattle.measure.proofs.Existence.{measure_there}
use Rattle.measure.proofs.Determined.{one_measure}
use Rattle.measuring.specs.Measured.{MeasureText, faulty, design_text_lem}

module _ (text : List ℕ) (q : Result Loaded Fault) (eq : q ≡ loaded_of text) where
  pub text_faulty : (slice : List ℕ) (f : Fault) → q ≡ Err f → (k : ℕ) → k ≡ fault_number f → MeasureText text slice slice (TurnedDown k)
  text_faulty slice f e k ek =
      let is = of_err text q eq f e in
      subst (λ j. MeasureText text slice slice (TurnedDown j)) (is ∙ sym ek) (faulty (λ z. number_is_some f (sym is ∙ z)) refl)

  pub text_measured : (before after : List ℕ) (r : Measured) (l : Loaded) → q ≡ Ok l → MeasureIn l.lines.fields l.lines.starts l.counts before after r
      → MeasureText text before after r
  text_measured before after r l e m =
      let is = of_ok text q eq l e in
      design_text_lem is.0 (subst (λ (k : Loaded). MeasureIn k.lines.fields k.lines.starts k.counts before after r) is.1 m)

pub record TextMeasured (text before : List ℕ) : Type 0 where
  pub after : List ℕ
  pub answer : Measured
  pub is : MeasureText text before after answer

pub text_there : (text before : List ℕ) → TextMeasured text before
text_there text before = go (eqb (fault_of text) 0) refl
  where
    go : (b : Bool) → eqb (fault_of text) 0 ≡ b → TextMeasured text before
    go false e = record { after = before; answer = TurnedDown (fault_of text); is = faulty (eqb-false (fault_of text) 0 e) refl }
    go true e =
        let m = measure_there (fields_held (fields_by_line text)) (starts_held (fields_by_line text)) (counts_of (fields_by_line text)) before in
        record { after = m.after; answer = m.answer; is = design_text_lem (eqb-true (fault_of text) 0 e) m.is }

pub one_text : {text before a b : List ℕ} {r q : Measured} → MeasureText text before a r → MeasureText text before b q → (a ≡ b) × SameAnswer r q
one_text (faulty x e) (faulty y g) = (e ∙ sym g, both_refused _)
one_text (faulty x e) (design_text_lem y m) = absurd (x y)
one_text (design_text_lem x m) (faulty y e) = absurd (y x)
one_text (design_text_lem x m) (design_text_lem y n) = one_measure m n
