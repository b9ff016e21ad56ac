-- A design text and what is written for it get the same verdict (`same_verdict`): in both all steps are marked, or they are the same.
use Prim.Native.Nat.{ℕ, zero, suc}
use mathlib.Core.Path.{◌≡◌, refl, ap, ◌∙◌}
use mathlib.Core.Bool.{true}
use mathlib.Core.List.{List, [], ◌∷◌, map}
use lib.ListN.{length, replicate}
use Rattle.terms.specs.Tree.{Formula, const}
use Rattle.reader.specs.Text.{fields_by_line}
use Rattle.criteria.specs.Design.{Design, with_marks}
use Rattle.criteria.specs.Step.{internal_rows}
use Rattle.criteria.proofs.Rows.{and-true}
use Rattle.criteria.proofs.Unmarked.{AllMarked, unmarked_all, tens_all}
use Rattle.decision.specs.Verdict.{verdict_of}
use Rattle.decision.proofs.AllMarked as decision
use Rattle.design.specs.Line.{formulas_in, marks_of}
use Rattle.design.specs.Lines.{internal_of, design_of, design_text}
use Rattle.loader.specs.Load.{fault_of}
use Rattle.loader.proofs.Passed.{admitted}
use Rattle.conversion.specs.Result.{Way, there, back, marked_by, converted}
use Rattle.conversion.specs.Answer.{true_b, every, plain_b}
use Rattle.conversion.proofs.Due.{true_tree}
use Rattle.conversion.proofs.Held.{NoneOrOne, none, one, none_or_one, marks_are}

-- ---- formulas that are all `10`

all_true : (fs : List Formula) → every true_b fs ≡ true → fs ≡ replicate (length fs) (const true)
unfolding every
all_true [] e = refl
all_true (f ∷ fs) e = let p = and-true (true_b f) (every true_b fs) e in rw (true_tree f p.0, ← all_true fs p.1)

formulas_length : (n : ℕ) (fields : List ℕ) → length (formulas_in n fields) ≡ n
unfolding formulas_in
formulas_length zero fields = refl
formulas_length (suc n) fields = ap suc (formulas_length n _)

module _ (text : List ℕ) (ok : fault_of text ≡ 0) where
  abbrev d : Design
  d = design_text text

  abbrev lines : List (List ℕ)
  lines = fields_by_line text

  abbrev internal : ℕ
  internal = internal_rows d.impl.rows

  internal_said : internal_of lines ≡ internal
  unfolding design_of
  internal_said = refl

  -- so all steps are marked
  tens_marked : every (every true_b) d.marks ≡ true → AllMarked d
  unfolding every
  tens_marked e = go (none_or_one text ok)
    where
      go : NoneOrOne lines → AllMarked d
      go (none q) = unmarked_all d (marks_are text ok ∙ ap (map (marks_of (internal_of lines))) q)
      go (one line q) =
          let fs = marks_of (internal_of lines) line in
          let marks : d.marks ≡ fs ∷ [] = marks_are text ok ∙ ap (map (marks_of (internal_of lines))) q in
          let p = and-true (every true_b fs) true (rw marks at e) in
          let n : length fs ≡ internal = formulas_length (internal_of lines) _ ∙ internal_said in
          tens_all d (marks ∙ ap (λ (x : List Formula). x ∷ []) (all_true fs p.0 ∙ ap (λ (k : ℕ). replicate k (const true)) n))

  marked_verdict : (ms : List (List Formula)) → d.marks ≡ ms → verdict_of (with_marks d (marked_by ms internal)) ≡ verdict_of d
  marked_verdict [] e =
      let ms = replicate internal (const true) ∷ [] in
      decision.same_verdict d ms (admitted text ok) (unmarked_all d e) (tens_all (with_marks d ms) refl)
  marked_verdict (fs ∷ ms) e = rw (← e)

  pub same_verdict : (way : Way) → plain_b way d ≡ true → verdict_of (converted way d) ≡ verdict_of d
  same_verdict there p = marked_verdict d.marks refl
  same_verdict back p = decision.same_verdict d [] (admitted text ok) (tens_marked p) (unmarked_all (with_marks d []) refl)
