-- Demand 3 holds of every list of desk calls and every one-call check.
use mathlib.Core.Path.{◌≡◌, refl}
use mathlib.Core.List.{List, [], ◌∷◌}
use Prim.Native.Nat.{ℕ}
use native.Mathlib.Omega.{arith}
use lib.ListN.{length}
use Rattle.reader.specs.Text.{fields_by_line}
use Rattle.criteria.specs.Bisimilar.{Demand3}
use Rattle.criteria.specs.Verdict.{Acceptance}
use Rattle.criteria.specs.Unmarked.{Unmarked}
use Rattle.criteria.proofs.Demand3.{demand3}
use Rattle.criteria.proofs.Unmarked.{unmarked_all, meets_same, lowest_same, demand3_plain}
use Rattle.decision.proofs.Demand2.{demand2}
use Rattle.design.specs.Lines.{of_kind, count_of, design_of, design_text}
use Rattle.design.specs.Faults.{DesignText}
use Rattle.loader.proofs.Passed.{is_design_text, admitted}
use Rattle.claims.specs.Outcomes.{Accepted, by_desk, by_one_call}
use Rattle.claims.specs.Demand3.{Claim3}
use Rattle.claims.proofs.OneCall.{check_accepts}
use Rattle.claims.proofs.Kept.{Accepts, accepted_verdict}
use Rattle.claims.proofs.Among.{among}

verdicts : {text : List ℕ} → Accepted text → (how : Acceptance) × Accepts how text
verdicts (by_desk c (how, a)) = (how, accepted_verdict c a)
verdicts (by_one_call how c) = (how, check_accepts how c refl)

keeps : (text : List ℕ) → Accepted text → DesignText text × Demand3 (design_text text)
keeps text a =
    let w = verdicts a in
    let v = w.1 in
    let d = design_text text in
    let adm = admitted text v.free in
    (is_design_text text v.free, demand3 d adm ((demand2 d adm).accepts.0 (w.0, v.verdict_is)))

-- a text without a kind 8 line has a design without marks
unmarked : (text : List ℕ) → count_of 8 (fields_by_line text) ≡ 0 → Unmarked (design_text text)
unfolding design_of
unmarked text none = rw (no_lines (of_kind 8 (fields_by_line text)) none)
  where
    no_lines : (lines : List (List ℕ)) → length lines ≡ 0 → lines ≡ []
    no_lines [] h = refl
    no_lines (line ∷ lines) h = absurd (omega arith)

pub claim3 : Claim3
claim3 = record {
  keeps = keeps;
  all_good = among;
  without_marks = λ text none.
      let d = design_text text in
      let all = unmarked_all d (unmarked text none) in
      record { criteria = meets_same d all; failure = lowest_same d all; keeps = λ a. demand3_plain d all (keeps text a).1 };
}
