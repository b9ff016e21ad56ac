-- Where all steps are marked, by no marks or by others, the verdict is the same.
use mathlib.Core.Path.{◌≡◌}
use mathlib.Core.Logic.Iff
use mathlib.Core.Logic.{◌↔◌}
use mathlib.Core.List.{List}
use Rattle.terms.specs.Tree.{Formula}
use Rattle.criteria.specs.Design.{Design, Admitted, with_marks}
use Rattle.criteria.specs.Criteria.{Meets}
use Rattle.criteria.specs.Failure.{Failure, LowestFailure}
use Rattle.criteria.proofs.Unmarked.{AllMarked, meets_same, lowest_same, meets_any, lowest_any}
use Rattle.decision.specs.Verdict.{verdict_of}
use Rattle.decision.proofs.Demand2.{demand2, one_verdict}

-- `Admitted` says nothing of marks
admitted_any : (d : Design) (ms : List (List Formula)) → Admitted d → Admitted (with_marks d ms)
admitted_any d ms a = record {
  impl_sizes = a.impl_sizes;
  spec_sizes = a.spec_sizes;
  impl_spans = a.impl_spans;
  spec_spans = a.spec_spans;
  few_states = a.few_states;
  impl_one_row = a.impl_one_row;
  spec_one_row = a.spec_one_row;
  spec_visible = a.spec_visible;
  internal_data = a.internal_data;
  same_span = a.same_span;
}

pub same_verdict : (d : Design) (ms : List (List Formula)) → Admitted d → AllMarked d → AllMarked (with_marks d ms)
    → verdict_of (with_marks d ms) ≡ verdict_of d
same_verdict d ms a all all' =
    one_verdict d' (verdict_of d') (verdict_of d) (demand2 d' (admitted_any d ms a))
    (record {
      accepts = Iff.trans (demand2 d a).accepts meets;
      as_is = Iff.trans (demand2 d a).as_is (λ x. (meets.0 x.0, x.1), λ x. (meets.1 x.0, x.1));
      after_internal = Iff.trans (demand2 d a).after_internal (λ x. (meets.0 x.0, x.1), λ x. (meets.1 x.0, x.1));
      reports = λ x. Iff.trans ((demand2 d a).reports x) (lowest x);
    })
  where
    d' : Design
    d' = with_marks d ms

    meets : Meets d ↔ Meets d'
    meets = Iff.trans (meets_same d all) (Iff.trans (meets_any d ms) (Iff.symm (meets_same d' all')))

    lowest : (x : Failure) → LowestFailure d x ↔ LowestFailure d' x
    lowest x = Iff.trans (lowest_same d all x) (Iff.trans (lowest_any d ms x) (Iff.symm (lowest_same d' all' x)))
