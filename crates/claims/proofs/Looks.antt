-- What is told where a text is looked at: that of its design, which its arrays hold.
use Prim.Native.Nat.{ℕ}
use mathlib.Core.Path.{◌≡◌, refl, sym, ap, ◌∙◌, subst}
use mathlib.Core.Logic.{◌↔◌}
use mathlib.Core.Bool.{Bool, cond}
use mathlib.Core.List.{List, []}
use native.Mathlib.Omega.{arith}
use lib.ListN.{drop}
use Rattle.foundation.specs.Reflects.{Reflects, so, not_so}
use Rattle.criteria.specs.Design.{Design, Row, State, RowIs, Admitted}
use Rattle.criteria.specs.Criteria.{OthersHave}
use Rattle.criteria.specs.Rows.{row_at}
use Rattle.criteria.proofs.Rows.{is_row_at}
use Rattle.design.specs.Faults.{LowestFault}
use Rattle.decision.specs.Tests.{holds3, holds4, holds5, holds6, holds7, holds8, holds9}
use Rattle.decision.proofs.Tests.{by_2, by_3, by_4, by_5, by_6, by_7, by_8, by_9}
use Rattle.design.specs.Line.{value_in, formula_in}
use Rattle.design.specs.Lines.{design_text}
use Rattle.design.specs.Loaded.{design_at}
use Rattle.layout.specs.Sizes.{shape_of}
use Rattle.loader.specs.Load.{fault_of}
use Rattle.loader.proofs.Lowest.{free_exactly, lowest_fault}
use Rattle.loader.proofs.Passed.{admitted}
use Rattle.lowest_failure.specs.Search.{criterion_for, holds_for, at_impl, at_impl_by, at_spec}
use Rattle.fault_lines.specs.Shows.{Tells}
use Rattle.fault_lines.proofs.Explained.{explains}
use Rattle.desk_numbers.specs.Numbers.{counts_told, counts_in}
use Rattle.told_terms.specs.Terms.{value_told, formula_told}
use Rattle.told_terms.proofs.Laws.{value_at_state, formula_at_state}
use Rattle.told_rows.specs.Rows.{told_row}
use Rattle.looking.specs.Told.{arrays_of, state_told, criterion_told}
use Rattle.looking.proofs.Held.{held_design}
use Rattle.claims.specs.Looks.{Holds, holds, Names, names, SeesValue, SeesFormula, SeesState, SeesRow, SeesCriterion, Asks, second, third, fourth, fifth, sixth, seventh, eighth, ninth, Looks}
use Rattle.claims.specs.Looks as looks_specs
use Rattle.claims.proofs.Lists.{lent, lent_out}

-- ---- a text held

number_told_lem : {text f s c : List ℕ} {r : ℕ} → Holds text r f s c → r ≡ fault_of text
number_told_lem (holds κs text f₀ s₀ c₀ f s c r p) = p.0

design_told : {text f s c : List ℕ} → Holds text 0 f s c → design_at f s (shape_of (counts_in c)) ≡ design_text text
design_told (holds κs text f₀ s₀ c₀ f s c r p) =
    ap (λ (l : List ℕ). design_at l s.now (shape_of (counts_in c.now))) p.1.0
    ∙ ap (λ (l : List ℕ). design_at (arrays_of text.now).lines.fields l (shape_of (counts_in c.now))) p.1.1.0
    ∙ ap (λ (l : List ℕ). design_at (arrays_of text.now).lines.fields (arrays_of text.now).lines.starts (shape_of (counts_in l))) p.1.1.1
    ∙ held_design text.now (sym p.0)

line_told_lem : {text : List ℕ} {from r : ℕ} → Names text from r → Tells text from r
line_told_lem (names κs text from r p) = p

value_told_lem : {f v : List ℕ} {at e r : ℕ} → SeesValue f at v e r → r ≡ value_told (value_in (drop at f)).tree v e
value_told_lem (looks_specs.SeesValue.sees κs f at v e r p) = p

formula_told_lem : {f v : List ℕ} {at e r : ℕ} → SeesFormula f at v e r → r ≡ formula_told (formula_in (drop at f)).tree v e
formula_told_lem (looks_specs.SeesFormula.sees κs f at v e r p) = p

state_told_lem : {f s c v told : List ℕ} → SeesState f s c v told → told ≡ state_told (design_at f s (shape_of (counts_in c))) v
state_told_lem (looks_specs.SeesState.sees κs f s c v before told p) = p

row_told : {f s c v told : List ℕ} {side k e : ℕ} → SeesRow f s c side k v e told → told ≡ told_row (design_at f s (shape_of (counts_in c))) side k v e
row_told (looks_specs.SeesRow.sees κs f s c side k v e before told p) = p

criterion_told_lem : {f s c v : List ℕ} {n k e r : ℕ} → SeesCriterion f s c v n k e r → r ≡ criterion_told (design_at f s (shape_of (counts_in c))) v n k e
criterion_told_lem (looks_specs.SeesCriterion.sees κs f s c v n k e r p) = p

-- ---- a criterion

-- told by a test
by_test : {C : Type 0} {b : Bool} → Reflects C b → (r : ℕ) → r ≡ cond b 1 0 → (r ≡ 1) ↔ C
by_test (so c) r e = (λ _. c, λ _. e)
by_test (not_so n) r e = (λ o. let z : ◌≡◌ {A = ℕ} 0 1 = sym e ∙ o in absurd (omega arith), λ c. absurd (n c))

module _ (d : Design) (a : Admitted d) (s : State) (have : OthersHave d s) where
  -- the test at a row by its number is that of the row
  module _ {k : ℕ} {r : Row} where
    at_impl_lem : (t : Row → Bool) {C : Type 0} → RowIs d.impl.rows k r → Reflects C (t r) → Reflects C (t (row_at d.impl.rows k))
    at_impl_lem t {C} is by = subst (λ (q : Row). Reflects C (t q)) (sym (is_row_at is)) by

    at_spec_lem : (t : Row → Bool) {C : Type 0} → RowIs d.spec.rows k r → Reflects C (t r) → Reflects C (t (row_at d.spec.rows k))
    at_spec_lem t {C} is by = subst (λ (q : Row). Reflects C (t q)) (sym (is_row_at is)) by

  by_criterion : {n k e : ℕ} {C : Type 0} → Asks d s n k e C → Reflects C (criterion_for d s n k e)
  unfolding criterion_for holds_for at_impl at_impl_by at_spec
  by_criterion second = by_2 d s
  by_criterion (third {k} {e} {r} is u) = at_impl_lem (λ q. holds3 d s q e) is (by_3 d a s have k r e u is)
  by_criterion (fourth {k} {e} {r} is u) = at_impl_lem (λ q. holds4 d s q e) is (by_4 d a s have k r e u is)
  by_criterion (fifth {k} {e} {r} is u) = at_impl_lem (λ q. holds5 d s k q e) is (by_5 d a s have k r e u is)
  by_criterion (sixth {k} {e} {r} is u) = at_impl_lem (λ q. holds6 d s q e) is (by_6 d a s have k r e u is)
  by_criterion (seventh {k} {e} {q} is u) = at_spec_lem (λ q. holds7 d s q e) is (by_7 d a s have k q e u is)
  by_criterion (eighth {k} {e} {r} is u) = at_impl_lem (λ q. holds8 d s q e) is (by_8 d a s have k r e u is)
  by_criterion (ninth {k} {e} {r} is u) = at_impl_lem (λ q. holds9 d s q e) is (by_9 d a s have k r e u is)

  asked : {n k e r : ℕ} {C : Type 0} → Asks d s n k e C → r ≡ criterion_told d s n k e → (r ≡ 1) ↔ C
  unfolding criterion_told
  asked {r = r} asks e = by_test (by_criterion asks) r e

-- ---- every call

pub looks : Looks
looks = record {
  held = λ {text} h. let e = number_told_lem h in (λ z. (free_exactly text).0 (sym e ∙ z), λ t. e ∙ (free_exactly text).1 t);
  fault = λ {text} h z. let e = number_told_lem h in subst (λ k. LowestFault text k) (sym e) (lowest_fault text (λ y. z (e ∙ y)));
  line = line_told_lem;
  shown = explains;
  state = λ {v = v} h t. state_told_lem t ∙ ap (λ d. state_told d v) (design_told h);
  row = λ {v = v} {side = side} {k = k} {e = e} h t. row_told t ∙ ap (λ d. told_row d side k v e) (design_told h);
  criterion = λ {text} {v = v} {n = n} {k = k} {e = e} h t have asks.
      asked (design_text text) (admitted text (sym (number_told_lem h))) v have asks (criterion_told_lem t ∙ ap (λ d. criterion_told d v n k e) (design_told h));
  hold_asks = λ κs text f s c. tt;
  line_asks = λ κs text from. tt;
  value = value_told_lem;
  formula = formula_told_lem;
  value_at_state = λ s l t e. value_at_state s l e t;
  formula_at_state = λ s l t e. formula_at_state s l e t;
  value_asks = λ κs f at v e. tt;
  formula_asks = λ κs f at v e. tt;
  value_there = λ f at v e. (value_told (value_in (drop at f)).tree v e, looks_specs.SeesValue.sees ([], ([], tt)) (lent f) at (lent v) e _ refl);
  formula_there = λ f at v e.
      (formula_told (formula_in (drop at f)).tree v e, looks_specs.SeesFormula.sees ([], ([], tt)) (lent f) at (lent v) e _ refl);
  state_asks = λ κs f s c v told. tt;
  row_asks = λ κs f s c side k v e told. tt;
  criterion_asks = λ κs f s c v n k e. tt;
  hold_there = λ text. (
    fault_of text,
    (arrays_of text).lines.fields,
    (arrays_of text).lines.starts,
    counts_told (arrays_of text).counts,
    holds ([], ([], ([], ([], tt)))) (lent text) (lent_out []) (lent_out []) (lent_out []) (lent_out _) (lent_out _) (lent_out _) _ (refl, (refl, (refl, refl))),
  );
  state_there = λ f s c v. (
    state_told (design_at f s (shape_of (counts_in c))) v,
    looks_specs.SeesState.sees ([], ([], ([], ([], tt)))) (lent f) (lent s) (lent c) (lent v) (lent_out []) (lent_out _) refl,
  );
  row_there = λ f s c side k v e. (
    told_row (design_at f s (shape_of (counts_in c))) side k v e,
    looks_specs.SeesRow.sees ([], ([], ([], ([], tt)))) (lent f) (lent s) (lent c) side k (lent v) e (lent_out []) (lent_out _) refl,
  );
  criterion_there = λ f s c v n k e. (
    criterion_told (design_at f s (shape_of (counts_in c))) v n k e,
    looks_specs.SeesCriterion.sees ([], ([], ([], tt))) (lent f) (lent s) (lent c) (lent v) n k e _ refl,
  );
}
