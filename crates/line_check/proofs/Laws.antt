-- What the functions return is what their contracts say: laws whose premises are what the code knows there, one fact each.
use Prim.Native.Nat.{ℕ, zero, suc, ◌+◌, ◌-◌, ◌*◌, ◌<◌, ◌≤◌}
use mathlib.Core.Path.{◌≡◌, refl, sym, ap, ◌∙◌}
use mathlib.Core.Bool.{Bool, true, false, not}
use mathlib.Core.List.{List, [], ◌∷◌}
use native.Mathlib.Omega.{arith}
use native.Mathlib.Numerals.{one-add}
use borrow.Author.Tests.{not-true, not-false}
use lib.ListN.{drop, drop_of_length-le}
use lib.Seq.{drop-drop}
use Rattle.terms.specs.Tree as tree
use Rattle.terms.specs.Tree.{ok_v, ok_f}
use Rattle.terms.specs.Read.{read_v, read_f}
use Rattle.reader.specs.Line.{field_there, fields_of}
use Rattle.std.specs.Prelude.{Option, Some, None, is_some}
use Rattle.reader.proofs.Line.{first_field, no_field}
use Rattle.term_check.specs.Checked.{checked_v, checked_f}
use Rattle.term_check.proofs.Laws.{good_of, took_of, bad_of}
use Rattle.term_check.proofs.Passed.{passed_v, passed_f}
use Rattle.kinds.specs.Kinds.{whole_text, entry_in, Sort, value, formula, n_values, n_formulas, has_terms, sorts_of, reads_sum, own_of}
use Rattle.kinds.specs.declared.Entry.{Entry}
use Rattle.kinds.specs.declared.Follow.{Follow}
use Rattle.kinds.specs.declared.Follow.TheVariants.{Nothing, RowTerms, Formula, Mapped, Value, Marks}
use Rattle.line_check.specs.LineFits.{nothing, one_more, each_fits, terms_fit, line_fits}

-- ---- the first field of a part

pub ended_by : (part : List ℕ) (f : Option ℕ) (none : Bool) → f ≡ field_there part 0 → is_some f ≡ not none → none ≡ nothing (fields_of part)
ended_by part None true e h = rw (no_field part (sym e))
ended_by part None false e h = cc
ended_by part (Some x) true e h = cc
ended_by part (Some x) false e h = rw (first_field part x (sym e))

-- ---- a term, and what follows it

module _ (n : ℕ) (row : Bool) (sorts : List Sort) (part : List ℕ) where
  abbrev v_ok : tree.Value → Bool
  v_ok t = ok_v t n row

  abbrev f_ok : tree.Formula → Bool
  f_ok t = ok_f t n row

  pub value_wrong : None ≡ checked_v n row (read_v 32 (fields_of part)) → false ≡ terms_fit n row (value ∷ sorts) (fields_of part)
  unfolding terms_fit
  value_wrong e = rw (bad_of (read_v 32) v_ok (fields_of part) e)

  pub value_next : (k : ℕ) → Some k ≡ checked_v n row (read_v 32 (fields_of part))
      → terms_fit n row (value ∷ sorts) (fields_of part) ≡ terms_fit n row sorts (fields_of (drop (6 * k) part))
  unfolding terms_fit
  value_next k e =
      rw (good_of (read_v 32) v_ok (fields_of part) e, took_of (read_v 32) v_ok (fields_of part) e, (passed_v n row 32 part k e).rest)

  pub formula_wrong : None ≡ checked_f n row (read_f 32 (fields_of part)) → false ≡ terms_fit n row (formula ∷ sorts) (fields_of part)
  unfolding terms_fit
  formula_wrong e = rw (bad_of (read_f 32) f_ok (fields_of part) e)

  pub formula_next : (k : ℕ) → Some k ≡ checked_f n row (read_f 32 (fields_of part))
      → terms_fit n row (formula ∷ sorts) (fields_of part) ≡ terms_fit n row sorts (fields_of (drop (6 * k) part))
  unfolding terms_fit
  formula_next k e =
      rw (good_of (read_f 32) f_ok (fields_of part) e, took_of (read_f 32) f_ok (fields_of part) e, (passed_f n row 32 part k e).rest)

-- ---- so many terms: those still to come, from here, are so exactly if all of them are

module _ (next : List ℕ → Option ℕ) (part : List ℕ) (count i : ℕ) (left : List ℕ) (inv : each_fits next (count - i) left ≡ each_fits next count part) where
  module _ (go : i < count) where
    now_one : one_more (each_fits next (count - (i + 1))) (next left) left ≡ each_fits next count part
    unfolding each_fits
    now_one = let e : count - i ≡ suc (count - (i + 1)) = omega arith in rw e at inv

    pub each_stop : None ≡ next left → false ≡ each_fits next count part
    each_stop e = rw (← e) at now_one

    pub each_turn : (k : ℕ) → Some k ≡ next left → (after : List ℕ) → after ≡ drop (6 * k) left
        → each_fits next (count - (i + 1)) after ≡ each_fits next count part
    each_turn k e after ea = rw ea (rw (← e) at now_one)

  pub each_end : count ≤ i → (b : Bool) → b ≡ nothing (fields_of left) → b ≡ each_fits next count part
  unfolding each_fits
  each_end h b eb = let z : count - i ≡ 0 = omega arith in eb ∙ (rw z at inv)

module _ (n : ℕ) (row : Bool) where
  -- what the checks tell of a value and of a formula
  abbrev pub next_value : List ℕ → Option ℕ
  next_value part = checked_v n row (read_v 32 (fields_of part))

  abbrev pub next_formula : List ℕ → Option ℕ
  next_formula part = checked_f n row (read_f 32 (fields_of part))

  value_by : (sorts : List Sort) (test : List ℕ → Bool) (part : List ℕ) (a : Option ℕ) → a ≡ next_value part
      → ((later : List ℕ) → test later ≡ terms_fit n row sorts (fields_of later)) → one_more test a part ≡ terms_fit n row (value ∷ sorts) (fields_of part)
  value_by sorts test part None e ih = value_wrong n row sorts part e
  value_by sorts test part (Some k) e ih = ih (drop (6 * k) part) ∙ sym (value_next n row sorts part k e)

  pub values_each : (count : ℕ) (part : List ℕ) → each_fits next_value count part ≡ terms_fit n row (n_values count) (fields_of part)
  unfolding each_fits terms_fit
  values_each zero part = refl
  values_each (suc count) part = value_by (n_values count) (each_fits next_value count) part (next_value part) refl (values_each count)

  formula_by : (sorts : List Sort) (test : List ℕ → Bool) (part : List ℕ) (a : Option ℕ) → a ≡ next_formula part
      → ((later : List ℕ) → test later ≡ terms_fit n row sorts (fields_of later)) → one_more test a part ≡ terms_fit n row (formula ∷ sorts) (fields_of part)
  formula_by sorts test part None e ih = formula_wrong n row sorts part e
  formula_by sorts test part (Some k) e ih = ih (drop (6 * k) part) ∙ sym (formula_next n row sorts part k e)

  pub formulas_each : (count : ℕ) (part : List ℕ) → each_fits next_formula count part ≡ terms_fit n row (n_formulas count) (fields_of part)
  unfolding each_fits terms_fit
  formulas_each zero part = refl
  formulas_each (suc count) part = formula_by (n_formulas count) (each_fits next_formula count) part (next_formula part) refl (formulas_each count)

-- a formula, and then values
module _ (n : ℕ) (row : Bool) (part : List ℕ) (count : ℕ) where
  pub then_wrong : None ≡ checked_f n row (read_f 32 (fields_of part)) → false ≡ terms_fit n row (formula ∷ n_values count) (fields_of part)
  then_wrong e = formula_wrong n row (n_values count) part e

  pub then_values : (k : ℕ) → Some k ≡ checked_f n row (read_f 32 (fields_of part)) → (after : List ℕ) → after ≡ drop (6 * k) part → (b : Bool)
      → b ≡ terms_fit n row (n_values count) (fields_of after) → b ≡ terms_fit n row (formula ∷ n_values count) (fields_of part)
  then_values k e after er b eb = eb ∙ rw er (sym (formula_next n row (n_values count) part k e))

-- ---- the terms of a kind

module _ (n m i : ℕ) (part : List ℕ) (terms : Follow) (r : Bool) where
  abbrev whole : Bool
  whole = terms_fit n (reads_sum terms) (sorts_of terms n m i) (fields_of part)

  pub no_terms : terms ≡ Nothing → r ≡ nothing (fields_of part) → r ≡ whole
  unfolding terms_fit
  no_terms e er = er ∙ rw e

  pub row_terms : terms ≡ RowTerms → r ≡ terms_fit n true (formula ∷ n_values (1 + n)) (fields_of part) → r ≡ whole
  row_terms e er = er ∙ rw (e, one-add n)

  pub a_formula : terms ≡ Formula → r ≡ terms_fit n false (formula ∷ n_values 0) (fields_of part) → r ≡ whole
  a_formula e er = er ∙ rw e

  pub mapped : terms ≡ Mapped → r ≡ terms_fit n false (n_values m) (fields_of part) → r ≡ whole
  mapped e er = er ∙ rw e

  pub a_value : terms ≡ Value → r ≡ terms_fit n false (n_values 1) (fields_of part) → r ≡ whole
  a_value e er = er ∙ rw e

  pub marks : terms ≡ Marks → r ≡ terms_fit n true (n_formulas i) (fields_of part) → r ≡ whole
  marks e er = er ∙ rw e

-- ---- the fields before them

module _ (part left : List ℕ) (i n : ℕ) (inv : fields_of left ≡ drop i (fields_of part)) where
  module _ (go : i < n) where
    pub after_none : (f : Option ℕ) (none : Bool) → f ≡ field_there left 0 → is_some f ≡ not none → none ≡ true → fields_of left ≡ drop n (fields_of part)
    after_none None none e s h =
        let none : fields_of left ≡ [] = no_field left (sym e) in
        let gone : drop (n - i) (fields_of left) ≡ [] = ap (drop (n - i)) none ∙ drop_of_length-le {A = ℕ} [] {i = n - i} (omega arith) in
        let all : i + (n - i) ≡ n = omega arith in
        none ∙ sym (ap (λ j. drop j (fields_of part)) (sym all) ∙ sym (drop-drop (n - i) i (fields_of part)) ∙ ap (drop (n - i)) (sym inv) ∙ gone)
    after_none (Some x) true e s h = cc
    after_none (Some x) false e s h = cc

    pub after_turn : (f : Option ℕ) (none : Bool) → f ≡ field_there left 0 → is_some f ≡ not none → none ≡ false → (after : List ℕ) → after ≡ drop (6 * 1) left
        → fields_of after ≡ drop (i + 1) (fields_of part)
    after_turn None true e s h after ea = cc
    after_turn None false e s h after ea = cc
    after_turn (Some x) none e s h after ea =
        let one : fields_of after ≡ drop 1 (fields_of left) = rw (first_field left x (sym e), ea) in
        one ∙ (ap (drop 1) inv ∙ drop-drop 1 i (fields_of part))

  pub after_end : i ≤ n → n ≤ i → fields_of left ≡ drop n (fields_of part)
  after_end a b = let e : i ≡ n = omega arith in inv ∙ ap (λ j. drop j (fields_of part)) e

-- ---- a line

module _ (n m i kind : ℕ) (line : List ℕ) (e : Entry) (ee : e ≡ entry_in whole_text kind) (b : Bool) (eb : b ≡ has_terms e.terms) where
  pub of_nothing : not b ≡ true → true ≡ line_fits n m i (fields_of line) kind
  unfolding line_fits
  of_nothing h = rw (← ee, ← eb, not-true b h)

  pub of_terms : not b ≡ false → (part : List ℕ) → fields_of part ≡ drop e.fixed (fields_of line) → (own : ℕ) → own ≡ own_of e.side n m
      → (r : Bool) → r ≡ terms_fit own (reads_sum e.terms) (sorts_of e.terms own m i) (fields_of part) → r ≡ line_fits n m i (fields_of line) kind
  unfolding line_fits
  of_terms h part ep own eo r er = rw (← ee, ← eb, not-false b h) (er ∙ rw (eo, ep))
