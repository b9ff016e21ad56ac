-- What the check returns is what its contract says: a law for each place where it returns, and one for each sum of fields that has to fit
-- in 64 bits. Each law's premises are what the code knows there, one fact each.
--
-- First come what an answer tells of a term, and "two terms follow" and "three terms follow" over any readers: the marks' laws at
-- the end are one line each over these. Marks 3, 4 and 5 are one law over the operation, as are 12 and 13, and 15 and 16.
use mathlib.Core.Path.{◌≡◌, refl, sym, ap}
use mathlib.Core.Bool.{Bool, true, false, ◌&&◌}
use mathlib.Core.List.{List, [], ◌∷◌}
use Prim.Native.Nat.{ℕ, zero, suc, ◌+◌, ◌-◌, ◌*◌, ◌^◌, ◌<◌, ◌≤◌}
use native.Mathlib.Omega.{arith}
use borrow.Author.Tests.{lt-ltb, le-ltb}
use lib.ListN.{length, drop, length-drop}
use mir.Syntax.{w64}
use mir.Val.{Fits}
use Rattle.terms.specs.Tree.{Value, Formula, ok_v, ok_f}
use Rattle.terms.specs.Mark.{value_mark, formula_mark}
use Rattle.terms.specs.Read.{Reader, read_v, read_f, value_by, formula_by}
use Rattle.terms.proofs.Read.{step_v, step_f}
use Rattle.terms.proofs.Printing.{read_print_v, read_print_f}
use Rattle.terms.specs.declared.Arith.{Arith}
use Rattle.terms.specs.declared.Compare.{Compare}
use Rattle.terms.specs.declared.Join.{Join}
use Rattle.terms.specs.declared.ValueMark.{ValueMark}
use Rattle.terms.specs.declared.ValueMark.TheVariants as vm
use Rattle.terms.specs.declared.FormulaMark.{FormulaMark}
use Rattle.terms.specs.declared.FormulaMark.TheVariants as fm
use Rattle.reader.specs.Line.{field_there, fields_of}
use Rattle.reader.proofs.Line.{first_field, no_field, rest_fields, fields_within}
use Rattle.std.specs.Prelude.{Option, Some, None}
use Rattle.term_check.specs.Checked.{checked, checked_v, checked_f}

-- What an answer tells of the term, where terms are read by p and ok says which are well formed.

ok_of : (t : Bool) (u k : ℕ) → Some k ≡ checked t u → t ≡ true
ok_of true u k e = refl
ok_of false u k e = cc

used_of : (t : Bool) (u k : ℕ) → Some k ≡ checked t u → u ≡ k
used_of true u k e = cc
used_of false u k e = cc

wrong_of : (t : Bool) (u : ℕ) → None ≡ checked t u → t ≡ false
wrong_of true u e = cc
wrong_of false u e = refl

abbrev pub answer : {A : Type 0} → Reader A → (A → Bool) → List ℕ → Option ℕ
answer p ok l = checked (ok (p l).tree) (p l).used

module _ {A : Type 0} (p : Reader A) (ok : A → Bool) (l : List ℕ) where
  pub good_of : {k : ℕ} → Some k ≡ answer p ok l → ok (p l).tree ≡ true
  good_of {k} h = ok_of _ _ k h

  pub took_of : {k : ℕ} → Some k ≡ answer p ok l → (p l).used ≡ k
  took_of {k} h = used_of (ok (p l).tree) _ k h

  pub bad_of : None ≡ answer p ok l → ok (p l).tree ≡ false
  bad_of h = wrong_of _ (p l).used h

-- The answer for two terms in a row, after a mark.
module _ {A B : Type 0} (p : Reader A) (q : Reader B) (f : A → Bool) (g : B → Bool) (l : List ℕ) where
  abbrev both : Option ℕ
  both = checked (f (p l).tree && g (q (drop (p l).used l)).tree) (1 + ((p l).used + (q (drop (p l).used l)).used))

  both_wrong : None ≡ answer p f l → None ≡ both
  both_wrong h = rw (bad_of p f l h)

  module _ {k : ℕ} (ak : Some k ≡ answer p f l) {m : List ℕ} (em : m ≡ drop k l) where
    both_next_wrong : None ≡ answer q g m → None ≡ both
    both_next_wrong h = rw (good_of p f l ak, took_of p f l ak, ← em, bad_of q g m h)

    both_next : {j : ℕ} → Some j ≡ answer q g m → Some (1 + k + j) ≡ both
    both_next bj =
        rw (good_of p f l ak, took_of p f l ak, ← em, good_of q g m bj, took_of q g m bj) (ap Some (omega arith))

-- And for three.
module _ {A B C : Type 0} (p : Reader A) (q : Reader B) (r : Reader C) (f : A → Bool) (g : B → Bool) (h : C → Bool) (l : List ℕ) where
  abbrev all : Option ℕ
  all =
      let l₂ = drop (p l).used l in
      let l₃ = drop (q l₂).used l₂ in
      checked (f (p l).tree && (g (q l₂).tree && h (r l₃).tree)) (1 + ((p l).used + ((q l₂).used + (r l₃).used)))

  all_wrong : None ≡ answer p f l → None ≡ all
  all_wrong w = rw (bad_of p f l w)

  module _ {k : ℕ} (ak : Some k ≡ answer p f l) {m : List ℕ} (em : m ≡ drop k l) where
    all_next_wrong : None ≡ answer q g m → None ≡ all
    all_next_wrong w = rw (good_of p f l ak, took_of p f l ak, ← em, bad_of q g m w)

    module _ {j : ℕ} (bj : Some j ≡ answer q g m) {m₂ : List ℕ} (em₂ : m₂ ≡ drop j m) where
      all_last_wrong : None ≡ answer r h m₂ → None ≡ all
      all_last_wrong w =
          rw
          (good_of p f l ak, took_of p f l ak, ← em, good_of q g m bj, took_of q g m bj, ← em₂, bad_of r h m₂ w)

      all_next : {i : ℕ} → Some i ≡ answer r h m₂ → Some (1 + k + j + i) ≡ all
      all_next ci =
          rw
          (good_of p f l ak, took_of p f l ak, ← em, good_of q g m bj, took_of q g m bj, ← em₂, good_of r h m₂ ci, took_of r h m₂ ci)
          (ap Some (omega arith))

-- A well-formed term takes no more fields than a part has, so that what follows it is read from the part after them.

module _ (n : ℕ) (row : Bool) (d : ℕ) (part : List ℕ) {k : ℕ} where
  taken_v : Some k ≡ checked_v n row (read_v d (fields_of part)) → k ≤ length (fields_of part)
  taken_v ak =
      let p : Reader Value = λ x. read_v d x in
      let ok : Value → Bool = λ t. ok_v t n row in
      rw (took_of p ok (fields_of part) ak) at (read_print_v n row d (fields_of part) (good_of p ok (fields_of part) ak)).inside

  taken_f : Some k ≡ checked_f n row (read_f d (fields_of part)) → k ≤ length (fields_of part)
  taken_f ak =
      let p : Reader Formula = λ x. read_f d x in
      let ok : Formula → Bool = λ t. ok_f t n row in
      rw (took_of p ok (fields_of part) ak) at (read_print_f n row d (fields_of part) (good_of p ok (fields_of part) ak)).inside

  module _ {later : List ℕ} (el : later ≡ drop (6 * k) part) where
    after_v : Some k ≡ checked_v n row (read_v d (fields_of part)) → fields_of later ≡ drop k (fields_of part)
    after_v ak = rw el (rest_fields k part (taken_v ak))

    after_f_lem : Some k ≡ checked_f n row (read_f d (fields_of part)) → fields_of later ≡ drop k (fields_of part)
    after_f_lem ak = rw el (rest_fields k part (taken_f ak))

    -- and how many fields that leaves
    left_v : Some k ≡ checked_v n row (read_v d (fields_of part)) → k + length (fields_of later) ≡ length (fields_of part)
    left_v ak = rw (after_v ak, length-drop k (fields_of part)) (omega (arith, taken_v ak))

    left_f : Some k ≡ checked_f n row (read_f d (fields_of part)) → k + length (fields_of later) ≡ length (fields_of part)
    left_f ak = rw (after_f_lem ak, length-drop k (fields_of part)) (omega (arith, taken_f ak))

-- No term: no depth is left, or no field.

module _ (n : ℕ) (row : Bool) (bytes : List ℕ) (d : ℕ) where
  abbrev whole_v : Option ℕ
  whole_v = checked_v n row (read_v d (fields_of bytes))

  abbrev whole_f : Option ℕ
  whole_f = checked_f n row (read_f d (fields_of bytes))

  -- a value and a formula that a part begins with, one deeper
  abbrev sub_v_lem : List ℕ → Option ℕ
  sub_v_lem part = checked_v n row (read_v (d - 1) (fields_of part))

  abbrev sub_f_lem : List ℕ → Option ℕ
  sub_f_lem part = checked_f n row (read_f (d - 1) (fields_of part))

  pub shallow_v : d ≡ 0 → None ≡ whole_v
  unfolding read_v ok_v
  shallow_v e = rw e

  pub shallow_f : d ≡ 0 → None ≡ whole_f
  unfolding read_f ok_f
  shallow_f e = rw e

empty_v : (n : ℕ) (row : Bool) (d : ℕ) → None ≡ checked_v n row (read_v d [])
unfolding read_v ok_v
empty_v n row zero = refl
empty_v n row (suc d) = refl

empty_f : (n : ℕ) (row : Bool) (d : ℕ) → None ≡ checked_f n row (read_f d [])
unfolding read_f ok_f
empty_f n row zero = refl
empty_f n row (suc d) = refl

module _ (n : ℕ) (row : Bool) (bytes : List ℕ) (d : ℕ) (h : None ≡ field_there bytes 0) where
  pub ended_v : None ≡ whole_v n row bytes d
  ended_v = rw (no_field bytes (sym h)) (empty_v n row d)

  pub ended_f : None ≡ whole_f n row bytes d
  ended_f = rw (no_field bytes (sym h)) (empty_f n row d)

-- The number of fields of the whole term fits, since the part after its mark has few fields.
module _ (n : ℕ) (row : Bool) (d : ℕ) (body : List ℕ) (small : length body < 2 ^ 64) (k : ℕ) where
  pub fits_v : Some k ≡ checked_v n row (read_v d (fields_of body)) → Fits w64 (1 + k)
  fits_v ak = record { fits = omega (arith, fields_within body, taken_v n row d body ak) }

  pub fits_f : Some k ≡ checked_f n row (read_f d (fields_of body)) → Fits w64 (1 + k)
  fits_f ak = record { fits = omega (arith, fields_within body, taken_f n row d body ak) }

  module _ (second : List ℕ) (es : second ≡ drop (6 * k) body) (j : ℕ) where
    pub fits_vv : Some k ≡ checked_v n row (read_v d (fields_of body)) → Some j ≡ checked_v n row (read_v d (fields_of second)) → Fits w64 (1 + k + j)
    fits_vv ak bj = record { fits = omega (arith, fields_within body, left_v n row d body es ak, taken_v n row d second bj) }

    pub fits_ff : Some k ≡ checked_f n row (read_f d (fields_of body)) → Some j ≡ checked_f n row (read_f d (fields_of second)) → Fits w64 (1 + k + j)
    fits_ff ak bj = record { fits = omega (arith, fields_within body, left_f n row d body es ak, taken_f n row d second bj) }

    pub fits_fv : Some k ≡ checked_f n row (read_f d (fields_of body)) → Some j ≡ checked_v n row (read_v d (fields_of second)) → Fits w64 (1 + k + j)
    fits_fv ak bj = record { fits = omega (arith, fields_within body, left_f n row d body es ak, taken_v n row d second bj) }

    pub fits_fvv : (third : List ℕ) → third ≡ drop (6 * j) second → (i : ℕ) → Some k ≡ checked_f n row (read_f d (fields_of body))
        → Some j ≡ checked_v n row (read_v d (fields_of second)) → Some i ≡ checked_v n row (read_v d (fields_of third)) → Fits w64 (1 + k + j + i)
    fits_fvv third et i ak bj ci =
        record { fits = omega (arith, fields_within body, left_f n row d body es ak, left_v n row d second et bj, taken_v n row d third ci) }

-- A mark, and the part after it.
module _ (n : ℕ) (row : Bool) (bytes : List ℕ) (d : ℕ) (m : ℕ) (em : Some m ≡ field_there bytes 0) (body : List ℕ) (eb : body ≡ drop (6 * 1) bytes) where
  marked : fields_of bytes ≡ m ∷ fields_of body
  marked = rw eb (first_field bytes m (sym em))

  -- the term by its mark
  module _ (deep : d ≡ 0 → ⊥) where
    abbrev v_ok : Value → Bool
    v_ok t = ok_v t n row

    abbrev f_ok : Formula → Bool
    f_ok t = ok_f t n row

    abbrev v : Reader Value
    v l = read_v (d - 1) l

    abbrev f : Reader Formula
    f l = read_f (d - 1) l

    by_mark_v : read_v d (fields_of bytes) ≡ value_by (value_mark m) v f (fields_of body)
    by_mark_v = rw marked (step_v (m ∷ fields_of body) 0 d deep (omega arith))

    by_mark_f : read_f d (fields_of bytes) ≡ formula_by (formula_mark m) v f (fields_of body)
    by_mark_f = rw marked (step_f (m ∷ fields_of body) 0 d deep (omega arith))

    module _ (w : ValueMark) (ew : w ≡ value_mark m) where
      module _ (e : w ≡ vm.Number) where
        pub number : (i : ℕ) → Some i ≡ field_there body 0 → Some 2 ≡ whole_v n row bytes d
        unfolding ok_v
        number i h = rw (by_mark_v, ← ew, e, first_field body i (sym h))

        pub no_number : None ≡ field_there body 0 → None ≡ whole_v n row bytes d
        unfolding ok_v
        no_number h = rw (by_mark_v, ← ew, e, no_field body (sym h))

      module _ (e : w ≡ vm.Parameter) where
        pub parameter : (i : ℕ) → Some i ≡ field_there body 0 → i < n → Some 2 ≡ whole_v n row bytes d
        unfolding ok_v
        parameter i h g = rw (by_mark_v, ← ew, e, first_field body i (sym h), lt-ltb i n g)

        pub foreign_parameter : (i : ℕ) → Some i ≡ field_there body 0 → n ≤ i → None ≡ whole_v n row bytes d
        unfolding ok_v
        foreign_parameter i h g = rw (by_mark_v, ← ew, e, first_field body i (sym h), le-ltb i n g)

        pub no_parameter : None ≡ field_there body 0 → None ≡ whole_v n row bytes d
        unfolding ok_v
        no_parameter h = rw (by_mark_v, ← ew, e, no_field body (sym h))

      module _ (e : w ≡ vm.SumValue) where
        pub sum_value_lem : row ≡ true → Some 1 ≡ whole_v n row bytes d
        unfolding ok_v
        sum_value_lem h = rw (by_mark_v, ← ew, e, h)

        pub no_sum_value : row ≡ false → None ≡ whole_v n row bytes d
        unfolding ok_v
        no_sum_value h = rw (by_mark_v, ← ew, e, h)

      module _ (o : Arith) (e : w ≡ vm.Arithmetic o) where
        pub arithmetic_wrong : None ≡ sub_v_lem n row bytes d body → None ≡ whole_v n row bytes d
        unfolding ok_v
        arithmetic_wrong h = rw (by_mark_v, ← ew, e) (both_wrong v v v_ok v_ok (fields_of body) h)

        module _ (k : ℕ) (ak : Some k ≡ sub_v_lem n row bytes d body) (second : List ℕ) (es : second ≡ drop (6 * k) body) where
          pub arithmetic_next_wrong : None ≡ sub_v_lem n row bytes d second → None ≡ whole_v n row bytes d
          unfolding ok_v
          arithmetic_next_wrong h =
              rw (by_mark_v, ← ew, e) (both_next_wrong v v v_ok v_ok (fields_of body) ak (after_v n row (d - 1) body es ak) h)

          pub arithmetic_next : (j : ℕ) → Some j ≡ sub_v_lem n row bytes d second → Some (1 + k + j) ≡ whole_v n row bytes d
          unfolding ok_v
          arithmetic_next j h =
              rw (by_mark_v, ← ew, e) (both_next v v v_ok v_ok (fields_of body) ak (after_v n row (d - 1) body es ak) h)

      module _ (e : w ≡ vm.Choice) where
        pub choice_wrong : None ≡ sub_f_lem n row bytes d body → None ≡ whole_v n row bytes d
        unfolding ok_v
        choice_wrong h = rw (by_mark_v, ← ew, e) (all_wrong f v v f_ok v_ok v_ok (fields_of body) h)

        module _ (k : ℕ) (ak : Some k ≡ sub_f_lem n row bytes d body) (second : List ℕ) (es : second ≡ drop (6 * k) body) where
          pub choice_next_wrong : None ≡ sub_v_lem n row bytes d second → None ≡ whole_v n row bytes d
          unfolding ok_v
          choice_next_wrong h =
              rw (by_mark_v, ← ew, e) (all_next_wrong f v v f_ok v_ok v_ok (fields_of body) ak (after_f_lem n row (d - 1) body es ak) h)

          module _ (j : ℕ) (bj : Some j ≡ sub_v_lem n row bytes d second) (third : List ℕ) (et : third ≡ drop (6 * j) second) where
            pub choice_last_wrong : None ≡ sub_v_lem n row bytes d third → None ≡ whole_v n row bytes d
            unfolding ok_v
            choice_last_wrong h =
                rw (by_mark_v, ← ew, e)
                (all_last_wrong f v v f_ok v_ok v_ok (fields_of body) ak (after_f_lem n row (d - 1) body es ak) bj (after_v n row (d - 1) second et bj) h)

            pub choice_next : (i : ℕ) → Some i ≡ sub_v_lem n row bytes d third → Some (1 + k + j + i) ≡ whole_v n row bytes d
            unfolding ok_v
            choice_next i h =
                rw (by_mark_v, ← ew, e)
                (all_next f v v f_ok v_ok v_ok (fields_of body) ak (after_f_lem n row (d - 1) body es ak) bj (after_v n row (d - 1) second et bj) h)

      pub wrong_v : w ≡ vm.Wrong → None ≡ whole_v n row bytes d
      unfolding ok_v
      wrong_v e = rw (by_mark_v, ← ew, e)

    module _ (w : FormulaMark) (ew : w ≡ formula_mark m) where
      pub constant : (b : Bool) → w ≡ fm.Constant b → Some 1 ≡ whole_f n row bytes d
      unfolding ok_f
      constant b e = rw (by_mark_f, ← ew, e)

      module _ (o : Compare) (e : w ≡ fm.Comparison o) where
        pub comparison_wrong : None ≡ sub_v_lem n row bytes d body → None ≡ whole_f n row bytes d
        unfolding ok_f
        comparison_wrong h = rw (by_mark_f, ← ew, e) (both_wrong v v v_ok v_ok (fields_of body) h)

        module _ (k : ℕ) (ak : Some k ≡ sub_v_lem n row bytes d body) (second : List ℕ) (es : second ≡ drop (6 * k) body) where
          pub comparison_next_wrong : None ≡ sub_v_lem n row bytes d second → None ≡ whole_f n row bytes d
          unfolding ok_f
          comparison_next_wrong h =
              rw (by_mark_f, ← ew, e) (both_next_wrong v v v_ok v_ok (fields_of body) ak (after_v n row (d - 1) body es ak) h)

          pub comparison_next : (j : ℕ) → Some j ≡ sub_v_lem n row bytes d second → Some (1 + k + j) ≡ whole_f n row bytes d
          unfolding ok_f
          comparison_next j h =
              rw (by_mark_f, ← ew, e) (both_next v v v_ok v_ok (fields_of body) ak (after_v n row (d - 1) body es ak) h)

      module _ (e : w ≡ fm.Negation) where
        pub negation_wrong : None ≡ sub_f_lem n row bytes d body → None ≡ whole_f n row bytes d
        unfolding ok_f
        negation_wrong h = rw (by_mark_f, ← ew, e, bad_of f f_ok (fields_of body) h)

        pub negation_next : (k : ℕ) → Some k ≡ sub_f_lem n row bytes d body → Some (1 + k) ≡ whole_f n row bytes d
        unfolding ok_f
        negation_next k h = rw (by_mark_f, ← ew, e, good_of f f_ok (fields_of body) h, took_of f f_ok (fields_of body) h)

      module _ (o : Join) (e : w ≡ fm.Connective o) where
        pub connective_wrong : None ≡ sub_f_lem n row bytes d body → None ≡ whole_f n row bytes d
        unfolding ok_f
        connective_wrong h = rw (by_mark_f, ← ew, e) (both_wrong f f f_ok f_ok (fields_of body) h)

        module _ (k : ℕ) (ak : Some k ≡ sub_f_lem n row bytes d body) (second : List ℕ) (es : second ≡ drop (6 * k) body) where
          pub connective_next_wrong : None ≡ sub_f_lem n row bytes d second → None ≡ whole_f n row bytes d
          unfolding ok_f
          connective_next_wrong h =
              rw (by_mark_f, ← ew, e) (both_next_wrong f f f_ok f_ok (fields_of body) ak (after_f_lem n row (d - 1) body es ak) h)

          pub connective_next : (j : ℕ) → Some j ≡ sub_f_lem n row bytes d second → Some (1 + k + j) ≡ whole_f n row bytes d
          unfolding ok_f
          connective_next j h =
              rw (by_mark_f, ← ew, e) (both_next f f f_ok f_ok (fields_of body) ak (after_f_lem n row (d - 1) body es ak) h)

      pub wrong_f : w ≡ fm.Wrong → None ≡ whole_f n row bytes d
      unfolding ok_f
      wrong_f e = rw (by_mark_f, ← ew, e)
