-- What the functions return is what their contracts say: laws whose premises are what the code knows there, one fact each.
use mathlib.Core.Path.{◌≡◌, refl, sym, ap, ◌∙◌}
use mathlib.Core.Logic.{◌≢◌}
use mathlib.Core.Bool.{Bool, true, false, not, cond}
use mathlib.Core.List.{List, [], ◌∷◌}
use Prim.Native.Nat.{ℕ, ◌+◌, ◌<◌, ◌≤◌}
use native.Mathlib.Omega.{arith}
use native.Mathlib.Numerals.{add-one}
use borrow.Author.Tests.{eq-eqb, ne_eqb}
use lib.Dec.{eqb}
use lib.ListN.{length, get_or, drop, drop_of_length-le}
use lib.Seq.{drop-cons, drop-drop}
use Rattle.terms.specs.Tree.{Value, Formula}
use Rattle.terms.specs.Mark.{value_mark}
use Rattle.terms.specs.Read.{Reader, read_v, read_f, value_by}
use Rattle.terms.proofs.Read.{step_v, place}
use Rattle.terms.specs.declared.ValueMark.{ValueMark}
use Rattle.terms.specs.declared.ValueMark.TheVariants as vm
use Rattle.eval.specs.Answer.{answer_f}
use Rattle.eval.specs.declared.Held.{Held}
use Rattle.decision.specs.Admitted.{is_zero}
use Rattle.design.specs.declared.Counts.{Counts}
use Rattle.design.specs.declared.Shape.{Shape}
use Rattle.layout.specs.Sizes.{counts_fit, shape_of}
use Rattle.layout.proofs.Sizes.{sections_kept}
use Rattle.action_check.specs.ActionsFit.{actions_fit_in}
use Rattle.action_check.specs.Lines as lines
use Rattle.action_check.proofs.Lines.{was_no, was_yes, rows_fit}

-- ---- a value's first two fields

-- any mark but that of `0 n`
abbrev NotNumber : ValueMark → Type 0
NotNumber vm.Number = ⊥
NotNumber vm.Parameter = Unit {0}
NotNumber vm.SumValue = Unit {0}
NotNumber (vm.Arithmetic o) = Unit {0}
NotNumber vm.Choice = Unit {0}
NotNumber vm.Wrong = Unit {0}

of_either : {A : Type 0} (P : A → Type 0) (b : Bool) (x y : A) → P x → P y → P (cond b x y)
of_either P true x y px py = px
of_either P false x y px py = py

not_number : (m : ℕ) → m ≢ 0 → NotNumber (value_mark m)
unfolding value_mark
not_number m h =
    rw (ne_eqb m 0 h)
    (of_either NotNumber (eqb m 1) _ _ tt
    (of_either NotNumber (eqb m 2) _ _ tt
    (of_either NotNumber (eqb m 3) _ _ tt
    (of_either NotNumber (eqb m 4) _ _ tt (of_either NotNumber (eqb m 5) _ _ tt (of_either NotNumber (eqb m 6) _ _ tt tt))))))

module _ (v : Reader Value) (f : Reader Formula) where
  other_mark : (w : ValueMark) → NotNumber w → (l : List ℕ) → is_zero (value_by w v f l).tree ≡ false
  other_mark vm.Number n l = absurd n
  other_mark vm.Parameter n [] = refl
  other_mark vm.Parameter n (x ∷ l) = refl
  other_mark vm.SumValue n l = refl
  other_mark (vm.Arithmetic o) n l = refl
  other_mark vm.Choice n l = refl
  other_mark vm.Wrong n l = refl

  no_operand : (w : ValueMark) → is_zero (value_by w v f []).tree ≡ false
  no_operand vm.Number = refl
  no_operand vm.Parameter = refl
  no_operand vm.SumValue = refl
  no_operand (vm.Arithmetic o) = refl
  no_operand vm.Choice = refl
  no_operand vm.Wrong = refl

module _ (fields : List ℕ) (at : ℕ) where
  pub zero_past : length fields ≤ at → false ≡ lines.zero_at fields at
  unfolding read_v
  zero_past h = rw (drop_of_length-le fields {i = at} h)

  module _ (h : at < length fields) where
    by_mark : lines.zero_at fields at ≡ is_zero (value_by (value_mark (get_or fields at 0)) (λ l. read_v 31 l) (λ l. read_f 31 l) (drop (at + 1) fields)).tree
    by_mark = rw (step_v fields at 32 (λ e. omega arith) h)

    pub zero_other : get_or fields at 0 ≢ 0 → false ≡ lines.zero_at fields at
    zero_other n = sym (by_mark ∙ other_mark _ _ (value_mark (get_or fields at 0)) (not_number (get_or fields at 0) n) (drop (at + 1) fields))

    pub zero_short : length fields ≤ at + 1 → false ≡ lines.zero_at fields at
    zero_short g = sym (by_mark ∙ rw (drop_of_length-le fields {i = at + 1} g) (no_operand _ _ (value_mark (get_or fields at 0))))

    pub zero_second : get_or fields at 0 ≡ 0 → at + 1 < length fields → eqb (get_or fields (at + 1) 0) 0 ≡ lines.zero_at fields at
    unfolding value_mark
    zero_second e g = sym (by_mark ∙ rw (e, drop-cons fields (at + 1) 0 g))

-- ---- tests of one row, and of two

module _ (fields starts : List ℕ) where
  module _ (i : ℕ) where
    abbrev action : ℕ
    action = lines.action_at fields starts i

    pub differs : (a x : ℕ) → x ≡ action → not (eqb a x) ≡ lines.differs fields starts a i
    differs a x e = rw e

    module _ (a : ℕ) (ea : a ≡ action) where
      pub alone_internal : (end : ℕ) → a ≡ 0 → true ≡ lines.alone fields starts end i
      alone_internal end z = rw (sym ea ∙ z)

      pub alone_visible : (end : ℕ) → a ≢ 0 → (r : Bool) → r ≡ lines.between (lines.differs fields starts a) (i + 1) end
          → r ≡ lines.alone fields starts end i
      alone_visible end n r er = er ∙ rw (← ea, ne_eqb a 0 n, add-one i)

      pub bare_visible : a ≢ 0 → true ≡ lines.bare fields starts i
      bare_visible n = rw (← ea, ne_eqb a 0 n)

      pub bare_internal : a ≡ 0 → (r : Bool) → r ≡ lines.bare_at fields starts i → r ≡ lines.bare fields starts i
      bare_internal z r er = er ∙ rw (sym ea ∙ z)

      module _ (j b : ℕ) (eb : b ≡ lines.action_at fields starts j) where
        pub agree_apart : a ≢ b → true ≡ lines.agree fields starts i j
        agree_apart n = rw (← ea, ← eb, ne_eqb a b n)

        pub agree_spans : a ≡ b → (x y : ℕ) → x ≡ lines.span_at fields starts i → y ≡ lines.span_at fields starts j
            → eqb x y ≡ lines.agree fields starts i j
        agree_spans e x y ex ey = rw (← ea, ← eb, eq-eqb a b e, ex, ey)

    -- the data of a row starts where its condition ends
    pub data_at : (start : ℕ) → start ≡ get_or starts i 0 → (ps : List ℕ) (a : Held)
        → a ≡ answer_f (start + 3) ps 0 (read_f 32 (drop (start + 3) fields)) → (r : Bool) → r ≡ lines.zero_at fields a.next
        → r ≡ lines.bare_at fields starts i
    data_at start es ps a ea r er =
        let u : ℕ = (read_f 32 (drop (start + 3) fields)).used in
        let n : a.next ≡ start + 3 + u = ap (λ (x : Held). x.next) ea in
        er ∙ rw (← es, drop-drop 3 start fields, place fields (start + 3) u n)

-- ---- all rows

module _ (fields starts : List ℕ) (from middle end : ℕ) where
  abbrev whole : Bool
  whole = lines.rows_are_allowed fields starts from middle end

  module _ (a : Bool) (ea : a ≡ lines.between (lines.alone fields starts middle) from middle) where
    pub twice_impl : not a ≡ true → false ≡ whole
    twice_impl n = rw (← ea, was_no a n)

    module _ (na : not a ≡ false) (b : Bool) (eb : b ≡ lines.between (lines.alone fields starts end) middle end) where
      pub twice_spec : not b ≡ true → false ≡ whole
      twice_spec n = rw (← ea, was_yes a na, ← eb, was_no b n)

      module _ (nb : not b ≡ false) (c : Bool) (ec : c ≡ lines.between (lines.differs fields starts 0) middle end) where
        pub internal_spec : not c ≡ true → false ≡ whole
        internal_spec n = rw (← ea, was_yes a na, ← eb, was_yes b nb, ← ec, was_no c n)

        module _ (nc : not c ≡ false) (d : Bool) (ed : d ≡ lines.between (lines.bare fields starts) from middle) where
          pub internal_data : not d ≡ true → false ≡ whole
          internal_data n = rw (← ea, was_yes a na, ← eb, was_yes b nb, ← ec, was_yes c nc, ← ed, was_no d n)

          pub spans : not d ≡ false → (e : Bool) → e ≡ lines.between (lines.agrees fields starts middle end) from middle → e ≡ whole
          spans n e ee = rw (← ea, was_yes a na, ← eb, was_yes b nb, ← ec, was_yes c nc, ← ed, was_yes d n) ee

module _ (fields starts : List ℕ) (c : Counts) (b : Bool) (eb : b ≡ counts_fit c) where
  pub too_many : not b ≡ true → false ≡ actions_fit_in fields starts c
  too_many n = rw (← eb, was_no b n)

  pub as_rows : (h : Shape) (r : Bool) → not b ≡ false → h ≡ shape_of c
      → r ≡ lines.rows_are_allowed fields starts h.implementation.rows.first h.specification.rows.first h.invariant → r ≡ actions_fit_in fields starts c
  as_rows h r n eh er =
      let all : counts_fit c ≡ true = sym eb ∙ was_yes b n in
      rw all
      (er ∙ ap (λ (g : Shape). lines.rows_are_allowed fields starts g.implementation.rows.first g.specification.rows.first g.invariant) (eh ∙ sections_kept c all)
      ∙ rows_fit fields starts c)
