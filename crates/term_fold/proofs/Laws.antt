-- What the reader returns is what its contract says: a law for each place where it returns.
--
-- Each law's premises are what the code knows there, one fact each, and its conclusion is the answer as the code builds it; so the
-- proof of the functions only names the law. Marks 3, 4 and 5 are one law over the operation, as are 12 and 13, and 15 and 16.
use Rattle.std.proofs.Common.{◌≡◌, refl, Bool, true, false, List, [], ℕ, zero, suc, ◌+◌, ◌-◌, ◌<◌, ◌≤◌, length, get_or, drop, drop-cons, drop_of_length-le, arith as arithmetic}
use Rattle.terms.specs.Tree.{Value, Formula, num, par, sum_value, arith, choice, no_value, const, compare, negation, join, no_formula}
use Rattle.terms.specs.Mark.{value_mark, formula_mark}
use Rattle.terms.specs.Read.{read_v, read_f}
use Rattle.terms.proofs.Read.{step_v, step_f, place}
use Rattle.terms.specs.declared.Arith.{Arith}
use Rattle.terms.specs.declared.Compare.{Compare}
use Rattle.terms.specs.declared.Join.{Join}
use Rattle.terms.specs.declared.ValueMark.{ValueMark}
use Rattle.terms.specs.declared.ValueMark.TheVariants as vm
use Rattle.terms.specs.declared.FormulaMark.{FormulaMark}
use Rattle.terms.specs.declared.FormulaMark.TheVariants as fm
use Rattle.term_fold.specs.Made.{made}
use Rattle.term_fold.specs.declared.Made.{Made}

abbrev of : {A : Type 0} → A → ℕ → Made A
of a n = record { made = a; next = n }

of_eq : {A : Type 0} {a b : A} {m n : ℕ} → a ≡ b → m ≡ n → of a m ≡ of b n
of_eq p q i = of (p i) (q i)

made_of : {A : Type 0} {a b : Made A} → a ≡ b → a.made ≡ b.made
made_of e i = (e i).made

next_of : {A : Type 0} {a b : Made A} → a ≡ b → a.next ≡ b.next
next_of e i = (e i).next

module _ {A B : Type 0} (v : Value → A) (f : Formula → B) where
  empty_v : (d at : ℕ) → of (v no_value) at ≡ made v at (read_v d [])
  unfolding read_v
  empty_v zero at = of_eq refl (omega arithmetic)
  empty_v (suc d) at = of_eq refl (omega arithmetic)

  empty_f : (d at : ℕ) → of (f no_formula) at ≡ made f at (read_f d [])
  unfolding read_f
  empty_f zero at = of_eq refl (omega arithmetic)
  empty_f (suc d) at = of_eq refl (omega arithmetic)

  module _ (s : List ℕ) (at d : ℕ) where
    abbrev whole_v : Made A
    whole_v = made v at (read_v d (drop at s))

    abbrev whole_f : Made B
    whole_f = made f at (read_f d (drop at s))

    -- a value and a formula that are read one deeper, from a place on
    abbrev sub_v : ℕ → Made A
    sub_v n = made v n (read_v (d - 1) (drop n s))

    abbrev sub_f : ℕ → Made B
    sub_f n = made f n (read_f (d - 1) (drop n s))

    pub shallow_v : d ≡ 0 → (r : A) → r ≡ v no_value → of r at ≡ whole_v
    unfolding read_v
    shallow_v e r er = rw (e, er) (of_eq refl (omega arithmetic))

    pub shallow_f : d ≡ 0 → (r : B) → r ≡ f no_formula → of r at ≡ whole_f
    unfolding read_f
    shallow_f e r er = rw (e, er) (of_eq refl (omega arithmetic))

    pub ended_v : length s ≤ at → (r : A) → r ≡ v no_value → of r at ≡ whole_v
    ended_v h r er = rw (drop_of_length-le s h, er) (empty_v d at)

    pub ended_f : length s ≤ at → (r : B) → r ≡ f no_formula → of r at ≡ whole_f
    ended_f h r er = rw (drop_of_length-le s h, er) (empty_f d at)

    module _ (deep : d ≡ 0 → ⊥) (inside : at < length s) where
      module _ (w : ValueMark) (ew : w ≡ value_mark (get_or s at 0)) where
        pub number : w ≡ vm.Number → at + 1 < length s → (r : A) → r ≡ v (num (get_or s (at + 1) 0)) → of r (at + 2) ≡ whole_v
        number m h r er = rw (step_v s at d deep inside, ← ew, m, drop-cons s (at + 1) 0 h, er)

        pub no_number : w ≡ vm.Number → length s ≤ at + 1 → (r : A) → r ≡ v no_value → of r at ≡ whole_v
        no_number m h r er = rw (step_v s at d deep inside, ← ew, m, drop_of_length-le s h, er) (of_eq refl (omega arithmetic))

        pub parameter : w ≡ vm.Parameter → at + 1 < length s → (r : A) → r ≡ v (par (get_or s (at + 1) 0)) → of r (at + 2) ≡ whole_v
        parameter m h r er = rw (step_v s at d deep inside, ← ew, m, drop-cons s (at + 1) 0 h, er)

        pub no_parameter : w ≡ vm.Parameter → length s ≤ at + 1 → (r : A) → r ≡ v no_value → of r at ≡ whole_v
        no_parameter m h r er = rw (step_v s at d deep inside, ← ew, m, drop_of_length-le s h, er) (of_eq refl (omega arithmetic))

        pub the_sum_value : w ≡ vm.SumValue → (r : A) → r ≡ v sum_value → of r (at + 1) ≡ whole_v
        the_sum_value m r er = rw (step_v s at d deep inside, ← ew, m, er)

        pub operation : (o : Arith) → w ≡ vm.Arithmetic o → (a b : Made A) (r : A) → a ≡ sub_v (at + 1) → b ≡ sub_v a.next
            → ((x : Value) → a.made ≡ v x → b.made ≡ v (read_v (d - 1) (drop a.next s)).tree → r ≡ v (arith o x (read_v (d - 1) (drop a.next s)).tree))
            → of r b.next ≡ whole_v
        operation o m a b r ea eb er =
            rw (step_v s at d deep inside, ← ew, m, place s (at + 1) _ (next_of ea))
            (of_eq (er _ (made_of ea) (made_of eb)) (omega (arithmetic, next_of ea, next_of eb)))

        pub the_choice : w ≡ vm.Choice → (h : Made B) (a b : Made A) (r : A) → h ≡ sub_f (at + 1) → a ≡ sub_v h.next → b ≡ sub_v a.next
            → ((x y : Value) → h.made ≡ f (read_f (d - 1) (drop (at + 1) s)).tree → a.made ≡ v x → b.made ≡ v y
            → r ≡ v (choice (read_f (d - 1) (drop (at + 1) s)).tree x y))
            → of r b.next ≡ whole_v
        the_choice m h a b r eh ea eb er =
            rw (step_v s at d deep inside, ← ew, m, place s (at + 1) _ (next_of eh), place s h.next _ (next_of ea))
            (of_eq (er _ _ (made_of eh) (made_of ea) (made_of eb)) (omega (arithmetic, next_of eh, next_of ea, next_of eb)))

        pub wrong_v : w ≡ vm.Wrong → (r : A) → r ≡ v no_value → of r at ≡ whole_v
        wrong_v m r er = rw (step_v s at d deep inside, ← ew, m, er) (of_eq refl (omega arithmetic))

      -- a leaf that is answered at the front, where one field more follows the mark
      pub front_number : at + 1 < length s → get_or s at 0 ≡ 0 → (r : A) → r ≡ v (num (get_or s (at + 1) 0)) → of r (at + 2) ≡ whole_v
      unfolding value_mark
      front_number h e = number (value_mark (get_or s at 0)) refl (rw e) h

      pub front_parameter : at + 1 < length s → get_or s at 0 ≡ 1 → (r : A) → r ≡ v (par (get_or s (at + 1) 0)) → of r (at + 2) ≡ whole_v
      unfolding value_mark
      front_parameter h e = parameter (value_mark (get_or s at 0)) refl (rw e) h

      pub front_sum : get_or s at 0 ≡ 2 → (r : A) → r ≡ v sum_value → of r (at + 1) ≡ whole_v
      unfolding value_mark
      front_sum e = the_sum_value (value_mark (get_or s at 0)) refl (rw e)

      module _ (w : FormulaMark) (ew : w ≡ formula_mark (get_or s at 0)) where
        pub constant : (b : Bool) → w ≡ fm.Constant b → (r : B) → r ≡ f (const b) → of r (at + 1) ≡ whole_f
        constant b m r er = rw (step_f s at d deep inside, ← ew, m, er)

        pub comparison : (o : Compare) → w ≡ fm.Comparison o → (a b : Made A) (r : B) → a ≡ sub_v (at + 1) → b ≡ sub_v a.next
            → ((x y : Value) → a.made ≡ v x → b.made ≡ v y → r ≡ f (compare o x y)) → of r b.next ≡ whole_f
        comparison o m a b r ea eb er =
            rw (step_f s at d deep inside, ← ew, m, place s (at + 1) _ (next_of ea))
            (of_eq (er _ _ (made_of ea) (made_of eb)) (omega (arithmetic, next_of ea, next_of eb)))

        pub the_negation : w ≡ fm.Negation → (h : Made B) (r : B) → h ≡ sub_f (at + 1)
            → ((z : Formula) → h.made ≡ f z → r ≡ f (negation z)) → of r h.next ≡ whole_f
        the_negation m h r eh er =
            rw (step_f s at d deep inside, ← ew, m) (of_eq (er _ (made_of eh)) (omega (arithmetic, next_of eh)))

        pub connective : (o : Join) → w ≡ fm.Connective o → (h k : Made B) (r : B) → h ≡ sub_f (at + 1) → k ≡ sub_f h.next
            → ((y z : Formula) → h.made ≡ f y → k.made ≡ f z → r ≡ f (join o y z)) → of r k.next ≡ whole_f
        connective o m h k r eh ek er =
            rw (step_f s at d deep inside, ← ew, m, place s (at + 1) _ (next_of eh))
            (of_eq (er _ _ (made_of eh) (made_of ek)) (omega (arithmetic, next_of eh, next_of ek)))

        pub wrong_f : w ≡ fm.Wrong → (r : B) → r ≡ f no_formula → of r at ≡ whole_f
        wrong_f m r er = rw (step_f s at d deep inside, ← ew, m, er) (of_eq refl (omega arithmetic))

      -- a constant that is answered at the front
      pub front_true : get_or s at 0 ≡ 10 → (r : B) → r ≡ f (const true) → of r (at + 1) ≡ whole_f
      unfolding formula_mark
      front_true e = constant (formula_mark (get_or s at 0)) refl true (rw e)

      pub front_false : get_or s at 0 ≡ 11 → (r : B) → r ≡ f (const false) → of r (at + 1) ≡ whole_f
      unfolding formula_mark
      front_false e = constant (formula_mark (get_or s at 0)) refl false (rw e)
