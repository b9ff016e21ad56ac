-- The test of a line (specs/LineFits) says whether fault 6 is in it:
--   by_terms   fields are terms of these sorts and nothing else (`Terms`) exactly if the test says so: what is read was printed, and
--              what is printed is read back;
--   by_line    the same by the line's kind (`LineTerms`), where a line of a kind without terms has nothing to keep;
--   no_fault6, fault6_at   so fault 6 is in a text exactly if the test says no for one of its lines;
--   made_of    and the lines of a text without it are made of their terms.
use Prim.Native.Nat.{ℕ, ◌≤◌}
use mathlib.Core.Path.{◌≡◌, refl, sym, ap, ◌∙◌}
use mathlib.Core.Bool.{Bool, true, false, true≢false, ◌&&◌}
use mathlib.Core.List.{List, [], ◌∷◌, ◌++◌, Memᴰ}
use native.Mathlib.Omega.{arith}
use lib.ListN.{length, drop}
use lib.Seq.{drop-append_seam}
use Rattle.foundation.specs.Reflects.{Reflects, so, not_so}
use Rattle.foundation.proofs.Reflects.{by_iff, by_and, by_if, by_value, says_yes, says_no}
use Rattle.terms.specs.Tree.{Value, Formula, ok_v, ok_f}
use Rattle.terms.specs.Read.{Reader, leaf, read_v, read_f}
use Rattle.terms.specs.Depth.{depth_v, depth_f}
use Rattle.terms.specs.Print.{print_v, print_f}
use Rattle.terms.proofs.Printing.{Printed, print_read_v, print_read_f, read_print_v, read_print_f}
use Rattle.kinds.specs.Kinds as kinds
use Rattle.kinds.specs.Kinds.{whole_text, entry_in, Sort, has_terms}
use Rattle.design.specs.Lines.{kind_of, count_of, internal_of}
use Rattle.design.specs.Faults as faults
use Rattle.design.specs.Faults.{Terms, HasTerms, LineTerms, Fault6}
use Rattle.line_check.specs.LineFits.{nothing, terms_fit, line_fits}

-- ---- terms one after the other

-- fields that begin with a term, as `Terms` says it of a value or of a formula
record First {A : Type 0} (print : A → List ℕ) (ok : A → Bool) (depth : A → ℕ) (after : List ℕ → Type 0) (fields : List ℕ) : Type 0 where
  term : A
  rest : List ℕ
  well_formed : ok term ≡ true
  within : depth term ≤ 32
  printed : fields ≡ print term ++ rest
  later : after rest

-- it does exactly if what the reading p gives is well formed, and what is left after it is so
module _ {A : Type 0} (print : A → List ℕ) (ok : A → Bool) (depth : A → ℕ) (after : List ℕ → Type 0) (p : Reader A) (fields : List ℕ)
    (taken : ok (p fields).tree ≡ true → Printed print depth 32 (p fields) fields)
    (back : (t : A) → ok t ≡ true → depth t ≤ 32 → (l : List ℕ) → p (print t ++ l) ≡ leaf t (length (print t))) where
  abbrev left : List ℕ
  left = drop (p fields).used fields

  begins : ok (p fields).tree ≡ true → after left → First print ok depth after fields
  begins good h = record {
    term = (p fields).tree;
    rest = left;
    well_formed = good;
    within = (taken good).within;
    printed = (taken good).split;
    later = h;
  }

  module _ (h : First print ok depth after fields) where
    read : p fields ≡ leaf h.term (length (print h.term))
    read = ap p h.printed ∙ back h.term h.well_formed h.within h.rest

    first_ok : ok (p fields).tree ≡ true
    first_ok = rw read h.well_formed

    first_later : after left
    first_later =
        let e : drop (length (print h.term)) fields ≡ h.rest =
        ap (λ (l : List ℕ). drop (length (print h.term)) l) h.printed ∙ drop-append_seam (print h.term) h.rest
        in
        rw (read, e) h.later

  by_first : (b : Bool) → Reflects (after left) b → Reflects (First print ok depth after fields) (ok (p fields).tree && b)
  by_first b r = by_iff (λ h. begins h.0 h.1) (λ h. (first_ok h, first_later h)) (by_and (by_value (ok (p fields).tree)) r)

module _ (n : ℕ) (row : Bool) where
  abbrev v_ok : Value → Bool
  v_ok t = ok_v t n row

  abbrev f_ok : Formula → Bool
  f_ok t = ok_f t n row

  -- what `Terms` says, by the first sort
  abbrev Said : List Sort → List ℕ → Type 0
  Said [] fields = fields ≡ []
  Said (kinds.value ∷ sorts) fields = First print_v v_ok depth_v (Terms n row sorts) fields
  Said (kinds.formula ∷ sorts) fields = First print_f f_ok depth_f (Terms n row sorts) fields

  said : {sorts : List Sort} {fields : List ℕ} → Terms n row sorts fields → Said sorts fields
  said faults.none = refl
  said (faults.then_value {fields = l} v ok d h) = record { term = v; rest = l; well_formed = ok; within = d; printed = refl; later = h }
  said (faults.then_formula {fields = l} f ok d h) = record { term = f; rest = l; well_formed = ok; within = d; printed = refl; later = h }

  says : (sorts : List Sort) (fields : List ℕ) → Said sorts fields → Terms n row sorts fields
  says [] fields h = rw h faults.none
  says (kinds.value ∷ sorts) fields h = rw h.printed (faults.then_value h.term h.well_formed h.within h.later)
  says (kinds.formula ∷ sorts) fields h = rw h.printed (faults.then_formula h.term h.well_formed h.within h.later)

  by_nothing : (fields : List ℕ) → Reflects (fields ≡ []) (nothing fields)
  by_nothing [] = so refl
  by_nothing (x ∷ fields) = not_so (λ e. let z : ◌≡◌ {A = ℕ} 0 1 = cc in omega arith)

  by_said : (sorts : List Sort) (fields : List ℕ) → Reflects (Said sorts fields) (terms_fit n row sorts fields)
  unfolding terms_fit
  by_said [] fields = by_nothing fields
  by_said (kinds.value ∷ sorts) fields =
      by_first print_v v_ok depth_v (Terms n row sorts) (read_v 32) fields
      (read_print_v n row 32 fields) (λ t ok d l. print_read_v n row t 32 ok d l)
      _ (by_iff (says sorts _) (λ h. said h) (by_said sorts _))
  by_said (kinds.formula ∷ sorts) fields =
      by_first print_f f_ok depth_f (Terms n row sorts) (read_f 32) fields
      (read_print_f n row 32 fields) (λ t ok d l. print_read_f n row t 32 ok d l)
      _ (by_iff (says sorts _) (λ h. said h) (by_said sorts _))

  pub by_terms : (sorts : List Sort) (fields : List ℕ) → Reflects (Terms n row sorts fields) (terms_fit n row sorts fields)
  by_terms sorts fields = by_iff (says sorts fields) (λ h. said h) (by_said sorts fields)

-- ---- a line, by its kind

module _ (n m i : ℕ) (line : List ℕ) (kind : ℕ) where
  pub by_line : Reflects (HasTerms kind → LineTerms n m i line kind) (line_fits n m i line kind)
  unfolding line_fits
  by_line = by_if _ (by_value _) (λ _. by_terms _ _ _ _)

-- ---- a text

module _ (lines : List (List ℕ)) where
  abbrev Fits : List ℕ → Type 0
  Fits line = line_fits (count_of 1 lines) (count_of 2 lines) (internal_of lines) line (kind_of line) ≡ true

  -- where the test says yes for each line, fault 6 is not in the text
  pub no_fault6 : ((line : List ℕ) → Memᴰ line lines → Fits line) → Fault6 lines → ⊥
  no_fault6 each (faults.wrong_terms {line = line} at h wrong) = wrong (says_yes (by_line _ _ _ line (kind_of line)) (each line at) h)

  -- where it says no for one, it is
  pub fault6_at : {line : List ℕ} → Memᴰ line lines → line_fits (count_of 1 lines) (count_of 2 lines) (internal_of lines) line (kind_of line) ≡ false → Fault6 lines
  fault6_at {line} at e = go (has_terms (entry_in whole_text (kind_of line)).terms) refl
    where
      not_so_it_is : (HasTerms (kind_of line) → LineTerms (count_of 1 lines) (count_of 2 lines) (internal_of lines) line (kind_of line)) → ⊥
      not_so_it_is = says_no (by_line _ _ _ line (kind_of line)) e

      go : (b : Bool) → has_terms (entry_in whole_text (kind_of line)).terms ≡ b → Fault6 lines
      go true h = faults.wrong_terms at h (λ t. not_so_it_is (λ _. t))
      go false h = absurd (not_so_it_is (λ y. absurd (true≢false (sym y ∙ h))))

  -- so a line of a text without fault 6 is made of its terms
  pub made_of : (Fault6 lines → ⊥) → {line : List ℕ} → Memᴰ line lines → HasTerms (kind_of line)
      → LineTerms (count_of 1 lines) (count_of 2 lines) (internal_of lines) line (kind_of line)
  made_of free {line} at h = go (by_line (count_of 1 lines) (count_of 2 lines) (internal_of lines) line (kind_of line))
    where
      go : {b : Bool} → Reflects (HasTerms (kind_of line) → LineTerms (count_of 1 lines) (count_of 2 lines) (internal_of lines) line (kind_of line)) b
          → LineTerms (count_of 1 lines) (count_of 2 lines) (internal_of lines) line (kind_of line)
      go (so p) = p h
      go (not_so p) = absurd (free (faults.wrong_terms at h (λ t. p (λ _. t))))
