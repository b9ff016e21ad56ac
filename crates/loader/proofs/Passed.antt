-- Of a text that is loaded: its lines stand in order and are made of their terms, so the arrays hold its design (`design_in_lem`), and its lines
-- are the printing of its design (`lines_printed`).
use Prim.Native.Nat.{ℕ, ◌≤◌}
use mathlib.Core.Path.{◌≡◌, refl, sym, ap, ◌∙◌}
use mathlib.Core.Bool.{Bool, true, false, cond}
use mathlib.Core.List.{List}
use native.Mathlib.Omega.{arith}
use borrow.Author.Tests.{eqb-true, eqb-false, le-leb}
use lib.Dec.{eqb}
use lib.ListN.{length}
use Rattle.foundation.proofs.Reflects.{says_yes}
use Rattle.reader.specs.Text.{fields_by_line, count_all, columns_fault}
use Rattle.reader.proofs.Faults.{columns_free, most_in_all}
use Rattle.criteria.specs.Design.{Admitted}
use Rattle.kinds.specs.Kinds.{whole_text}
use Rattle.design.specs.Lines.{kind_of, count_of, counts_of, internal_of, design_of}
use Rattle.design.specs.Faults.{DesignText}
use Rattle.design.specs.Loaded.{fields_held, starts_held, design_in}
use Rattle.design.specs.Tests.{layout_fits, bounds_fit}
use Rattle.design.specs.Print.{print_lines}
use Rattle.design.proofs.Each.{by_each_line}
use Rattle.design.proofs.Fault4.{Layout, by_layout, layout_of}
use Rattle.design.proofs.WholeText.{counted}
use Rattle.design.proofs.Held.{TermsFit, design_held}
use Rattle.design.proofs.Reprinted.{lines_again}
use Rattle.layout.specs.Sizes.{counts_fit}
use Rattle.line_check.proofs.LineFits.{by_line}
use Rattle.action_check.specs.ActionsFit.{actions_fit}
use Rattle.std.specs.Prelude.{Result, Ok, Err}
use Rattle.verdicts.specs.declared.Fault.{Fault}
use Rattle.verdicts.specs.Refusals.{fault_number, fault_found}
use Rattle.verdicts.proofs.Refusals.{its_number}
use Rattle.loader.specs.declared.Loaded.{Loaded}
use Rattle.loader.specs.Load.{line_test, terms_fit_all, table_fault, fault_of, held_by, loaded_of}
use Rattle.loader.proofs.Loading.{few_lines}
use Rattle.loader.proofs.Lowest.{free_exactly, fault_at_most}
use Rattle.loader.proofs.Admitted.{text_admitted}

-- no fault is given: each test passed
columns_by : (c t : ℕ) (b : Bool) → eqb c 0 ≡ b → cond b t c ≡ 0 → (c ≡ 0) × (t ≡ 0)
columns_by c t true e h = (eqb-true c 0 e, h)
columns_by c t false e h = absurd (eqb-false c 0 e h)

tests_by : (a b c d : Bool) → ◌≡◌ {A = ℕ} (cond a (cond b (cond c (cond d 0 7) 6) 5) 4) 0 → (a ≡ true) × (c ≡ true)
tests_by true true true true h = (refl, refl)
tests_by true true true false h = absurd (omega arith)
tests_by true true false d h = absurd (omega arith)
tests_by true false c d h = absurd (omega arith)
tests_by false b c d h = absurd (omega arith)

ok_is : {l k : Loaded} → ◌≡◌ {A = Result Loaded Fault} (Ok l) (Ok k) → l ≡ k
ok_is {l} e = ap (λ (r : Result Loaded Fault). loaded_or l r) e
  where
    loaded_or : Loaded → Result Loaded Fault → Loaded
    loaded_or x (Ok y) = y
    loaded_or x (Err f) = x

module _ (text : List ℕ) (ok : fault_of text ≡ 0) where
  abbrev lines : List (List ℕ)
  lines = fields_by_line text

  parts : (columns_fault text ≡ 0) × (table_fault lines ≡ 0)
  unfolding fault_of
  parts = columns_by (columns_fault text) (table_fault lines) _ refl ok

  tests : (layout_fits whole_text lines ≡ true) × (terms_fit_all lines ≡ true)
  unfolding table_fault
  tests = tests_by (layout_fits whole_text lines) (bounds_fit lines) (terms_fit_all lines) (actions_fit (design_of lines)) parts.1

  pub lay : Layout whole_text lines
  lay = layout_of whole_text lines (says_yes (by_layout whole_text lines) tests.0)

  pub made : TermsFit lines
  made =
      says_yes (by_each_line _ (line_test (count_of 1 lines) (count_of 2 lines) (internal_of lines)) (λ line. by_line (count_of 1 lines) (count_of 2 lines) (internal_of lines) line (kind_of line)) lines) tests.1

  pub is_design_text : DesignText text
  is_design_text = (free_exactly text).0 ok

  pub admitted : Admitted (design_of lines)
  admitted = text_admitted text is_design_text

  pub few : length lines ≤ 84
  few = few_lines lines lay

  pub fits : count_all lines ≤ 4096
  fits = most_in_all text (columns_free text parts.0).third

  pub lines_printed : print_lines (design_of lines) ≡ lines
  lines_printed = lines_again lines lay made

  -- the arrays hold the text's design
  pub design_in_lem : design_in (fields_held lines) (starts_held lines) (counts_of lines) ≡ design_of lines
  design_in_lem = design_held lines few fits lay made

  pub counts_allowed_lem : counts_fit (counts_of lines) ≡ true
  counts_allowed_lem = let q = counted lay in rw (le-leb _ 8 q.kind1.1, le-leb _ 8 q.kind2.1, le-leb _ 32 q.kind3, le-leb _ 32 q.kind4, le-leb _ 1 q.kind8)

-- the fault is told
pub fault_kept : (text : List ℕ) → fault_found (loaded_of text) ≡ fault_of text
unfolding loaded_of
fault_kept text = go (eqb (fault_of text) 0) refl
  where
    go : (b : Bool) → eqb (fault_of text) 0 ≡ b → fault_found (loaded_of text) ≡ fault_of text
    go true e = rw e (sym (eqb-true (fault_of text) 0 e))
    go false e = let z = eqb-false (fault_of text) 0 e in rw e (its_number (fault_of text) z (fault_at_most text z))

-- what a text comes to, read off: its fault, or no fault and its lines
module _ (text : List ℕ) (r : Result Loaded Fault) (er : r ≡ loaded_of text) where
  pub fault_is : fault_of text ≡ fault_found r
  fault_is = sym (rw er (fault_kept text))

  pub of_err : (f : Fault) → r ≡ Err f → fault_of text ≡ fault_number f
  of_err f e = fault_is ∙ ap fault_found e

  pub of_ok : (l : Loaded) → r ≡ Ok l → (fault_of text ≡ 0) × (l ≡ held_by (fields_by_line text))
  unfolding loaded_of
  of_ok l e = let z : fault_of text ≡ 0 = fault_is ∙ ap fault_found e in (z, ok_is (sym e ∙ (er ∙ rw z)))
