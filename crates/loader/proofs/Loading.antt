-- What `loader::load` returns where its search ends: a fault of the columns, too many lines, a fault of the lines, or none.
use Prim.Native.Nat.{ℕ, ◌+◌, ◌≤◌, ◌<◌}
use mathlib.Core.Path.{◌≡◌, sym, ap, ◌∙◌}
use mathlib.Core.List.{List, []}
use native.Mathlib.Omega.{arith}
use borrow.Author.Tests.{ne_eqb}
use lib.ListN.{length, length-append}
use Rattle.foundation.proofs.Reflects.{is_not}
use Rattle.reader.specs.Text.{fields_by_line, columns_fault}
use Rattle.reader.proofs.Faults.{columns_free, most_in_all}
use Rattle.kinds.specs.Kinds.{whole_text}
use Rattle.design.specs.Lines.{of_kind, counts_of}
use Rattle.design.specs.Loaded.{joined, starts_from, held_lines, fields_held, starts_held}
use Rattle.design.specs.declared.Counts.{Counts}
use Rattle.design.proofs.Fault4.{Layout, by_layout, layout_of}
use Rattle.design.proofs.WholeText.{in_order, counted}
use Rattle.design.proofs.Loaded.{lines_held}
use Rattle.layout.specs.Lines.{no_lines}
use Rattle.layout.specs.declared.Lines.{Lines}
use Rattle.std.proofs.lemmas.List.Edits.{sets}
use Rattle.loader.specs.Filled.{Filled}
use Rattle.verdicts.specs.declared.Fault.{Fault}
use Rattle.verdicts.specs.declared.Fault.TheVariants as fault
use Rattle.verdicts.specs.Refusals.{fault_number, fault_found}
use Rattle.verdicts.proofs.Refusals.{of_its_number, number_is_some}
use Rattle.std.specs.Prelude.{Result, Ok, Err, IsErrAnd, ⊤}
use Rattle.loader.specs.Load.{table_fault, fault_of, loaded_of, Holds}
use Rattle.loader.specs.declared.Loaded.{Loaded}

-- ---- lines without fault 4 are at most 84

module _ (lines : List (List ℕ)) (l : Layout whole_text lines) where
  abbrev k : ℕ → ℕ
  k i = length (of_kind i lines)

  pub all_lines : length lines ≡ k 1 + (k 2 + (k 3 + (k 4 + (k 5 + (k 6 + (k 7 + (k 8 + 0)))))))
  all_lines =
      ap length (sym (in_order l.kinds))
      ∙ (length-append (of_kind 1 lines) _
      ∙ ap (λ x. k 1 + x) (length-append (of_kind 2 lines) _
      ∙ ap (λ x. k 2 + x) (length-append (of_kind 3 lines) _
      ∙ ap (λ x. k 3 + x) (length-append (of_kind 4 lines) _
      ∙ ap (λ x. k 4 + x) (length-append (of_kind 5 lines) _
      ∙ ap (λ x. k 5 + x) (length-append (of_kind 6 lines) _ ∙ ap (λ x. k 6 + x) (length-append (of_kind 7 lines) _ ∙ ap (λ x. k 7 + x) (length-append (of_kind 8 lines) []))))))))

  pub few_lines : length lines ≤ 84
  few_lines =
      let a = all_lines in
      let c = counted l in
      let h1 = c.kind1.1 in
      let h2 = c.kind2.1 in
      let h3 = c.kind3 in
      let h4 = c.kind4 in
      let h5 = c.kind5 in
      let h6 = c.kind6 in
      let h7 = c.kind7 in
      let h8 = c.kind8 in
      omega arith

-- so more have fault 4
pub many_lines : (lines : List (List ℕ)) → 84 < length lines → table_fault lines ≡ 4
unfolding table_fault
many_lines lines h =
    rw (is_not (by_layout whole_text lines) (λ free. let f = few_lines lines (layout_of whole_text lines free) in omega arith))

-- ---- the search ends

passed_on : (f : Fault) (r : Result Loaded Fault) → IsErrAnd r (λ (x : Fault). x ≡ f) → r ≡ Err f
passed_on f (Err x) e = ap Err e
passed_on f (Ok l) e = absurd e

module _ (text : List ℕ) where
  -- a fault that is the text's lowest
  turned_down : (f : Fault) → fault_of text ≡ fault_number f → Err f ≡ loaded_of text
  unfolding loaded_of
  turned_down f e = rw (e, ne_eqb (fault_number f) 0 (number_is_some f), of_its_number f)

  module _ (c : Result ⊤ Fault) (ec : fault_found c ≡ columns_fault text) where
    pub load_columns : (f : Fault) → c ≡ Err f → (r : Result Loaded Fault) → IsErrAnd r (λ (x : Fault). x ≡ f) → r ≡ loaded_of text
    unfolding fault_of
    load_columns f e r er = passed_on f r er ∙ let n : columns_fault text ≡ fault_number f = sym ec ∙ ap fault_found e in turned_down f (rw (n, ne_eqb (fault_number f) 0 (number_is_some f)))

    module _ (u : ⊤) (ok : c ≡ Ok u) where
      pub free : columns_fault text ≡ 0
      free = sym ec ∙ ap fault_found ok

      fault_is : fault_of text ≡ table_fault (fields_by_line text)
      unfolding fault_of
      fault_is = rw free

      module _ (n : ℕ) (fields starts : List ℕ) (z : Lines) (ez : z ≡ no_lines) (f : Filled (fields_by_line text) z.fields z.starts n fields starts) where
        too_many : 84 < n → 84 < length (fields_by_line text)
        too_many h =
            let g : length (fields_by_line text) ≤ 84 → ⊥ = λ l. let e = f.few l in omega arith in
            omega arith

        pub load_many : 84 < n → Err fault.Layout ≡ loaded_of text
        load_many h = turned_down fault.Layout (fault_is ∙ many_lines (fields_by_line text) (too_many h))

        module _ (h : n ≤ 84) where
          not_many : length (fields_by_line text) ≤ 84
          not_many = let g : 84 < length (fields_by_line text) → ⊥ = λ l. let e = f.many l in omega arith in omega arith

          fields_are : fields ≡ fields_held (fields_by_line text)
          unfolding fields_held
          fields_are = f.fields_held_lem not_many ∙ ap (λ l. sets l.fields 0 (joined (fields_by_line text))) ez

          starts_are : starts ≡ starts_held (fields_by_line text)
          unfolding starts_held
          starts_are = f.starts_held_lem not_many ∙ ap (λ l. sets l.starts 0 (starts_from 0 (fields_by_line text))) ez

          module _ (d : Counts) (ed : d ≡ counts_of (held_lines fields starts n)) where
            counts_are : d ≡ counts_of (fields_by_line text)
            counts_are =
                ed ∙ rw (fields_are, starts_are, f.few not_many) (ap counts_of (lines_held (fields_by_line text) not_many (most_in_all text (columns_free text free).third)))

            pub holds : Holds text fields starts n d
            holds = record { free = free; fields_held_lem = fields_are; starts_held_lem = starts_are; lines_all = f.few not_many; few = h; counts_all = counts_are }

            module _ (t : Result ⊤ Fault) (et : fault_found t ≡ table_fault (fields_by_line text)) where
              pub load_table : (f : Fault) → t ≡ Err f → (r : Result Loaded Fault) → IsErrAnd r (λ (x : Fault). x ≡ f) → r ≡ loaded_of text
              load_table f e r er = passed_on f r er ∙ turned_down f (fault_is ∙ (sym et ∙ ap fault_found e))

              pub load_done : (v : ⊤) → t ≡ Ok v → ◌≡◌ {A = Result Loaded Fault} (Ok (record { lines = record { fields = fields; starts = starts }; counts = d })) (loaded_of text)
              unfolding loaded_of
              load_done v e = rw (fault_is, ← et, e, ← fields_are, ← starts_are, ← counts_are)
