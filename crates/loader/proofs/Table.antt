-- The faults 4 to 7 of lines that a desk's arrays hold: each test of the code is that of the lines (specs/Load, `table_fault`). From
-- fault 4 on the lines stand in order, so the states are counted from the right lines; from fault 6 on the arrays hold the design
-- of the lines, so the actions are those of its rows.
use Prim.Native.Nat.{ℕ, ◌≤◌, ◌<◌, min}
use mathlib.Core.Path.{◌≡◌, refl, sym, ap, ◌∙◌}
use mathlib.Core.Bool.{Bool, true, false, not}
use mathlib.Core.List.{List, [], ◌∷◌, map}
use native.Mathlib.Omega.{arith}
use borrow.Author.Tests.{le-leb, lt-leb, not-true, not-false}
use lib.ListN.{length}
use mir.Syntax.{w16}
use mir.Val.{Fits}
use Rattle.foundation.specs.Radix.{product}
use Rattle.foundation.proofs.Reflects.{says_yes}
use Rattle.reader.specs.Text.{fields_by_line, count_all, columns_fault}
use Rattle.reader.proofs.Faults.{columns_free, most_in_all}
use Rattle.criteria.specs.Design.{Parameter}
use Rattle.kinds.specs.Kinds.{whole_text}
use Rattle.design.specs.Line.{parameter_of}
use Rattle.design.specs.Lines.{kind_of, of_kind, count_of, counts_of, internal_of, design_of}
use Rattle.design.specs.Faults.{size_of}
use Rattle.design.specs.Loaded.{held_lines, fields_held, starts_held}
use Rattle.design.specs.Tests.{each_line_is, layout_fits, numbers_fit, bounds_fit}
use Rattle.design.specs.declared.Counts.{Counts}
use Rattle.design.proofs.Fault4.{Layout, by_layout, layout_of}
use Rattle.design.proofs.WholeText.{counted}
use Rattle.design.proofs.Each.{by_each_line}
use Rattle.design.proofs.Loaded.{lines_held}
use Rattle.design.proofs.Held.{TermsFit, parameters1, internal3, design_held}
use Rattle.layout.specs.Sizes.{counts_fit, shape_of, state_count_in}
use Rattle.marks.specs.Marks.{internal_in}
use Rattle.layout.proofs.Sizes.{sections_kept}
use Rattle.line_check.proofs.LineFits.{by_line}
use Rattle.action_check.specs.ActionsFit.{actions_fit, actions_fit_in}
use Rattle.action_check.proofs.ActionsFit.{in_arrays}
use Rattle.loader.specs.Load.{line_test, internal_with, terms_fit_all, table_fault, Holds}

-- the sizes of parameters are those of their lines
pub sizes_same : (lines : List (List ℕ)) → map (λ (q : Parameter). q.size) (map parameter_of lines) ≡ map size_of lines
sizes_same [] = refl
sizes_same (line ∷ lines) = rw (sizes_same lines)

module _ (text fields starts : List ℕ) (n : ℕ) (c : Counts) (h : Holds text fields starts n c) where
  pub still_free : columns_fault text ≡ 0
  still_free = h.free

  abbrev lines : List (List ℕ)
  lines = fields_by_line text

  few : length lines ≤ 84
  few = rw h.lines_all at h.few

  fit : count_all lines ≤ 4096
  fit = most_in_all text (columns_free text h.free).third

  held : held_lines fields starts n ≡ lines
  held = rw (h.fields_held_lem, h.starts_held_lem, h.lines_all) (lines_held lines few fit)

  module _ (a : Bool) (ea : a ≡ layout_fits whole_text (held_lines fields starts n)) where
    layout_is : layout_fits whole_text lines ≡ a
    layout_is = sym (ea ∙ ap (layout_fits whole_text) held)

    pub fault_4 : not a ≡ true → 4 ≡ table_fault lines
    unfolding table_fault
    fault_4 e = rw (layout_is, not-true a e)

    module _ (ha : not a ≡ false) where
      four : layout_fits whole_text lines ≡ true
      four = layout_is ∙ not-false a ha

      lay : Layout whole_text lines
      lay = layout_of whole_text lines (says_yes (by_layout whole_text lines) four)

      module _ (b : Bool) (eb : b ≡ each_line_is numbers_fit (held_lines fields starts n)) where
        numbers_are : each_line_is numbers_fit lines ≡ b
        numbers_are = sym (eb ∙ ap (each_line_is numbers_fit) held)

        pub fault_5 : not b ≡ true → 5 ≡ table_fault lines
        unfolding table_fault bounds_fit
        fault_5 e = rw (four, numbers_are, not-true b e)

        module _ (hb : not b ≡ false) (m : ℕ) (em : m ≡ state_count_in fields starts c) where
          counts_fit_lem : counts_fit (counts_of lines) ≡ true
          counts_fit_lem = let q = counted lay in rw (le-leb _ 8 q.kind1.1, le-leb _ 8 q.kind2.1, le-leb _ 32 q.kind3, le-leb _ 32 q.kind4, le-leb _ 1 q.kind8)

          -- how many states there are
          product_is : m ≡ min (product (map size_of (of_kind 1 lines))) 65537
          unfolding state_count_in
          product_is =
              em
              ∙ rw (h.fields_held_lem, h.starts_held_lem, h.counts_all, counts_fit_lem)
              (ap (λ ps. min (product (map (λ (q : Parameter). q.size) ps)) 65537) (parameters1 lines few fit lay) ∙ rw (sizes_same (of_kind 1 lines)))

          pub fault_5_states : 65536 < m → 5 ≡ table_fault lines
          unfolding table_fault bounds_fit
          fault_5_states l =
              let p = product_is in
              rw (four, numbers_are, not-false b hb, lt-leb (product (map size_of (of_kind 1 lines))) 65536 (omega arith))

          module _ (hm : m ≤ 65536) where
            five : bounds_fit lines ≡ true
            unfolding bounds_fit
            five = let p = product_is in rw (numbers_are, not-false b hb, le-leb (product (map size_of (of_kind 1 lines))) 65536 (omega arith))

            kind1_is : c.kind1 ≡ count_of 1 lines
            kind1_is = ap (λ x. x.kind1) h.counts_all

            kind2_is : c.kind2 ≡ count_of 2 lines
            kind2_is = ap (λ x. x.kind2) h.counts_all

            pub fits_1 : Fits w16 c.kind1
            fits_1 = let q = (counted lay).kind1.1 in let e = kind1_is in record { fits = omega arith }

            pub fits_2 : Fits w16 c.kind2
            fits_2 = let q = (counted lay).kind2.1 in let e = kind2_is in record { fits = omega arith }

            module _ (i : ℕ) (ei : i ≡ internal_with fields starts (shape_of c)) where
              internal_is : i ≡ internal_of lines
              unfolding internal_in
              internal_is =
                  ei ∙ rw (h.fields_held_lem, h.starts_held_lem, h.counts_all, sections_kept (counts_of lines) counts_fit_lem) (internal3 lines few fit lay)

              module _ (t : Bool) (et : t ≡ each_line_is (line_test c.kind1 c.kind2 i) (fields_by_line text)) where
                terms_are : terms_fit_all lines ≡ t
                terms_are = sym (et ∙ rw (kind1_is, kind2_is, internal_is))

                pub fault_6 : not t ≡ true → 6 ≡ table_fault lines
                unfolding table_fault
                fault_6 e = rw (four, five, terms_are, not-true t e)

                module _ (ht : not t ≡ false) (u : Bool) (eu : u ≡ actions_fit_in fields starts c) where
                  made : TermsFit lines
                  made =
                      says_yes (by_each_line _ (line_test (count_of 1 lines) (count_of 2 lines) (internal_of lines)) (λ line. by_line (count_of 1 lines) (count_of 2 lines) (internal_of lines) line (kind_of line)) lines)
                      (terms_are ∙ not-false t ht)

                  actions_are : actions_fit (design_of lines) ≡ u
                  actions_are =
                      sym
                      (eu
                      ∙ rw (h.fields_held_lem, h.starts_held_lem, h.counts_all)
                      (in_arrays (fields_held lines) (starts_held lines) (counts_of lines) counts_fit_lem ∙ ap actions_fit (design_held lines few fit lay made)))

                  pub fault_7 : not u ≡ true → 7 ≡ table_fault lines
                  unfolding table_fault
                  fault_7 e = rw (four, five, terms_are, not-false t ht, actions_are, not-true u e)

                  pub no_fault : not u ≡ false → 0 ≡ table_fault lines
                  unfolding table_fault
                  no_fault e = rw (four, five, terms_are, not-false t ht, actions_are, not-false u e)
