-- After a design text was held, the arrays hold its design.
use Prim.Native.Nat.{ℕ}
use mathlib.Core.Path.{◌≡◌, ◌∙◌, ap}
use mathlib.Core.List.{List}
use borrow.Author.Tests.{eq-eqb}
use Rattle.reader.specs.Text.{fields_by_line}
use Rattle.design.specs.Lines.{counts_of, design_text}
use Rattle.design.specs.Loaded.{fields_held, starts_held, design_at}
use Rattle.design.specs.declared.Shape.{Shape}
use Rattle.layout.specs.Sizes.{shape_of}
use Rattle.layout.proofs.Sizes.{sections_kept}
use Rattle.loader.specs.Load.{fault_of, held_by}
use Rattle.looking.specs.Told.{arrays_of}
use Rattle.loader.specs.declared.Loaded.{Loaded}
use Rattle.loader.proofs.Passed.{design_in_lem, counts_allowed_lem}
use Rattle.desk_numbers.specs.Numbers.{counts_told, counts_in}

module _ (text : List ℕ) (free : fault_of text ≡ 0) where
  abbrev lines : List (List ℕ)
  lines = fields_by_line text

  loaded_held : arrays_of text ≡ held_by lines
  unfolding arrays_of
  loaded_held = rw (eq-eqb (fault_of text) 0 free)

  pub held_design : design_at (arrays_of text).lines.fields (arrays_of text).lines.starts (shape_of (counts_in (counts_told (arrays_of text).counts))) ≡ design_text text
  held_design =
      ap (λ (l : Loaded). design_at l.lines.fields l.lines.starts (shape_of (counts_in (counts_told l.counts)))) loaded_held
      ∙ ap (λ (h : Shape). design_at (fields_held lines) (starts_held lines) h) (sections_kept (counts_of lines) (counts_allowed_lem text free))
      ∙ design_in_lem text free
