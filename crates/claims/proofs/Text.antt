-- A design text is the printing of its design (`printed_again`): what the lines of a text without fault say, written down again, is the text,
-- byte by byte. So a design text and its design say the same, and reading is believed as far as printing is (design/specs/Print).
use Prim.Native.Nat.{ℕ}
use mathlib.Core.Path.{◌≡◌, ap, ◌∙◌}
use mathlib.Core.List.{List}
use Rattle.reader.specs.Text.{text_of}
use Rattle.reader.proofs.Written.{text_written}
use Rattle.design.specs.Lines.{design_text}
use Rattle.design.specs.Faults.{DesignText, second}
use Rattle.design.specs.Print.{print_lines}
use Rattle.loader.proofs.Lowest.{free_exactly}
use Rattle.loader.proofs.Passed.{lines_printed}

pub printed_again : (text : List ℕ) → DesignText text → text_of (print_lines (design_text text)) ≡ text
printed_again text is = ap text_of (lines_printed text ((free_exactly text).1 is)) ∙ text_written text (λ f. is 2 (second f))
