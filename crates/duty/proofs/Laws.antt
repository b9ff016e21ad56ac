-- What the functions on arrays answer, and what a turn of each loop keeps: what is still to be compared, from here, gives the whole.
use Prim.Native.Nat.{ℕ, ◌+◌, ◌-◌, ◌≤◌, ◌<◌}
use mathlib.Core.Path.{◌≡◌, sym, ◌∙◌}
use mathlib.Core.Bool.{Bool, true, false, ◌&&◌}
use mathlib.Core.List.{List}
use borrow.Author.Tests.{eq-eqb, ne_eqb}
use lib.ListN.{get_or, drop}
use Rattle.foundation.specs.First.{all_in_range}
use Rattle.foundation.proofs.All.{all_begin, all_turn, all_fail, all_end}
use Rattle.design.specs.declared.Counts.{Counts}
use Rattle.design.specs.declared.Section.{Section}
use Rattle.design.specs.declared.Shape.{Shape}
use Rattle.layout.specs.Sizes.{shape_of}
use Rattle.duty.specs.Arrays.{length_at, same_field, same_from, same_line, same_lines_from, same_section, same_process}

-- ---- fields

module _ (f : List ℕ) (a : ℕ) (g : List ℕ) (b n : ℕ) where
  -- from field k on
  abbrev pub fields_left : ℕ → Bool
  fields_left k = all_in_range (same_field f a g b) (n - k) k

  pub fields_begin : fields_left 0 ≡ same_from f a g b n
  unfolding same_from
  fields_begin = all_begin (same_field f a g b) n

  module _ (k : ℕ) (inv : fields_left k ≡ same_from f a g b n) where
    module _ (l : k < n) (x y : ℕ) (ex : x ≡ get_or (drop a f) k 0) (ey : y ≡ get_or (drop b g) k 0) where
      pub field_turn : x ≡ y → fields_left (k + 1) ≡ same_from f a g b n
      field_turn e = sym (all_turn (same_field f a g b) n k l (eq-eqb _ _ (sym ex ∙ e ∙ ey))) ∙ inv

      pub field_stop : (x ≡ y → ⊥) → false ≡ same_from f a g b n
      field_stop e = sym (all_fail (same_field f a g b) n k l (ne_eqb _ _ (λ q. e (ex ∙ q ∙ sym ey)))) ∙ inv

    pub fields_end : n ≤ k → true ≡ same_from f a g b n
    fields_end l = sym (all_end (same_field f a g b) n k l) ∙ inv

-- ---- a line

module _ (f s : List ℕ) (i : ℕ) (g t : List ℕ) (j m n : ℕ) (em : m ≡ length_at s i) (en : n ≡ length_at t j) where
  pub line_longer : (m ≡ n → ⊥) → false ≡ same_line f s i g t j
  unfolding same_line
  line_longer e = rw (ne_eqb (length_at s i) (length_at t j) (λ q. e (em ∙ q ∙ sym en)))

  pub line_fields : m ≡ n → (a b : ℕ) → a ≡ get_or s i 0 → b ≡ get_or t j 0 → (r : Bool) → r ≡ same_from f a g b m → r ≡ same_line f s i g t j
  unfolding same_line
  line_fields e a b ea eb r er = rw (er, ea, eb, eq-eqb (length_at s i) (length_at t j) (sym em ∙ e ∙ en), em)

-- ---- lines

module _ (f s : List ℕ) (i : ℕ) (g t : List ℕ) (j n : ℕ) where
  abbrev same_nth : ℕ → Bool
  same_nth k = same_line f s (i + k) g t (j + k)

  -- from the k-th on
  abbrev pub lines_to_come : ℕ → Bool
  lines_to_come k = all_in_range same_nth (n - k) k

  pub lines_begin : lines_to_come 0 ≡ same_lines_from f s i g t j n
  unfolding same_lines_from
  lines_begin = all_begin same_nth n

  module _ (k : ℕ) (inv : lines_to_come k ≡ same_lines_from f s i g t j n) where
    module _ (l : k < n) (r : Bool) (er : r ≡ same_line f s (i + k) g t (j + k)) where
      pub line_turn : r ≡ true → lines_to_come (k + 1) ≡ same_lines_from f s i g t j n
      line_turn e = sym (all_turn same_nth n k l (sym er ∙ e)) ∙ inv

      pub line_stop : r ≡ false → false ≡ same_lines_from f s i g t j n
      line_stop e = sym (all_fail same_nth n k l (sym er ∙ e)) ∙ inv

    pub lines_end : n ≤ k → true ≡ same_lines_from f s i g t j n
    lines_end l = sym (all_end same_nth n k l) ∙ inv

-- ---- sections

module _ (f s : List ℕ) (here : Section) (g t : List ℕ) (there : Section) where
  pub section_longer : (here.count ≡ there.count → ⊥) → false ≡ same_section f s here g t there
  unfolding same_section
  section_longer e = rw (ne_eqb _ _ e)

  pub section_lines : here.count ≡ there.count → (r : Bool) → r ≡ same_lines_from f s here.first g t there.first here.count
      → r ≡ same_section f s here g t there
  unfolding same_section
  section_lines e r er = rw (eq-eqb _ _ e) er

-- the parameters and the rows of a specification
pub both_sections : (f s g t : List ℕ) (c d : Counts) (here there : Shape) → here ≡ shape_of c → there ≡ shape_of d → (p q : Bool)
    → p ≡ same_section f s here.specification.parameters g t there.specification.parameters
    → q ≡ same_section f s here.specification.rows g t there.specification.rows
    → (p && q) ≡ same_process f s (shape_of c).specification g t (shape_of d).specification
both_sections f s g t c d here there eh et p q ep eq = rw (ep, eq, eh, et)
