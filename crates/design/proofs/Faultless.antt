-- The lines of a design text (`text_faultless`), and that such lines, few enough and of few enough fields, are written as a design text
-- (`faultless_text`).
use Prim.Native.Nat.{ℕ, ◌≤◌, ◌<◌}
use mathlib.Core.List.{List}
use native.Mathlib.Omega.{arith}
use lib.ListN.{length}
use Rattle.reader.specs.Text.{fields_by_line, count_all, text_of, Lines, long_line_lem, many}
use Rattle.reader.proofs.Written.{text_lines_good, written_lines, written_free, text_length}
use Rattle.kinds.specs.Kinds.{whole_text}
use Rattle.design.specs.Lines.{design_of}
use Rattle.design.specs.Faults.{Fault6, Fault7, first, second, third, fourth, fifth, sixth, seventh, DesignText}
use Rattle.design.proofs.Each.{EachLine}
use Rattle.design.proofs.Fault4.{Layout, layout_free, layout_of}
use Rattle.design.proofs.Fault5.{Bounds, bounds_free, bounds_of}

pub record Faultless (lines : List (List ℕ)) : Type 0 where
  pub fields : Lines lines
  pub short : EachLine (λ line. length line ≤ 256) lines
  pub layout : Layout whole_text lines
  pub bounds : Bounds lines
  pub terms : Fault6 lines → ⊥
  pub actions : Fault7 (design_of lines) → ⊥

pub text_faultless : (text : List ℕ) → DesignText text → Faultless (fields_by_line text)
text_faultless text free = record {
  fields = text_lines_good text (λ f. free 2 (second f));
  short = λ line m. let h : 256 < length line → ⊥ = λ l. free 3 (third (long_line_lem m l)) in omega arith;
  layout = layout_of whole_text (fields_by_line text) (λ f. free 4 (fourth f));
  bounds = bounds_of (fields_by_line text) (λ f. free 5 (fifth f));
  terms = λ f. free 6 (sixth f);
  actions = λ f. free 7 (seventh f);
}

module _ {lines : List (List ℕ)} (l : Faultless lines) (few : length lines ≤ 84) (fit : count_all lines ≤ 4096) where
  pub faultless_text : DesignText (text_of lines)
  faultless_text k (first f) = omega (arith, text_length lines)
  faultless_text k (second f) = written_free l.fields f
  faultless_text k (third (long_line_lem {fields = line} m h)) = let s = l.short line (rw (written_lines l.fields) at m) in omega arith
  faultless_text k (third (many h)) = let s : 4096 < count_all lines = rw (written_lines l.fields) at h in omega arith
  faultless_text k (fourth f) = layout_free whole_text lines l.layout (rw (written_lines l.fields) at f)
  faultless_text k (fifth f) = bounds_free lines l.bounds (rw (written_lines l.fields) at f)
  faultless_text k (sixth f) = l.terms (rw (written_lines l.fields) at f)
  faultless_text k (seventh f) = l.actions (rw (written_lines l.fields) at f)
