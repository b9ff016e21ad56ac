-- Laws of what is written: six stores are a field, five fields and a byte 10 the report (`report_sets`), which reads back as its five
-- numbers (`report_read`); and what a buffer holds where they fit, and where not.
use Prim.Native.Nat.{ℕ, ◌+◌, ◌-◌, ◌%◌, ◌<◌, ◌≤◌}
use mathlib.Core.Path.{◌≡◌, refl, sym, ◌∙◌}
use mathlib.Core.List.{List, [], ◌∷◌, ◌++◌, nil≢cons}
use native.Mathlib.Omega.{arith}
use borrow.Author.Tests.{lt-ltb, le-leb, lt-leb}
use lib.ListN.{length, set, drop}
use lib.Seq.{sets, sets-eq}
use Rattle.columns.specs.Columns.{column_of, columns_of}
use Rattle.reader.specs.Line.{written, Each16}
use Rattle.reader.specs.Text.{text_of, fields_by_line}
use Rattle.reader.specs.Text as text
use Rattle.reader.proofs.Written.{written_lines}
use Rattle.writer.specs.Put.{put, put_length}
use Rattle.writer.specs.Report.{fields_of_report, report_bytes}
use Rattle.verdicts.specs.declared.Report.{Report}

first_blank : (n : ℕ) → n < 65536 → column_of n 100000 ≡ 32
unfolding column_of
first_blank n h = rw (lt-ltb n 100000 (omega arith))

-- a number that fits 16 bits has a blank in its first column
pub columns_are : (n a b c d : ℕ) → n < 65536 → a ≡ column_of n 10000 → b ≡ column_of n 1000 → c ≡ column_of n 100 → d ≡ column_of n 10
    → columns_of n ≡ 32 ∷ a ∷ b ∷ c ∷ d ∷ (48 + n % 10) ∷ []
unfolding columns_of
columns_are n a b c d h ea eb ec ed = rw (ea, eb, ec, ed, first_blank n h)

-- five fields one after the other, and byte 10, are the report
pub report_sets : (r : Report) (b l₁ l₂ l₃ l₄ l₅ : List ℕ) → 31 ≤ length b
    → l₁ ≡ sets b 0 (columns_of r.verdict) → l₂ ≡ sets l₁ 6 (columns_of r.number) → l₃ ≡ sets l₂ 12 (columns_of r.state)
    → l₄ ≡ sets l₃ 18 (columns_of r.row) → l₅ ≡ sets l₄ 24 (columns_of r.sum)
    → set l₅ 30 10 ≡ sets b 0 (report_bytes r)
unfolding columns_of report_bytes text_of written
report_sets r b l₁ l₂ l₃ l₄ l₅ h e₁ e₂ e₃ e₄ e₅ = rw (e₅, e₄, e₃, e₂, e₁)

-- the report is a text of one line, with these fields
pub report_read : (r : Report) → Each16 (fields_of_report r) → fields_by_line (report_bytes r) ≡ fields_of_report r ∷ []
unfolding report_bytes
report_read r each = written_lines (text.more each (λ e. nil≢cons (sym e)) text.none)

-- ---- bytes that fit a buffer from a place on, and bytes that don't

module _ (b : List ℕ) (at : ℕ) (bytes : List ℕ) (k : ℕ) (ek : length bytes ≡ k) where
  pub none_put : length b < at + k → 0 ≡ put_length b at bytes
  unfolding put_length
  none_put h = rw (ek, lt-leb _ _ h)

  pub none_kept : length b < at + k → b ≡ put b at bytes
  unfolding put
  none_kept h = rw (ek, lt-leb _ _ h)

  pub all_put : at + k ≤ length b → k ≡ put_length b at bytes
  unfolding put_length
  all_put h = rw (ek, le-leb _ _ h)

  pub all_kept : at + k ≤ length b → (after : List ℕ) → after ≡ sets b at bytes → after ≡ put b at bytes
  unfolding put
  all_kept h after e = rw (ek, le-leb _ _ h) e

module _ (b : List ℕ) (at n : ℕ) where
  columns_length : length (columns_of n) ≡ 6
  unfolding columns_of
  columns_length = refl

  -- the buffer is shorter than a field, or ends before one from the place on
  pub short_none : length b < 6 → 0 ≡ put_length b at (columns_of n)
  short_none h = none_put b at (columns_of n) 6 columns_length (omega arith)

  pub short_kept : length b < 6 → b ≡ put b at (columns_of n)
  short_kept h = none_kept b at (columns_of n) 6 columns_length (omega arith)

  pub far_none : length b - 6 < at → 0 ≡ put_length b at (columns_of n)
  far_none h = none_put b at (columns_of n) 6 columns_length (omega arith)

  pub far_kept : length b - 6 < at → b ≡ put b at (columns_of n)
  far_kept h = none_kept b at (columns_of n) 6 columns_length (omega arith)

  module _ (h : 6 ≤ length b) (l : at ≤ length b - 6) where
    pub field_put : 6 ≡ put_length b at (columns_of n)
    field_put = all_put b at (columns_of n) 6 columns_length (omega arith)

    pub field_kept : (after : List ℕ) → after ≡ sets b at (columns_of n) → after ≡ put b at (columns_of n)
    field_kept = all_kept b at (columns_of n) 6 columns_length (omega arith)

module _ (b : List ℕ) (r : Report) where
  report_length : length (report_bytes r) ≡ 31
  unfolding columns_of report_bytes text_of written
  report_length = refl

  pub report_none : length b < 31 → 0 ≡ put_length b 0 (report_bytes r)
  report_none h = none_put b 0 (report_bytes r) 31 report_length (omega arith)

  pub report_none_kept : length b < 31 → b ≡ put b 0 (report_bytes r)
  report_none_kept h = none_kept b 0 (report_bytes r) 31 report_length (omega arith)

  module _ (h : 31 ≤ length b) where
    pub report_put : 31 ≡ put_length b 0 (report_bytes r)
    report_put = all_put b 0 (report_bytes r) 31 report_length (omega arith)

    pub report_kept : (after : List ℕ) → after ≡ sets b 0 (report_bytes r) → after ≡ put b 0 (report_bytes r)
    report_kept = all_kept b 0 (report_bytes r) 31 report_length (omega arith)

    -- a report that is put stands in the first 31 bytes
    pub report_first : put b 0 (report_bytes r) ≡ report_bytes r ++ drop 31 b
    unfolding columns_of report_bytes text_of written
    report_first = sym (report_kept (sets b 0 (report_bytes r)) refl) ∙ sets-eq (report_bytes r) b 0 h
