-- Which lines of a text show the fault by which it is turned down (01, "Turned down by the input"): a definition for each number from 2 on.
-- A text that is too long (1), and too few lines of a kind (4), are no line's. Lines are counted from 1; a line is given with those
-- before it, by its bytes in 2 and by its fields from 3 on. `Tells` is what the function here answers.
-- What the faults themselves are: reader/specs/Text and design/specs/Faults.
use Rattle.std.specs.Prelude.{ℕ, suc, ◌+◌, ◌*◌, ◌<◌, ◌≤◌, ◌≡◌, ◌≢◌, ◌⊎◌, true, false, length, get_or}
use mathlib.Core.List.{List, [], ◌∷◌, ◌++◌, map, Memᴰ}
use Rattle.limits.specs.Limits.{max_line_fields, max_fields, max_span, max_states}
use Rattle.foundation.specs.Radix.{product}
use Rattle.terms.specs.Tree.{num}
use Rattle.reader.specs.Line.{IsLine}
use Rattle.reader.specs.Text.{lines_of, last_of, fields_by_line, count_all}
use Rattle.kinds.specs.Kinds.{whole_text, entry_in, has_terms}
use Rattle.design.specs.Line.{row_of}
use Rattle.design.specs.Lines.{kind_of, of_kind, count_of, internal_of}
use Rattle.design.specs.Faults.{entry_of, of_rank, IsParameter, IsRow, size_of, LineTerms, HasTerms, Fault}
use Rattle.loader.specs.Load.{fault_of}
use Rattle.line_faults.specs.Tests.{action_of, span_of}

-- line number l of these lines is this one, after the earlier and before the later ones
pub record Cut (lines : List (List ℕ)) (l : ℕ) (earlier : List (List ℕ)) (line : List ℕ) (later : List (List ℕ)) : Type 0 where
  pub parts : lines ≡ earlier ++ line ∷ later
  pub counted : l ≡ suc (length earlier)

-- 2. "A line that isn't whole fields, an empty line, or a last line without byte 10."
pub data Shows2 (text line : List ℕ) (later : List (List ℕ)) : Type 0 where
  broken : (IsLine line → ⊥) → Shows2 text line later
  unended : later ≡ [] → last_of 10 text ≢ 10 → Shows2 text line later

-- 3. "More than 256 fields in a line or 4,096 in all": of the latter, the line with which there are more
pub data Shows3 (earlier : List (List ℕ)) (line : List ℕ) : Type 0 where
  long : max_line_fields < length line → Shows3 earlier line
  passing : count_all earlier ≤ max_fields → max_fields < count_all earlier + length line → Shows3 earlier line

-- 4. "An unknown kind, a falling kind, a wrong count of lines of a kind", of which a line shows that there are too many up to it, and
-- a wrong count of fields

-- the rank of the last of these lines; r where there is none: 0, which is no kind's
unfoldable pub last_rank : ℕ → List (List ℕ) → ℕ
last_rank r [] = r
last_rank r (line ∷ lines) = last_rank (entry_of whole_text line).rank lines

pub data Shows4 (earlier : List (List ℕ)) (line : List ℕ) : Type 0 where
  unknown : (entry_of whole_text line).most ≡ 0 → Shows4 earlier line
  falling : (entry_of whole_text line).rank < last_rank 0 earlier → Shows4 earlier line
  one_more : (entry_of whole_text line).most < suc (length (of_rank whole_text (entry_of whole_text line).rank earlier)) → Shows4 earlier line
  not_exactly : has_terms (entry_of whole_text line).terms ≡ false → length line ≢ (entry_of whole_text line).fixed → Shows4 earlier line
  too_few : has_terms (entry_of whole_text line).terms ≡ true → length line < (entry_of whole_text line).fixed → Shows4 earlier line

-- 5. "A size, initial value, span or product of sizes out of bounds": of the last, the line with which the product passes the bound
abbrev pub states : List (List ℕ) → ℕ
states lines = product (map size_of (of_kind 1 lines))

pub data Shows5 (earlier : List (List ℕ)) (line : List ℕ) : Type 0 where
  size : IsParameter (kind_of line) → size_of line ≡ 0 → Shows5 earlier line
  initial : IsParameter (kind_of line) → size_of line ≤ get_or line 2 0 → Shows5 earlier line
  span : IsRow (kind_of line) → (get_or line 2 0 ≡ 0) ⊎ (max_span < get_or line 2 0) → Shows5 earlier line
  passing : kind_of line ≡ 1 → states earlier ≤ max_states → max_states < states earlier * size_of line → Shows5 earlier line

-- 6. a line of a kind with terms that is not its terms, one after the other, and nothing else; the counts are those of all lines
pub data Shows6 (lines : List (List ℕ)) (line : List ℕ) : Type 0 where
  wrong_terms : HasTerms (kind_of line) → (LineTerms (count_of 1 lines) (count_of 2 lines) (internal_of lines) line (kind_of line) → ⊥) → Shows6 lines line

-- 7. "A visible action in two rows of one process", of which the later shows it, "action 0 in a kind 4 line, action 0 with data other
-- than `0 0`, or one action with different spans in the two processes", which the kind 4 line shows
pub data Shows7 (lines earlier : List (List ℕ)) (line : List ℕ) : Type 0 where
  twice : {other : List ℕ} → IsRow (kind_of line) → action_of line ≢ 0 → Memᴰ other earlier → kind_of other ≡ kind_of line
      → action_of other ≡ action_of line → Shows7 lines earlier line
  internal_spec : kind_of line ≡ 4 → action_of line ≡ 0 → Shows7 lines earlier line
  internal_data : kind_of line ≡ 3 → action_of line ≡ 0 → (row_of (count_of 1 lines) line).carries ≢ num 0 → Shows7 lines earlier line
  spans_differ : {other : List ℕ} → kind_of line ≡ 4 → Memᴰ other lines → kind_of other ≡ 3 → action_of other ≡ action_of line
      → span_of other ≢ span_of line → Shows7 lines earlier line

-- line l of the text shows fault number k
pub data Shows (text : List ℕ) : ℕ → ℕ → Type 0 where
  second : {l : ℕ} {earlier later : List (List ℕ)} {line : List ℕ} → Cut (lines_of text) l earlier line later → Shows2 text line later
      → Shows text 2 l
  third : {l : ℕ} {earlier later : List (List ℕ)} {line : List ℕ} → Cut (fields_by_line text) l earlier line later → Shows3 earlier line
      → Shows text 3 l
  fourth : {l : ℕ} {earlier later : List (List ℕ)} {line : List ℕ} → Cut (fields_by_line text) l earlier line later → Shows4 earlier line
      → Shows text 4 l
  fifth : {l : ℕ} {earlier later : List (List ℕ)} {line : List ℕ} → Cut (fields_by_line text) l earlier line later → Shows5 earlier line
      → Shows text 5 l
  sixth : {l : ℕ} {earlier later : List (List ℕ)} {line : List ℕ} → Cut (fields_by_line text) l earlier line later
      → Shows6 (fields_by_line text) line → Shows text 6 l
  seventh : {l : ℕ} {earlier later : List (List ℕ)} {line : List ℕ} → Cut (fields_by_line text) l earlier line later
      → Shows7 (fields_by_line text) earlier line → Shows text 7 l

-- the first line from line `from` on that shows the fault by which the text is turned down, the lowest; 0 if there is none
pub data Tells (text : List ℕ) (from : ℕ) : ℕ → Type 0 where
  line : {l : ℕ} → from ≤ l → Shows text (fault_of text) l → ((j : ℕ) → from ≤ j → j < l → Shows text (fault_of text) j → ⊥) → Tells text from l
  none : ((j : ℕ) → from ≤ j → Shows text (fault_of text) j → ⊥) → Tells text from 0

-- ---- that this explains (proofs/Explained): what a line shows is a fault of the text, and the fault by which a text is turned down is shown
-- by a line, unless the text is too long, or has too few lines of a kind

pub record TooFew (lines : List (List ℕ)) : Type 0 where
  pub kind : ℕ
  pub fewer : length (of_rank whole_text (entry_in whole_text kind).rank lines) < (entry_in whole_text kind).fewest

pub data Explained (text : List ℕ) : ℕ → Type 0 where
  free : Explained text 0
  too_long : Explained text 1
  missing : TooFew (fields_by_line text) → Explained text 4
  shown : {k l : ℕ} → Shows text k l → Explained text k

pub record Explains (text : List ℕ) : Type 0 where
  pub fault : {k l : ℕ} → Shows text k l → Fault text k
  pub explained : Explained text (fault_of text)
