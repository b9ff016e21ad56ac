-- The faults of a text (01, "Turned down by the input", 1 to 7), a definition for each; which is the lowest; and what a design text
-- is. Faults 1 to 3 are of the text's columns (crate reader); 4 to 6 are of the lines' fields, by the table of kinds (crate kinds), and 7
-- of the design that they say. Each is a statement on its own: no order of looking for them is in here.
use Rattle.std.specs.Prelude.{ℕ, ◌<◌, ◌≤◌, ◌≡◌, ◌≢◌, ◌⊎◌, Bool, true, false, cond, eqb, length, get_or, drop}
use mathlib.Core.List.{List, [], ◌∷◌, ◌++◌, map, Memᴰ}
use Rattle.limits.specs.Limits.{max_depth, max_span, max_states}
use Rattle.foundation.specs.Lowest.{First}
use Rattle.foundation.specs.Radix.{product}
use Rattle.terms.specs.Tree.{Value, Formula, num, ok_v, ok_f}
use Rattle.terms.specs.Depth.{depth_v, depth_f}
use Rattle.terms.specs.Print.{print_v, print_f}
use Rattle.reader.specs.Text.{fields_by_line, Fault1, Fault2, Fault3}
use Rattle.kinds.specs.Kinds.{Table, whole_text, entry_in, Sort, value, formula, has_terms, sorts_of, reads_sum, own_of}
use Rattle.kinds.specs.declared.Entry.{Entry}
use Rattle.kinds.specs.declared.Role.TheVariants as role
use Rattle.criteria.specs.Design.{Design, Process, Row, RowIs}
use Rattle.design.specs.Lines.{kind_of, of_kind, count_of, internal_of, design_of}

-- ---- 4, by the table of the kinds that a call takes

-- what the table says of a line's kind
abbrev pub entry_of : Table → List ℕ → Entry
entry_of table line = entry_in table (kind_of line)

-- a line's kind ranks below that of the line before; in a whole text a kind's rank is its number
pub data Falls (table : Table) : List (List ℕ) → Type 0 where
  here : {a b : List ℕ} {lines : List (List ℕ)} → (entry_of table b).rank < (entry_of table a).rank → Falls table (a ∷ b ∷ lines)
  later : {a : List ℕ} {lines : List (List ℕ)} → Falls table lines → Falls table (a ∷ lines)

-- the lines of a rank
unfoldable pub of_rank : Table → ℕ → List (List ℕ) → List (List ℕ)
of_rank table r [] = []
of_rank table r (line ∷ lines) = let later = of_rank table r lines in cond (eqb (entry_of table line).rank r) (line ∷ later) later

-- the column "lines": no fewer and no more lines than these
abbrev pub Allowed : Entry → ℕ → Type 0
Allowed e n = (e.fewest ≤ n) × (n ≤ e.most)

pub data Fault4 (table : Table) (lines : List (List ℕ)) : Type 0 where
  -- "An unknown kind": the table allows no line of it
  unknown : {line : List ℕ} → Memᴰ line lines → (entry_of table line).most ≡ 0 → Fault4 table lines
  -- "a falling kind"
  falling : Falls table lines → Fault4 table lines
  -- "a wrong count of lines of a kind"; kinds of one rank count as one
  wrong_count : (k : ℕ) → (entry_in table k).most ≢ 0 → (Allowed (entry_in table k) (length (of_rank table (entry_in table k).rank lines)) → ⊥)
      → Fault4 table lines
  -- "a kind 1 or 2 line without exactly three fields": these have no terms; nor has what is no kind, which is a 4 already
  not_exactly : {line : List ℕ} → Memᴰ line lines → has_terms (entry_of table line).terms ≡ false → length line ≢ (entry_of table line).fixed
      → Fault4 table lines
  -- "a row line with fewer than three"; a line of kinds 5 to 8 needs but its kind
  too_few : {line : List ℕ} → Memᴰ line lines → has_terms (entry_of table line).terms ≡ true → length line < (entry_of table line).fixed
      → Fault4 table lines

-- ---- 5. "A size, initial value, span or product of sizes out of bounds."

-- the kinds of parameters and of rows
abbrev pub IsParameter : ℕ → Type 0
IsParameter k = (entry_in whole_text k).role ≡ role.Parameter

abbrev pub IsRow : ℕ → Type 0
IsRow k = (entry_in whole_text k).role ≡ role.Row

abbrev pub size_of : List ℕ → ℕ
size_of line = get_or line 1 0

pub data Fault5 (lines : List (List ℕ)) : Type 0 where
  -- "Sizes and spans are at least 1"
  size : {line : List ℕ} → Memᴰ line lines → IsParameter (kind_of line) → size_of line ≡ 0 → Fault5 lines
  -- "initial values below their size"
  initial : {line : List ℕ} → Memᴰ line lines → IsParameter (kind_of line) → size_of line ≤ get_or line 2 0 → Fault5 lines
  -- "spans at most 256"
  span : {line : List ℕ} → Memᴰ line lines → IsRow (kind_of line) → (get_or line 2 0 ≡ 0) ⊎ (max_span < get_or line 2 0) → Fault5 lines
  -- "The product of the kind 1 sizes is at most 65,536"
  states : max_states < product (map size_of (of_kind 1 lines)) → Fault5 lines

-- ---- 6. "A term with a wrong mark, a parameter that doesn't exist, a sum value outside a row, depth over 32, or a line that ends
-- early or late." So a line is as it should be if it is its terms, one after the other, and nothing else.

-- fields are the terms of these sorts, of n parameters, which may read a row's sum value or not
pub data Terms (n : ℕ) (row : Bool) : List Sort → List ℕ → Type 0 where
  none : Terms n row [] []
  then_value : {sorts : List Sort} {fields : List ℕ} (v : Value) → ok_v v n row ≡ true → depth_v v ≤ max_depth → Terms n row sorts fields
      → Terms n row (value ∷ sorts) (print_v v ++ fields)
  then_formula : {sorts : List Sort} {fields : List ℕ} (f : Formula) → ok_f f n row ≡ true → depth_f f ≤ max_depth → Terms n row sorts fields
      → Terms n row (formula ∷ sorts) (print_f f ++ fields)

-- the terms of a kind stand on a line after its numbers, where n lines are of kind 1 and m of kind 2, and i rows are internal
abbrev pub LineTerms : ℕ → ℕ → ℕ → List ℕ → ℕ → Type 0
LineTerms n m i line k =
    let e = entry_in whole_text k in
    let own = own_of e.side n m in
    Terms own (reads_sum e.terms) (sorts_of e.terms own m i) (drop e.fixed line)

-- a kind with terms: 3 to 8
abbrev pub HasTerms : ℕ → Type 0
HasTerms k = has_terms (entry_in whole_text k).terms ≡ true

-- a line of such a kind that is not so
pub data Fault6 (lines : List (List ℕ)) : Type 0 where
  wrong_terms : {line : List ℕ} → Memᴰ line lines → HasTerms (kind_of line)
      → (LineTerms (count_of 1 lines) (count_of 2 lines) (internal_of lines) line (kind_of line) → ⊥) → Fault6 lines

-- ---- 7

-- two rows of a process, of different numbers
pub record TwoRows (p : Process) (r q : Row) : Type 0 where
  pub number_r : ℕ
  pub number_q : ℕ
  pub is_r : RowIs p.rows number_r r
  pub is_q : RowIs p.rows number_q q
  pub apart : number_r ≢ number_q

pub data Fault7 (d : Design) : Type 0 where
  -- "A visible action in two rows of one process"
  twice_impl : {r q : Row} → TwoRows d.impl r q → r.action ≢ 0 → r.action ≡ q.action → Fault7 d
  twice_spec : {r q : Row} → TwoRows d.spec r q → r.action ≢ 0 → r.action ≡ q.action → Fault7 d
  -- "action 0 in a kind 4 line"
  internal_spec : {k : ℕ} {q : Row} → RowIs d.spec.rows k q → q.action ≡ 0 → Fault7 d
  -- "action 0 with data other than `0 0`"
  internal_data : {k : ℕ} {r : Row} → RowIs d.impl.rows k r → r.action ≡ 0 → r.carries ≢ num 0 → Fault7 d
  -- "one action with different spans in the two processes"
  spans_differ : {k j : ℕ} {r q : Row} → RowIs d.impl.rows k r → RowIs d.spec.rows j q → r.action ≡ q.action
      → r.span ≢ q.span → Fault7 d

-- ---- the faults of a text, and the lowest

-- fault number k is in the text
pub data Fault (text : List ℕ) : ℕ → Type 0 where
  first : Fault1 text → Fault text 1
  second : Fault2 text → Fault text 2
  third : Fault3 text → Fault text 3
  fourth : Fault4 whole_text (fields_by_line text) → Fault text 4
  fifth : Fault5 (fields_by_line text) → Fault text 5
  sixth : Fault6 (fields_by_line text) → Fault text 6
  seventh : Fault7 (design_of (fields_by_line text)) → Fault text 7

-- "The lowest of 1 to 7 whose fault is anywhere in the text is given": the first in this order
abbrev pub fault_order : List ℕ
fault_order = 1 ∷ 2 ∷ 3 ∷ 4 ∷ 5 ∷ 6 ∷ 7 ∷ []

abbrev pub LowestFault : List ℕ → ℕ → Type 0
LowestFault text k = First (Fault text) fault_order k

-- a design text has none of them; its design is `design_text text`
abbrev pub DesignText : List ℕ → Type 0
DesignText text = (k : ℕ) → Fault text k → ⊥
