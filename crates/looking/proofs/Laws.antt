-- What the functions return is what specs/Told says.
use mathlib.Core.Path.{◌≡◌, refl, sym, ◌∙◌, ap, subst}
use mathlib.Core.Bool.{Bool, true, false, cond}
use mathlib.Core.List.{List, [], ◌∷◌}
use Prim.Native.Nat.{ℕ, ◌+◌}
use lib.ListN.{length, get_or, drop}
use Rattle.criteria.specs.Design.{Design}
use Rattle.terms.specs.Read.{read_v, read_f}
use Rattle.terms.proofs.Read.{place}
use Rattle.design.specs.Line.{values_in, invariant_of, mapping_of, measure_value}
use Rattle.design.specs.Loaded.{line_from, design_at}
use Rattle.design.specs.declared.Counts.{Counts}
use Rattle.design.specs.declared.Shape.{Shape}
use Rattle.layout.specs.Sizes.{Fits, shape_of}
use Rattle.layout.proofs.Sizes.{shape_fits}
use Rattle.lowest_failure.specs.Search.{criterion_for}
use Rattle.steps.specs.Arrays.{first_values}
use Rattle.loader.specs.declared.Loaded.{Loaded}
use Rattle.loader.specs.Load.{fault_of, loaded_of}
use Rattle.loader.proofs.Passed.{of_ok, of_err}
use Rattle.desk_numbers.specs.Numbers.{counts_told, counts_in}
use Rattle.std.specs.Prelude.{Result, Ok, Err, replicate}
use borrow.Author.Tests.{ne_eqb}
use Rattle.verdicts.specs.declared.Fault.{Fault}
use Rattle.verdicts.specs.Refusals.{fault_number}
use Rattle.verdicts.proofs.Refusals.{number_is_some}
use Rattle.layout.specs.Lines.{no_lines}
use Rattle.layout.specs.declared.Lines.{Lines}
use Rattle.told_terms.specs.Terms.{value_told, formula_told, values_told}
use Rattle.told_terms.proofs.Laws.{eight}
use Rattle.told_rows.specs.Rows.{told_row}
use Rattle.looking.specs.Told.{arrays_of, state_told, criterion_told}

-- ---- a text

module _ (text : List ℕ) (q : Result Loaded Fault) (eq : q ≡ loaded_of text) where
  module _ (l : Loaded) (e : q ≡ Ok l) where
    pub no_fault : 0 ≡ fault_of text
    no_fault = sym (of_ok text q eq l e).0

    held : l ≡ arrays_of text
    unfolding arrays_of
    held = (of_ok text q eq l e).1 ∙ rw (of_ok text q eq l e).0

    pub fields_held_lem : (w : List ℕ) → w ≡ l.lines.fields → w ≡ (arrays_of text).lines.fields
    fields_held_lem w ew = ew ∙ ap (λ (k : Loaded). k.lines.fields) held

    pub starts_held_lem : (w : List ℕ) → w ≡ l.lines.starts → w ≡ (arrays_of text).lines.starts
    starts_held_lem w ew = ew ∙ ap (λ (k : Loaded). k.lines.starts) held

    pub counts_held : (w : List ℕ) → w ≡ counts_told l.counts → w ≡ counts_told (arrays_of text).counts
    counts_held w ew = ew ∙ ap (λ (k : Loaded). counts_told k.counts) held

  module _ (f : Fault) (e : q ≡ Err f) where
    pub fault_told : (k : ℕ) → k ≡ fault_number f → k ≡ fault_of text
    fault_told k ek = ek ∙ sym (of_err text q eq f e)

    module _ (z : Lines) (ez : z ≡ no_lines) (c : Counts) (ec : c ≡ counts_in (replicate 5 0)) where
      nothing : record { lines = z; counts = c } ≡ arrays_of text
      unfolding arrays_of
      nothing = rw (ez, ec, of_err text q eq f e, ne_eqb (fault_number f) 0 (number_is_some f))

      pub fields_zero : (w : List ℕ) → w ≡ z.fields → w ≡ (arrays_of text).lines.fields
      fields_zero w ew = ew ∙ ap (λ (k : Loaded). k.lines.fields) nothing

      pub starts_zero : (w : List ℕ) → w ≡ z.starts → w ≡ (arrays_of text).lines.starts
      starts_zero w ew = ew ∙ ap (λ (k : Loaded). k.lines.starts) nothing

      pub counts_zero : (w : List ℕ) → w ≡ counts_told c → w ≡ counts_told (arrays_of text).counts
      counts_zero w ew = ew ∙ ap (λ (k : Loaded). counts_told k.counts) nothing

-- ---- terms on a line after its kind

from_line : (f : List ℕ) (line start : ℕ) → line ≡ start → drop (line + 1) f ≡ drop 1 (drop start f)
from_line f line start e = sym (place f line 1 refl) ∙ ap (λ (x : ℕ). drop 1 (drop x f)) e

module _ (f s v : List ℕ) (k line r : ℕ) (el : line ≡ get_or s k 0) where
  pub line_formula : r ≡ formula_told (read_f 32 (drop (line + 1) f)).tree v 0 → r ≡ formula_told (invariant_of (line_from f s k)) v 0
  line_formula er = er ∙ ap (λ (l : List ℕ). formula_told (read_f 32 l).tree v 0) (from_line f line (get_or s k 0) el)

  pub line_value : r ≡ value_told (read_v 32 (drop (line + 1) f)).tree v 0 → r ≡ value_told (measure_value (line_from f s k)) v 0
  line_value er = er ∙ ap (λ (l : List ℕ). value_told (read_v 32 l).tree v 0) (from_line f line (get_or s k 0) el)

pub line_values : (f s v : List ℕ) (k n line : ℕ) (w : List ℕ) → line ≡ get_or s k 0 → w ≡ values_told (values_in n (drop (line + 1) f)) v 0
    → w ≡ values_told (mapping_of n (line_from f s k)) v 0
line_values f s v k n line w el ew = ew ∙ ap (λ (l : List ℕ). values_told (values_in n l) v 0) (from_line f line (get_or s k 0) el)

-- ---- eight places

pub state_places : (a b : ℕ) (w : List ℕ) → length w ≡ 8
    → a ∷ b ∷ get_or w 0 0 ∷ get_or w 1 0 ∷ get_or w 2 0 ∷ get_or w 3 0 ∷ get_or w 4 0 ∷ get_or w 5 0 ∷ get_or w 6 0 ∷ get_or w 7 0 ∷ [] ≡ a ∷ b ∷ w
unfolding first_values
state_places a b w e = ap (λ (l : List ℕ). a ∷ b ∷ l) (eight w e)

-- ---- a state

pub state_told_lem : (f s v : List ℕ) (h : Shape) (c k : Counts) (a b : ℕ) (m w : List ℕ) → c ≡ k → h ≡ shape_of c
    → a ≡ formula_told (invariant_of (line_from f s h.invariant)) v 0
    → b ≡ value_told (measure_value (line_from f s h.measure)) v 0
    → m ≡ values_told (mapping_of h.specification.parameters.count (line_from f s h.mapping)) v 0
    → w ≡ a ∷ b ∷ m → w ≡ state_told (design_at f s (shape_of k)) v
unfolding state_told
state_told_lem f s v h c k a b m w ec eh ea eb em ew = ew ∙ rw (ea, eb, em) (ap (λ (g : Shape). state_told (design_at f s g) v) (eh ∙ ap shape_of ec))

-- ---- a row

pub row_by_counts : (f s v : List ℕ) (h : Shape) (c k : Counts) (side row e : ℕ) (w : List ℕ) → c ≡ k → h ≡ shape_of c → w ≡ told_row (design_at f s h) side row v e
    → w ≡ told_row (design_at f s (shape_of k)) side row v e
row_by_counts f s v h c k side row e w ec eh ew = ew ∙ ap (λ (g : Shape). told_row (design_at f s g) side row v e) (eh ∙ ap shape_of ec)

-- ---- a criterion

pub fits_by_counts : (h : Shape) (c : Counts) → h ≡ shape_of c → Fits h
fits_by_counts h c eh = subst Fits (sym eh) (shape_fits c)

module _ (f s v : List ℕ) (h : Shape) (c q : Counts) (ec : c ≡ q) (eh : h ≡ shape_of c) (n k e : ℕ) (b : Bool) (eb : b ≡ criterion_for (design_at f s h) v n k e) where
  by_counts : cond b 1 0 ≡ criterion_told (design_at f s (shape_of q)) v n k e
  unfolding criterion_told
  by_counts = ap (λ (x : Bool). cond x 1 0) eb ∙ ap (λ (g : Shape). criterion_told (design_at f s g) v n k e) (eh ∙ ap shape_of ec)

  pub criterion_holds : b ≡ true → 1 ≡ criterion_told (design_at f s (shape_of q)) v n k e
  criterion_holds y = sym (ap (λ (x : Bool). cond x 1 0) y) ∙ by_counts

  pub criterion_fails : b ≡ false → 0 ≡ criterion_told (design_at f s (shape_of q)) v n k e
  criterion_fails y = sym (ap (λ (x : Bool). cond x 1 0) y) ∙ by_counts
