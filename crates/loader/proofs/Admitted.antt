-- The design of a design text is admitted: its sizes, initial values and spans are in bounds, and its rows keep fault 7's rules.
use Prim.Native.Nat.{ℕ, zero, suc, ◌≤◌, ◌<◌}
use mathlib.Core.Path.{refl}
use mathlib.Core.List.Memᴰ
use mathlib.Core.List.{List, [], ◌∷◌, map}
use native.Mathlib.Omega.{arith}
use lib.ListN.{get_or}
use Rattle.foundation.specs.Nth.{EachIs}
use Rattle.foundation.proofs.Nth.{nth_nil, nth_cons}
use Rattle.reader.specs.Line.{Each16}
use Rattle.reader.specs.Line as line
use Rattle.reader.specs.Text.{fields_by_line, Lines}
use Rattle.reader.specs.Text as text
use Rattle.reader.proofs.Written.{text_lines_good}
use Rattle.criteria.specs.Design.{Parameter, Row, Admitted}
use Rattle.kinds.specs.Kinds.{entry_in}
use Rattle.design.specs.Line.{parameter_of, row_of}
use Rattle.design.specs.Lines.{of_kind, design_of}
use Rattle.design.specs.Faults.{IsParameter, IsRow, second, fifth, seventh, DesignText}
use Rattle.design.proofs.Each.{EachLine, each_cons}
use Rattle.design.proofs.Fault5.{Bounds, bounds_of}
use Rattle.design.proofs.Held.{of_kind_lem}
use Rattle.action_check.proofs.ActionsFit.{rows_admitted}
use Rattle.loader.proofs.Table.{sizes_same}

-- what is so of each line is so of what each says
each_says : {A : Type 0} (P : A → Type 0) (says : List ℕ → A) (lines : List (List ℕ)) → EachLine (λ l. P (says l)) lines → EachIs (map says lines) P
each_says P says [] each = λ k x n. absurd (nth_nil n)
each_says P says (l ∷ lines) each = nth_cons P (each l (Memᴰ.head refl)) (each_says P says lines (λ m i. each m (Memᴰ.tail i)))

-- a field is below 65,536
small : (fields : List ℕ) → Each16 fields → (i : ℕ) → get_or fields i 0 < 65536
small [] e i = omega arith
small (n ∷ fields) (line.more h e) zero = h
small (n ∷ fields) (line.more h e) (suc i) = small fields e i

each_16 : {lines : List (List ℕ)} → Lines lines → EachLine Each16 lines
each_16 text.none = λ l m. absurd (Memᴰ.not-nil m)
each_16 (text.more e some later) = each_cons Each16 e (each_16 later)

module _ (t : List ℕ) (d : DesignText t) where
  abbrev lines : List (List ℕ)
  lines = fields_by_line t

  bounds : Bounds lines
  bounds = bounds_of lines (λ f. d 5 (fifth f))

  fields16 : EachLine Each16 lines
  fields16 = each_16 (text_lines_good t (λ f. d 2 (second f)))

  parameters : (k : ℕ) → IsParameter k → EachIs (map parameter_of (of_kind k lines)) (λ q. (q.size < 65536) × (q.initial < q.size))
  parameters k p =
      each_says (λ (q : Parameter). (q.size < 65536) × (q.initial < q.size)) parameter_of (of_kind k lines)
      (λ l m. let o = of_kind_lem k lines l m in (small l (fields16 l o.1) 1, ((bounds.numbers l o.1).0 (rw o.0 p)).1))

  spans : (k n : ℕ) → IsRow k → EachIs (map (row_of n) (of_kind k lines)) (λ r. (1 ≤ r.span) × (r.span ≤ 256))
  spans k n p =
      each_says (λ (r : Row). (1 ≤ r.span) × (r.span ≤ 256)) (row_of n) (of_kind k lines)
      (λ l m. let o = of_kind_lem k lines l m in (bounds.numbers l o.1).1 (rw o.0 p))

  pub text_admitted : Admitted (design_of lines)
  unfolding design_of entry_in
  text_admitted =
      let rows = rows_admitted (design_of lines) (λ f. d 7 (seventh f)) in
      record {
        impl_sizes = parameters 1 refl;
        spec_sizes = parameters 2 refl;
        impl_spans = spans 3 _ refl;
        spec_spans = spans 4 _ refl;
        few_states = rw (sizes_same (of_kind 1 lines)) bounds.few_states;
        impl_one_row = rows.impl_one_row;
        spec_one_row = rows.spec_one_row;
        spec_visible = rows.spec_visible;
        internal_data = rows.internal_data;
        same_span = rows.same_span;
      }
