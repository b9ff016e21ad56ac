-- What is told, by what loading the two texts came to.
use Prim.Native.Nat.{ℕ}
use mathlib.Core.Path.{◌≡◌, sym, ap, ◌∙◌}
use mathlib.Core.Bool.{Bool, true, false, cond}
use mathlib.Core.List.{List}
use borrow.Author.Tests.{eq-eqb, ne_eqb}
use Rattle.reader.specs.Text.{fields_by_line}
use Rattle.design.specs.Lines.{counts_of}
use Rattle.design.specs.Loaded.{fields_held, starts_held, sections}
use Rattle.design.specs.declared.Shape.{Shape}
use Rattle.layout.specs.Sizes.{shape_of}
use Rattle.layout.proofs.Sizes.{sections_kept}
use Rattle.loader.specs.Load.{fault_of, held_by, loaded_of}
use Rattle.loader.specs.declared.Loaded.{Loaded}
use Rattle.loader.proofs.Passed.{of_ok, of_err, counts_allowed_lem}
use Rattle.std.specs.Prelude.{Result, Ok, Err, ◌≢◌}
use Rattle.verdicts.specs.declared.Fault.{Fault}
use Rattle.verdicts.proofs.Refusals.{number_is_some}
use Rattle.duty.specs.Arrays.{same_process}
use Rattle.duty.specs.Duty.{same_specification, duty_told}
use Rattle.duty.proofs.Loaded.{same_held}

module _ (text : List ℕ) (q : Result Loaded Fault) (el : q ≡ loaded_of text) where
  faulty : (f : Fault) → q ≡ Err f → fault_of text ≢ 0
  faulty f e z = number_is_some f (sym (of_err text q el f e) ∙ z)

  free : (l : Loaded) → q ≡ Ok l → fault_of text ≡ 0
  free l e = (of_ok text q el l e).0

  held : (l : Loaded) → q ≡ Ok l → l ≡ held_by (fields_by_line text)
  held l e = (of_ok text q el l e).1

  pub no_design : (duty : List ℕ) (f : Fault) → q ≡ Err f → 2 ≡ duty_told text duty
  unfolding duty_told
  no_design duty f e = rw (ne_eqb (fault_of text) 0 (faulty f e))

module _ (text : List ℕ) (q : Result Loaded Fault) (el : q ≡ loaded_of text) (l : Loaded) (z : q ≡ Ok l) (duty : List ℕ) (p : Result Loaded Fault) (ed : p ≡ loaded_of duty) where
  pub no_duty : (f : Fault) → p ≡ Err f → 3 ≡ duty_told text duty
  unfolding duty_told
  no_duty f e = rw (eq-eqb (fault_of text) 0 (free text q el l z), ne_eqb (fault_of duty) 0 (faulty duty p ed f e))

  module _ (d : Loaded) (y : p ≡ Ok d) (r : Bool)
      (er : r ≡ same_process l.lines.fields l.lines.starts (shape_of l.counts).specification d.lines.fields d.lines.starts (shape_of d.counts).specification) where
    abbrev own : List (List ℕ)
    own = fields_by_line text

    abbrev due : List (List ℕ)
    due = fields_by_line duty

    compared : r ≡ same_specification own due
    compared =
        er
        ∙ ap (λ (x : Loaded). same_process x.lines.fields x.lines.starts (shape_of x.counts).specification d.lines.fields d.lines.starts (shape_of d.counts).specification) (held text q el l z)
        ∙ ap (λ (x : Loaded). same_process (fields_held own) (starts_held own) (shape_of (counts_of own)).specification x.lines.fields x.lines.starts (shape_of x.counts).specification) (held duty p ed d y)
        ∙ ap (λ (h : Shape). same_process (fields_held own) (starts_held own) h.specification (fields_held due) (starts_held due) (shape_of (counts_of due)).specification) (sections_kept (counts_of own) (counts_allowed_lem text (free text q el l z)))
        ∙ ap (λ (h : Shape). same_process (fields_held own) (starts_held own) (sections (counts_of own)).specification (fields_held due) (starts_held due) h.specification) (sections_kept (counts_of due) (counts_allowed_lem duty (free duty p ed d y)))
        ∙ same_held text duty (free text q el l z) (free duty p ed d y)

    told : cond r 0 1 ≡ duty_told text duty
    unfolding duty_told
    told = rw (eq-eqb (fault_of text) 0 (free text q el l z), eq-eqb (fault_of duty) 0 (free duty p ed d y)) (ap (λ b. cond b 0 1) compared)

    pub duty_same : r ≡ true → 0 ≡ duty_told text duty
    duty_same e = ap (λ b. cond b 0 1) (sym e) ∙ told

    pub duty_differs : r ≡ false → 1 ≡ duty_told text duty
    duty_differs e = ap (λ b. cond b 0 1) (sym e) ∙ told
