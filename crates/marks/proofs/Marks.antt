-- What the functions return, as specs/Marks says it, the count of internal rows, and the turns of the loop over formulas.
use mathlib.Core.Path.{◌≡◌, refl, ◌∙◌}
use mathlib.Core.Bool.{Bool, true, false, cond}
use mathlib.Core.List.{List, ◌∷◌}
use Prim.Native.Nat.{ℕ, zero, suc, ◌+◌, ◌-◌, ◌≤◌, ◌<◌}
use native.Mathlib.Numerals.{add-one}
use native.Mathlib.Omega.{arith}
use borrow.Author.Tests.{eq-eqb, ne_eqb}
use lib.Dec.{eqb}
use lib.ListN.{length, get_or, drop}
use Rattle.std.specs.List.{filter, range_with_len}
use Rattle.terms.specs.Read.{read_f}
use Rattle.terms.proofs.Read.{place}
use Rattle.eval.specs.Answer.{answer_f}
use Rattle.eval.specs.declared.Held.{Held}
use Rattle.sum_free.specs.SumFree.{found_f}
use Rattle.sum_free.specs.declared.Found.{Found}
use Rattle.criteria.specs.Step.{internal_rows}
use Rattle.design.specs.Line.{row_of, formulas_used}
use Rattle.design.specs.Loaded.{line_from, each_line_of}
use Rattle.design.specs.declared.Process.{Process}
use Rattle.design.specs.declared.Shape.{Shape}
use Rattle.marks.specs.Marks.{internal_in, after_formulas, mark_place, marked_in, place_from, mark_holds}

-- ---- internal rows

one_more : (b : Bool) (x : ℕ) (xs : List ℕ) → length (cond b (x ∷ xs) xs) ≡ cond b (suc (length xs)) (length xs)
one_more true x xs = refl
one_more false x xs = refl

module _ (f s : List ℕ) (p : Process) where
  abbrev pub internal_at : ℕ → Bool
  internal_at i = eqb (get_or (line_from f s (p.rows.first + i)) 1 0) 0

  counted : (n i : ℕ) → length (filter internal_at (range_with_len i n)) ≡ internal_rows (each_line_of (row_of p.parameters.count) (line_from f s) n (p.rows.first + i))
  unfolding internal_rows each_line_of
  counted zero i = refl
  counted (suc n) i =
      let k : suc (p.rows.first + i) ≡ p.rows.first + suc i = omega arith in
      one_more (internal_at i) i (filter internal_at (range_with_len (i + 1) n)) ∙ rw (add-one i, counted n (suc i), k)

  pub internal_is : (n : ℕ) → length (filter internal_at (range_with_len 0 n)) ≡ internal_in f s p n
  unfolding internal_in
  internal_is n = let z : p.rows.first + 0 ≡ p.rows.first = omega arith in rw z at (counted n 0)

-- ---- marks

module _ (f : List ℕ) (at n : ℕ) where
  pub formulas_begin : after_formulas f at (n - 0) ≡ after_formulas f at n
  formulas_begin = let e : n - 0 ≡ n = omega arith in rw e

  pub formulas_turn : (p i : ℕ) (x : Found) → i < n → x ≡ found_f p (read_f 32 (drop p f)) → after_formulas f p (n - i) ≡ after_formulas f at n
      → after_formulas f x.next (n - (i + 1)) ≡ after_formulas f at n
  unfolding after_formulas formulas_used
  formulas_turn p i x l ex inv = go ∙ inv
    where
      go : after_formulas f x.next (n - (i + 1)) ≡ after_formulas f p (n - i)
      go =
          let e : n - i ≡ suc (n - (i + 1)) = omega arith in
          let u : ℕ = (read_f 32 (drop p f)).used in
          rw (e, ex, place f p u refl) (omega arith)

  pub formulas_end : (p i : ℕ) → n ≤ i → after_formulas f p (n - i) ≡ after_formulas f at n → p ≡ after_formulas f at n
  unfolding after_formulas formulas_used
  formulas_end p i l inv = go ∙ inv
    where
      go : p ≡ after_formulas f p (n - i)
      go = let e : n - i ≡ 0 = omega arith in rw e (omega arith)

pub mark_place_is : (f s : List ℕ) (h : Shape) (k line i j r : ℕ) → line ≡ get_or s h.marks.first 0 → i ≡ k - 1 → j ≡ internal_in f s h.implementation i
    → r ≡ after_formulas f (line + 1) j → r ≡ mark_place f s h k
unfolding mark_place
mark_place_is f s h k line i j r el ei ej er = er ∙ rw (ej, ei, el)

module _ (f s : List ℕ) (h : Shape) (k : ℕ) (v : List ℕ) (e : ℕ) where
  pub all_marked : h.marks.count ≡ 0 → true ≡ marked_in f s h k v e
  unfolding marked_in
  all_marked z = rw (eq-eqb h.marks.count 0 z)

  pub marked_is : (p : ℕ) (x : Held) → (h.marks.count ≡ 0 → ⊥) → p ≡ mark_place f s h k → x ≡ answer_f p v e (read_f 32 (drop p f)) → x.holds ≡ marked_in f s h k v e
  unfolding marked_in
  marked_is p x some ep ex = rw (ex, ep, ne_eqb h.marks.count 0 some)

-- ---- marks by their place in the line

module _ (s : List ℕ) (h : Shape) (at : ℕ) where
  pub place_none : at ≡ 0 → 0 ≡ place_from s h at
  place_none z = rw z

  pub place_some : (line : ℕ) → (at ≡ 0 → ⊥) → line ≡ get_or s h.marks.first 0 → line + at ≡ place_from s h at
  place_some line some el = rw (el, ne_eqb at 0 some)

module _ (f : List ℕ) (p : ℕ) (v : List ℕ) (e : ℕ) where
  pub holds_none : p ≡ 0 → true ≡ mark_holds f p v e
  unfolding mark_holds
  holds_none z = rw z

  pub holds_some : (x : Held) → (p ≡ 0 → ⊥) → x ≡ answer_f p v e (read_f 32 (drop p f)) → x.holds ≡ mark_holds f p v e
  unfolding mark_holds
  holds_some x some ex = rw (ex, ne_eqb p 0 some)
