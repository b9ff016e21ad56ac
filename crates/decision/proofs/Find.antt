-- The row of an action, found by its number.
use mathlib.Core.Path.{◌≡◌, refl, sym, ◌∙◌}
use mathlib.Core.Logic.{◌⊎◌, inl, inr, ◌≢◌}
use mathlib.Core.Bool.{Bool, true, false}
use mathlib.Core.List.{List, [], ◌∷◌}
use Prim.Native.Nat.{ℕ, suc, ◌+◌}
use native.Mathlib.Omega.{arith}
use borrow.Author.Tests.{eqb-true, eqb-false}
use lib.Dec.{eqb}
use Rattle.foundation.specs.Nth.{first, later}
use Rattle.foundation.proofs.Nth.{nth_nil, nth_cons, nth_positive}
use Rattle.criteria.specs.Design.{Process, Row, RowIs, OneRowEach}
use Rattle.criteria.proofs.Rows.{is_row_at, one_row}
use Rattle.decision.specs.Tests.{row_from, row_number, partner}

-- there is one, and its number counts from k
pub record Found (rows : List Row) (action k : ℕ) : Type 0 where
  pub at : ℕ
  pub row : Row
  pub is_row : RowIs rows at row
  pub same : row.action ≡ action
  pub number : k + at ≡ suc (row_from rows action k)

-- there is none
pub record Missing (rows : List Row) (action k : ℕ) : Type 0 where
  pub none : (j : ℕ) (r : Row) → RowIs rows j r → r.action ≡ action → ⊥
  pub number : row_from rows action k ≡ 0

pub find : (rows : List Row) (action k : ℕ) → Found rows action k ⊎ Missing rows action k
unfolding row_from
find [] action k = inr (record { none = λ j r is h. nth_nil is; number = refl })
find (q ∷ rows) action k = go (eqb q.action action) refl (find rows action (suc k))
  where
    go : (b : Bool) → eqb q.action action ≡ b → Found rows action (suc k) ⊎ Missing rows action (suc k) → Found (q ∷ rows) action k ⊎ Missing (q ∷ rows) action k
    go true h f = inl (record { at = 1; row = q; is_row = first; same = eqb-true q.action action h; number = rw h (omega arith) })
    go false h (inl f) =
        inl (record { at = suc f.at; row = f.row; is_row = later f.is_row; same = f.same; number = rw h (let n = f.number in omega arith) })
    go false h (inr m) = inr (record { none = nth_cons (λ r. r.action ≡ action → ⊥) (eqb-false q.action action h) m.none; number = rw h m.number })

-- ---- of a process: `partner` is the row that was found

module _ (p : Process) (action : ℕ) where
  pub found_at : (f : Found p.rows action 1) → row_number p action ≡ f.at
  found_at f = let n = f.number in omega arith

  pub found_some : (f : Found p.rows action 1) → row_number p action ≢ 0
  found_some f z = nth_positive f.is_row (sym (found_at f) ∙ z)

  pub found_partner : (f : Found p.rows action 1) → partner p action ≡ f.row
  found_partner f = rw (found_at f) (is_row_at f.is_row)

  -- and every row of a visible action is that one
  pub found_only : OneRowEach p → action ≢ 0 → (f : Found p.rows action 1) (j : ℕ) (q : Row) → RowIs p.rows j q → q.action ≡ action → f.row ≡ q
  found_only one seen f j q is same =
      let e : f.at ≡ j = one f.at j f.row q f.is_row is (λ z. seen (sym f.same ∙ z)) (f.same ∙ sym same) in
      one_row f.is_row (rw e is)
