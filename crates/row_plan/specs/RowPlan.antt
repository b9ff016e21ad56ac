-- What a plan has of a row, and its four numbers; and the risks behind those of all rows.
use Rattle.std.specs.Prelude.{◌≡◌, Bool, true, false, cond, List, [], ◌∷◌, ℕ, zero, suc, ◌+◌, ◌*◌, ◌%◌, ◌/◌, ◌≤◌, ◌<◌, eqb, leb, get_or, set}
use Rattle.row_plan.specs.declared.RowPlan.{RowPlan}
use Rattle.row_plan.specs.declared.Mark.{Mark}

-- all steps are marked
abbrev pub no_mark : Mark
no_mark = record { at = 0; free = true }

-- there is no such row: its numbers are all 0
abbrev pub no_row_plan : RowPlan
no_row_plan = record { partner = 0; looks = 0; internal = false; free = false; front = 0; mark = record { at = 0; free = false } }

-- ---- as numbers

-- three flags: the last binary digits
unfoldable pub two_flags : Bool → Bool → ℕ
two_flags a b = cond a (cond b 3 1) (cond b 2 0)

unfoldable pub flags_of : Bool → Bool → Bool → ℕ
flags_of a b c = cond c (4 + two_flags a b) (two_flags a b)

-- partner and flags, of which the first is below 64
unfoldable pub pack_of : ℕ → ℕ → ℕ
pack_of j flags = j % 64 + 64 * flags

unfoldable pub packed_of : RowPlan → ℕ
packed_of e = pack_of e.partner (flags_of e.free e.mark.free e.internal)

-- those of n rows from the i-th on
unfoldable pub numbers_from : (ℕ → RowPlan) → ℕ → ℕ → List ℕ
numbers_from g zero i = []
numbers_from g (suc n) i = packed_of (g i) ∷ (g i).looks ∷ (g i).front ∷ (g i).mark.at ∷ numbers_from g n (suc i)

-- number i of any
unfoldable pub row_plan_at : List ℕ → ℕ → RowPlan
row_plan_at p i = record {
  partner = get_or p (4 * i) 0 % 64;
  looks = get_or p (4 * i + 1) 0;
  internal = leb 4 (get_or p (4 * i) 0 / 64);
  free = eqb (get_or p (4 * i) 0 / 64 % 2) 1;
  front = get_or p (4 * i + 2) 0;
  mark = record { at = get_or p (4 * i + 3) 0; free = eqb (get_or p (4 * i) 0 / 64 / 2 % 2) 1 };
}

-- ---- risks

-- n of them from the i-th on, each as two numbers below 65,536, the lower one first
unfoldable pub risks_from : (ℕ → ℕ) → ℕ → ℕ → List ℕ
risks_from r zero i = []
risks_from r (suc n) i = r i % 65536 ∷ r i / 65536 ∷ risks_from r n (suc i)

-- number i of them, behind the four numbers of 64 rows
unfoldable pub risk_at : List ℕ → ℕ → ℕ
risk_at p i = get_or p (256 + 2 * i) 0 + 65536 * get_or p (256 + 2 * i + 1) 0

-- 0 where there is none, behind 65 of them
unfoldable pub unsure_at : List ℕ → ℕ
unsure_at p = get_or p 386 0

-- ---- stored

-- risk number i
abbrev pub risk_stored : List ℕ → ℕ → ℕ → List ℕ
risk_stored p i risk = set (set p (256 + 2 * i) (risk % 65536)) (256 + 2 * i + 1) (risk / 65536)

-- a row's plan and its risk, as number i
abbrev pub stored : List ℕ → ℕ → RowPlan → ℕ → List ℕ
stored p i e risk = risk_stored (set (set (set (set p (4 * i) (packed_of e)) (4 * i + 1) e.looks) (4 * i + 2) e.front) (4 * i + 3) e.mark.at) i risk

-- nothing is yet, from number i on
pub record Blank (p : List ℕ) (i : ℕ) : Type 0 where
  pub rows : (j : ℕ) → 4 * i ≤ j → j < 256 → get_or p j 0 ≡ 0
  pub risks : (j : ℕ) → 256 + 2 * i ≤ j → get_or p j 0 ≡ 0
