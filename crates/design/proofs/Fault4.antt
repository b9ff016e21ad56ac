-- `layout_fits` says exactly that there is no fault 4 (`by_layout`); and where there is none, the lines are those of rank 1, then those of
-- rank 2, and so on (`gather`). All this for any table of kinds; WholeText has more of the table of a whole text.
use Prim.Native.Nat.{ℕ, zero, suc, ◌+◌, ◌≤◌, ◌<◌}
use mathlib.Core.Path.{◌≡◌, refl, sym, ap, ◌∙◌}
use mathlib.Core.Logic.{◌≢◌, ◌⊎◌, inl, inr}
use mathlib.Core.Bool.{Bool, true, false, cond, ◌&&◌, ◌||◌, true≢false}
use mathlib.Core.List.Memᴰ
use mathlib.Core.List.{List, [], ◌∷◌, ◌++◌, Memᴰ}
use native.Mathlib.Omega.{arith}
use borrow.Author.Tests.{ne_eqb, eqb-true, eqb-false, le-leb, leb-false}
use lib.Dec.{eqb, leb}
use lib.ListN.{length}
use Rattle.foundation.specs.Reflects.{Reflects, so, not_so}
use Rattle.foundation.proofs.Reflects.{by_and, by_iff, by_eqb, is_so}
use Rattle.foundation.proofs.First.{by_all}
use Rattle.kinds.specs.Kinds.{Table, entry_in, last_in, has_terms}
use Rattle.kinds.specs.declared.Entry.{Entry}
use Rattle.kinds.proofs.Table.{known_within}
use Rattle.design.specs.Lines.{kind_of}
use Rattle.design.specs.Faults.{entry_of, Falls, here, later, of_rank, Allowed, Fault4, unknown, falling, wrong_count, not_exactly, too_few}
use Rattle.design.specs.Tests.{climbs, each_line_is, count_fits_by, count_is_allowed, counts_allowed, length_fits_by, length_fits, layout_fits}
use Rattle.design.proofs.Each.{EachLine, each_cons, by_each_line, SomeLine, some_line, SomeNumber, some_number, one_of, AllIn, by_leb}

-- ---- ranks that climb

pub data Climbs (table : Table) : ℕ → List (List ℕ) → Type 0 where
  none : {p : ℕ} → Climbs table p []
  next : {p : ℕ} {line : List ℕ} {lines : List (List ℕ)} → 1 ≤ (entry_of table line).most → p ≤ (entry_of table line).rank
      → Climbs table (entry_of table line).rank lines → Climbs table p (line ∷ lines)

-- a count that is allowed, and a line's length
abbrev CountFits : Entry → ℕ → Type 0
CountFits e n = e.most ≢ 0 → Allowed e n

abbrev pub LengthFits : Entry → ℕ → Type 0
LengthFits e n = (has_terms e.terms ≡ false → n ≡ e.fixed) × (has_terms e.terms ≡ true → e.fixed ≤ n)

by_count : (e : Entry) (n : ℕ) → Reflects (CountFits e n) (count_fits_by e n)
by_count e n = go (eqb e.most 0) refl (by_and (by_leb e.fewest n) (by_leb n e.most))
  where
    go : (b : Bool) → eqb e.most 0 ≡ b → {c : Bool} → Reflects (Allowed e n) c → Reflects (CountFits e n) (b || c)
    go true q r = so (λ z. absurd (z (eqb-true e.most 0 q)))
    go false q r = by_iff (λ a _. a) (λ f. f (eqb-false e.most 0 q)) r

by_length : (e : Entry) (n : ℕ) → Reflects (LengthFits e n) (length_fits_by e n)
by_length e n = go (has_terms e.terms) refl
  where
    go : (b : Bool) → has_terms e.terms ≡ b → Reflects (LengthFits e n) (cond b (leb e.fixed n) (eqb n e.fixed))
    go true q = by_iff (λ h. (λ z. absurd (true≢false (sym q ∙ z)), λ _. h)) (λ f. f.1 q) (by_leb e.fixed n)
    go false q = by_iff (λ h. (λ _. h, λ z. absurd (true≢false (sym z ∙ q)))) (λ f. f.0 q) (by_eqb n e.fixed)

module _ (table : Table) where
  climbs_parts : {p : ℕ} {line : List ℕ} {lines : List (List ℕ)} → Climbs table p (line ∷ lines)
      → (1 ≤ (entry_of table line).most) × ((p ≤ (entry_of table line).rank) × Climbs table (entry_of table line).rank lines)
  climbs_parts (next a b c) = (a, (b, c))

  pub by_climbs : (p : ℕ) (lines : List (List ℕ)) → Reflects (Climbs table p lines) (climbs table p lines)
  unfolding climbs
  by_climbs p [] = so none
  by_climbs p (line ∷ lines) =
      by_iff (λ h. next h.0 h.1.0 h.1.1) climbs_parts
      (by_and (by_leb 1 (entry_of table line).most) (by_and (by_leb p (entry_of table line).rank) (by_climbs (entry_of table line).rank lines)))

  -- no kind is unknown and none falls
  known : {p : ℕ} {lines : List (List ℕ)} → Climbs table p lines → EachLine (λ line. 1 ≤ (entry_of table line).most) lines
  known none = λ line m. absurd (Memᴰ.not-nil m)
  known (next a b c) = each_cons (λ line. 1 ≤ (entry_of table line).most) a (known c)

  rising : {p : ℕ} {lines : List (List ℕ)} → Falls table lines → Climbs table p lines → ⊥
  rising (here h) c =
      let first = climbs_parts c in
      let second = climbs_parts first.1.1 in
      let le = second.1.0 in
      omega arith
  rising {p = p} (later {a = a} {lines = lines} f) c = rising {p = (entry_of table a).rank} f (climbs_parts c).1.1

  climb : (lines : List (List ℕ)) → EachLine (λ line. 1 ≤ (entry_of table line).most) lines → (Falls table lines → ⊥) → Climbs table 0 lines
  climb [] each f = none
  climb (a ∷ []) each f = next {p = 0} {line = a} (each a (Memᴰ.head refl)) (omega arith) none
  climb (a ∷ b ∷ lines) each f =
      let up : (entry_of table a).rank ≤ (entry_of table b).rank = let g : (entry_of table b).rank < (entry_of table a).rank → ⊥ = λ h. f (here h) in omega arith in
      let parts = climbs_parts (climb (b ∷ lines) (λ line m. each line (Memᴰ.tail m)) (λ g. f (later g))) in
      next {p = 0} {line = a} (each a (Memᴰ.head refl)) (omega arith) (next parts.0 up parts.1.1)

  -- ---- all parts
  abbrev ranked : List (List ℕ) → ℕ → ℕ
  ranked lines k = length (of_rank table (entry_in table k).rank lines)

pub record Layout (table : Table) (lines : List (List ℕ)) : Type 0 where
  pub kinds : Climbs table 0 lines
  pub counts : (k : ℕ) → (entry_in table k).most ≢ 0 → Allowed (entry_in table k) (length (of_rank table (entry_in table k).rank lines))
  pub lengths : EachLine (λ line. LengthFits (entry_of table line) (length line)) lines

module _ (table : Table) (lines : List (List ℕ)) where
  -- a kind's number is at most the last
  all_kinds : AllIn (λ k. CountFits (entry_in table k) (ranked table lines k)) (suc (last_in table)) 0
      → (k : ℕ) → (entry_in table k).most ≢ 0 → Allowed (entry_in table k) (ranked table lines k)
  all_kinds h k z = let w = known_within table k (omega arith) in h k (omega arith) (omega arith) z

  by_parts : Reflects (Layout table lines) (layout_fits table lines)
  unfolding layout_fits
  by_parts =
      by_iff (λ h. record { kinds = h.0; counts = all_kinds h.1.0; lengths = h.1.1 }) (λ l. (l.kinds, (λ k _ _. l.counts k, l.lengths)))
      (by_and (by_climbs table 0 lines)
      (by_and (by_all _ (count_is_allowed table lines) (λ k. by_count (entry_in table k) (ranked table lines k)) (suc (last_in table)) 0)
      (by_each_line _ (length_fits table) (λ line. by_length (entry_of table line) (length line)) lines)))

  -- no fault 4 is that layout
  pub layout_free : Layout table lines → Fault4 table lines → ⊥
  layout_free l (unknown {line = line} m e) = let k = known table l.kinds line m in omega arith
  layout_free l (falling f) = rising table f l.kinds
  layout_free l (wrong_count k z n) = n (l.counts k z)
  layout_free l (not_exactly {line = line} m e n) = n ((l.lengths line m).0 e)
  layout_free l (too_few {line = line} m e n) = let h = (l.lengths line m).1 e in omega arith

  -- what is decided is so if it can't be otherwise
  by_test : {P : Type 0} {b : Bool} → Reflects P b → ((P → ⊥) → ⊥) → P
  by_test (so p) f = p
  by_test (not_so p) f = absurd (f p)

  pub layout_of : (Fault4 table lines → ⊥) → Layout table lines
  layout_of f =
      record {
        kinds = climb table lines (λ line m. let g : (entry_of table line).most ≡ 0 → ⊥ = λ e. f (unknown m e) in omega arith) (λ g. f (falling g));
        counts = λ k z. by_test (by_and (by_leb (entry_in table k).fewest (ranked table lines k)) (by_leb (ranked table lines k) (entry_in table k).most)) (λ n. f (wrong_count k z n));
        lengths = λ line m. (
          λ e. by_test (by_eqb (length line) (entry_of table line).fixed) (λ n. f (not_exactly m e n)),
          λ e. let g : length line < (entry_of table line).fixed → ⊥ = λ n. f (too_few m e n) in omega arith,
        );
      }

  pub by_layout : Reflects (Fault4 table lines → ⊥) (layout_fits table lines)
  by_layout = by_iff layout_free layout_of by_parts

-- ---- and where the test says no, the fault is there

-- a kind that is unknown, or ranks below that of the line before
pub data Misplaced (table : Table) (lines : List (List ℕ)) : Type 0 where
  falls : Falls table lines → Misplaced table lines
  no_kind : {line : List ℕ} → Memᴰ line lines → (entry_of table line).most < 1 → Misplaced table lines

module _ (table : Table) where
  misplaced_later : {a : List ℕ} {lines : List (List ℕ)} → Misplaced table lines → Misplaced table (a ∷ lines)
  misplaced_later (falls f) = falls (later f)
  misplaced_later (no_kind m h) = no_kind (Memᴰ.tail m) h

  after : (a : List ℕ) (lines : List (List ℕ)) → climbs table (entry_of table a).rank lines ≡ false → Misplaced table (a ∷ lines)
  unfolding climbs
  after a [] h = absurd (true≢false h)
  after a (b ∷ lines) h = go (leb 1 (entry_of table b).most) (leb (entry_of table a).rank (entry_of table b).rank) refl refl h (after b lines)
    where
      go : (x y : Bool) → leb 1 (entry_of table b).most ≡ x → leb (entry_of table a).rank (entry_of table b).rank ≡ y
          → (x && (y && climbs table (entry_of table b).rank lines)) ≡ false
          → (climbs table (entry_of table b).rank lines ≡ false → Misplaced table (b ∷ lines)) → Misplaced table (a ∷ b ∷ lines)
      go false y ex ey h ih = no_kind (Memᴰ.tail (Memᴰ.head refl)) (leb-false 1 (entry_of table b).most ex)
      go true false ex ey h ih = falls (here (leb-false (entry_of table a).rank (entry_of table b).rank ey))
      go true true ex ey h ih = misplaced_later (ih h)

  misplaced_fault : {lines : List (List ℕ)} → Misplaced table lines → Fault4 table lines
  misplaced_fault (falls f) = falling f
  misplaced_fault (no_kind m h) = unknown m (omega arith)

  kinds_fault : (lines : List (List ℕ)) → climbs table 0 lines ≡ false → Fault4 table lines
  unfolding climbs
  kinds_fault [] h = absurd (true≢false h)
  kinds_fault (a ∷ lines) h = go (leb 1 (entry_of table a).most) refl h
    where
      go : (x : Bool) → leb 1 (entry_of table a).most ≡ x → (x && (leb 0 (entry_of table a).rank && climbs table (entry_of table a).rank lines)) ≡ false
          → Fault4 table (a ∷ lines)
      go false ex h = let l = leb-false 1 (entry_of table a).most ex in unknown (Memᴰ.head refl) (omega arith)
      go true ex h = misplaced_fault (after a lines (rw (le-leb 0 (entry_of table a).rank (omega arith)) at h))

  counts_fault : (lines : List (List ℕ)) → SomeNumber (count_is_allowed table lines) (suc (last_in table)) 0 → Fault4 table lines
  counts_fault lines s = go (eqb e.most 0) refl s.fails
    where
      e : Entry
      e = entry_in table s.number

      n : ℕ
      n = ranked table lines s.number

      go : (b : Bool) → eqb e.most 0 ≡ b → (b || (leb e.fewest n && leb n e.most)) ≡ false → Fault4 table lines
      go true q h = absurd (true≢false h)
      go false q h = wrong_count s.number (eqb-false e.most 0 q) (λ a. true≢false (sym (is_so (by_and (by_leb e.fewest n) (by_leb n e.most)) a) ∙ h))

  length_fault : (lines : List (List ℕ)) → SomeLine (length_fits table) lines → Fault4 table lines
  length_fault lines s = go (has_terms e.terms) refl s.fails
    where
      e : Entry
      e = entry_of table s.line

      n : ℕ
      n = length s.line

      go : (b : Bool) → has_terms e.terms ≡ b → cond b (leb e.fixed n) (eqb n e.fixed) ≡ false → Fault4 table lines
      go true q h = too_few s.among q (leb-false e.fixed n h)
      go false q h = not_exactly s.among q (eqb-false n e.fixed h)

  pub has_fault4 : (lines : List (List ℕ)) → layout_fits table lines ≡ false → Fault4 table lines
  unfolding layout_fits
  has_fault4 lines h = go (one_of (climbs table 0 lines) (counts_allowed table lines && each_line_is (length_fits table) lines) h)
    where
      rest : (counts_allowed table lines ≡ false) ⊎ (each_line_is (length_fits table) lines ≡ false) → Fault4 table lines
      rest (inl e) = counts_fault lines (some_number (count_is_allowed table lines) (suc (last_in table)) 0 e)
      rest (inr e) = length_fault lines (some_line (length_fits table) lines e)

      go : (climbs table 0 lines ≡ false) ⊎ ((counts_allowed table lines && each_line_is (length_fits table) lines) ≡ false) → Fault4 table lines
      go (inl e) = kinds_fault lines e
      go (inr e) = rest (one_of (counts_allowed table lines) (each_line_is (length_fits table) lines) e)

-- ---- the lines of each rank stand together, in the order of ranks

module _ (table : Table) where
  -- those of ranks p, p + 1, .., n of them
  unfoldable pub gathered : ℕ → ℕ → List (List ℕ) → List (List ℕ)
  gathered zero p lines = []
  gathered (suc n) p lines = of_rank table p lines ++ gathered n (suc p) lines

  none_of : (j : ℕ) {p : ℕ} {lines : List (List ℕ)} → j < p → Climbs table p lines → of_rank table j lines ≡ []
  unfolding of_rank
  none_of j l none = refl
  none_of j l (next {line = line} a b c) = rw (ne_eqb (entry_of table line).rank j (omega arith)) (none_of j (omega arith) c)

  -- a line more before those of its own rank and higher ones
  gathered_on : (n p : ℕ) (line : List ℕ) (lines : List (List ℕ)) → (entry_of table line).rank < p → gathered n p (line ∷ lines) ≡ gathered n p lines
  unfolding gathered of_rank
  gathered_on zero p line lines h = refl
  gathered_on (suc n) p line lines h = rw (ne_eqb (entry_of table line).rank p (omega arith), gathered_on n (suc p) line lines (omega arith))

  gathered_nil : (n p : ℕ) → gathered n p [] ≡ []
  unfolding gathered of_rank
  gathered_nil zero p = refl
  gathered_nil (suc n) p = gathered_nil n (suc p)

  gather_by : (n p : ℕ) (line : List ℕ) (lines : List (List ℕ)) (is : Bool) → eqb (entry_of table line).rank p ≡ is → p ≤ (entry_of table line).rank
      → Climbs table (entry_of table line).rank lines
      → gathered (suc n) p lines ≡ lines
      → (p < (entry_of table line).rank → gathered n (suc p) (line ∷ lines) ≡ line ∷ lines)
      → gathered (suc n) p (line ∷ lines) ≡ line ∷ lines
  unfolding gathered of_rank
  gather_by n p line lines true e l c ih go =
      let k = eqb-true (entry_of table line).rank p e in
      rw (e, gathered_on n (suc p) line lines (omega arith)) (ap (λ (x : List (List ℕ)). line ∷ x) ih)
  gather_by n p line lines false e l c ih go =
      let k = eqb-false (entry_of table line).rank p e in
      rw (e, none_of p (omega arith) c) (go (omega arith))

  -- where no rank is above r
  module _ (r : ℕ) (top : (k : ℕ) → (entry_in table k).rank ≤ r) where
    gather_line : (n p : ℕ) (line : List ℕ) (lines : List (List ℕ)) → p ≤ (entry_of table line).rank → r < p + n → Climbs table (entry_of table line).rank lines
        → ((q m : ℕ) → q ≤ (entry_of table line).rank → r < q + m → gathered m q lines ≡ lines)
        → gathered n p (line ∷ lines) ≡ line ∷ lines
    gather_line zero p line lines l u c ih = let t = top (kind_of line) in absurd (omega arith)
    gather_line (suc n) p line lines l u c ih =
        gather_by n p line lines _ refl l c (ih p (suc n) l u) (λ h. gather_line n (suc p) line lines h (omega arith) c ih)

    pub gather : {q : ℕ} {lines : List (List ℕ)} → Climbs table q lines → (p n : ℕ) → p ≤ q → r < p + n → gathered n p lines ≡ lines
    gather none p n l u = gathered_nil n p
    gather (next {line = line} {lines = lines} a b c) p n l u = gather_line n p line lines (omega arith) u c (λ q m h v. gather c q m h v)
