-- What the functions on one line of a desk's arrays answer (design/specs/Loaded, `line_at`), and what a turn of each loop over lines
-- keeps: what is still to be looked at, from here, gives the whole.
use Prim.Native.Nat.{ℕ, zero, suc, ◌+◌, ◌-◌, ◌*◌, ◌^◌, ◌≤◌, ◌<◌, min}
use mathlib.Core.Path.{◌≡◌, refl, sym, ap, ◌∙◌}
use mathlib.Core.Bool.{Bool, true, false, cond, not, ◌&&◌}
use mathlib.Core.List.{List, [], ◌∷◌}
use native.Mathlib.Omega.{arith}
use native.Mathlib.Numerals.{add-one}
use borrow.Author.Tests.{eqb-true, eqb-false, ne_eqb, le-leb, lt-leb, not-true, not-false}
use lib.Dec.{eqb, ltb, leb}
use lib.ListN.{length, get_or, drop, set, length-set, replicate, length-replicate, length-take, length-drop, get_or-eq_default}
use lib.Seq.{get_or-take, get_or-drop, get_or-set_same, get_or-set_other}
use mir.Syntax.{w64}
use mir.Val.{Fits}
use Rattle.foundation.specs.First.{all_in_range}
use Rattle.kinds.specs.Kinds.{whole_text, last_kind, ranks, entry_in, last_in, has_terms}
use Rattle.kinds.specs.declared.Entry.{Entry}
use Rattle.kinds.specs.declared.Role.{Role}
use Rattle.kinds.specs.declared.Role.TheVariants as role
use Rattle.kinds.proofs.Table.{rank_most}
use Rattle.design.specs.Lines.{count_of, counts_of}
use Rattle.design.specs.Faults.{of_rank}
use Rattle.design.specs.Loaded.{line_from, line_at, each_line_of, held_lines}
use Rattle.design.specs.Tests.{climbs, count_fits_by, count_is_allowed, counts_allowed, layout_fits, each_line_is, length_fits, numbers_fit_by, numbers_fit}
use Rattle.design.proofs.WholeText.{rank_kind}
use Rattle.table_check.specs.Tally.{Tallied, kind_fits, tally_fits}

-- ---- one line

module _ (fields starts : List ℕ) (i : ℕ) where
  length_at : length (line_at fields starts i) ≡ min (get_or starts (i + 1) 0 - get_or starts i 0) (length fields - get_or starts i 0)
  length_at =
      length-take (get_or starts (i + 1) 0 - get_or starts i 0) (drop (get_or starts i 0) fields) ∙ ap (min (get_or starts (i + 1) 0 - get_or starts i 0)) (length-drop (get_or starts i 0) fields)

  pub no_line : length starts ≤ i → 0 ≡ length (line_at fields starts i)
  no_line h = let e : get_or starts (i + 1) 0 ≡ 0 = get_or-eq_default starts 0 {n = i + 1} (omega arith) in rw (length_at, e) (omega arith)

  pub line_there : (start end r : ℕ) → start ≡ get_or starts i 0 → end ≡ get_or starts (i + 1) 0 → r ≡ min end (length fields) - start → r ≡ length (line_at fields starts i)
  line_there start end r es ee er = er ∙ rw (length_at, es, ee) (omega arith)

  -- ---- a field of it
  module _ (j n : ℕ) (en : n ≡ length (line_at fields starts i)) where
    pub field_past : n ≤ j → 0 ≡ get_or (line_at fields starts i) j 0
    field_past h = sym (get_or-eq_default (line_at fields starts i) 0 {n = j} (omega arith))

    pub field_within : j < n → (start : ℕ) → start ≡ get_or starts i 0 → (r : ℕ) → r ≡ get_or fields (start + j) 0 → r ≡ get_or (line_at fields starts i) j 0
    field_within h start es r er =
        let l = length_at in
        let k : j < get_or starts (i + 1) 0 - get_or starts i 0 = omega arith in
        rw (er, es, get_or-take (get_or starts (i + 1) 0 - get_or starts i 0) (line_from fields starts i) j 0 k) (sym (get_or-drop (get_or starts i 0) fields j 0))

    pub place_fits : length fields < 2 ^ 64 → j < n → (start : ℕ) → start ≡ get_or starts i 0 → Fits w64 (start + j)
    place_fits l h start es = let m = length_at in record { fits = omega arith }

-- ---- the lines from the i-th on, n in all

abbrev pub lines_from : List ℕ → List ℕ → ℕ → ℕ → List (List ℕ)
lines_from fields starts n i = each_line_of (λ line. line) (line_at fields starts) (n - i) i

module _ (fields starts : List ℕ) (n i : ℕ) where
  next_line : i < n → lines_from fields starts n i ≡ line_at fields starts i ∷ lines_from fields starts n (i + 1)
  unfolding each_line_of
  next_line h = let e : n - i ≡ suc (n - (i + 1)) = omega arith in rw (e, add-one i)

  no_lines : n ≤ i → lines_from fields starts n i ≡ []
  unfolding each_line_of
  no_lines h = let e : n - i ≡ 0 = omega arith in rw e

pub all_lines : (fields starts : List ℕ) (n : ℕ) → lines_from fields starts n 0 ≡ held_lines fields starts n
all_lines fields starts n = let e : n - 0 ≡ n = omega arith in rw e

-- ---- ranks climb

module _ (fields starts : List ℕ) (n i lowest : ℕ) (inv : climbs whole_text lowest (lines_from fields starts n i) ≡ climbs whole_text 0 (held_lines fields starts n)) where
  module _ (h : i < n) (kind : ℕ) (ek : kind ≡ get_or (line_at fields starts i) 0 0) (e : Entry) (ee : e ≡ entry_in whole_text kind) where
    pub climb_unknown : e.most ≡ 0 → false ≡ climbs whole_text 0 (held_lines fields starts n)
    unfolding climbs
    climb_unknown z = rw (next_line fields starts n i h, ← ek, ← ee, z) at inv

    module _ (z : e.most ≡ 0 → ⊥) where
      pub climb_falls : e.rank < lowest → false ≡ climbs whole_text 0 (held_lines fields starts n)
      unfolding climbs
      climb_falls l = rw (next_line fields starts n i h, ← ek, ← ee, le-leb 1 e.most (omega arith), lt-leb lowest e.rank l) at inv

      pub climb_turn : lowest ≤ e.rank → climbs whole_text e.rank (lines_from fields starts n (i + 1)) ≡ climbs whole_text 0 (held_lines fields starts n)
      unfolding climbs
      climb_turn l = rw (next_line fields starts n i h, ← ek, ← ee, le-leb 1 e.most (omega arith), le-leb lowest e.rank l) at inv

  pub climb_end : n ≤ i → true ≡ climbs whole_text 0 (held_lines fields starts n)
  unfolding climbs
  climb_end h = rw (no_lines fields starts n i h) at inv

-- ---- lines are counted by rank

module _ (k : ℕ) (e : Entry) (ee : e ≡ entry_in whole_text k) where
  pub rank_below : e.rank < ranks
  rank_below = let m = rank_most k in rw ee (omega arith)

  pub rank_place : Fits w64 (e.rank * 8)
  rank_place = let m = rank_below in record { fits = omega arith }

-- the counts of the lines passed, and those still ahead, are all of them
pub record Passed (fields starts : List ℕ) (n i : ℕ) (tally : List ℕ) : Type 0 where
  pub long : length tally ≡ ranks
  pub small : (r : ℕ) → get_or tally r 0 ≤ i
  pub whole : (r : ℕ) → r < ranks
      → get_or tally r 0 + length (of_rank whole_text r (lines_from fields starts n i)) ≡ length (of_rank whole_text r (held_lines fields starts n))

-- one line more, or none
one_more_line : (count m : ℕ) (is : Bool) (line : List ℕ) (later : List (List ℕ)) (all : ℕ) → m ≡ cond is (count + 1) count
    → count + length (cond is (line ∷ later) later) ≡ all → m + length later ≡ all
one_more_line count m true line later all e v = omega arith
one_more_line count m false line later all e v = omega arith

zero_at_lem : (n r : ℕ) → get_or {A = ℕ} (replicate n 0) r 0 ≡ 0
zero_at_lem zero r = refl
zero_at_lem (suc n) zero = refl
zero_at_lem (suc n) (suc r) = zero_at_lem n r

module _ (fields starts : List ℕ) (n : ℕ) where
  pub tally_start : (tally : List ℕ) → tally ≡ replicate ranks 0 → Passed fields starts n 0 tally
  tally_start tally e =
      rw e
      (record {
        long = length-replicate {A = ℕ} ranks 0;
        small = λ r. let z = zero_at_lem ranks r in omega arith;
        whole = λ r h. rw (zero_at_lem ranks r, all_lines fields starts n) (omega arith);
      })

  module _ (i : ℕ) (tally : List ℕ) (p : Passed fields starts n i tally) where
    module _ (k : ℕ) (ek : k ≡ get_or (line_at fields starts i) 0 0) (e : Entry) (ee : e ≡ entry_in whole_text k) where
      within : e.rank < length tally
      within = let b = rank_below k e ee in let l = p.long in omega arith

      pub one_more_fits : n < 2 ^ 64 → i < n → Fits w64 (get_or tally e.rank 0 + 1)
      one_more_fits h l = let s = p.small e.rank in record { fits = omega arith }

      abbrev next : List ℕ
      next = set tally e.rank (get_or tally e.rank 0 + 1)

      next_at_lem : (r : ℕ) → get_or next r 0 ≡ cond (eqb e.rank r) (get_or tally r 0 + 1) (get_or tally r 0)
      next_at_lem r = go (eqb e.rank r) refl
        where
          go : (is : Bool) → eqb e.rank r ≡ is → get_or next r 0 ≡ cond is (get_or tally r 0 + 1) (get_or tally r 0)
          go true q = rw (← eqb-true e.rank r q) (get_or-set_same tally e.rank _ 0 within)
          go false q = get_or-set_other tally e.rank r _ 0 (λ x. eqb-false e.rank r q (sym x))

      small_by : (is : Bool) (m count : ℕ) → m ≡ cond is (count + 1) count → count ≤ i → m ≤ i + 1
      small_by true m count e l = omega arith
      small_by false m count e l = omega arith

      pub tally_turn : i < n → Passed fields starts n (i + 1) next
      unfolding of_rank
      tally_turn h =
          record {
            long = length-set tally e.rank _ ∙ p.long;
            small = λ r. small_by (eqb e.rank r) (get_or next r 0) (get_or tally r 0) (next_at_lem r) (p.small r);
            whole = λ r l.
                one_more_line (get_or tally r 0) (get_or next r 0) (eqb e.rank r) (line_at fields starts i) _ _ (next_at_lem r)
                (rw (next_line fields starts n i h, ← ek, ← ee) at (p.whole r l));
          }

    pub tally_end : n ≤ i → Tallied (held_lines fields starts n) tally
    unfolding of_rank
    tally_end h = record { of_rank_lem = λ r l. let v = rw (no_lines fields starts n i h) at (p.whole r l) in omega arith }

-- ---- each line passes a test

pub each_number : (test : List ℕ → Bool) (fields starts : List ℕ) (n i : ℕ) → all_in_range (λ j. test (line_at fields starts j)) n i ≡ each_line_is test (each_line_of (λ line. line) (line_at fields starts) n i)
unfolding all_in_range each_line_is each_line_of
each_number test fields starts zero i = refl
each_number test fields starts (suc n) i = rw (each_number test fields starts n (suc i))

-- ---- each kind

module _ (tally : List ℕ) (k : ℕ) (e : Entry) (ee : e ≡ entry_in whole_text k) where
  pub kind_none : e.most ≡ 0 → true ≡ kind_fits tally k
  kind_none z = rw (← ee, z)

  pub kind_some : (e.most ≡ 0 → ⊥) → (leb e.fewest (get_or tally e.rank 0) && leb (get_or tally e.rank 0) e.most) ≡ kind_fits tally k
  kind_some z = rw (← ee, ne_eqb e.most 0 z)

-- the counts are those of the lines
module _ (lines : List (List ℕ)) (tally : List ℕ) (t : Tallied lines tally) where
  same_counts : (k : ℕ) → kind_fits tally k ≡ count_is_allowed whole_text lines k
  same_counts k = ap (count_fits_by (entry_in whole_text k)) (t.of_rank_lem (entry_in whole_text k).rank (let m = rank_most k in omega arith))

  pub tally_counts : (r : Bool) → r ≡ tally_fits tally → r ≡ counts_allowed whole_text lines
  tally_counts r er = er ∙ ap (λ (f : ℕ → Bool). all_in_range f (suc (last_in whole_text)) 0) (λ i k. same_counts k i)

  pub kinds_counted : record { kind1 = get_or tally 1 0; kind2 = get_or tally 2 0; kind3 = get_or tally 3 0; kind4 = get_or tally 4 0; kind8 = get_or tally 8 0 } ≡ counts_of lines
  kinds_counted = rw (of 1 (omega arith) (omega arith), of 2 (omega arith) (omega arith), of 3 (omega arith) (omega arith), of 4 (omega arith) (omega arith), of 8 (omega arith) (omega arith))
    where
      of : (k : ℕ) → 1 ≤ k → k ≤ last_kind → get_or tally k 0 ≡ count_of k lines
      of k a b = t.of_rank_lem k (omega arith) ∙ ap length (rank_kind k a b lines)

-- ---- one line, by the entry of its kind

module _ (x y : ℕ) (r : Role) where
  pub of_parameter : r ≡ role.Parameter → (leb 1 x && ltb y x) ≡ numbers_fit_by r x y
  of_parameter e = rw e

  pub of_row : r ≡ role.Row → (leb 1 y && leb y 256) ≡ numbers_fit_by r x y
  of_row e = rw e

module _ (line : List ℕ) (kind : ℕ) (ek : kind ≡ get_or line 0 0) (e : Entry) (ee : e ≡ entry_in whole_text kind) where
  module _ (n : ℕ) (en : n ≡ length line) (b : Bool) (eb : b ≡ has_terms e.terms) where
    pub length_least : b ≡ true → leb e.fixed n ≡ length_fits whole_text line
    length_least h = rw (← ek, ← ee, ← eb, h, en)

    pub length_exactly : b ≡ false → eqb n e.fixed ≡ length_fits whole_text line
    length_exactly h = rw (← ek, ← ee, ← eb, h, en)

  pub numbers_of : (x y : ℕ) → x ≡ get_or line 1 0 → y ≡ get_or line 2 0 → (r : Bool) → r ≡ numbers_fit_by e.role x y → r ≡ numbers_fit line
  numbers_of x y ex ey r er = er ∙ rw (ee, ek, ex, ey)

-- ---- the three parts of fault 4

module _ (lines : List (List ℕ)) (a : Bool) (ea : a ≡ climbs whole_text 0 lines) where
  pub layout_kinds : not a ≡ true → false ≡ layout_fits whole_text lines
  unfolding layout_fits
  layout_kinds h = rw (← ea, not-true a h)

  module _ (ha : not a ≡ false) (b : Bool) (eb : b ≡ counts_allowed whole_text lines) where
    pub layout_counts : not b ≡ true → false ≡ layout_fits whole_text lines
    unfolding layout_fits
    layout_counts h = rw (← ea, not-false a ha, ← eb, not-true b h)

    pub layout_lengths : not b ≡ false → (c : Bool) → c ≡ each_line_is (length_fits whole_text) lines → c ≡ layout_fits whole_text lines
    unfolding layout_fits
    layout_lengths h c ec = rw (← ea, not-false a ha, ← eb, not-false b h) ec
