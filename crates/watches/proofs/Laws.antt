-- What the functions return, as watched/specs/Watched and specs/Watches say it, and the turns of their loops: what is found and what is left
-- give the whole.
use mathlib.Core.Path.{◌≡◌, refl, sym, ◌∙◌}
use mathlib.Core.Bool.{Bool, true, false, cond}
use mathlib.Core.List.{List, [], ◌∷◌, map}
use Prim.Native.Nat.{ℕ, zero, suc, ◌+◌, ◌-◌, ◌≤◌, ◌<◌, min}
use native.Mathlib.Numerals.{add-one}
use native.Mathlib.Omega.{arith}
use native.Mathlib.Decide.{dec_lt}
use borrow.Author.Tests.{eq-eqb, ne_eqb}
use lib.Bits.{bit_and, bit_or, and_le_l, or_zero_l, or_zero_r, and_zero_l}
use lib.Dec.{eqb}
use lib.ListN.{length, get_or, drop, set, replicate, length-map, drop_of_length-le}
use lib.Seq.{sets}
use Rattle.terms.specs.Tree.{Value, Formula}
use Rattle.terms.specs.Mark.{formula_mark}
use Rattle.terms.specs.Read.{read_v, read_f, formula_by}
use Rattle.terms.specs.declared.Compare.TheVariants.{Equal, Less}
use Rattle.terms.specs.declared.Join.TheVariants.{Or}
use Rattle.terms.specs.declared.FormulaMark.{FormulaMark}
use Rattle.terms.specs.declared.FormulaMark.TheVariants as fm
use Rattle.terms.proofs.Read.{step_f, place}
use Rattle.terms.proofs.Sets.{or_assoc}
use Rattle.reads.specs.Reads.{only, reads_v, reads_f, seen_v, seen_f, is_par}
use Rattle.reads.specs.declared.Seen.{Seen}
use Rattle.criteria.specs.Design.{Row}
use Rattle.criteria.specs.Rows.{no_row, row_at, mark_of}
use Rattle.decision.specs.Tests.{partner}
use Rattle.design.specs.Line.{row_of, values_in}
use Rattle.design.specs.Loaded.{process_in, design_at}
use Rattle.design.specs.declared.Process.{Process}
use Rattle.design.specs.declared.Shape.{Shape}
use Rattle.layout.specs.Sizes.{Fits}
use Rattle.steps.specs.Arrays.{padded, first_values, line_of, row_with}
use Rattle.steps.proofs.Arrays.{row_there, row_past, sets_out}
use Rattle.steps.proofs.States.{in_length, first_held}
use Rattle.marks.specs.Marks.{mark_place}
use Rattle.marks.proofs.Held.{mark_none, mark_held}
use Rattle.watched.specs.Watched.{all_of, without, meeting, changes_from, changed_by_from, after_f, map_reads, through_from, stays, follows_at, follows_from, enabling, internal_watched, visible_watched, watched, reply_watched}
use Rattle.watches.specs.Watches.{no_parts, PartsOf, changed_of, after_seen}
use Rattle.watches.specs.declared.Parts.{Parts}
use Rattle.watches.specs.declared.Changed.{Changed}

-- ---- sets

pub meeting_is : (c r x : ℕ) → x ≡ cond (eqb (bit_and r c) 0) 0 r → x ≡ meeting c r
unfolding meeting
meeting_is c r x e = e

-- ---- rows

module _ (f s : List ℕ) (p : Process) (k : ℕ) where
  abbrev rows : List Row
  rows = (process_in f s p).rows

  abbrev places : ℕ
  places = p.parameters.count

  none : (x : Parts) → x ≡ no_parts → PartsOf f places no_row x
  unfolding reads_f values_in
  none x e = rw e (record { action = refl; condition = refl; carries = refl; next = refl; few = omega arith })

  pub row_none : (x : Parts) → k ≡ 0 → x ≡ no_parts → PartsOf f places (row_at rows k) x
  row_none x z e = rw z (none x e)

  pub row_beyond : (x : Parts) → p.rows.count < k → x ≡ no_parts → PartsOf f places (row_at rows k) x
  row_beyond x l e = rw (row_past f s p k l) (none x e)

  pub row_is : (line a : ℕ) (c x : Seen) → (k ≡ 0 → ⊥) → k ≤ p.rows.count → line ≡ line_of s p k → a ≡ get_or (drop line f) 1 0
      → c ≡ seen_f (line + 3) (read_f 32 (drop (line + 3) f)) → x ≡ seen_v c.next (read_v 32 (drop c.next f))
      → PartsOf f places (row_at rows k) (record { action = a; condition = c.reads; carries = x.reads; next = x.next; count = places })
  unfolding line_of
  row_is line a c x some l el ea ec ex = rw (row_there f s p k some l, ← el) parts
    where
      parts : PartsOf f places (row_of places (drop line f)) (record { action = a; condition = c.reads; carries = x.reads; next = x.next; count = places })
      parts = record {
        action = ea;
        condition = rw (place f line 3 refl, ec);
        carries = rw (place f line 3 refl, ex, ec, place f (line + 3) _ refl);
        next = rw (place f line 3 refl, ex, ec, place f (line + 3) _ refl, place f (line + 3 + _) _ refl);
        few = omega arith;
      }

-- ---- next values

module _ (f : List ℕ) (at n : ℕ) where
  unfoldable pub changes_left : ℕ → ℕ → ℕ → ℕ
  changes_left found p i = bit_or found (changes_from i (values_in (n - i) (drop p f)))

  unfoldable pub by_left : ℕ → ℕ → ℕ → ℕ
  by_left found p i = bit_or found (changed_by_from i (values_in (n - i) (drop p f)))

  abbrev changes_all : ℕ
  changes_all = changes_from 0 (values_in n (drop at f))

  abbrev by_all : ℕ
  by_all = changed_by_from 0 (values_in n (drop at f))

  pub changes_begin : changes_left 0 at 0 ≡ changes_all
  unfolding changes_left
  changes_begin = let e : n - 0 ≡ n = omega arith in rw e (or_zero_l _)

  pub by_begin : by_left 0 at 0 ≡ by_all
  unfolding by_left
  by_begin = let e : n - 0 ≡ n = omega arith in rw e (or_zero_l _)

  module _ (p i : ℕ) (same : Bool) (x : Seen) (l : i < n) (es : same ≡ is_par i (read_v 32 (drop p f)).tree) (ex : x ≡ seen_v p (read_v 32 (drop p f))) where
    pub changes_turn : (found one m : ℕ) → one ≡ only i → m ≡ cond same 0 one → changes_left found p i ≡ changes_all → changes_left (bit_or found m) x.next (i + 1) ≡ changes_all
    unfolding changes_left changes_from values_in
    changes_turn found one m eo em inv = step ∙ inv
      where
        step : changes_left (bit_or found m) x.next (i + 1) ≡ changes_left found p i
        step =
            let e : n - i ≡ suc (n - (i + 1)) = omega arith in
            rw (e, em, eo, es, ex, add-one i, place f p _ refl) (or_assoc _ found _)

    pub by_turn : (found m : ℕ) → m ≡ cond same 0 x.reads → by_left found p i ≡ by_all → by_left (bit_or found m) x.next (i + 1) ≡ by_all
    unfolding by_left changed_by_from values_in
    by_turn found m em inv = step ∙ inv
      where
        step : by_left (bit_or found m) x.next (i + 1) ≡ by_left found p i
        step =
            let e : n - i ≡ suc (n - (i + 1)) = omega arith in
            rw (e, em, es, ex, add-one i, place f p _ refl) (or_assoc _ found _)

  pub changing_end : (found by p i : ℕ) → n ≤ i → changes_left found p i ≡ changes_all → by_left by p i ≡ by_all
      → record { changes = found; by = by } ≡ changed_of (values_in n (drop at f))
  unfolding changes_left by_left changes_from changed_by_from values_in
  changing_end found by p i l ec eb = λ j. record { changes = (first ∙ ec) j; by = (second ∙ eb) j }
    where
      first : found ≡ changes_left found p i
      first = let e : n - i ≡ 0 = omega arith in rw e (sym (or_zero_r found))

      second : by ≡ by_left by p i
      second = let e : n - i ≡ 0 = omega arith in rw e (sym (or_zero_r by))

-- ---- a formula after the step

abbrev seen : ℕ → ℕ → Seen
seen v n = record { reads = v; next = n }

seen_eq : {v v' n n' : ℕ} → v ≡ v' → n ≡ n' → seen v n ≡ seen v' n'
seen_eq p q i = seen (p i) (q i)

next_of : {a b : Seen} → a ≡ b → a.next ≡ b.next
next_of e i = (e i).next

-- nothing is decided by a formula that reads nothing
idle : (c : ℕ) → 0 ≡ without (meeting c 0) c
unfolding meeting
idle c = let e = and_le_l 0 c in rw (and_zero_l c) (omega arith)

module _ (s : List ℕ) (at d c : ℕ) where
  abbrev whole : Seen
  whole = after_seen c at (read_f d (drop at s))

  pub after_shallow : d ≡ 0 → seen 0 at ≡ whole
  unfolding read_f after_f
  after_shallow e = rw e (seen_eq refl (omega arith))

  pub after_ended : length s ≤ at → seen 0 at ≡ whole
  unfolding read_f after_f
  after_ended h = rw (drop_of_length-le s h) (go d)
    where
      go : (n : ℕ) → seen 0 at ≡ after_seen c at (read_f n [])
      go zero = seen_eq refl (omega arith)
      go (suc n) = seen_eq refl (omega arith)

  module _ (deep : d ≡ 0 → ⊥) (inside : at < length s) where
    -- what is no conjunction is one part
    pub after_other : (x : Seen) (m r : ℕ) → (get_or s at 0 ≡ 15 → ⊥) → x ≡ seen_f at (read_f d (drop at s)) → m ≡ meeting c x.reads → r ≡ without m c → seen r x.next ≡ whole
    unfolding after_f reads_f formula_mark
    after_other x m r other ex em er = seen_eq (rw (er, em, ex) (sym part)) (next_of ex)
      where
        by : Bool → Bool → Bool → Bool → Bool → Bool → FormulaMark
        by so not equal less negated either =
            cond so (fm.Constant true)
            (cond not (fm.Constant false)
            (cond equal (fm.Comparison Equal)
            (cond less (fm.Comparison Less)
            (cond negated fm.Negation
            (cond either (fm.Connective Or) fm.Wrong)))))

        read : FormulaMark → Formula
        read w = (formula_by w (λ l. read_v (d - 1) l) (λ l. read_f (d - 1) l) (drop (at + 1) s)).tree

        go : (a b e l n o : Bool) → after_f c (read (by a b e l n o)) ≡ without (meeting c (reads_f (read (by a b e l n o)))) c
        go true b e l n o = idle c
        go false true e l n o = idle c
        go false false true l n o = refl
        go false false false true n o = refl
        go false false false false true o = refl
        go false false false false false true = refl
        go false false false false false false = idle c

        part : after_f c (read_f d (drop at s)).tree ≡ without (meeting c (reads_f (read_f d (drop at s)).tree)) c
        part =
            rw (step_f s at d deep inside, ne_eqb (get_or s at 0) 15 other)
            (go (eqb (get_or s at 0) 10) (eqb (get_or s at 0) 11) (eqb (get_or s at 0) 12) (eqb (get_or s at 0) 13) (eqb (get_or s at 0) 14) (eqb (get_or s at 0) 16))

    pub after_both : (x y : Seen) → get_or s at 0 ≡ 15 → x ≡ after_seen c (at + 1) (read_f (d - 1) (drop (at + 1) s)) → y ≡ after_seen c x.next (read_f (d - 1) (drop x.next s))
        → seen (bit_or x.reads y.reads) y.next ≡ whole
    unfolding formula_mark after_f
    after_both x y e ex ey =
        rw (step_f s at d deep inside, e, place s (at + 1) _ (next_of ex))
        (seen_eq (cc) (omega (arith, next_of ex, next_of ey)))

pub invariant_after_is : (f s : List ℕ) (h : Shape) (c line : ℕ) (x : Seen) → line ≡ get_or s h.invariant 0 → x ≡ after_seen c (line + 1) (read_f 32 (drop (line + 1) f))
    → x.reads ≡ after_f c (design_at f s h).invariant
invariant_after_is f s h c line x el ex = rw (← el, place f line 1 refl, ex)

-- ---- the mapping

module _ (f : List ℕ) (at n : ℕ) where
  unfoldable pub reads_left : List ℕ → ℕ → ℕ → List ℕ
  reads_left w p i = sets w i (map (λ (t : Value). reads_v t) (values_in (n - i) (drop p f)))

  abbrev reads_all : List ℕ
  reads_all = padded (map (λ (t : Value). reads_v t) (values_in n (drop at f)))

  pub reads_begin : reads_left (replicate 8 0) at 0 ≡ reads_all
  unfolding reads_left padded
  reads_begin = let k : n - 0 ≡ n = omega arith in rw k

  pub reads_turn : (w : List ℕ) (p i m : ℕ) (x : Seen) → m ≡ min n 8 → i < m → x ≡ seen_v p (read_v 32 (drop p f)) → reads_left w p i ≡ reads_all
      → reads_left (set w i x.reads) x.next (i + 1) ≡ reads_all
  unfolding reads_left values_in
  reads_turn w p i m x em l ex inv = go ∙ inv
    where
      go : reads_left (set w i x.reads) x.next (i + 1) ≡ reads_left w p i
      go = let k : n - i ≡ suc (n - (i + 1)) = omega arith in rw (k, ex, add-one i, place f p _ refl)

  pub reads_end : (w : List ℕ) (p i m : ℕ) → m ≡ min n 8 → m ≤ i → length w ≡ 8 → reads_left w p i ≡ reads_all → w ≡ reads_all
  unfolding reads_left values_in
  reads_end w p i m em l long inv = go (dec_lt 8 n) ∙ inv
    where
      go : Dec (8 < n) → w ≡ reads_left w p i
      go (no h) = let k : n - i ≡ 0 = omega arith in rw k
      go (yes h) = sym (sets_out w i (map (λ (t : Value). reads_v t) (values_in (n - i) (drop p f))) (omega arith))

pub mapping_is : (f s : List ℕ) (h : Shape) (line : ℕ) (w : List ℕ) → line ≡ get_or s h.mapping 0
    → w ≡ padded (map (λ (t : Value). reads_v t) (values_in h.specification.parameters.count (drop (line + 1) f))) → w ≡ padded (map_reads (design_at f s h))
mapping_is f s h line w el ew = rw (← el, place f line 1 refl, ew)

module _ (w : List ℕ) (n m : ℕ) where
  unfoldable pub through_left : ℕ → ℕ → ℕ
  through_left found i = bit_or found (through_from i (first_values (n - i) i w) m)

  abbrev through_all : ℕ
  through_all = through_from 0 (first_values n 0 w) m

  pub through_begin : through_left 0 0 ≡ through_all
  unfolding through_left
  through_begin = let e : n - 0 ≡ n = omega arith in rw e (or_zero_l _)

  pub through_turn : (found i one r x : ℕ) → i < n → one ≡ only i → r ≡ get_or w i 0 → x ≡ cond (eqb (bit_and m one) 0) 0 r → through_left found i ≡ through_all
      → through_left (bit_or found x) (i + 1) ≡ through_all
  unfolding through_left through_from first_values
  through_turn found i one r x l eo er ex inv = step ∙ inv
    where
      step : through_left (bit_or found x) (i + 1) ≡ through_left found i
      step = let e : n - i ≡ suc (n - (i + 1)) = omega arith in rw (e, ex, eo, er, add-one i) (or_assoc _ found _)

  pub through_end : (found i : ℕ) → n ≤ i → through_left found i ≡ through_all → found ≡ through_all
  unfolding through_left through_from first_values
  through_end found i l inv = go ∙ inv
    where
      go : found ≡ through_left found i
      go = let e : n - i ≡ 0 = omega arith in rw e (sym (or_zero_r found))

module _ (w : List ℕ) (n c : ℕ) where
  unfoldable pub stays_left : ℕ → ℕ → ℕ
  stays_left found i = bit_or found (stays c (first_values (n - i) i w))

  abbrev stays_all : ℕ
  stays_all = stays c (first_values n 0 w)

  pub stays_begin : stays_left 0 0 ≡ stays_all
  unfolding stays_left
  stays_begin = let e : n - 0 ≡ n = omega arith in rw e (or_zero_l _)

  pub stays_turn : (found i r x : ℕ) → i < n → r ≡ get_or w i 0 → x ≡ meeting c r → stays_left found i ≡ stays_all → stays_left (bit_or found x) (i + 1) ≡ stays_all
  unfolding stays_left stays first_values
  stays_turn found i r x l er ex inv = step ∙ inv
    where
      step : stays_left (bit_or found x) (i + 1) ≡ stays_left found i
      step = let e : n - i ≡ suc (n - (i + 1)) = omega arith in rw (e, ex, er, add-one i) (or_assoc _ found _)

  pub stays_end : (found i : ℕ) → n ≤ i → stays_left found i ≡ stays_all → found ≡ stays_all
  unfolding stays_left stays first_values
  stays_end found i l inv = go ∙ inv
    where
      go : found ≡ stays_left found i
      go = let e : n - i ≡ 0 = omega arith in rw e (sym (or_zero_r found))

module _ (w : List ℕ) (n : ℕ) where
  unfoldable pub all_left : ℕ → ℕ → ℕ
  all_left found i = bit_or found (all_of (first_values (n - i) i w))

  pub all_begin : all_left 0 0 ≡ all_of (first_values n 0 w)
  unfolding all_left
  all_begin = let e : n - 0 ≡ n = omega arith in rw e (or_zero_l _)

  pub all_turn : (found i r : ℕ) → i < n → r ≡ get_or w i 0 → all_left found i ≡ all_of (first_values n 0 w) → all_left (bit_or found r) (i + 1) ≡ all_of (first_values n 0 w)
  unfolding all_left all_of first_values
  all_turn found i r l er inv = step ∙ inv
    where
      step : all_left (bit_or found r) (i + 1) ≡ all_left found i
      step = let e : n - i ≡ suc (n - (i + 1)) = omega arith in rw (e, er, add-one i) (or_assoc _ found _)

  pub all_end : (found i : ℕ) → n ≤ i → all_left found i ≡ all_of (first_values n 0 w) → found ≡ all_of (first_values n 0 w)
  unfolding all_left all_of first_values
  all_end found i l inv = go ∙ inv
    where
      go : found ≡ all_left found i
      go = let e : n - i ≡ 0 = omega arith in rw e (sym (or_zero_r found))

-- ---- next values of the specification

module _ (all : List ℕ) (c i r : ℕ) (t : Value) (same : Bool) (es : same ≡ is_par i t) where
  pub follows_same : (set x : ℕ) → same ≡ true → set ≡ r → x ≡ meeting c set → x ≡ follows_at all c i r t
  unfolding follows_at
  follows_same set x y et ex = rw (← es, y, ex, et)

  pub follows_other : (set m a b : ℕ) → same ≡ false → set ≡ r → m ≡ reads_v t → a ≡ set - bit_and set c → b ≡ through_from 0 all m → bit_or a b ≡ follows_at all c i r t
  unfolding follows_at
  follows_other set m a b y et em ea eb = rw (← es, y, ea, et, eb, em)

-- what a value reads that was looked at
pub value_seen : (f : List ℕ) (p : ℕ) (x : Seen) → x ≡ seen_v p (read_v 32 (drop p f)) → x.reads ≡ reads_v (read_v 32 (drop p f)).tree
value_seen f p x e i = (e i).reads

no_values : (all : List ℕ) (c i : ℕ) (rs : List ℕ) → follows_from all c i rs [] ≡ 0
unfolding follows_from
no_values all c i [] = refl
no_values all c i (r ∷ rs) = refl

module _ (f w : List ℕ) (at count n c : ℕ) where
  abbrev all : List ℕ
  all = first_values n 0 w

  unfoldable pub follows_left : ℕ → ℕ → ℕ → ℕ
  follows_left found p i = bit_or found (follows_from all c i (first_values (n - i) i w) (values_in (count - i) (drop p f)))

  abbrev follows_all : ℕ
  follows_all = follows_from all c 0 all (values_in count (drop at f))

  pub follows_begin : follows_left 0 at 0 ≡ follows_all
  unfolding follows_left
  follows_begin = let e : n - 0 ≡ n = omega arith in let k : count - 0 ≡ count = omega arith in rw (e, k) (or_zero_l _)

  pub follows_turn : (found p i : ℕ) (x : Seen) (y : ℕ) → count ≤ n → i < count → x ≡ seen_v p (read_v 32 (drop p f)) → y ≡ follows_at all c i (get_or w i 0) (read_v 32 (drop p f)).tree
      → follows_left found p i ≡ follows_all → follows_left (bit_or found y) x.next (i + 1) ≡ follows_all
  unfolding follows_left follows_from values_in first_values
  follows_turn found p i x y few l ex ey inv = step ∙ inv
    where
      step : follows_left (bit_or found y) x.next (i + 1) ≡ follows_left found p i
      step =
          let e : n - i ≡ suc (n - (i + 1)) = omega arith in
          let k : count - i ≡ suc (count - (i + 1)) = omega arith in
          rw (e, k, ey, ex, add-one i, place f p _ refl) (or_assoc _ found _)

  pub follows_end : (found p i : ℕ) → count ≤ i → follows_left found p i ≡ follows_all → found ≡ follows_all
  unfolding follows_left values_in
  follows_end found p i l inv = go ∙ inv
    where
      go : found ≡ follows_left found p i
      go = let e : count - i ≡ 0 = omega arith in rw (e, no_values all c i (first_values (n - i) i w)) (sym (or_zero_r found))

-- ---- the rows

module _ (f s : List ℕ) (h : Shape) (k : ℕ) where
  abbrev row : Row
  row = row_at (process_in f s h.implementation).rows k

  pub enabling_is : (x : Parts) → PartsOf f h.implementation.parameters.count row x → x.condition ≡ enabling (design_at f s h) k
  unfolding enabling
  enabling_is x parts = parts.condition

  -- of an internal row
  pub internal_row : (x : Parts) → PartsOf f h.implementation.parameters.count row x → x.action ≡ 0 → row.action ≡ 0
  internal_row x parts z = sym parts.action ∙ z

  pub mark_absent : h.marks.count ≡ 0 → 0 ≡ reads_f (mark_of (design_at f s h) k)
  unfolding reads_f
  mark_absent z = rw (mark_none f s h k z)

  pub mark_is : (p : ℕ) (x : Seen) → 0 < k → k ≤ h.implementation.rows.count → row.action ≡ 0 → (h.marks.count ≡ 0 → ⊥) → p ≡ mark_place f s h k
      → x ≡ seen_f p (read_f 32 (drop p f)) → x.reads ≡ reads_f (mark_of (design_at f s h) k)
  mark_is p x some l z given ep ex = rw (mark_held f s h k (omega arith) l z given, ex, ep)

-- ---- by the mapping: the array holds what the mapped values read

module _ (f s : List ℕ) (h : Shape) (w : List ℕ) (fits : Fits h) (ew : w ≡ padded (map_reads (design_at f s h))) where
  abbrev mapped_values : ℕ
  mapped_values = h.specification.parameters.count

  held : first_values mapped_values 0 w ≡ map_reads (design_at f s h)
  held =
      rw ew
      (first_held (map_reads (design_at f s h)) mapped_values (length-map (design_at f s h).mapping _ ∙ in_length mapped_values _) fits.specification.parameters)

  pub all_mapped : (x : ℕ) → x ≡ all_of (first_values mapped_values 0 w) → x ≡ all_of (map_reads (design_at f s h))
  all_mapped x e = e ∙ rw held

  pub internal_is : (k c mark same line : ℕ) (x : Seen) → mark ≡ reads_f (mark_of (design_at f s h) k) → same ≡ stays c (first_values mapped_values 0 w) → line ≡ get_or s h.measure 0
      → x ≡ seen_v (line + 1) (read_v 32 (drop (line + 1) f)) → bit_or mark (bit_or same x.reads) ≡ internal_watched (design_at f s h) k c
  unfolding internal_watched
  internal_is k c mark same line x em es el ex = rw (em, es, held, ← el, place f line 1 refl, ex)

  pub visible_is : (r : Row) (c a carries j answer next : ℕ) (q : Parts) → carries ≡ reads_v r.carries → j ≡ row_with f s h.specification a
      → PartsOf f mapped_values (row_at (process_in f s h.specification).rows j) q → answer ≡ through_from 0 (first_values mapped_values 0 w) (bit_or q.condition q.carries)
      → next ≡ follows_from (first_values mapped_values 0 w) c 0 (first_values mapped_values 0 w) (values_in q.count (drop q.next f))
      → bit_or carries (bit_or answer next) ≡ visible_watched (design_at f s h) r (partner (process_in f s h.specification) a) c
  unfolding visible_watched row_with
  visible_is r c a carries j answer next q ec ej parts ea en = rw (ec, ea, en, held, parts.next, parts.condition, parts.carries, ej)

  module _ (k : ℕ) (x : Parts) (parts : PartsOf f h.implementation.parameters.count (row_at (process_in f s h.implementation).rows k) x) (step : Changed) (kept rest : ℕ) (es : step ≡ changed_of (values_in x.count (drop x.next f))) (ek : kept ≡ after_f step.changes (design_at f s h).invariant) where
    changes_are : step.changes ≡ changes_from 0 (row_at (process_in f s h.implementation).rows k).next
    changes_are = rw (es, parts.next)

    by_is : step.by ≡ changed_by_from 0 (row_at (process_in f s h.implementation).rows k).next
    by_is = rw (es, parts.next)

    pub watched_internal : x.action ≡ 0 → rest ≡ internal_watched (design_at f s h) k step.changes → bit_or x.condition (bit_or step.by (bit_or kept rest)) ≡ watched (design_at f s h) k
    unfolding watched enabling
    watched_internal z er = rw (parts.condition, by_is, ek, er, changes_are, ← parts.action, eq-eqb x.action 0 z)

    pub watched_visible : (x.action ≡ 0 → ⊥)
        → rest ≡ visible_watched (design_at f s h) (row_at (process_in f s h.implementation).rows k) (partner (process_in f s h.specification) x.action) step.changes
        → bit_or x.condition (bit_or step.by (bit_or kept rest)) ≡ watched (design_at f s h) k
    unfolding watched enabling
    watched_visible some er = rw (parts.condition, by_is, ek, er, changes_are, ← parts.action, ne_eqb x.action 0 some)

  pub reply_is : (k asked j : ℕ) (q x : Parts) → PartsOf f mapped_values (row_at (process_in f s h.specification).rows k) q → asked ≡ through_from 0 (first_values mapped_values 0 w) q.condition
      → j ≡ row_with f s h.implementation q.action → PartsOf f h.implementation.parameters.count (row_at (process_in f s h.implementation).rows j) x
      → bit_or asked x.condition ≡ reply_watched (design_at f s h) k
  unfolding reply_watched row_with
  reply_is k asked j q x pq ea ej px = rw (ea, held, pq.condition, px.condition, ej, pq.action)
