-- What the functions return is what their contracts say: laws whose premises are what the code knows there, one fact each. Those of
-- the loops are in Turns.
use mathlib.Core.Path.{◌≡◌, refl, sym, ap, ◌∙◌}
use mathlib.Core.Logic.{◌≢◌}
use mathlib.Core.Bool.{Bool, true, false, not, ◌&&◌, ◌||◌, and-false}
use mathlib.Core.List.{List, [], ◌∷◌, nil≢cons}
use Prim.Native.Nat.{ℕ, suc, ◌+◌, ◌-◌, ◌*◌, ◌<◌, ◌≤◌}
use native.Mathlib.Omega.{arith}
use native.Mathlib.Nat.{mul-le-mul}
use borrow.Author.Tests.{eqb-true, eqb-false, not-true, not-false, lt-ltb, le-ltb, le-leb, lt-leb, eq-eqb, ne_eqb}
use lib.Dec.{eqb, leb, ltb}
use lib.ListN.{length, get_or, take, drop, get_or-eq_default}
use lib.Seq.{drop-cons, length-take-le}
use mir.Syntax.{w64}
use mir.Val.{Fits}
use Rattle.terms.specs.Tree.{Formula, ok_f}
use Rattle.terms.specs.Read.{read_f}
use Rattle.std.specs.Prelude.{Option, Some, None, Result, Ok, Err, unwrap_or}
use Rattle.std.specs.Result.{OkIff, result_unwrap_or}
use Rattle.reader.specs.Line.{field_there, fields_of}
use Rattle.reader.specs.Text.{is_line, fields_by_line}
use Rattle.reader.proofs.Line.{first_field, no_field, rest_fields, fields_within}
use Rattle.term_check.specs.Checked.{checked_f}
use Rattle.term_check.proofs.Laws.{good_of, took_of, bad_of}
use Rattle.kinds.specs.Kinds.{whole_text, entry_in, has_terms}
use Rattle.kinds.specs.declared.Entry.{Entry}
use Rattle.decision.specs.Admitted.{is_zero}
use Rattle.design.specs.Line.{value_in}
use Rattle.design.specs.Lines.{kind_of}
use Rattle.design.specs.Faults.{entry_of}
use Rattle.design.specs.Tests.{numbers_fit_by, numbers_fit, length_fits}
use Rattle.action_check.proofs.Laws.{zero_past, zero_other, zero_short, zero_second}
use Rattle.loader.specs.Load.{line_test}
use Rattle.line_check.specs.LineFits.{line_fits}
use Rattle.line_faults.specs.Tests as tests

-- ---- numbers

pub small_is : {E : Type 0} (n : ℕ) (r : Result ℕ E) → OkIff r (n < 65536) n → result_unwrap_or r 0 ≡ tests.small n
small_is n (Ok m) h = rw (lt-ltb n 65536 h.0) h.1
small_is n (Err e) h = rw (le-ltb n 65536 (omega arith))

module _ (n size a : ℕ) (ea : a ≡ tests.cap n) where
  pub product_fits : size < 65536 → Fits w64 (a * size)
  product_fits h = let m : a * size ≤ 65537 * 65536 = mul-le-mul {n₁ = a} {m₁ = size} {n₂ = 65537} {m₂ = 65536} (omega arith) (omega arith) in record { fits = omega arith }

  pub product_is : (r : ℕ) → r ≡ tests.cap (a * size) → r ≡ tests.cap (tests.cap n * size)
  product_is r e = e ∙ rw ea

-- ---- a line's fields

module _ (line : List ℕ) (k n : ℕ) (en : n ≡ length (fields_of line)) where
  pub field_past : n ≤ k → 0 ≡ get_or (fields_of line) k 0
  field_past h = sym (get_or-eq_default (fields_of line) 0 (omega arith))

  module _ (h : k < n) (f : Option ℕ) (ef : f ≡ field_there line k) where
    rest_is : fields_of (drop (6 * k) line) ≡ get_or (fields_of line) k 0 ∷ drop (suc k) (fields_of line)
    rest_is = rest_fields k line (omega arith) ∙ drop-cons (fields_of line) k 0 (omega arith)

    field_by : (g : Option ℕ) → g ≡ field_there line k → unwrap_or g 0 ≡ get_or (fields_of line) k 0
    field_by None e =
        let z : [] ≡ get_or (fields_of line) k 0 ∷ drop (suc k) (fields_of line) = sym (no_field (drop (6 * k) line) (sym e)) ∙ rest_is in
        absurd (nil≢cons z)
    field_by (Some m) e =
        let z : m ∷ fields_of (drop 6 (drop (6 * k) line)) ≡ get_or (fields_of line) k 0 ∷ drop (suc k) (fields_of line) = sym (first_field (drop (6 * k) line) m (sym e)) ∙ rest_is in
        ap (λ l. get_or l 0 0) z

    pub field_is : (r : ℕ) → r ≡ unwrap_or f 0 → r ≡ get_or (fields_of line) k 0
    field_is r er = er ∙ field_by f ef

pub rank_is : (k : ℕ) (e : Entry) → e ≡ entry_in whole_text k → e.rank ≡ (entry_in whole_text k).rank
rank_is k e h = ap (λ (x : Entry). x.rank) h

module _ (line : List ℕ) (x : ℕ) (ex : x ≡ get_or (fields_of line) 0 0) where
  pub action_is : (k a y : ℕ) → y ≡ get_or (fields_of line) 1 0 → eqb x k && eqb y a ≡ tests.has_action k a (fields_of line)
  action_is k a y ey = rw (ex, ey)

  module _ (e : Entry) (ee : e ≡ entry_in whole_text x) where
    pub numbers_of : (y z : ℕ) (b : Bool) → y ≡ get_or (fields_of line) 1 0 → z ≡ get_or (fields_of line) 2 0 → b ≡ numbers_fit_by e.role y z
        → b ≡ numbers_fit (fields_of line)
    numbers_of y z b ey ez eb = eb ∙ rw (ee, ex, ey, ez)

    module _ (n : ℕ) (en : n ≡ length (fields_of line)) (b : Bool) (eb : b ≡ has_terms e.terms) where
      pub length_least : b ≡ true → leb e.fixed n ≡ length_fits whole_text (fields_of line)
      length_least h = rw (← ex, ← ee, ← eb, h, en)

      pub length_exactly : b ≡ false → eqb n e.fixed ≡ length_fits whole_text (fields_of line)
      length_exactly h = rw (← ex, ← ee, ← eb, h, en)

-- ---- the value `0 0`

module _ (part : List ℕ) (n : ℕ) (en : n ≡ length (fields_of part)) where
  abbrev zero_here : Bool
  zero_here = is_zero (value_in (fields_of part)).tree

  short_by : (fs : List ℕ) → length fs < 2 → false ≡ is_zero (value_in fs).tree
  short_by [] h = zero_past [] 0 (omega arith)
  short_by (x ∷ fs) h = zero_short (x ∷ fs) 0 (omega arith) (omega arith)

  pub zero_early : n < 2 → false ≡ zero_here
  zero_early h = short_by (fields_of part) (omega arith)

  zero_by : (x : ℕ) (b : Bool) → eqb x 0 ≡ b → x ≡ get_or (fields_of part) 0 0 → 2 ≤ n → b && eqb (get_or (fields_of part) 1 0) 0 ≡ zero_here
  zero_by x true e ex h =
      zero_second (fields_of part) 0 (omega arith) (sym ex ∙ eqb_zero) (omega arith)
    where
      eqb_zero : x ≡ 0
      eqb_zero = eqb-true x 0 e
  zero_by x false e ex h = zero_other (fields_of part) 0 (omega arith) (λ z. eqb-false x 0 e (ex ∙ z))

  pub zero_both : 2 ≤ n → (x y : ℕ) → x ≡ get_or (fields_of part) 0 0 → y ≡ get_or (fields_of part) 1 0 → eqb x 0 && eqb y 0 ≡ zero_here
  zero_both h x y ex ey = rw ey (zero_by x (eqb x 0) refl ex h)

-- ---- whether a row's data is that

module _ (line : List ℕ) (n : ℕ) (p : List ℕ) (ep : fields_of p ≡ drop 3 (fields_of line)) where
  abbrev ok : Formula → Bool
  ok f = ok_f f n true

  pub bare_wrong : None ≡ checked_f n true (read_f 32 (fields_of p)) → true ≡ tests.bare_by n (drop 3 (fields_of line))
  bare_wrong h = rw (← ep, bad_of (read_f 32) ok (fields_of p) h)

  pub bare_next : (u : ℕ) → Some u ≡ checked_f n true (read_f 32 (fields_of p)) → (q : List ℕ) → fields_of q ≡ drop u (fields_of p) → (b : Bool)
      → b ≡ is_zero (value_in (fields_of q)).tree → b ≡ tests.bare_by n (drop 3 (fields_of line))
  bare_next u h q eq b eb = eb ∙ rw (← ep, good_of (read_f 32) ok (fields_of p) h, took_of (read_f 32) ok (fields_of p) h, eq)

-- ---- what a line makes of a number

module _ (line : List ℕ) (n x : ℕ) (ex : x ≡ get_or (fields_of line) 0 0) where
  pub size_times : x ≡ 1 → (y r : ℕ) → y ≡ get_or (fields_of line) 1 0 → r ≡ tests.cap (tests.cap n * y) → r ≡ tests.times_size n (fields_of line)
  size_times h y r ey er = rw (← ex, eq-eqb x 1 h, ← ey) er

  pub size_other : x ≢ 1 → n ≡ tests.times_size n (fields_of line)
  size_other h = rw (← ex, ne_eqb x 1 h)

-- ---- the tests of a line

module _ (line : List ℕ) (last : Bool) (n : ℕ) (en : n ≡ length (fields_of line)) where
  pub second_none : n ≡ 0 → true ≡ tests.shows2 last line
  unfolding is_line
  second_none h = rw (← en, h, and-false (eqb (6 * 0) (length line)))

  pub second_more : n ≢ 0 → 6 * n < length line → true ≡ tests.shows2 last line
  unfolding is_line
  second_more z h = rw (← en, ne_eqb (6 * n) (length line) (omega arith))

  pub second_last : n ≢ 0 → length line ≤ 6 * n → last ≡ tests.shows2 last line
  unfolding is_line
  second_last z h = let w = fields_within line in rw (← en, eq-eqb (6 * n) (length line) (omega arith), lt-ltb 0 n (omega arith))

module _ (before line : List ℕ) (n : ℕ) (en : n ≡ length (fields_of line)) where
  pub third_long : 256 < n → true ≡ tests.shows3 (fields_by_line before) (fields_of line)
  third_long h = rw (← en, lt-ltb 256 n h)

  pub third_sum : n ≤ 256 → (s : ℕ) → s ≡ tests.gathered tests.add_fields 0 (fields_by_line before) → (t : ℕ) → t ≡ tests.cap (s + n)
      → leb s 4096 && ltb 4096 t ≡ tests.shows3 (fields_by_line before) (fields_of line)
  third_sum h s es t et = rw (← en, le-ltb 256 n h, ← es, et)

module _ (before line : List ℕ) (x : ℕ) (ex : x ≡ get_or (fields_of line) 0 0) (e : Entry) (ee : e ≡ entry_in whole_text x) where
  abbrev earlier : List (List ℕ)
  earlier = fields_by_line before

  -- by the line's entry, and whether its length fits
  abbrev fourth : Entry → Bool → Bool
  fourth e b = (ltb e.rank (tests.gathered tests.the_rank 0 earlier) || leb e.most (tests.gathered (tests.add_rank e.rank) 0 earlier)) || not b

  fourth_is : (b : Bool) → b ≡ length_fits whole_text (fields_of line) → fourth e b ≡ tests.shows4 earlier (fields_of line)
  fourth_is b eb =
      ap (λ (f : Entry). fourth f b) (ee ∙ ap (entry_in whole_text) ex) ∙ ap (fourth (entry_of whole_text (fields_of line))) eb

  module _ (g : ℕ) (eg : g ≡ tests.gathered tests.the_rank 0 earlier) where
    pub fourth_falls : e.rank < g → true ≡ tests.shows4 earlier (fields_of line)
    fourth_falls h = let t : true ≡ fourth e (length_fits whole_text (fields_of line)) = rw (← eg, lt-ltb e.rank g h) in t ∙ fourth_is _ refl

    module _ (climbs : g ≤ e.rank) (m : ℕ) (em : m ≡ tests.gathered (tests.add_rank e.rank) 0 earlier) where
      pub fourth_more : e.most ≤ m → true ≡ tests.shows4 earlier (fields_of line)
      fourth_more h =
          let t : true ≡ fourth e (length_fits whole_text (fields_of line)) = rw (← eg, le-ltb e.rank g climbs, ← em, le-leb e.most m h) in
          t ∙ fourth_is _ refl

      pub fourth_length : m < e.most → (b : Bool) → b ≡ length_fits whole_text (fields_of line) → not b ≡ tests.shows4 earlier (fields_of line)
      fourth_length h b eb = let t : not b ≡ fourth e b = rw (← eg, le-ltb e.rank g climbs, ← em, lt-leb e.most m h) in t ∙ fourth_is b eb

module _ (before line : List ℕ) (b : Bool) (eb : b ≡ numbers_fit (fields_of line)) where
  -- whether its numbers fit, its kind, its size, and the states so far
  abbrev fifth : Bool → ℕ → ℕ → ℕ → Bool
  fifth b k z n = not b || (eqb k 1 && (leb n 65536 && ltb 65536 (tests.cap (tests.cap n * z))))

  abbrev fifth_all : Bool
  fifth_all = tests.shows5 (fields_by_line before) (fields_of line)

  fifth_is : (k z n : ℕ) → k ≡ get_or (fields_of line) 0 0 → z ≡ get_or (fields_of line) 1 0 → n ≡ tests.gathered tests.times_size 1 (fields_by_line before)
      → fifth b k z n ≡ fifth_all
  fifth_is k z n ek ez en =
      let fits = numbers_fit (fields_of line) in
      ap (λ (c : Bool). fifth c k z n) eb
      ∙ (ap (λ (j : ℕ). fifth fits j z n) ek
      ∙ (ap (λ (y : ℕ). fifth fits (kind_of (fields_of line)) y n) ez ∙ ap (λ (m : ℕ). fifth fits (kind_of (fields_of line)) (get_or (fields_of line) 1 0) m) en))

  pub fifth_numbers : not b ≡ true → true ≡ fifth_all
  fifth_numbers h =
      let fs = fields_of line in
      let n = tests.gathered tests.times_size 1 (fields_by_line before) in
      let t : true ≡ fifth b (kind_of fs) (get_or fs 1 0) n = rw (not-true b h) in
      t ∙ fifth_is (kind_of fs) (get_or fs 1 0) n refl refl refl

  module _ (h : not b ≡ false) (k : ℕ) (ek : k ≡ get_or (fields_of line) 0 0) where
    pub fifth_other : k ≢ 1 → false ≡ fifth_all
    fifth_other n =
        let z = get_or (fields_of line) 1 0 in
        let m = tests.gathered tests.times_size 1 (fields_by_line before) in
        let t : false ≡ fifth b k z m = rw (not-false b h, ne_eqb k 1 n) in
        t ∙ fifth_is k z m ek refl refl

    pub fifth_states : k ≡ 1 → (n : ℕ) → n ≡ tests.gathered tests.times_size 1 (fields_by_line before) → (z : ℕ) → z ≡ get_or (fields_of line) 1 0 → (t : ℕ)
        → t ≡ tests.cap (tests.cap n * z) → leb n 65536 && ltb 65536 t ≡ fifth_all
    fifth_states e n en z ez t et =
        let s : leb n 65536 && ltb 65536 t ≡ fifth b k z n = rw (not-false b h, eq-eqb k 1 e, et) in
        s ∙ fifth_is k z n ek ez en

pub sixth_is : (text line : List ℕ) (a n : ℕ) → a ≡ tests.gathered (tests.add_rank 1) 0 (fields_by_line text) → n ≡ tests.small a
    → (c m : ℕ) → c ≡ tests.gathered (tests.add_rank 2) 0 (fields_by_line text) → m ≡ tests.small c
    → (d i : ℕ) → d ≡ tests.gathered (tests.add_action 3 0) 0 (fields_by_line text) → i ≡ tests.small d
    → (x : ℕ) → x ≡ get_or (fields_of line) 0 0 → (b : Bool) → b ≡ line_fits n m i (fields_of line) x → not b ≡ tests.shows6 (fields_by_line text) (fields_of line)
sixth_is text line a n ea en c m ec em d i ed ei x ex b eb =
    let lines = fields_by_line text in
    let t : line_fits n m i (fields_of line) x ≡ line_test (tests.small (tests.gathered (tests.add_rank 1) 0 lines)) (tests.small (tests.gathered (tests.add_rank 2) 0 lines)) (tests.small (tests.gathered tests.add_internal 0 lines)) (fields_of line) =
    rw (en, em, ei, ea, ec, ed, ex)
    in
    ap not (eb ∙ t)

module _ (text before line : List ℕ) (k : ℕ) (ek : k ≡ get_or (fields_of line) 0 0) (a : ℕ) (ea : a ≡ get_or (fields_of line) 1 0) where
  abbrev seventh : Bool
  seventh = tests.shows7 (fields_by_line text) (fields_by_line before) (fields_of line)

  pub seventh_bare : k ≡ 3 → a ≡ 0 → (g n : ℕ) → g ≡ tests.gathered (tests.add_rank 1) 0 (fields_by_line text) → n ≡ tests.small g
      → (b : Bool) → b ≡ tests.bare_by n (drop 3 (fields_of line)) → not b ≡ seventh
  seventh_bare hk ha g n eg en b eb = rw (← ek, eq-eqb k 3 hk, ← ea, eq-eqb a 0 ha, ← eg, ← en, ← eb)

  pub seventh_impl : k ≡ 3 → a ≢ 0 → (g : ℕ) → g ≡ tests.gathered (tests.add_action 3 a) 0 (fields_by_line before) → ltb 0 g ≡ seventh
  seventh_impl hk ha g eg = rw (← ek, eq-eqb k 3 hk, ← ea, ne_eqb a 0 ha, ← eg)

  module _ (nk : k ≢ 3) where
    pub seventh_other : k ≢ 4 → false ≡ seventh
    seventh_other hk = rw (← ek, ne_eqb k 3 nk, ne_eqb k 4 hk)

    pub seventh_internal : k ≡ 4 → a ≡ 0 → true ≡ seventh
    seventh_internal hk ha = rw (← ek, ne_eqb k 3 nk, eq-eqb k 4 hk, ← ea, eq-eqb a 0 ha)

    module _ (hk : k ≡ 4) (ha : a ≢ 0) (g : ℕ) (eg : g ≡ tests.gathered (tests.add_action 4 a) 0 (fields_by_line before)) where
      pub seventh_spec : 0 < g → true ≡ seventh
      seventh_spec h = rw (← ek, ne_eqb k 3 nk, eq-eqb k 4 hk, ← ea, ne_eqb a 0 ha, ← eg, lt-ltb 0 g h)

      pub seventh_span : g ≤ 0 → (s : ℕ) → s ≡ get_or (fields_of line) 2 0 → (c : ℕ) → c ≡ tests.gathered (tests.add_clash a s) 0 (fields_by_line text) → ltb 0 c ≡ seventh
      seventh_span h s es c ec = rw (← ek, ne_eqb k 3 nk, eq-eqb k 4 hk, ← ea, ne_eqb a 0 ha, ← eg, le-ltb 0 g h, ← es, ← ec)

-- ---- by the fault's number

module _ (f : ℕ) (text before line : List ℕ) (last : Bool) where
  abbrev whole : Bool
  whole = tests.shown f text before line last

  pub by_2 : f ≡ 2 → (b : Bool) → b ≡ tests.shows2 last line → b ≡ whole
  by_2 e b eb = rw e eb

  pub by_3 : f ≡ 3 → (b : Bool) → b ≡ tests.shows3 (fields_by_line before) (fields_of line) → b ≡ whole
  by_3 e b eb = rw e eb

  pub by_4 : f ≡ 4 → (b : Bool) → b ≡ tests.shows4 (fields_by_line before) (fields_of line) → b ≡ whole
  by_4 e b eb = rw e eb

  pub by_5 : f ≡ 5 → (b : Bool) → b ≡ tests.shows5 (fields_by_line before) (fields_of line) → b ≡ whole
  by_5 e b eb = rw e eb

  pub by_6 : f ≡ 6 → (b : Bool) → b ≡ tests.shows6 (fields_by_line text) (fields_of line) → b ≡ whole
  by_6 e b eb = rw e eb

  pub by_7 : f ≡ 7 → (b : Bool) → b ≡ tests.shows7 (fields_by_line text) (fields_by_line before) (fields_of line) → b ≡ whole
  by_7 e b eb = rw e eb

  pub by_none : f ≢ 2 → f ≢ 3 → f ≢ 4 → f ≢ 5 → f ≢ 6 → f ≢ 7 → false ≡ whole
  by_none a b c d e g = rw (ne_eqb f 2 a, ne_eqb f 3 b, ne_eqb f 4 c, ne_eqb f 5 d, ne_eqb f 6 e, ne_eqb f 7 g)

-- ---- a line of the text

module _ (text : List ℕ) (at end : ℕ) where
  pub before_length : at ≤ end → end ≤ length text → at ≡ length (take at text)
  before_length a b = sym (length-take-le at text (omega arith))

  pub told_is : (f : ℕ) (wanted : Bool) → wanted ≡ true → (b : Bool) → b ≡ tests.shown f text (take at text) (take (end - at) (drop at text)) (leb (length text) end)
      → b ≡ wanted && tests.shown f text (take at text) (take (end - at) (drop at text)) (leb (length text) end)
  told_is f wanted e b eb = eb ∙ rw e
