-- Where lines stand among others: a line among them (`place_of`), the line with which a number passes a bound (`crossing`), a line that
-- falls in rank (`falls_place`, `falls_at`), the line of a row, and the lines of two rows (`row_place`, `two_places`); and the row of a line
-- (`row_nth`).
use Prim.Native.Nat.{ℕ, suc, ◌+◌, ◌*◌, ◌<◌, ◌≤◌}
use mathlib.Core.Path.{◌≡◌, refl, sym, ap, ◌∙◌}
use mathlib.Core.Logic.{◌≢◌, ◌⊎◌, inl, inr}
use mathlib.Core.Bool.{Bool, true, false, cond}
use mathlib.Core.List.Memᴰ
use mathlib.Core.List.{List, [], ◌∷◌, ◌++◌, map, map-append, append_assoc, append-nil, Memᴰ}
use native.Mathlib.Omega.{arith}
use native.Mathlib.Nat.{mul_assoc, mul-one, le-mul_of_pos_right}
use borrow.Author.Tests.{eqb-true, eq-eqb, ne_eqb, leb-true, leb-false}
use lib.Dec.{eqb, leb}
use lib.ListN.{length, length-map}
use Rattle.foundation.specs.Nth.{Nth}
use Rattle.foundation.specs.Nth as nth
use Rattle.foundation.specs.Radix.{product}
use Rattle.foundation.proofs.Nth.{nth_nil}
use Rattle.reader.specs.Text.{count_all}
use Rattle.criteria.specs.Design.{Row}
use Rattle.kinds.specs.Kinds.{whole_text}
use Rattle.design.specs.Lines.{kind_of, of_kind}
use Rattle.design.specs.Faults as faults
use Rattle.design.specs.Faults.{entry_of, Falls, of_rank, size_of}
use Rattle.fault_lines.specs.Shows.{Cut, last_rank, states}
use Rattle.fault_lines.proofs.Counts.{how_many, ranks_many}

-- ---- a line among others

pub record Place (lines : List (List ℕ)) (line : List ℕ) : Type 0 where
  pub earlier : List (List ℕ)
  pub later : List (List ℕ)
  pub parts : lines ≡ earlier ++ line ∷ later

pub place_of : (lines : List (List ℕ)) (line : List ℕ) → Memᴰ line lines → Place lines line
place_of [] line m = absurd (Memᴰ.not-nil m)
place_of (l ∷ lines) line m = go (Memᴰ.cases_cons m) (place_of lines line)
  where
    go : (line ≡ l) ⊎ Memᴰ line lines → (Memᴰ line lines → Place lines line) → Place (l ∷ lines) line
    go (inl e) ih = record { earlier = []; later = lines; parts = ap (λ (x : List ℕ). x ∷ lines) (sym e) }
    go (inr n) ih = let p = ih n in record { earlier = l ∷ p.earlier; later = p.later; parts = ap (λ (x : List (List ℕ)). l ∷ x) p.parts }

pub place_cut : {lines : List (List ℕ)} {line : List ℕ} (p : Place lines line) → Cut lines (suc (length p.earlier)) p.earlier line p.later
place_cut p = record { parts = p.parts; counted = refl }

pub cut_among : {lines : List (List ℕ)} {l : ℕ} {e r : List (List ℕ)} {line : List ℕ} → Cut lines l e line r → Memᴰ line lines
cut_among {e = e} c = rw c.parts (Memᴰ.append_right e (Memᴰ.head refl))

-- the last line
pub record Last (lines : List (List ℕ)) : Type 0 where
  pub line : List ℕ
  pub earlier : List (List ℕ)
  pub parts : lines ≡ earlier ++ (line ∷ [])

pub last_place : (line : List ℕ) (lines : List (List ℕ)) → Last (line ∷ lines)
last_place line [] = record { line = line; earlier = []; parts = refl }
last_place line (l ∷ lines) = let p = last_place l lines in record { line = p.line; earlier = line ∷ p.earlier; parts = ap (λ (x : List (List ℕ)). line ∷ x) p.parts }

-- ---- the line with which a number of the lines so far passes a bound

pub record Crossing (number : List (List ℕ) → ℕ) (bound : ℕ) (lines : List (List ℕ)) : Type 0 where
  pub line : List ℕ
  pub place : Place lines line
  pub below : number place.earlier ≤ bound
  pub above : bound < number (place.earlier ++ (line ∷ []))

module _ (number : List (List ℕ) → ℕ) (bound : ℕ) where
  cross_from : (start lines : List (List ℕ)) → number start ≤ bound → bound < number (start ++ lines) → Crossing number bound (start ++ lines)
  cross_from start [] h g = let k : bound < number start = rw (append-nil start) at g in absurd (omega arith)
  cross_from start (line ∷ lines) h g = go (leb (number (start ++ (line ∷ []))) bound) refl (cross_from (start ++ (line ∷ [])) lines)
    where
      same : (start ++ (line ∷ [])) ++ lines ≡ start ++ line ∷ lines
      same = append_assoc start (line ∷ []) lines

      go : (b : Bool) → leb (number (start ++ (line ∷ []))) bound ≡ b
          → (number (start ++ (line ∷ [])) ≤ bound → bound < number ((start ++ (line ∷ [])) ++ lines) → Crossing number bound ((start ++ (line ∷ [])) ++ lines))
          → Crossing number bound (start ++ line ∷ lines)
      go true e ih = rw same at (ih (leb-true _ bound e) (rw same g))
      go false e ih = record { line = line; place = record { earlier = start; later = lines; parts = refl }; below = h; above = leb-false _ bound e }

  pub crossing : (lines : List (List ℕ)) → number [] ≤ bound → bound < number lines → Crossing number bound lines
  crossing lines h g = cross_from [] lines h g

-- ---- numbers of lines one after the other

pub count_append : (xs ys : List (List ℕ)) → count_all (xs ++ ys) ≡ count_all xs + count_all ys
unfolding count_all
count_append [] ys = omega arith
count_append (x ∷ xs) ys = let h = count_append xs ys in omega arith

pub many_append : (t : List ℕ → Bool) (xs ys : List (List ℕ)) → how_many t (xs ++ ys) ≡ how_many t xs + how_many t ys
unfolding how_many
many_append t [] ys = omega arith
many_append t (x ∷ xs) ys = let h = many_append t xs ys in omega arith

pub kind_append : (k : ℕ) (xs ys : List (List ℕ)) → of_kind k (xs ++ ys) ≡ of_kind k xs ++ of_kind k ys
unfolding of_kind
kind_append k [] ys = refl
kind_append k (x ∷ xs) ys = go (eqb (kind_of x) k) (kind_append k xs ys)
  where
    go : (b : Bool) → of_kind k (xs ++ ys) ≡ of_kind k xs ++ of_kind k ys
        → cond b (x ∷ of_kind k (xs ++ ys)) (of_kind k (xs ++ ys)) ≡ cond b (x ∷ of_kind k xs) (of_kind k xs) ++ of_kind k ys
    go true ih = rw ih
    go false ih = ih

pub ranks_append : (r : ℕ) (xs ys : List (List ℕ))
    → length (of_rank whole_text r (xs ++ ys)) ≡ length (of_rank whole_text r xs) + length (of_rank whole_text r ys)
ranks_append r xs ys =
    let a = ranks_many r xs in
    let b = ranks_many r ys in
    let c = ranks_many r (xs ++ ys) in
    let d = many_append (λ line. eqb (entry_of whole_text line).rank r) xs ys in
    omega arith

product_append : (xs ys : List ℕ) → product (xs ++ ys) ≡ product xs * product ys
product_append [] ys = omega arith
product_append (x ∷ xs) ys = rw (product_append xs ys) (sym (mul_assoc x (product xs) (product ys)))

pub states_append : (xs ys : List (List ℕ)) → states (xs ++ ys) ≡ states xs * states ys
states_append xs ys =
    ap (λ ls. product (map size_of ls)) (kind_append 1 xs ys)
    ∙ (ap product (map-append size_of (of_kind 1 xs) (of_kind 1 ys)) ∙ product_append (map size_of (of_kind 1 xs)) (map size_of (of_kind 1 ys)))

pub states_one : (line : List ℕ) → kind_of line ≡ 1 → states (line ∷ []) ≡ size_of line
unfolding of_kind
states_one line e = rw (eq-eqb (kind_of line) 1 e) (mul-one (size_of line))

pub states_none : (line : List ℕ) → kind_of line ≢ 1 → states (line ∷ []) ≡ 1
unfolding of_kind
states_none line e = rw (ne_eqb (kind_of line) 1 e)

pub states_some : (lines : List (List ℕ)) → ((line : List ℕ) → Memᴰ line lines → kind_of line ≡ 1 → 1 ≤ size_of line) → 1 ≤ states lines
unfolding of_kind
states_some [] each = omega arith
states_some (line ∷ lines) each = go (eqb (kind_of line) 1) refl (states_some lines (λ l m. each l (Memᴰ.tail m)))
  where
    go : (b : Bool) → eqb (kind_of line) 1 ≡ b → 1 ≤ states lines → 1 ≤ product (map size_of (cond b (line ∷ of_kind 1 lines) (of_kind 1 lines)))
    go true e h =
        let z = each line (Memᴰ.head refl) (eqb-true (kind_of line) 1 e) in
        let p = le-mul_of_pos_right {m = states lines} (size_of line) h in
        omega arith
    go false e h = h

-- ---- ranks that fall

pub last_rank_lem : (r : ℕ) (lines : List (List ℕ)) (line : List ℕ) → last_rank r (lines ++ (line ∷ [])) ≡ (entry_of whole_text line).rank
unfolding last_rank
last_rank_lem r [] line = refl
last_rank_lem r (l ∷ lines) line = last_rank_lem (entry_of whole_text l).rank lines line

pub record Falling (lines : List (List ℕ)) : Type 0 where
  pub higher : List ℕ
  pub line : List ℕ
  pub before : List (List ℕ)
  pub later : List (List ℕ)
  pub parts : lines ≡ (before ++ (higher ∷ [])) ++ line ∷ later
  pub falls : (entry_of whole_text line).rank < (entry_of whole_text higher).rank

pub falls_place : {lines : List (List ℕ)} → Falls whole_text lines → Falling lines
falls_place (faults.here {a = a} {b = b} {lines = lines} h) = record { higher = a; line = b; before = []; later = lines; parts = refl; falls = h }
falls_place (faults.later {a = a} f) =
    let p = falls_place f in
    record { higher = p.higher; line = p.line; before = a ∷ p.before; later = p.later; parts = ap (λ (x : List (List ℕ)). a ∷ x) p.parts; falls = p.falls }

falls_after : (a : List ℕ) (lines : List (List ℕ)) (line : List ℕ) (later : List (List ℕ))
    → (entry_of whole_text line).rank < last_rank (entry_of whole_text a).rank lines → Falls whole_text ((a ∷ lines) ++ line ∷ later)
unfolding last_rank
falls_after a [] line later h = faults.here h
falls_after a (b ∷ lines) line later h = faults.later (falls_after b lines line later h)

pub falls_at : (earlier : List (List ℕ)) (line : List ℕ) (later : List (List ℕ)) → (entry_of whole_text line).rank < last_rank 0 earlier
    → Falls whole_text (earlier ++ line ∷ later)
unfolding last_rank
falls_at [] line later h = absurd (omega arith)
falls_at (a ∷ earlier) line later h = falls_after a earlier line later h

-- ---- rows and their lines

module _ (k : ℕ) (f : List ℕ → Row) where
  pub record RowPlace (lines : List (List ℕ)) (r : Row) : Type 0 where
    pub line : List ℕ
    pub place : Place lines line
    pub kind : kind_of line ≡ k
    pub says : f line ≡ r

  abbrev one_more : (l : List ℕ) {lines : List (List ℕ)} {line : List ℕ} → Place lines line → Place (l ∷ lines) line
  one_more l p = record { earlier = l ∷ p.earlier; later = p.later; parts = ap (λ (x : List (List ℕ)). l ∷ x) p.parts }

  row_later : (l : List ℕ) {lines : List (List ℕ)} {r : Row} → RowPlace lines r → RowPlace (l ∷ lines) r
  row_later l p = record { line = p.line; place = one_more l p.place; kind = p.kind; says = p.says }

  row_by_lem : (l : List ℕ) (lines : List (List ℕ)) (b : Bool) → eqb (kind_of l) k ≡ b
      → ((j : ℕ) (q : Row) → Nth (map f (of_kind k lines)) j q → RowPlace lines q)
      → (i : ℕ) (r : Row) → Nth (map f (cond b (l ∷ of_kind k lines) (of_kind k lines))) i r → RowPlace (l ∷ lines) r
  row_by_lem l lines true e ih i r nth.first = record { line = l; place = record { earlier = []; later = lines; parts = refl }; kind = eqb-true (kind_of l) k e; says = refl }
  row_by_lem l lines true e ih i r (nth.later {k = j} h) = row_later l (ih j r h)
  row_by_lem l lines false e ih i r h = row_later l (ih i r h)

  pub row_place : (lines : List (List ℕ)) (i : ℕ) (r : Row) → Nth (map f (of_kind k lines)) i r → RowPlace lines r
  unfolding of_kind
  row_place [] i r h = absurd (nth_nil h)
  row_place (l ∷ lines) i r h = row_by_lem l lines (eqb (kind_of l) k) refl (row_place lines) i r h

  -- two rows: the line of the later one, and that of the other before it
  pub record TwoPlaces (lines : List (List ℕ)) (r q : Row) : Type 0 where
    pub line : List ℕ
    pub other : List ℕ
    pub place : Place lines line
    pub among : Memᴰ other place.earlier
    pub kind : kind_of line ≡ k
    pub kind_other : kind_of other ≡ k
    pub says : f line ≡ q
    pub says_other : f other ≡ r

  two_later : (l : List ℕ) {lines : List (List ℕ)} {r q : Row} → TwoPlaces lines r q → TwoPlaces (l ∷ lines) r q
  two_later l p = record {
    line = p.line;
    other = p.other;
    place = one_more l p.place;
    among = Memᴰ.tail p.among;
    kind = p.kind;
    kind_other = p.kind_other;
    says = p.says;
    says_other = p.says_other;
  }

  two_first : (l : List ℕ) {lines : List (List ℕ)} {q : Row} → kind_of l ≡ k → RowPlace lines q → TwoPlaces (l ∷ lines) (f l) q
  two_first l e p = record {
    line = p.line;
    other = l;
    place = one_more l p.place;
    among = Memᴰ.head refl;
    kind = p.kind;
    kind_other = e;
    says = p.says;
    says_other = refl;
  }

  two_by : (l : List ℕ) (lines : List (List ℕ)) (b : Bool) → eqb (kind_of l) k ≡ b
      → ((i j : ℕ) (r q : Row) → i < j → Nth (map f (of_kind k lines)) i r → Nth (map f (of_kind k lines)) j q → TwoPlaces lines r q)
      → (i j : ℕ) (r q : Row) → i < j → Nth (map f (cond b (l ∷ of_kind k lines) (of_kind k lines))) i r
      → Nth (map f (cond b (l ∷ of_kind k lines) (of_kind k lines))) j q → TwoPlaces (l ∷ lines) r q
  two_by l lines true e ih i j r q h nth.first nth.first = absurd (omega arith)
  two_by l lines true e ih i j r q h nth.first (nth.later {k = m} b) = two_first l (eqb-true (kind_of l) k e) (row_place lines m q b)
  two_by l lines true e ih i j r q h (nth.later {k = m} a) nth.first = absurd (omega arith)
  two_by l lines true e ih i j r q h (nth.later {k = m} a) (nth.later {k = n} b) = two_later l (ih m n r q (omega arith) a b)
  two_by l lines false e ih i j r q h a b = two_later l (ih i j r q h a b)

  pub two_places : (lines : List (List ℕ)) (i j : ℕ) (r q : Row) → i < j → Nth (map f (of_kind k lines)) i r → Nth (map f (of_kind k lines)) j q
      → TwoPlaces lines r q
  unfolding of_kind
  two_places [] i j r q h a b = absurd (nth_nil a)
  two_places (l ∷ lines) i j r q h a b = two_by l lines (eqb (kind_of l) k) refl (two_places lines) i j r q h a b

  -- the number of a line's row
  nth_at : (xs ys : List Row) (y : Row) → Nth (xs ++ y ∷ ys) (suc (length xs)) y
  nth_at [] ys y = nth.first
  nth_at (x ∷ xs) ys y = nth.later (nth_at xs ys y)

  of_kind_here : (line : List ℕ) (lines : List (List ℕ)) → kind_of line ≡ k → of_kind k (line ∷ lines) ≡ line ∷ of_kind k lines
  unfolding of_kind
  of_kind_here line lines e = rw (eq-eqb (kind_of line) k e)

  pub kinds_at : (earlier : List (List ℕ)) (line : List ℕ) (later : List (List ℕ)) → kind_of line ≡ k
      → of_kind k (earlier ++ line ∷ later) ≡ of_kind k earlier ++ line ∷ of_kind k later
  kinds_at earlier line later e = kind_append k earlier (line ∷ later) ∙ ap (λ x. of_kind k earlier ++ x) (of_kind_here line later e)

  pub row_nth : (earlier : List (List ℕ)) (line : List ℕ) (later : List (List ℕ)) → kind_of line ≡ k
      → Nth (map f (of_kind k (earlier ++ line ∷ later))) (suc (length (of_kind k earlier))) (f line)
  row_nth earlier line later e =
      rw (kinds_at earlier line later e, map-append f (of_kind k earlier) (line ∷ of_kind k later), ← length-map (of_kind k earlier) f)
      (nth_at (map f (of_kind k earlier)) (map f (of_kind k later)) (f line))
