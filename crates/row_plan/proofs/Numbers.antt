-- What the functions return, as specs/RowPlan says it; rows' plans and risks written one after the other; and that what is read is what was
-- written.
use mathlib.Core.Path.{◌≡◌, refl, sym, ◌∙◌, ap}
use mathlib.Core.Bool.{Bool, true, false, cond}
use mathlib.Core.List.{List, [], ◌∷◌, ◌++◌, append-nil}
use Prim.Native.Nat.{ℕ, zero, suc, ◌+◌, ◌-◌, ◌*◌, ◌%◌, ◌/◌, ◌≤◌, ◌<◌}
use native.Mathlib.Numerals.{add-one}
use native.Mathlib.Decide.{dec_lt}
use native.Mathlib.Omega.{arith}
use lib.Dec.{eqb, leb}
use lib.ListN.{length, get_or, set, replicate, length-append, length-set, length-replicate, get_or-replicate, drop_of_length-le, get_or-eq_default}
use lib.Seq.{sets, sets-eq, set_comm, get_or-set_other, get_or-append-add}
use Rattle.std.specs.Int.{from_bool}
use Rattle.row_plan.specs.RowPlan.{no_row_plan, two_flags, flags_of, pack_of, packed_of, numbers_from, row_plan_at, risks_from, risk_at, unsure_at, stored, Blank}
use Rattle.row_plan.specs.declared.RowPlan.{RowPlan}

-- ---- flags

pub flags_are : (a b c : Bool) (x y z : ℕ) → x ≡ from_bool a → y ≡ from_bool b → z ≡ from_bool c → x + 2 * y + 4 * z ≡ flags_of a b c
unfolding flags_of two_flags
flags_are a b c x y z ex ey ez = rw (ex, ey, ez) (go a b c)
  where
    go : (a b c : Bool) → from_bool a + 2 * from_bool b + 4 * from_bool c ≡ cond c (4 + cond a (cond b 3 1) (cond b 2 0)) (cond a (cond b 3 1) (cond b 2 0))
    go true true true = refl
    go true true false = refl
    go true false true = refl
    go true false false = refl
    go false true true = refl
    go false true false = refl
    go false false true = refl
    go false false false = refl

pub flags_small : (a b c : Bool) (r : ℕ) → r ≡ flags_of a b c → r < 8
unfolding flags_of two_flags
flags_small true true true r e = omega arith
flags_small true true false r e = omega arith
flags_small true false true r e = omega arith
flags_small true false false r e = omega arith
flags_small false true true r e = omega arith
flags_small false true false r e = omega arith
flags_small false false true r e = omega arith
flags_small false false false r e = omega arith

pub packed_is : (e : RowPlan) (flags x : ℕ) → flags ≡ flags_of e.free e.mark.free e.internal → x ≡ pack_of e.partner flags → x ≡ packed_of e
unfolding packed_of
packed_is e flags x eg ex = ex ∙ rw eg

pub risk_is : (p : List ℕ) (i at r : ℕ) → at ≡ 256 + 2 * i → r ≡ get_or p at 0 + 65536 * get_or p (at + 1) 0 → r ≡ risk_at p i
unfolding risk_at
risk_is p i at r e er = er ∙ rw e

-- ---- written one after the other

-- two runs of stores, of which the second begins where the first ends
sets_append : (l : List ℕ) (i : ℕ) (vs us : List ℕ) → sets l i (vs ++ us) ≡ sets (sets l i vs) (i + length vs) us
sets_append l i [] us = let e : i + 0 ≡ i = omega arith in rw e
sets_append l i (a ∷ vs) us = let e : suc i + length vs ≡ i + suc (length vs) = omega arith in sets_append (set l i a) (suc i) vs us ∙ rw e

-- a store behind a run of stores may as well come first
set_behind : (l : List ℕ) (i : ℕ) (vs : List ℕ) (j x : ℕ) → i + length vs ≤ j → set (sets l i vs) j x ≡ sets (set l j x) i vs
set_behind l i [] j x h = refl
set_behind l i (a ∷ vs) j x h =
    set_behind (set l i a) (suc i) vs j x (omega arith) ∙ ap (λ m. sets m (suc i) vs) (set_comm l i j a x (λ e. omega arith))

-- a full array: nothing of what it held before is left
all_stored : (vs : List ℕ) → length vs ≡ 387 → sets (replicate 387 0) 0 vs ≡ vs
all_stored vs e =
    let l : 0 + length vs ≤ length (replicate {A = ℕ} 387 0) = omega (arith, length-replicate {A = ℕ} 387 0) in
    let u : length (replicate {A = ℕ} 387 0) ≤ 0 + length vs = omega (arith, length-replicate {A = ℕ} 387 0) in
    sets-eq vs (replicate 387 0) 0 l ∙ ap (λ r. vs ++ r) (drop_of_length-le (replicate 387 0) u) ∙ append-nil vs

numbers_length : (g : ℕ → RowPlan) (n i : ℕ) → length (numbers_from g n i) ≡ 4 * n
unfolding numbers_from
numbers_length g zero i = refl
numbers_length g (suc n) i = rw (numbers_length g n (suc i)) (omega arith)

risks_length : (r : ℕ → ℕ) (n i : ℕ) → length (risks_from r n i) ≡ 2 * n
unfolding risks_from
risks_length r zero i = refl
risks_length r (suc n) i = rw (risks_length r n (suc i)) (omega arith)

-- the rows' plans, and their risks with one more and a number behind
module _ (g : ℕ → RowPlan) (r : ℕ → ℕ) (a b : ℕ) where
  abbrev last : List ℕ
  last = a % 65536 ∷ a / 65536 ∷ b ∷ []

  abbrev pub numbers_left : List ℕ → ℕ → List ℕ
  numbers_left w i = sets (sets w (4 * i) (numbers_from g (64 - i) i)) (256 + 2 * i) (risks_from r (64 - i) i ++ last)

  abbrev pub numbers_all : List ℕ
  numbers_all = numbers_from g 64 0 ++ (risks_from r 64 0 ++ last)

  pub numbers_begin : numbers_left (replicate 387 0) 0 ≡ numbers_all
  numbers_begin =
      let ns : List ℕ = numbers_from g 64 0 in
      let rs : List ℕ = risks_from r 64 0 ++ last in
      let e : 0 + length ns ≡ 256 = omega (arith, numbers_length g 64 0) in
      ap (λ k. sets (sets (replicate 387 0) 0 ns) k rs) (sym e) ∙ sym (sets_append (replicate 387 0) 0 ns rs)
      ∙ all_stored (ns ++ rs) (omega (arith, length-append ns rs, length-append (risks_from r 64 0) last, numbers_length g 64 0, risks_length r 64 0))

  pub numbers_turn : (w : List ℕ) (i : ℕ) → i < 64 → numbers_left (stored w i (g i) (r i)) (i + 1) ≡ numbers_left w i
  unfolding numbers_from risks_from
  numbers_turn w i l =
      let n : 64 - i ≡ suc (64 - (i + 1)) = omega arith in
      let k1 : 4 * i + 1 ≡ suc (4 * i) = omega arith in
      let k2 : 4 * i + 2 ≡ suc (suc (4 * i)) = omega arith in
      let k3 : 4 * i + 3 ≡ suc (suc (suc (4 * i))) = omega arith in
      let k4 : 4 * (i + 1) ≡ suc (suc (suc (suc (4 * i)))) = omega arith in
      let k5 : 256 + 2 * i + 1 ≡ suc (256 + 2 * i) = omega arith in
      let k6 : 256 + 2 * (i + 1) ≡ suc (suc (256 + 2 * i)) = omega arith in
      let rest : List ℕ = numbers_from g (64 - suc i) (suc i) in
      let four : List ℕ = set (set (set (set w (4 * i) (packed_of (g i))) (suc (4 * i)) (g i).looks) (suc (suc (4 * i))) (g i).front) (suc (suc (suc (4 * i)))) (g i).mark.at in
      let five : List ℕ = set four (256 + 2 * i) (r i % 65536) in
      let behind : 4 * suc i + length rest ≤ 256 + 2 * i = omega (arith, numbers_length g (64 - suc i) (suc i)) in
      let swap = set_behind four (suc (suc (suc (suc (4 * i))))) rest (256 + 2 * i) (r i % 65536) (omega arith) in
      let again = set_behind five (suc (suc (suc (suc (4 * i))))) rest (suc (256 + 2 * i)) (r i / 65536) (omega arith) in
      rw (n, k1, k2, k3, k4, k5, k6, add-one i, ← again, ← swap)

  pub numbers_end : (w : List ℕ) (i : ℕ) → 64 ≤ i → i ≤ 64 → set (set (set w 384 (a % 65536)) 385 (a / 65536)) 386 b ≡ numbers_left w i
  unfolding numbers_from risks_from
  numbers_end w i l u = let e : i ≡ 64 = omega arith in rw e

-- what stands there already need not be stored
set_same : (l : List ℕ) (i : ℕ) → get_or l i 0 ≡ 0 → set l i 0 ≡ l
set_same [] i e = refl
set_same (x ∷ l) zero e = rw e
set_same (x ∷ l) (suc i) e = ap (λ m. x ∷ m) (set_same l i e)

pub stored_none : (w : List ℕ) (i : ℕ) → i < 64 → Blank w i → w ≡ stored w i no_row_plan 0
unfolding packed_of pack_of flags_of two_flags
stored_none w i l b =
    rw (
      set_same w (4 * i) (b.rows (4 * i) (omega arith) (omega arith)),
      set_same w (4 * i + 1) (b.rows (4 * i + 1) (omega arith) (omega arith)),
      set_same w (4 * i + 2) (b.rows (4 * i + 2) (omega arith) (omega arith)),
      set_same w (4 * i + 3) (b.rows (4 * i + 3) (omega arith) (omega arith)),
      set_same w (256 + 2 * i) (b.risks (256 + 2 * i) (omega arith)),
      set_same w (256 + 2 * i + 1) (b.risks (256 + 2 * i + 1) (omega arith)),
    )

pub blank_begin : Blank (replicate 387 0) 0
blank_begin = record { rows = λ j l u. zeros j; risks = λ j l. zeros j }
  where
    zeros : (j : ℕ) → ◌≡◌ {A = ℕ} (get_or (replicate 387 0) j 0) 0
    zeros j = go (dec_lt j 387)
      where
        go : Dec (j < 387) → ◌≡◌ {A = ℕ} (get_or (replicate 387 0) j 0) 0
        go (yes l) = get_or-replicate 387 j 0 0 l
        go (no l) = get_or-eq_default (replicate 387 0) 0 {n = j} (omega (arith, length-replicate {A = ℕ} 387 0))

pub blank_turn : (w : List ℕ) (i : ℕ) (e : RowPlan) (y : ℕ) → i < 64 → Blank w i → Blank (stored w i e y) (i + 1)
blank_turn w i e y l b = record {
  rows = λ j m u. kept j (λ z. omega arith) (λ z. omega arith) (λ z. omega arith) (λ z. omega arith) (λ z. omega arith) (λ z. omega arith) ∙ b.rows j (omega arith) u;
  risks = λ j m. kept j (λ z. omega arith) (λ z. omega arith) (λ z. omega arith) (λ z. omega arith) (λ z. omega arith) (λ z. omega arith) ∙ b.risks j (omega arith);
}
  where
    kept : (j : ℕ) → (j ≡ 4 * i → ⊥) → (j ≡ 4 * i + 1 → ⊥) → (j ≡ 4 * i + 2 → ⊥) → (j ≡ 4 * i + 3 → ⊥) → (j ≡ 256 + 2 * i → ⊥) → (j ≡ 256 + 2 * i + 1 → ⊥)
        → get_or (stored w i e y) j 0 ≡ get_or w j 0
    kept j a b c d f g =
        let w1 : List ℕ = set w (4 * i) (packed_of e) in
        let w2 : List ℕ = set w1 (4 * i + 1) e.looks in
        let w3 : List ℕ = set w2 (4 * i + 2) e.front in
        let w4 : List ℕ = set w3 (4 * i + 3) e.mark.at in
        let w5 : List ℕ = set w4 (256 + 2 * i) (y % 65536) in
        get_or-set_other w5 (256 + 2 * i + 1) j (y / 65536) 0 g ∙ get_or-set_other w4 (256 + 2 * i) j (y % 65536) 0 f ∙ get_or-set_other w3 (4 * i + 3) j e.mark.at 0 d ∙ get_or-set_other w2 (4 * i + 2) j e.front 0 c
        ∙ get_or-set_other w1 (4 * i + 1) j e.looks 0 b ∙ get_or-set_other w (4 * i) j (packed_of e) 0 a

pub stored_length : (w : List ℕ) (i : ℕ) (e : RowPlan) (y : ℕ) → length w ≡ 387 → length (stored w i e y) ≡ 387
stored_length w i e y h = simp length-set h

-- ---- read again

first_is : (a b c : Bool) → eqb (flags_of a b c % 2) 1 ≡ a
unfolding flags_of two_flags
first_is true true true = refl
first_is true true false = refl
first_is true false true = refl
first_is true false false = refl
first_is false true true = refl
first_is false true false = refl
first_is false false true = refl
first_is false false false = refl

second_is : (a b c : Bool) → eqb (flags_of a b c / 2 % 2) 1 ≡ b
unfolding flags_of two_flags
second_is true true true = refl
second_is true true false = refl
second_is true false true = refl
second_is true false false = refl
second_is false true true = refl
second_is false true false = refl
second_is false false true = refl
second_is false false false = refl

third_is : (a b c : Bool) → leb 4 (flags_of a b c) ≡ c
unfolding flags_of two_flags
third_is true true true = refl
third_is true true false = refl
third_is true false true = refl
third_is true false false = refl
third_is false true true = refl
third_is false true false = refl
third_is false false true = refl
third_is false false false = refl

-- partner and flags
pack_flags : (j g : ℕ) → pack_of j g / 64 ≡ g
unfolding pack_of
pack_flags j g = omega arith

pack_partner : (j g : ℕ) → j < 64 → pack_of j g % 64 ≡ j
unfolding pack_of
pack_partner j g l = omega arith

module _ (g : ℕ → RowPlan) (small : (i : ℕ) → (g i).partner < 64) (rest : List ℕ) where
  pub numbers_read : (n i k : ℕ) → k < n → row_plan_at (numbers_from g n i ++ rest) k ≡ g (i + k)
  unfolding numbers_from row_plan_at packed_of
  numbers_read zero i k l = absurd (omega arith)
  numbers_read (suc n) i zero l =
      let e : i + 0 ≡ i = omega arith in
      let r : RowPlan = g i in
      let f : ℕ = flags_of r.free r.mark.free r.internal in
      let few : pack_of r.partner f / 64 ≡ f = pack_flags r.partner f in
      rw e
      (λ j. record {
        partner = pack_partner r.partner f (small i) j;
        looks = r.looks;
        internal = (ap (leb 4) few ∙ third_is r.free r.mark.free r.internal) j;
        free = (ap (λ x. eqb (x % 2) 1) few ∙ first_is r.free r.mark.free r.internal) j;
        front = r.front;
        mark = record { at = r.mark.at; free = (ap (λ x. eqb (x / 2 % 2) 1) few ∙ second_is r.free r.mark.free r.internal) j };
      })
  numbers_read (suc n) i (suc k) l =
      let e : suc i + k ≡ i + suc k = omega arith in
      let k0 : 4 * suc k ≡ suc (suc (suc (suc (4 * k)))) = omega arith in
      let k1 : 4 * suc k + 1 ≡ suc (suc (suc (suc (4 * k + 1)))) = omega arith in
      let k2 : 4 * suc k + 2 ≡ suc (suc (suc (suc (4 * k + 2)))) = omega arith in
      let k3 : 4 * suc k + 3 ≡ suc (suc (suc (suc (4 * k + 3)))) = omega arith in
      let all : List ℕ = numbers_from g (suc n) i ++ rest in
      (λ j. record {
        partner = get_or all (k0 j) 0 % 64;
        looks = get_or all (k1 j) 0;
        internal = leb 4 (get_or all (k0 j) 0 / 64);
        free = eqb (get_or all (k0 j) 0 / 64 % 2) 1;
        front = get_or all (k2 j) 0;
        mark = record { at = get_or all (k3 j) 0; free = eqb (get_or all (k0 j) 0 / 64 / 2 % 2) 1 };
      })
      ∙ numbers_read n (suc i) k (omega arith) ∙ rw e

-- and the risks behind them
risks_lower : (r : ℕ → ℕ) (rest : List ℕ) (n i k : ℕ) → k < n → get_or (risks_from r n i ++ rest) (2 * k) 0 ≡ r (i + k) % 65536
unfolding risks_from
risks_lower r rest zero i k l = absurd (omega arith)
risks_lower r rest (suc n) i zero l = let e : i + 0 ≡ i = omega arith in rw e
risks_lower r rest (suc n) i (suc k) l =
    let e : suc i + k ≡ i + suc k = omega arith in
    let d : 2 * suc k ≡ suc (suc (2 * k)) = omega arith in
    rw d (risks_lower r rest n (suc i) k (omega arith) ∙ rw e)

risks_upper : (r : ℕ → ℕ) (rest : List ℕ) (n i k : ℕ) → k < n → get_or (risks_from r n i ++ rest) (2 * k + 1) 0 ≡ r (i + k) / 65536
unfolding risks_from
risks_upper r rest zero i k l = absurd (omega arith)
risks_upper r rest (suc n) i zero l = let e : i + 0 ≡ i = omega arith in rw e
risks_upper r rest (suc n) i (suc k) l =
    let e : suc i + k ≡ i + suc k = omega arith in
    let d : 2 * suc k + 1 ≡ suc (suc (2 * k + 1)) = omega arith in
    rw d (risks_upper r rest n (suc i) k (omega arith) ∙ rw e)

module _ (g : ℕ → RowPlan) (r : ℕ → ℕ) (a b : ℕ) where
  abbrev behind : List ℕ
  behind = risks_from r 64 0 ++ (a % 65536 ∷ a / 65536 ∷ b ∷ [])

  -- number j behind the rows' plans, and behind the risks
  number_in : (j : ℕ) → get_or (numbers_from g 64 0 ++ behind) (256 + j) 0 ≡ get_or behind j 0
  number_in j =
      let e : 256 + j ≡ length (numbers_from g 64 0) + j = omega (arith, numbers_length g 64 0) in
      rw e (get_or-append-add (numbers_from g 64 0) behind j 0)

  number_last : (j : ℕ) → get_or (numbers_from g 64 0 ++ behind) (384 + j) 0 ≡ get_or (a % 65536 ∷ a / 65536 ∷ b ∷ []) j 0
  number_last j =
      let e : 384 + j ≡ 256 + (128 + j) = omega arith in
      let d : 128 + j ≡ length (risks_from r 64 0) + j = omega (arith, risks_length r 64 0) in
      rw e (number_in (128 + j) ∙ ap (λ k. get_or behind k 0) d ∙ get_or-append-add (risks_from r 64 0) (a % 65536 ∷ a / 65536 ∷ b ∷ []) j 0)

  pub risk_read : (i : ℕ) → i < 64 → risk_at (numbers_from g 64 0 ++ behind) i ≡ r i
  unfolding risk_at
  risk_read i l =
      let e : 0 + i ≡ i = omega arith in
      let d : 256 + 2 * i + 1 ≡ 256 + (2 * i + 1) = omega arith in
      let lower = number_in (2 * i) ∙ risks_lower r (a % 65536 ∷ a / 65536 ∷ b ∷ []) 64 0 i l in
      let upper = number_in (2 * i + 1) ∙ risks_upper r (a % 65536 ∷ a / 65536 ∷ b ∷ []) 64 0 i l in
      rw (d, lower, upper, e) (omega arith)

  pub risk_last : risk_at (numbers_from g 64 0 ++ behind) 64 ≡ a
  unfolding risk_at
  risk_last = rw (number_last 0, number_last 1) (omega arith)

  pub unsure_last : unsure_at (numbers_from g 64 0 ++ behind) ≡ b
  unfolding unsure_at
  unsure_last = number_last 2
