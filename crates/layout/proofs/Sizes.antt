-- Laws of specs/Sizes: what fitting counts say, and the turns of the loops that multiply sizes and count up the initial state's number.
-- A number that is cut off stays cut off whatever it is multiplied by, and by 0 it is 0 in either case: so cutting off at every turn
-- is cutting off at the end.
use mathlib.Core.Path.{◌≡◌, refl, sym, ◌∙◌, ap}
use mathlib.Core.Bool.{Bool, true, false, not, ◌&&◌, cond}
use mathlib.Core.List.{List, [], ◌∷◌}
use Prim.Native.Nat.{ℕ, zero, suc, ◌+◌, ◌-◌, ◌*◌, ◌≤◌, ◌<◌, min}
use native.Mathlib.Numerals.{add-one}
use native.Mathlib.Nat.{mul-zero, mul_assoc, le-mul_of_pos_right}
use native.Mathlib.Decide.{dec_lt}
use native.Mathlib.Omega.{arith}
use borrow.Author.Tests.{leb-true, not-true, not-false}
use lib.Dec.{leb}
use lib.ListN.{get_or}
use Rattle.foundation.specs.Radix.{product, number_of, number_from}
use Rattle.terms.proofs.And.{and_left, and_right}
use Rattle.criteria.specs.Design.{Parameter}
use Rattle.design.specs.Loaded.{line_from, each_line_of, sections}
use Rattle.design.specs.declared.Counts.{Counts}
use Rattle.design.specs.declared.Shape.{Shape}
use Rattle.layout.specs.Sizes.{counts_fit, Fit, sections_of, shape_of, Fits, parameters_from, sizes_of, initials_of, product_up_to, state_count_in, number_up_to, initial_number_in}

pub fit : (c : Counts) (b : Bool) → b ≡ counts_fit c → b ≡ true → Fit c
fit c b said so =
    let k1 : Bool = leb c.kind1 8 in
    let k2 : Bool = leb c.kind2 8 in
    let k3 : Bool = leb c.kind3 32 in
    let k4 : Bool = leb c.kind4 32 in
    let k8 : Bool = leb c.kind8 1 in
    let a : k1 && (k2 && (k3 && (k4 && k8))) ≡ true = sym said ∙ so in
    let r = and_right k1 (k2 && (k3 && (k4 && k8))) a in
    let q = and_right k2 (k3 && (k4 && k8)) r in
    let p = and_right k3 (k4 && k8) q in
    record {
      kind1 = leb-true c.kind1 8 (and_left k1 (k2 && (k3 && (k4 && k8))) a);
      kind2 = leb-true c.kind2 8 (and_left k2 (k3 && (k4 && k8)) r);
      kind3 = leb-true c.kind3 32 (and_left k3 (k4 && k8) q);
      kind4 = leb-true c.kind4 32 (and_left k4 k8 p);
      kind8 = leb-true c.kind8 1 (and_right k4 k8 p);
    }

-- the shape
pub four_fit : (c : Counts) (b : Bool) → b ≡ counts_fit c → not b ≡ false → c.kind1 + c.kind2 + c.kind3 + c.kind4 ≤ 80
four_fit c b said so = let q : Fit c = fit c b said (not-false b so) in omega (arith, q.kind1, q.kind2, q.kind3, q.kind4)

pub marks_fit : (c : Counts) (b : Bool) → b ≡ counts_fit c → not b ≡ false → c.kind8 ≤ 1
marks_fit c b said so = (fit c b said (not-false b so)).kind8

pub shape_fit : (c : Counts) (b : Bool) (r : Shape) → b ≡ counts_fit c → not b ≡ false
    → r ≡ sections_of c.kind1 c.kind2 c.kind3 c.kind4 c.kind8 → r ≡ shape_of c
unfolding sections_of shape_of
shape_fit c b r said so er = er ∙ rw (← said, not-false b so)

pub shape_unfit : (c : Counts) (b : Bool) (r : Shape) → b ≡ counts_fit c → not b ≡ true → r ≡ sections_of 0 0 0 0 0 → r ≡ shape_of c
unfolding shape_of
shape_unfit c b r said no-fit er = er ∙ rw (← said, not-true b no-fit)

-- it is that of the counts where they fit, and fits in either case
pub sections_kept : (c : Counts) → counts_fit c ≡ true → shape_of c ≡ sections c
unfolding shape_of
sections_kept c h = rw h

pub shape_fits : (c : Counts) → Fits (shape_of c)
unfolding shape_of sections_of
shape_fits c = go (counts_fit c) refl
  where
    go : (b : Bool) → counts_fit c ≡ b → Fits (cond b (sections c) (sections_of 0 0 0 0 0))
    go true e =
        let q : Fit c = fit c true (sym e) refl in
        record {
          implementation = record { parameters = q.kind1; rows = q.kind3 };
          specification = record { parameters = q.kind2; rows = q.kind4 };
        }
    go false e = record {
      implementation = record { parameters = omega arith; rows = omega arith };
      specification = record { parameters = omega arith; rows = omega arith };
    }

-- what n - i lines from line b + i on say, one line at a time
pub each_on : {A : Type 0} (says : List ℕ → A) (line : ℕ → List ℕ) (b n i : ℕ) → i < n
    → each_line_of says line (n - i) (b + i) ≡ says (line (b + i)) ∷ each_line_of says line (n - (i + 1)) (b + (i + 1))
unfolding each_line_of
each_on says line b n i l =
    let e : n - i ≡ suc (n - (i + 1)) = omega arith in
    let k : suc (b + i) ≡ b + (i + 1) = omega arith in
    rw (e, k)

-- from line i on
pub each_turn : {A : Type 0} (says : List ℕ → A) (line : ℕ → List ℕ) (n i : ℕ) → i < n
    → each_line_of says line (n - i) i ≡ says (line i) ∷ each_line_of says line (n - (i + 1)) (i + 1)
unfolding each_line_of
each_turn says line n i l = let e : n - i ≡ suc (n - (i + 1)) = omega arith in rw (e, add-one i)

pub each_none : {A : Type 0} (says : List ℕ → A) (line : ℕ → List ℕ) (b n i : ℕ) → n ≤ i → each_line_of says line (n - i) b ≡ []
unfolding each_line_of
each_none says line b n i l = let e : n - i ≡ 0 = omega arith in rw e

-- ---- cutting off

cut_times : (a b c : ℕ) → min (min a c * b) c ≡ min (a * b) c
cut_times a zero c = rw (mul-zero (min a c), mul-zero a)
cut_times a (suc b) c = go (dec_lt c a)
  where
    go : Dec (c < a) → min (min a c * suc b) c ≡ min (a * suc b) c
    go (no h) = let e : min a c ≡ a = omega arith in rw e
    go (yes h) =
        let e : min a c ≡ c = omega arith in
        let p : c ≤ c * suc b = le-mul_of_pos_right c (omega arith) in
        let q : a ≤ a * suc b = le-mul_of_pos_right a (omega arith) in
        rw e (omega arith)

cut_plus : (a x c : ℕ) → min (min a c + x) c ≡ min (a + x) c
cut_plus a x c = omega arith

-- the number of a list of values, cut off before or after
module _ (c : ℕ) where
  cut_once : (a z x : ℕ) → min (min a c * z + x) c ≡ min (a * z + x) c
  cut_once a z x = sym (cut_plus (min a c * z) x c) ∙ ap (λ m. min (m + x) c) (cut_times a z c) ∙ cut_plus (a * z) x c

  pub cut_from : (zs vs : List ℕ) (a : ℕ) → min (number_from (min a c) zs vs) c ≡ min (number_from a zs vs) c
  unfolding number_from
  cut_from [] vs a = omega arith
  cut_from (z ∷ zs) [] a = omega arith
  cut_from (z ∷ zs) (v ∷ vs) a =
      sym (cut_from zs vs (min a c * z + v)) ∙ ap (λ m. min (number_from m zs vs) c) (cut_once a z v) ∙ cut_from zs vs (a * z + v)

-- a number counted up from the first value on
counted : (ps : List Parameter) (a : ℕ) → number_from a (sizes_of ps) (initials_of ps) ≡ a * product (sizes_of ps) + number_of (sizes_of ps) (initials_of ps)
unfolding number_from number_of
counted [] a = omega arith
counted (p ∷ ps) a = counted ps (a * p.size + p.initial) ∙ omega arith

-- ---- the turns

module _ (f s : List ℕ) (n i : ℕ) where
  -- what is left of the product, and of the number, from line i on
  unfoldable pub product_left : ℕ → ℕ
  product_left p = min (p * product (sizes_of (parameters_from f s (n - i) i))) 65537

  unfoldable pub number_left : ℕ → ℕ
  number_left v = min (number_from v (sizes_of (parameters_from f s (n - i) i)) (initials_of (parameters_from f s (n - i) i))) 65535

pub product_starts : (f s : List ℕ) (n : ℕ) → product_left f s n 0 1 ≡ product_up_to f s n
unfolding product_left product_up_to
product_starts f s n = let e : n - 0 ≡ n = omega arith in rw e (omega arith)

pub product_turns : (f s : List ℕ) (n i p z q : ℕ) → i < n → z ≡ get_or (line_from f s i) 1 0 → q ≡ min (p * z + 0) 65537
    → product_left f s n i p ≡ product_up_to f s n → product_left f s n (i + 1) q ≡ product_up_to f s n
unfolding product_left
product_turns f s n i p z q l ez eq inv = step ∙ inv
  where
    rest : ℕ
    rest = product (sizes_of (parameters_from f s (n - (i + 1)) (i + 1)))

    step : product_left f s n (i + 1) q ≡ product_left f s n i p
    step = let e : p * z + 0 ≡ p * z = omega arith in rw (each_turn _ (line_from f s) n i l, eq, e, ← ez) (cut_times (p * z) rest 65537 ∙ ap (λ m. min m 65537) (mul_assoc p z rest))

pub product_ends : (f s : List ℕ) (n i p : ℕ) → n ≤ i → p ≤ 65537 → product_left f s n i p ≡ product_up_to f s n → p ≡ product_up_to f s n
unfolding product_left
product_ends f s n i p l small inv = end ∙ inv
  where
    end : p ≡ product_left f s n i p
    end = rw (each_none _ (line_from f s) i n i l) (omega arith)

pub number_starts : (f s : List ℕ) (n : ℕ) → number_left f s n 0 0 ≡ number_up_to f s n
unfolding number_left number_up_to
number_starts f s n =
    let e : n - 0 ≡ n = omega arith in
    rw e (ap (λ m. min m 65535) (counted (parameters_from f s n 0) 0 ∙ omega arith))

pub number_turns : (f s : List ℕ) (n i v z x w : ℕ) → w ≡ min (v * z + x) 65535 → i < n → z ≡ get_or (line_from f s i) 1 0
    → x ≡ get_or (line_from f s i) 2 0 → number_left f s n i v ≡ number_up_to f s n → number_left f s n (i + 1) w ≡ number_up_to f s n
unfolding number_from number_left
number_turns f s n i v z x w ew l ez ex inv = step ∙ inv
  where
    step : number_left f s n (i + 1) w ≡ number_left f s n i v
    step = rw (each_turn _ (line_from f s) n i l, ew, ← ez, ← ex) (cut_from 65535 (sizes_of (parameters_from f s (n - (i + 1)) (i + 1))) (initials_of (parameters_from f s (n - (i + 1)) (i + 1))) (v * z + x))

pub number_ends : (f s : List ℕ) (n i v : ℕ) → n ≤ i → v ≤ 65535 → number_left f s n i v ≡ number_up_to f s n → v ≡ number_up_to f s n
unfolding number_from number_left
number_ends f s n i v l small inv = end ∙ inv
  where
    end : v ≡ number_left f s n i v
    end = rw (each_none _ (line_from f s) i n i l) (omega arith)

-- ---- where the counts fit, and where not

module _ (f s : List ℕ) (c : Counts) (b : Bool) (said : b ≡ counts_fit c) where
  pub count_fits : (r : ℕ) → b ≡ true → r ≡ product_up_to f s c.kind1 → r ≡ state_count_in f s c
  unfolding product_up_to state_count_in
  count_fits r so e = rw (← said, so) e

  pub count_unfit : b ≡ false → 0 ≡ state_count_in f s c
  unfolding state_count_in
  count_unfit no-fit = rw (← said, no-fit)

  pub number_fits : (r : ℕ) → b ≡ true → r ≡ number_up_to f s c.kind1 → r ≡ initial_number_in f s c
  unfolding number_up_to initial_number_in
  number_fits r so e = rw (← said, so) e

  pub number_unfit : b ≡ false → 0 ≡ initial_number_in f s c
  unfolding initial_number_in
  number_unfit no-fit = rw (← said, no-fit)

pub number_small : (f s : List ℕ) (n r : ℕ) → r ≡ number_up_to f s n → r ≤ 65535
unfolding number_up_to
number_small f s n r e = omega arith
