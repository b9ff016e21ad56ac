-- A term has a value at all parameter values where what could leave it without one is surely not so, for every sum value below 256.
use mathlib.Core.Path.{◌≡◌, refl, sym, ◌∙◌}
use mathlib.Core.Logic.{◌⊎◌, inl, inr}
use mathlib.Core.Bool.{Bool, true, false, not, ◌&&◌, ◌||◌, cond, or-true, false≢true}
use mathlib.Core.List.{List}
use Prim.Native.Nat.{ℕ, zero, suc, ◌+◌, ◌-◌, ◌*◌, ◌/◌, ◌%◌, ◌^◌, ◌≤◌, ◌<◌, max}
use native.Mathlib.Omega.{arith as arithmetic}
use native.Mathlib.Nat.{mod-le}
use native.Mathlib.Decide.{dec_lt}
use borrow.Author.Tests.{eqb-true, eqb-false, ltb-true, ltb-false, lt-ltb, le-ltb, ne_eqb, not-true, not-false}
use lib.Bits.{bit_or}
use lib.Dec.{eqb, ltb}
use lib.ListN.{get_or}
use lib.Pow.{pow-lt}
use Rattle.terms.specs.Tree.{Value, Formula, num, par, sum_value, arith, choice, const, compare, negation, join, no_value, no_formula, eval_v, eval_f, has_v, has_f, arith_of, arith_has}
use Rattle.terms.specs.declared.Arith.{Arith}
use Rattle.terms.specs.declared.Arith.TheVariants.{Sum, Difference, Remainder}
use Rattle.terms.specs.declared.Compare.TheVariants.{Equal, Less}
use Rattle.terms.specs.declared.Join.TheVariants.{And, Or}
use Rattle.terms.proofs.And.{and_left, and_right, and_both}
use Rattle.divisors.specs.Divisors.{other, large, unknown, small_to, small_at, leaf_at, operation_of, term_at, quiet_at, safe_at, term_or, both, never, least, only_if, known_if, spared, parameter_most, sum_most, most_v, by_parameter, leaf_v, named_v, zero_v, yes_f, no_f, by_operation, divides_v, divides_f}
use Rattle.divisors.proofs.Sets.{large_apart, parameter_not, parameter_apart, digits_safe, safe_digits, safe_term, term_safe, other_not_safe, safe_large, safe_both, either_safe, spared_safe}

-- ---- tests

or_right : (a b : Bool) → a ≡ false → a || b ≡ true → b ≡ true
or_right true b n h = cc
or_right false b n h = h

or_none : (a b : Bool) → a || b ≡ false → (a ≡ false) × (b ≡ false)
or_none true b h = absurd (false≢true (sym h))
or_none false b h = (refl, h)

-- one of two, each by the test that chooses it
cond_by : {A : Type 0} (P : A → Type 0) (c : Bool) {x y : A} → (c ≡ true → P x) → (c ≡ false → P y) → P (cond c x y)
cond_by P true p q = p refl
cond_by P false p q = q refl

-- ---- what is safe

small_below : (n : ℕ) (ps : List ℕ) (i : ℕ) → small_to n ps ≡ true → i < n → get_or ps i 0 < 32768
unfolding small_to
small_below zero ps i h l = omega arithmetic
small_below (suc n) ps i h l =
    go (dec_lt i n) (λ k. small_below n ps i (and_left (small_to n ps) (ltb (get_or ps n 0) 32768) h) k)
    (ltb-true (get_or ps n 0) 32768 (and_right (small_to n ps) (ltb (get_or ps n 0) 32768) h))
  where
    go : Dec (i < n) → (i < n → get_or ps i 0 < 32768) → get_or ps n 0 < 32768 → get_or ps i 0 < 32768
    go (yes k) before last = before k
    go (no k) before last = let e : i ≡ n = omega arithmetic in rw e last

pub nothing_safe : (ps : List ℕ) → safe_at 0 ps ≡ true
nothing_safe ps = digits_safe ps 0 (omega arithmetic) refl

never_safe : (c : ℕ) (ps : List ℕ) → small_at ps ≡ true → never c ≡ true → safe_at c ps ≡ true
unfolding never
never_safe c ps h n = go (dec_lt c 1)
  where
    go : Dec (c < 1) → safe_at c ps ≡ true
    go (yes k) = let e : c ≡ 0 = omega arithmetic in rw e (nothing_safe ps)
    go (no k) = let l = ltb-true c 2 n in let e : c ≡ 1 = omega arithmetic in rw e (digits_safe ps 1 (omega arithmetic) (large_apart ps h))

-- where the less of them is not so, no parameter is large and one of them is not so
safe_least : (a b : ℕ) (ps : List ℕ) → safe_at (least a b) ps ≡ true → (small_at ps ≡ true) × ((safe_at a ps ≡ true) ⊎ (safe_at b ps ≡ true))
unfolding least
safe_least a b ps h = by (ltb a b) h
  where
    by : (p : Bool) → safe_at (cond p (bit_or a large) (bit_or b large)) ps ≡ true → (small_at ps ≡ true) × ((safe_at a ps ≡ true) ⊎ (safe_at b ps ≡ true))
    by true h = let k = safe_large ps a h in (k.0, inl k.1)
    by false h = let k = safe_large ps b h in (k.0, inr k.1)

-- what is known only where something is so is safe only there
pub only_both : (so : Bool) (c : ℕ) (ps : List ℕ) → safe_at (only_if so c) ps ≡ true → (so ≡ true) × (safe_at c ps ≡ true)
unfolding only_if
only_both true c ps h = (refl, h)
only_both false c ps h = other_not_safe ps h

-- ---- what is known not to be so

known_safe : (so : Bool) (g : ℕ) (ps : List ℕ) → (so ≡ true → safe_at g ps ≡ true) → safe_at (known_if so g) ps ≡ true
unfolding known_if
known_safe so g ps h = cond_by (λ c. safe_at c ps ≡ true) so h (λ _. nothing_safe ps)

-- ---- the largest that a value can be

rem_most : (x y m : ℕ) → x ≤ m → cond (eqb y 0) x (x % y) ≤ m
rem_most x y m h = cond_by (λ z. z ≤ m) (eqb y 0) (λ _. h) (λ _. omega (arithmetic, mod-le x y))

sum_known : (x y : ℕ) → sum_most x y < unknown → x + y < unknown
unfolding sum_most
sum_known x y h = go (ltb (x + y) unknown) refl h
  where
    go : (p : Bool) → ltb (x + y) unknown ≡ p → cond p (x + y) unknown < unknown → x + y < unknown
    go true e k = ltb-true (x + y) unknown e
    go false e k = omega arithmetic

sum_most_lem : (x y : ℕ) → x + y < unknown → sum_most x y ≡ x + y
unfolding sum_most
sum_most_lem x y h = rw (lt-ltb (x + y) unknown h)

parameter_most_lem : (i : ℕ) (ps : List ℕ) → small_at ps ≡ true → parameter_most i < unknown → get_or ps i 0 ≤ parameter_most i
unfolding parameter_most
parameter_most_lem i ps small k = go (ltb i 8) refl k
  where
    go : (p : Bool) → ltb i 8 ≡ p → cond p 32767 unknown < unknown → get_or ps i 0 ≤ cond p 32767 unknown
    go true e k = let l = small_below 8 ps i small (ltb-true i 8 e) in omega arithmetic
    go false e k = omega arithmetic

pub most_v_lem : (t : Value) (ps : List ℕ) (s : ℕ) → small_at ps ≡ true → s < 256 → most_v t < 65536 → eval_v t ps s ≤ most_v t
unfolding eval_v most_v
most_v_lem (num n) ps s small l k = omega arithmetic
most_v_lem (par i) ps s small l k = parameter_most_lem i ps small k
most_v_lem sum_value ps s small l k = omega arithmetic
most_v_lem (arith Sum a b) ps s small l k =
    let n = sum_known (most_v a) (most_v b) k in
    let p = most_v_lem a ps s small l (omega arithmetic) in
    let q = most_v_lem b ps s small l (omega arithmetic) in
    rw (sum_most_lem (most_v a) (most_v b) n) (omega arithmetic)
most_v_lem (arith Difference a b) ps s small l k = omega arithmetic
most_v_lem (arith Remainder a b) ps s small l k = rem_most (eval_v a ps s) (eval_v b ps s) (most_v a) (most_v_lem a ps s small l k)
most_v_lem (choice f a b) ps s small l k =
    let p = most_v_lem a ps s small l (omega arithmetic) in
    let q = most_v_lem b ps s small l (omega arithmetic) in
    cond_by (λ x. x ≤ max (most_v a) (most_v b)) (eval_f f ps s) (λ _. omega arithmetic) (λ _. omega arithmetic)
most_v_lem no_value ps s small l k = omega arithmetic

-- a value that can't be more than 0
zero_v_lem : (t : Value) (ps : List ℕ) (s : ℕ) → small_at ps ≡ true → s < 256 → eqb (most_v t) 0 ≡ true → eval_v t ps s ≡ 0
zero_v_lem t ps s small l e =
    let z = eqb-true (most_v t) 0 e in
    let k = most_v_lem t ps s small l (omega arithmetic) in
    omega arithmetic

sum_below : (a b : Value) → ltb (most_v (arith Sum a b)) unknown ≡ true → most_v a + most_v b < unknown
unfolding most_v
sum_below a b e = sum_known (most_v a) (most_v b) (ltb-true _ unknown e)

-- ---- a value that is not 0

-- a leaf by its number
leaf_is : (t : Value) (ps : List ℕ) (s : ℕ) → leaf_v t < 1024 → leaf_at (leaf_v t) ps ≡ eval_v t ps s
unfolding leaf_v leaf_at eval_v
leaf_is (num n) ps s l = go (ltb n 1016) l
  where
    go : (b : Bool) → cond b (n + 8) 1024 < 1024 → cond (ltb (cond b (n + 8) 1024) 8) (get_or ps (cond b (n + 8) 1024) 0) (cond b (n + 8) 1024 - 8) ≡ n
    go true k = rw (le-ltb (n + 8) 8 (omega arithmetic)) (omega arithmetic)
    go false k = omega arithmetic
leaf_is (par i) ps s l = go (ltb i 8) refl l
  where
    go : (b : Bool) → ltb i 8 ≡ b → cond b i 1024 < 1024 → cond (ltb (cond b i 1024) 8) (get_or ps (cond b i 1024) 0) (cond b i 1024 - 8) ≡ get_or ps i 0
    go true e k = rw e
    go false e k = omega arithmetic
leaf_is sum_value ps s l = omega arithmetic
leaf_is (arith o a b) ps s l = omega arithmetic
leaf_is (choice f a b) ps s l = omega arithmetic
leaf_is no_value ps s l = omega arithmetic

-- a term by its number
module _ (a b : Value) (ps : List ℕ) (s : ℕ) (la : leaf_v a < 1024) (lb : leaf_v b < 1024) where
  difference_is : term_at (1 * 1048576 + leaf_v a * 1024 + leaf_v b) ps ≡ arith_of Difference (eval_v a ps s) (eval_v b ps s)
  unfolding term_at operation_of
  difference_is =
      let t : ℕ = 1 * 1048576 + leaf_v a * 1024 + leaf_v b in
      let x : t / 1024 % 1024 ≡ leaf_v a = omega arithmetic in
      let y : t % 1024 ≡ leaf_v b = omega arithmetic in
      rw (x, y, lt-ltb t 2097152 (omega arithmetic), leaf_is a ps s la, leaf_is b ps s lb)

  remainder_is : term_at (2 * 1048576 + leaf_v a * 1024 + leaf_v b) ps ≡ arith_of Remainder (eval_v a ps s) (eval_v b ps s)
  unfolding term_at operation_of
  remainder_is =
      let t : ℕ = 2 * 1048576 + leaf_v a * 1024 + leaf_v b in
      let x : t / 1024 % 1024 ≡ leaf_v a = omega arithmetic in
      let y : t % 1024 ≡ leaf_v b = omega arithmetic in
      rw (x, y, le-ltb t 2097152 (omega arithmetic), leaf_is a ps s la, leaf_is b ps s lb)

-- a term that is quiet, and one that is not 0
quiet_not_0 : (t : ℕ) (ps : List ℕ) → 0 < t → quiet_at t ps ≡ true → eqb (term_at t ps) 0 ≡ false
unfolding quiet_at
quiet_not_0 t ps l h = not-true (eqb (term_at t ps) 0) (or_right (eqb t 0) (not (eqb (term_at t ps) 0)) (ne_eqb t 0 (λ z. omega arithmetic)) h)

not_0_quiet : (t : ℕ) (ps : List ℕ) → eqb (term_at t ps) 0 ≡ false → quiet_at t ps ≡ true
unfolding quiet_at
not_0_quiet t ps h = rw h (or-true (eqb t 0))

-- where both leaves have numbers, a set with the term's being 0; else another
module _ (P : ℕ → Type 0) (c o : ℕ) (a b : Value) where
  abbrev term : ℕ
  term = o * 1048576 + leaf_v a * 1024 + leaf_v b

  term_or_lem : (leaf_v a < 1024 → leaf_v b < 1024 → P (term * 1024)) → P c → P (term_or c o (leaf_v a) (leaf_v b))
  unfolding term_or
  term_or_lem p q =
      cond_by P (ltb (leaf_v a) 1024 && ltb (leaf_v b) 1024)
      (λ e. p (ltb-true (leaf_v a) 1024 (and_left (ltb (leaf_v a) 1024) (ltb (leaf_v b) 1024) e)) (ltb-true (leaf_v b) 1024 (and_right (ltb (leaf_v a) 1024) (ltb (leaf_v b) 1024) e)))
      (λ _. q)

-- the set of a value's being 0 is safe where it is not 0
named_v_lem : (t : Value) (ps : List ℕ) (s : ℕ) → (eval_v t ps s ≡ 0 → ⊥) → safe_at (named_v t) ps ≡ true
unfolding eval_v named_v
named_v_lem (num n) ps s k = nothing_safe ps
named_v_lem (par i) ps s k =
    known_safe (ltb i 8) (2 ^ (i + 1)) ps
    (λ e. let l = ltb-true i 8 e in let m : i + 1 < 10 = omega arithmetic in digits_safe ps (2 ^ (i + 1)) (pow-lt m) (parameter_apart ps i l k))
named_v_lem sum_value ps s k = nothing_safe ps
named_v_lem (arith Sum a b) ps s k = nothing_safe ps
named_v_lem (arith Difference a b) ps s k =
    term_or_lem (λ c. safe_at c ps ≡ true) 0 1 a b
    (λ la lb. term_safe ps _ (not_0_quiet _ ps (ne_eqb _ 0 (λ z. k (sym (difference_is a b ps s la lb) ∙ z))))) (nothing_safe ps)
named_v_lem (arith Remainder a b) ps s k =
    term_or_lem (λ c. safe_at c ps ≡ true) 0 2 a b
    (λ la lb. term_safe ps _ (not_0_quiet _ ps (ne_eqb _ 0 (λ z. k (sym (remainder_is a b ps s la lb) ∙ z))))) (nothing_safe ps)
named_v_lem (choice f a b) ps s k = nothing_safe ps
named_v_lem no_value ps s k = nothing_safe ps

number_not_0 : (n : ℕ) (ps : List ℕ) → safe_at (cond (eqb n 0) other 0) ps ≡ true → eqb n 0 ≡ false
number_not_0 n ps h = by (eqb n 0) h
  where
    by : (p : Bool) → safe_at (cond p other 0) ps ≡ true → p ≡ false
    by true h = other_not_safe ps h
    by false h = refl

parameter_not_0 : (i : ℕ) (ps : List ℕ) → safe_at (by_parameter i) ps ≡ true → eqb (get_or ps i 0) 0 ≡ false
unfolding by_parameter
parameter_not_0 i ps h =
    let k = only_both (ltb i 8) (2 ^ (i + 1)) ps h in
    ne_eqb (get_or ps i 0) 0 (parameter_not ps i (ltb-true i 8 k.0) (safe_digits ps _ k.1))

-- a sum that is not taken modulo 65,536, of two numbers that are not both 0
sum_not_0 : (x y m n : ℕ) → x ≤ m → y ≤ n → m + n < unknown → (eqb x 0 ≡ false) ⊎ (eqb y 0 ≡ false) → eqb ((x + y) % 65536) 0 ≡ false
sum_not_0 x y m n p q l (inl h) = let k = eqb-false x 0 h in ne_eqb ((x + y) % 65536) 0 (λ z. k (omega arithmetic))
sum_not_0 x y m n p q l (inr h) = let k = eqb-false y 0 h in ne_eqb ((x + y) % 65536) 0 (λ z. k (omega arithmetic))

one_of : {A B C D : Type 0} → A ⊎ B → (A → C) → (B → D) → C ⊎ D
one_of (inl a) f g = inl (f a)
one_of (inr b) f g = inr (g b)

-- A value that could be 0 only by what is not so is not 0; and the parameter that a formula tells of is not 0 where it holds, or fails.
mutual
  unfolding eval_v zero_v

  pub nonzero_v : (t : Value) (ps : List ℕ) (s : ℕ) → s < 256 → safe_at (zero_v t) ps ≡ true → eqb (eval_v t ps s) 0 ≡ false
  nonzero_v (num n) ps s l h = number_not_0 n ps h
  nonzero_v (par i) ps s l h = parameter_not_0 i ps h
  nonzero_v sum_value ps s l h = other_not_safe ps h
  nonzero_v (arith Sum a b) ps s l h =
      let k = only_both (ltb (most_v (arith Sum a b)) unknown) (least (zero_v a) (zero_v b)) ps h in
      let z = safe_least (zero_v a) (zero_v b) ps k.1 in
      let m = sum_below a b k.0 in
      sum_not_0 (eval_v a ps s) (eval_v b ps s) (most_v a) (most_v b) (most_v_lem a ps s z.0 l (omega arithmetic)) (most_v_lem b ps s z.0 l (omega arithmetic)) m
      (one_of z.1 (nonzero_v a ps s l) (nonzero_v b ps s l))
  nonzero_v (arith Difference a b) ps s l h =
      term_or_lem (λ c. safe_at c ps ≡ true → eqb (arith_of Difference (eval_v a ps s) (eval_v b ps s)) 0 ≡ false) other 1 a b
      (λ la lb k. rw (← difference_is a b ps s la lb) (quiet_not_0 _ ps (omega arithmetic) (safe_term ps _ k))) (λ k. other_not_safe ps k) h
  nonzero_v (arith Remainder a b) ps s l h =
      term_or_lem (λ c. safe_at c ps ≡ true → eqb (arith_of Remainder (eval_v a ps s) (eval_v b ps s)) 0 ≡ false) other 2 a b
      (λ la lb k. rw (← remainder_is a b ps s la lb) (quiet_not_0 _ ps (omega arithmetic) (safe_term ps _ k))) (λ k. other_not_safe ps k) h
  nonzero_v (choice f a b) ps s l h =
      let k = safe_both ps (spared (zero_v a) (yes_f f)) (spared (zero_v b) (no_f f)) h in
      cond_by (λ x. eqb x 0 ≡ false) (eval_f f ps s)
      (λ e. nonzero_v a ps s l (spared_safe ps (zero_v a) (yes_f f) (λ small. yes_f_lem f ps s l small e) k.0))
      (λ e. nonzero_v b ps s l (spared_safe ps (zero_v b) (no_f f) (λ small. no_f_lem f ps s l small e) k.1))
  nonzero_v no_value ps s l h = other_not_safe ps h

  yes_f_lem : (t : Formula) (ps : List ℕ) (s : ℕ) → s < 256 → small_at ps ≡ true → eval_f t ps s ≡ true → safe_at (yes_f t) ps ≡ true
  yes_f_lem (const b) ps s l small h = nothing_safe ps
  yes_f_lem (compare Equal a b) ps s l small h = nothing_safe ps
  yes_f_lem (compare Less a b) ps s l small h =
      let k = ltb-true (eval_v a ps s) (eval_v b ps s) h in
      named_v_lem b ps s (λ z. omega arithmetic)
  yes_f_lem (negation f) ps s l small h = no_f_lem f ps s l small (not-true (eval_f f ps s) h)
  yes_f_lem (join And f g) ps s l small h =
      either_safe ps (yes_f f) (yes_f g) (yes_f_lem f ps s l small (and_left (eval_f f ps s) (eval_f g ps s) h))
      (yes_f_lem g ps s l small (and_right (eval_f f ps s) (eval_f g ps s) h))
  yes_f_lem (join Or f g) ps s l small h = nothing_safe ps
  yes_f_lem no_formula ps s l small h = nothing_safe ps

  no_f_lem : (t : Formula) (ps : List ℕ) (s : ℕ) → s < 256 → small_at ps ≡ true → eval_f t ps s ≡ false → safe_at (no_f t) ps ≡ true
  no_f_lem (const b) ps s l small h = nothing_safe ps
  no_f_lem (compare Equal a b) ps s l small h =
      let n = eqb-false (eval_v a ps s) (eval_v b ps s) h in
      either_safe ps (known_if (eqb (most_v b) 0) (named_v a)) (known_if (eqb (most_v a) 0) (named_v b))
      (known_safe (eqb (most_v b) 0) (named_v a) ps (λ e. named_v_lem a ps s (λ z. n (z ∙ sym (zero_v_lem b ps s small l e)))))
      (known_safe (eqb (most_v a) 0) (named_v b) ps (λ e. named_v_lem b ps s (λ z. n (zero_v_lem a ps s small l e ∙ sym z))))
  no_f_lem (compare Less a b) ps s l small h =
      let k = ltb-false (eval_v a ps s) (eval_v b ps s) h in
      known_safe (never (zero_v b)) (named_v a) ps
      (λ e. let n = eqb-false (eval_v b ps s) 0 (nonzero_v b ps s l (never_safe (zero_v b) ps small e)) in named_v_lem a ps s (λ z. n (omega arithmetic)))
  no_f_lem (negation f) ps s l small h = yes_f_lem f ps s l small (not-false (eval_f f ps s) h)
  no_f_lem (join And f g) ps s l small h = nothing_safe ps
  no_f_lem (join Or f g) ps s l small h =
      let k = or_none (eval_f f ps s) (eval_f g ps s) h in
      either_safe ps (no_f f) (no_f g) (no_f_lem f ps s l small k.0) (no_f_lem g ps s l small k.1)
  no_f_lem no_formula ps s l small h = nothing_safe ps

-- ---- a term that has a value

operation_has : (o : Arith) (t : Value) (ps : List ℕ) (s : ℕ) → s < 256 → safe_at (by_operation o (zero_v t)) ps ≡ true → arith_has o (eval_v t ps s) ≡ true
operation_has Sum t ps s l h = refl
operation_has Difference t ps s l h = refl
operation_has Remainder t ps s l h = rw (nonzero_v t ps s l h)

mutual
  unfolding has_v divides_v

  pub safe_v : (t : Value) (ps : List ℕ) (s : ℕ) → s < 256 → safe_at (divides_v t) ps ≡ true → has_v t ps s ≡ true
  safe_v (num n) ps s l h = refl
  safe_v (par i) ps s l h = refl
  safe_v sum_value ps s l h = refl
  safe_v (arith o a b) ps s l h =
      let k = safe_both ps (both (divides_v a) (divides_v b)) (by_operation o (zero_v b)) h in
      let m = safe_both ps (divides_v a) (divides_v b) k.0 in
      and_both (safe_v a ps s l m.0) (and_both (safe_v b ps s l m.1) (operation_has o b ps s l k.1))
  safe_v (choice f a b) ps s l h =
      let k = safe_both ps (divides_f f) (both (spared (divides_v a) (yes_f f)) (spared (divides_v b) (no_f f))) h in
      let m = safe_both ps (spared (divides_v a) (yes_f f)) (spared (divides_v b) (no_f f)) k.1 in
      and_both (safe_f f ps s l k.0)
      (cond_by (λ x. x ≡ true) (eval_f f ps s)
      (λ e. safe_v a ps s l (spared_safe ps (divides_v a) (yes_f f) (λ small. yes_f_lem f ps s l small e) m.0))
      (λ e. safe_v b ps s l (spared_safe ps (divides_v b) (no_f f) (λ small. no_f_lem f ps s l small e) m.1)))
  safe_v no_value ps s l h = other_not_safe ps h

  pub safe_f : (t : Formula) (ps : List ℕ) (s : ℕ) → s < 256 → safe_at (divides_f t) ps ≡ true → has_f t ps s ≡ true
  safe_f (const b) ps s l h = refl
  safe_f (compare o a b) ps s l h =
      let k = safe_both ps (divides_v a) (divides_v b) h in
      and_both (safe_v a ps s l k.0) (safe_v b ps s l k.1)
  safe_f (negation f) ps s l h = safe_f f ps s l h
  safe_f (join o f g) ps s l h =
      let k = safe_both ps (divides_f f) (divides_f g) h in
      and_both (safe_f f ps s l k.0) (safe_f g ps s l k.1)
  safe_f no_formula ps s l h = other_not_safe ps h
