-- The number that a call answers is the one due: the first in the order of answers whose reason is there (`number_due`), and 0 exactly if
-- none is (`done_exactly`).
use Prim.Native.Nat.{ℕ, ◌<◌}
use mathlib.Core.Path.{◌≡◌, refl, sym, ap, ◌∙◌}
use mathlib.Core.Logic.{◌≢◌, ◌↔◌, ◌⊎◌, inl, inr}
use mathlib.Core.Bool.{Bool, true, false, cond, ◌&&◌, ◌||◌, true≢false}
use mathlib.Core.List.Memᴰ
use mathlib.Core.List.{List, [], ◌∷◌, ◌++◌, Memᴰ, nil≢cons}
use native.Mathlib.Omega.{arith}
use borrow.Author.Tests.{eqb-true, eqb-false, ltb-true, ltb-false}
use lib.Dec.{eqb, ltb}
use lib.ListN.{length}
use Rattle.foundation.specs.Lowest.{First, here, past}
use Rattle.terms.specs.Tree.{Formula, const, compare, negation, join, no_formula}
use Rattle.terms.specs.Print.{print_f}
use Rattle.terms.specs.declared.Compare.TheVariants.{Equal, Less}
use Rattle.terms.specs.declared.Join.TheVariants.{And, Or}
use Rattle.reader.specs.Text.{count_all, text_of}
use Rattle.criteria.specs.Design.{Design}
use Rattle.criteria.proofs.Rows.{and-true}
use Rattle.design.specs.Lines.{design_text}
use Rattle.design.specs.Faults.{Fault, DesignText, fault_order}
use Rattle.design.specs.Print.{print_lines}
use Rattle.loader.specs.Load.{fault_of}
use Rattle.loader.proofs.Lowest.{lowest_fault, free_exactly, fault_number}
use Rattle.conversion.specs.Result.{Way, there, back, converted, OtherFormula, other, TooLong, bytes, fields, Refused, fault, formula, long, TurnedDown}
use Rattle.conversion.specs.Answer.{true_b, every, plain_b, too_long_b, design_number, number_of}

-- ---- 15: a formula is `10` by its fields exactly if the test says so

pub true_tree : (f : Formula) → true_b f ≡ true → f ≡ const true
true_tree (const true) e = refl
true_tree (const false) e = absurd (true≢false (sym e))
true_tree (compare o x y) e = absurd (true≢false (sym e))
true_tree (negation f) e = absurd (true≢false (sym e))
true_tree (join o f g) e = absurd (true≢false (sym e))
true_tree no_formula e = absurd (true≢false (sym e))

true_is : (f : Formula) → true_b f ≡ true → print_f f ≡ 10 ∷ []
unfolding print_f
true_is f e = ap print_f (true_tree f e)

first_of : {m n : ℕ} {ms ns : List ℕ} → m ∷ ms ≡ n ∷ ns → m ≡ n
first_of e = cc

not-true : (f : Formula) → true_b f ≡ false → print_f f ≢ 10 ∷ []
unfolding print_f
not-true (const true) e p = true≢false e
not-true (const false) e p = let h = first_of p in omega arith
not-true (compare Equal x y) e p = let h = first_of p in omega arith
not-true (compare Less x y) e p = let h = first_of p in omega arith
not-true (negation f) e p = let h = first_of p in omega arith
not-true (join And f g) e p = let h = first_of p in omega arith
not-true (join Or f g) e p = let h = first_of p in omega arith
not-true no_formula e p = nil≢cons p

-- a test says yes to each, or no to one
every_so : {A : Type 0} (test : A → Bool) (xs : List A) → every test xs ≡ true → {x : A} → Memᴰ x xs → test x ≡ true
unfolding every
every_so test [] e m = absurd (Memᴰ.not-nil m)
every_so test (y ∷ xs) e {x} m =
    let parts = and-true (test y) (every test xs) e in
    go (Memᴰ.cases_cons m) parts.0 (λ n. every_so test xs parts.1 n)
  where
    go : (x ≡ y) ⊎ Memᴰ x xs → test y ≡ true → (Memᴰ x xs → test x ≡ true) → test x ≡ true
    go (inl q) first later = rw q first
    go (inr n) first later = later n

record SomeNot {A : Type 0} (test : A → Bool) (xs : List A) : Type 0 where
  one : A
  among : Memᴰ one xs
  fails : test one ≡ false

some_not : {A : Type 0} (test : A → Bool) (xs : List A) → every test xs ≡ false → SomeNot test xs
unfolding every
some_not test [] e = absurd (true≢false e)
some_not test (x ∷ xs) e = go (test x) refl e (some_not test xs)
  where
    go : (b : Bool) → test x ≡ b → (b && every test xs) ≡ false → (every test xs ≡ false → SomeNot test xs) → SomeNot test (x ∷ xs)
    go true q h later = let a = later h in record { one = a.one; among = Memᴰ.tail a.among; fails = a.fails }
    go false q h later = record { one = x; among = Memᴰ.head refl; fails = q }

pub no_other : (x : Design) → every (every true_b) x.marks ≡ true → OtherFormula x → ⊥
no_other x e (other {formulas = fs} {f = f} m k n) = n (true_is f (every_so true_b fs (every_so (every true_b) x.marks e m) k))

has_other : (x : Design) → every (every true_b) x.marks ≡ false → OtherFormula x
has_other x e =
    let a = some_not (every true_b) x.marks e in
    let b = some_not true_b a.one a.fails in
    other a.among b.among (not-true b.one b.fails)

-- ---- 16

is_long : (room : ℕ) (x : Design) → too_long_b room x ≡ true → TooLong room x
is_long room x e = go (ltb room (length (text_of (print_lines x)))) refl e
  where
    go : (b : Bool) → ltb room (length (text_of (print_lines x))) ≡ b → (b || ltb 4096 (count_all (print_lines x))) ≡ true → TooLong room x
    go true q h = bytes (ltb-true room (length (text_of (print_lines x))) q)
    go false q h = fields (ltb-true 4096 (count_all (print_lines x)) h)

not_long : (room : ℕ) (x : Design) → too_long_b room x ≡ false → TooLong room x → ⊥
not_long room x e t = go (ltb room (length (text_of (print_lines x)))) refl e t
  where
    go : (b : Bool) → ltb room (length (text_of (print_lines x))) ≡ b → (b || ltb 4096 (count_all (print_lines x))) ≡ false → TooLong room x → ⊥
    go true q h t = true≢false h
    go false q h (bytes l) = let f = ltb-false room (length (text_of (print_lines x))) q in omega arith
    go false q h (fields l) = let f = ltb-false 4096 (count_all (print_lines x)) h in omega arith

-- ---- all answers

-- numbers below 15
abbrev Low : List ℕ → Type 0
Low [] = Unit {0}
Low (k ∷ ks) = (k < 15) × Low ks

faults_low : Low fault_order
faults_low = (omega arith, (omega arith, (omega arith, (omega arith, (omega arith, (omega arith, (omega arith, tt)))))))

module _ (way : Way) (text : List ℕ) (room : ℕ) where
  abbrev d : Design
  d = design_text text

  abbrev Due : List ℕ → ℕ → Type 0
  Due ks k = First (Refused way text room) ks k

  -- such a number is a fault's
  of_fault : {k : ℕ} → k < 15 → Refused way text room k → Fault text k
  of_fault l (fault f) = f
  of_fault l (formula w o) = absurd (omega arith)
  of_fault l (long t) = absurd (omega arith)

  -- the first of the faults is the first in the longer order
  with_fault : {ks : List ℕ} {k : ℕ} → Low ks → First (Fault text) ks k → Due (ks ++ 15 ∷ 16 ∷ []) k
  with_fault low (here f) = here (fault f)
  with_fault low (past n f) = past (λ r. n (of_fault low.0 r)) (with_fault low.1 f)

  -- and without a fault it is among those after them
  without : (ks : List ℕ) {k : ℕ} → Low ks → DesignText text → Due (15 ∷ 16 ∷ []) k → Due (ks ++ 15 ∷ 16 ∷ []) k
  without [] low is f = f
  without (j ∷ ks) low is f = past (λ r. is j (of_fault low.0 r)) (without ks low.1 is f)

  -- what is answered: the first that is due, or nothing is due
  data Settled : ℕ → Type 0 where
    due : {k : ℕ} → TurnedDown way text room k → Settled k
    free : ((k : ℕ) → Refused way text room k → ⊥) → Settled 0

  module _ (is : DesignText text) where
    -- on the way there each formula can stay
    plain_other : way ≡ back → plain_b way d ≡ true → OtherFormula d → ⊥
    plain_other w p = no_other d (ap (λ (v : Way). plain_b v d) (sym w) ∙ p)

    not_plain : (v : Way) → plain_b v d ≡ false → v ≡ back
    not_plain there e = absurd (true≢false e)
    not_plain back e = refl

    no_15 : plain_b way d ≡ true → {k : ℕ} → k ≡ 15 → Refused way text room k → ⊥
    no_15 p e (fault {k = k} f) = is k f
    no_15 p e (formula w o) = plain_other w p o
    no_15 p e (long t) = omega arith

    by_tests : (p l : Bool) → plain_b way d ≡ p → too_long_b room (converted way d) ≡ l → Settled (cond p (cond l 16 0) 15)
    by_tests false l ep el =
        let w = not_plain way ep in
        due (without fault_order faults_low is (here (formula w (has_other d (ap (λ (v : Way). plain_b v d) (sym w) ∙ ep)))))
    by_tests true true ep el = due (without fault_order faults_low is (past (no_15 ep refl) (here (long (is_long room (converted way d) el)))))
    by_tests true false ep el = free none
      where
        none : (k : ℕ) → Refused way text room k → ⊥
        none k (fault f) = is k f
        none k (formula w o) = plain_other w ep o
        none k (long t) = not_long room (converted way d) el t

  settled : Settled (number_of way text room)
  unfolding number_of
  settled = go (eqb (fault_of text) 0) refl
    where
      go : (b : Bool) → eqb (fault_of text) 0 ≡ b → Settled (cond b (design_number way d room) (fault_of text))
      go true e = by_tests ((free_exactly text).0 (eqb-true (fault_of text) 0 e)) _ _ refl refl
      go false e = due (with_fault faults_low (lowest_fault text (eqb-false (fault_of text) 0 e)))

  -- ---- so

  of_due : {k : ℕ} → Settled k → k ≢ 0 → TurnedDown way text room k
  of_due (due f) z = f
  of_due (free n) z = absurd (z refl)

  pub number_due : number_of way text room ≢ 0 → TurnedDown way text room (number_of way text room)
  number_due z = of_due settled z

  -- a number that is due is not 0
  found : {ks : List ℕ} {k : ℕ} → Due ks k → Refused way text room k
  found (here r) = r
  found (past n f) = found f

  not_0 : {k : ℕ} → Refused way text room k → k ≢ 0
  not_0 (fault f) e = let h = (fault_number f).0 in omega arith
  not_0 (formula w o) e = omega arith
  not_0 (long t) e = omega arith

  of_free : {k : ℕ} → Settled k → k ≡ 0 → (j : ℕ) → Refused way text room j → ⊥
  of_free (due f) e = absurd (not_0 (found f) e)
  of_free (free n) e = n

  free_of : {k : ℕ} → Settled k → ((j : ℕ) → Refused way text room j → ⊥) → k ≡ 0
  free_of (due {k = k} f) n = absurd (n k (found f))
  free_of (free n) m = refl

  -- a call is done exactly if nothing is due
  pub done_exactly : (number_of way text room ≡ 0) ↔ ((k : ℕ) → Refused way text room k → ⊥)
  done_exactly = (of_free settled, free_of settled)

  -- and then the marks can be left out
  pub done_plain : number_of way text room ≡ 0 → plain_b way d ≡ true
  done_plain z = go (plain_b way d) refl
    where
      go : (p : Bool) → plain_b way d ≡ p → plain_b way d ≡ true
      go true e = e
      go false e =
          let is : DesignText text = λ k f. done_exactly.0 z k (fault f) in
          let w = not_plain is way e in
          absurd (done_exactly.0 z 15 (formula w (has_other d (ap (λ (v : Way). plain_b v d) (sym w) ∙ e))))
