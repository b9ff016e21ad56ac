-- Reading and printing undo each other, on well-formed terms:
--   print-read   what is printed is read back, with nothing left over and whatever follows;
--   read-print   what is read was printed so;
--   read-more    a reading does not look past its term;
--   read-deeper  a reading is the same where more depth is asked for.
-- Each stands once for values (-v) and once for formulas (-f). The first two go by induction, on the tree and on the depth, with
-- one law for "two terms follow" and one for "three"; the last two follow from them.
use Rattle.std.proofs.Common.{◌≡◌, ℕ, zero, suc, ◌+◌, ◌≤◌, Bool, true, false, cond, eqb, List, [], ◌∷◌, ◌++◌, length, take, drop, sym, refl, ap, ◌∙◌, append_assoc, one-add, arith, length-append, length-drop, take-append-drop, length-take-le, take-add, eqb-true}
use mathlib.Core.Bool.{false≢true}
use lib.Seq.{drop-append_seam}
use Rattle.terms.specs.Tree as tree
use Rattle.terms.specs.Tree.{Value, Formula, ok_v, ok_f}
use Rattle.terms.specs.Mark.{value_mark, formula_mark}
use Rattle.terms.specs.Read.{Read, Reader, leaf, one, two, three, read_v, read_f, value_by, formula_by}
use Rattle.terms.specs.Depth.{depth_v, depth_f}
use Rattle.terms.specs.Print.{print_v, print_f, arith_mark, const_mark, compare_mark, join_mark}
use Rattle.terms.specs.declared.Arith.{Arith}
use Rattle.terms.specs.declared.Arith.TheVariants.{Sum, Difference, Remainder}
use Rattle.terms.specs.declared.Compare.{Compare}
use Rattle.terms.specs.declared.Compare.TheVariants.{Equal, Less}
use Rattle.terms.specs.declared.Join.{Join}
use Rattle.terms.specs.declared.Join.TheVariants.{And, Or}
use Rattle.terms.specs.declared.ValueMark.{ValueMark}
use Rattle.terms.specs.declared.ValueMark.TheVariants as vm
use Rattle.terms.specs.declared.FormulaMark.{FormulaMark}
use Rattle.terms.specs.declared.FormulaMark.TheVariants as fm
use Rattle.terms.proofs.And.{and_left, and_right}
use Rattle.terms.proofs.Depth.{within_v, within_f, positive_v, positive_f}

leaf_eq : {A : Type 0} (a : A) {m n : ℕ} → m ≡ n → leaf a m ≡ leaf a n
leaf_eq a e i = leaf a (e i)

-- Marks and their numbers.

arith_mark_lem : (o : Arith) → value_mark (arith_mark o) ≡ vm.Arithmetic o
unfolding value_mark
arith_mark_lem Sum = refl
arith_mark_lem Difference = refl
arith_mark_lem Remainder = refl

const_mark_lem : (b : Bool) → formula_mark (const_mark b) ≡ fm.Constant b
unfolding formula_mark
const_mark_lem true = refl
const_mark_lem false = refl

compare_mark_lem : (o : Compare) → formula_mark (compare_mark o) ≡ fm.Comparison o
unfolding formula_mark
compare_mark_lem Equal = refl
compare_mark_lem Less = refl

join_mark_lem : (o : Join) → formula_mark (join_mark o) ≡ fm.Connective o
unfolding formula_mark
join_mark_lem And = refl
join_mark_lem Or = refl

-- the number of a mark; m where there is none
abbrev number_v : ℕ → ValueMark → ℕ
number_v m vm.Number = 0
number_v m vm.Parameter = 1
number_v m vm.SumValue = 2
number_v m (vm.Arithmetic o) = arith_mark o
number_v m vm.Choice = 6
number_v m vm.Wrong = m

abbrev number_f : ℕ → FormulaMark → ℕ
number_f m (fm.Constant b) = const_mark b
number_f m (fm.Comparison o) = compare_mark o
number_f m fm.Negation = 14
number_f m (fm.Connective o) = join_mark o
number_f m fm.Wrong = m

-- what holds of x where m is k, and of y, holds of the one that the test picks
by_test : {W : Type 0} (P : W → Type 0) (m k : ℕ) (x y : W) → (k ≡ m → P x) → P y → P (cond (eqb m k) x y)
by_test {W} P m k x y hx hy = go (eqb m k) refl where
  go : (b : Bool) → eqb m k ≡ b → P (cond b x y)
  go true e = hx (sym (eqb-true m k e))
  go false e = hy

number_of_v : (m : ℕ) → number_v m (value_mark m) ≡ m
unfolding value_mark
number_of_v m =
    let P : ValueMark → Type 0 = λ w. number_v m w ≡ m in
    by_test P m 0 _ _ (λ e. e)
    (by_test P m 1 _ _ (λ e. e)
    (by_test P m 2 _ _ (λ e. e)
    (by_test P m 3 _ _ (λ e. e)
    (by_test P m 4 _ _ (λ e. e)
    (by_test P m 5 _ _ (λ e. e)
    (by_test P m 6 _ _ (λ e. e) refl))))))

number_of_f : (m : ℕ) → number_f m (formula_mark m) ≡ m
unfolding formula_mark
number_of_f m =
    let P : FormulaMark → Type 0 = λ w. number_f m w ≡ m in
    by_test P m 10 _ _ (λ e. e)
    (by_test P m 11 _ _ (λ e. e)
    (by_test P m 12 _ _ (λ e. e)
    (by_test P m 13 _ _ (λ e. e)
    (by_test P m 14 _ _ (λ e. e)
    (by_test P m 15 _ _ (λ e. e)
    (by_test P m 16 _ _ (λ e. e) refl))))))

-- What is printed is read back.

-- the fields xs are read as a, whatever follows them
abbrev pub ReadsAs : {A : Type 0} → Reader A → List ℕ → A → Type 0
ReadsAs p xs a = (l : List ℕ) → p (xs ++ l) ≡ leaf a (length xs)

one_reads : {A B : Type 0} (f : A → B) (p : Reader A) (xs : List ℕ) (a : A) → ReadsAs p xs a
    → (l : List ℕ) → one f p (xs ++ l) ≡ leaf (f a) (suc (length xs))
one_reads f p xs a hp l = rw (hp l) (leaf_eq (f a) (omega arith))

two_reads : {A B C : Type 0} (f : A → B → C) (p : Reader A) (q : Reader B) (xs ys : List ℕ) (a : A) (b : B)
    → ReadsAs p xs a → ReadsAs q ys b
    → (l : List ℕ) → two f p q ((xs ++ ys) ++ l) ≡ leaf (f a b) (suc (length (xs ++ ys)))
two_reads f p q xs ys a b hp hq l =
    rw (append_assoc xs ys l, hp (ys ++ l), drop-append_seam xs (ys ++ l), hq l, length-append xs ys) (leaf_eq (f a b) (omega arith))

three_reads : {A B C D : Type 0} (f : A → B → C → D) (p : Reader A) (q : Reader B) (r : Reader C) (xs ys zs : List ℕ) (a : A) (b : B) (c : C)
    → ReadsAs p xs a → ReadsAs q ys b → ReadsAs r zs c
    → (l : List ℕ) → three f p q r ((xs ++ (ys ++ zs)) ++ l) ≡ leaf (f a b c) (suc (length (xs ++ (ys ++ zs))))
three_reads f p q r xs ys zs a b c hp hq hr l =
    rw
    (append_assoc xs (ys ++ zs) l, append_assoc ys zs l, hp (ys ++ (zs ++ l)), drop-append_seam xs (ys ++ (zs ++ l)), hq (zs ++ l), drop-append_seam ys (zs ++ l), hr l, length-append xs (ys ++ zs), length-append ys zs)
    (leaf_eq (f a b c) (omega arith))

module _ (n : ℕ) (row : Bool) where
  mutual
    unfolding read_v print_v depth_v ok_v value_mark formula_mark

    pub print_read_v : (t : Value) (d : ℕ) → ok_v t n row ≡ true → depth_v t ≤ d → ReadsAs (read_v d) (print_v t) t
    print_read_v t zero h e l = let z : ⊥ = omega (arith, positive_v n row t h) in absurd z
    print_read_v (tree.num k) (suc d) h e l = refl
    print_read_v (tree.par i) (suc d) h e l = refl
    print_read_v tree.sum_value (suc d) h e l = refl
    print_read_v (tree.arith o a b) (suc d) h e l =
        let ha : ok_v a n row ≡ true = and_left _ _ h in
        let hb : ok_v b n row ≡ true = and_right (ok_v a n row) _ h in
        let ea : depth_v a ≤ d = omega (arith, e) in
        let eb : depth_v b ≤ d = omega (arith, e) in
        rw (arith_mark_lem o)
        (two_reads (tree.arith o) (λ x. read_v d x) (λ x. read_v d x) (print_v a) (print_v b) a b
        (λ x. print_read_v a d ha ea x) (λ x. print_read_v b d hb eb x) l)
    print_read_v (tree.choice f a b) (suc d) h e l =
        let hf : ok_f f n row ≡ true = and_left _ _ h in
        let ha : ok_v a n row ≡ true = and_left _ _ (and_right (ok_f f n row) _ h) in
        let hb : ok_v b n row ≡ true = and_right (ok_v a n row) _ (and_right (ok_f f n row) _ h) in
        let ef : depth_f f ≤ d = omega (arith, e) in
        let ea : depth_v a ≤ d = omega (arith, e) in
        let eb : depth_v b ≤ d = omega (arith, e) in
        three_reads tree.choice (λ x. read_f d x) (λ x. read_v d x) (λ x. read_v d x) (print_f f) (print_v a) (print_v b) f a b
        (λ x. print_read_f f d hf ef x) (λ x. print_read_v a d ha ea x) (λ x. print_read_v b d hb eb x) l
    print_read_v tree.no_value (suc d) h e l = absurd (false≢true h)

    pub print_read_f : (t : Formula) (d : ℕ) → ok_f t n row ≡ true → depth_f t ≤ d → ReadsAs (read_f d) (print_f t) t
    print_read_f t zero h e l = let z : ⊥ = omega (arith, positive_f n row t h) in absurd z
    print_read_f (tree.const b) (suc d) h e l = rw (const_mark_lem b)
    print_read_f (tree.compare o a b) (suc d) h e l =
        let ha : ok_v a n row ≡ true = and_left _ _ h in
        let hb : ok_v b n row ≡ true = and_right (ok_v a n row) _ h in
        let ea : depth_v a ≤ d = omega (arith, e) in
        let eb : depth_v b ≤ d = omega (arith, e) in
        rw (compare_mark_lem o)
        (two_reads (tree.compare o) (λ x. read_v d x) (λ x. read_v d x) (print_v a) (print_v b) a b
        (λ x. print_read_v a d ha ea x) (λ x. print_read_v b d hb eb x) l)
    print_read_f (tree.negation f) (suc d) h e l =
        let ef : depth_f f ≤ d = omega (arith, e) in
        one_reads tree.negation (λ x. read_f d x) (print_f f) f (λ x. print_read_f f d h ef x) l
    print_read_f (tree.join o f g) (suc d) h e l =
        let hf : ok_f f n row ≡ true = and_left _ _ h in
        let hg : ok_f g n row ≡ true = and_right (ok_f f n row) _ h in
        let ef : depth_f f ≤ d = omega (arith, e) in
        let eg : depth_f g ≤ d = omega (arith, e) in
        rw (join_mark_lem o)
        (two_reads (tree.join o) (λ x. read_f d x) (λ x. read_f d x) (print_f f) (print_f g) f g
        (λ x. print_read_f f d hf ef x) (λ x. print_read_f g d hg eg x) l)
    print_read_f tree.no_formula (suc d) h e l = absurd (false≢true h)

-- What is read was printed so: the fields that a reading took.

-- the first u fields of l are xs
record Begins (xs : List ℕ) (u : ℕ) (l : List ℕ) : Type 0 where
  pub first : take u l ≡ xs
  pub inside : u ≤ length l

begins_none : (l : List ℕ) → Begins [] 0 l
begins_none l = record { first = refl; inside = omega arith }

-- a field more in front; a mark's number is given by what stands there
begins_mark : {xs l : List ℕ} {u k m : ℕ} → k ≡ m → Begins xs u l → Begins (k ∷ xs) (1 + u) (m ∷ l)
begins_mark {xs} {l} {u} {k} {m} e b = record { first = rw (one-add u, ← e, b.first); inside = omega (arith, b.inside) }

-- and what follows, from where the first ended
begins_then : {xs ys l : List ℕ} {u w : ℕ} → Begins xs u l → Begins ys w (drop u l) → Begins (xs ++ ys) (u + w) l
begins_then {xs} {ys} {l} {u} {w} a b = record {
  first = rw (take-add u w l, a.first, b.first);
  inside = omega (arith, a.inside, b.inside, length-drop u l);
}

-- by marks, where values and formulas are read by v and f
module _ (n : ℕ) (row : Bool) (v : Reader Value) (f : Reader Formula)
    (hv : (l : List ℕ) → ok_v (v l).tree n row ≡ true → Begins (print_v (v l).tree) (v l).used l)
    (hf : (l : List ℕ) → ok_f (f l).tree n row ≡ true → Begins (print_f (f l).tree) (f l).used l) where
  begins_v : (w : ValueMark) (m : ℕ) → number_v m w ≡ m → (l : List ℕ) → ok_v (value_by w v f l).tree n row ≡ true
      → Begins (print_v (value_by w v f l).tree) (value_by w v f l).used (m ∷ l)
  unfolding ok_v print_v
  begins_v vm.Number m e [] h = absurd (false≢true h)
  begins_v vm.Number m e (x ∷ l) h = begins_mark e (begins_mark refl (begins_none l))
  begins_v vm.Parameter m e [] h = absurd (false≢true h)
  begins_v vm.Parameter m e (x ∷ l) h = begins_mark e (begins_mark refl (begins_none l))
  begins_v vm.SumValue m e l h = begins_mark e (begins_none l)
  begins_v (vm.Arithmetic o) m e l h =
      begins_mark e (begins_then (hv l (and_left _ _ h)) (hv (drop (v l).used l) (and_right (ok_v (v l).tree n row) _ h)))
  begins_v vm.Choice m e l h =
      let g : ℕ = (f l).used in
      let a : ℕ = (v (drop g l)).used in
      let h' = and_right (ok_f (f l).tree n row) _ h in
      begins_mark e
      (begins_then (hf l (and_left _ _ h))
      (begins_then (hv (drop g l) (and_left _ _ h')) (hv (drop a (drop g l)) (and_right (ok_v (v (drop g l)).tree n row) _ h'))))
  begins_v vm.Wrong m e l h = absurd (false≢true h)

  begins_f : (w : FormulaMark) (m : ℕ) → number_f m w ≡ m → (l : List ℕ) → ok_f (formula_by w v f l).tree n row ≡ true
      → Begins (print_f (formula_by w v f l).tree) (formula_by w v f l).used (m ∷ l)
  unfolding ok_f print_f
  begins_f (fm.Constant b) m e l h = begins_mark e (begins_none l)
  begins_f (fm.Comparison o) m e l h =
      begins_mark e (begins_then (hv l (and_left _ _ h)) (hv (drop (v l).used l) (and_right (ok_v (v l).tree n row) _ h)))
  begins_f fm.Negation m e l h = begins_mark e (hf l h)
  begins_f (fm.Connective o) m e l h =
      begins_mark e (begins_then (hf l (and_left _ _ h)) (hf (drop (f l).used l) (and_right (ok_f (f l).tree n row) _ h)))
  begins_f fm.Wrong m e l h = absurd (false≢true h)

module _ (n : ℕ) (row : Bool) where
  mutual
    unfolding read_v ok_v

    taken_v : (d : ℕ) (l : List ℕ) → ok_v (read_v d l).tree n row ≡ true → Begins (print_v (read_v d l).tree) (read_v d l).used l
    taken_v zero l h = absurd (false≢true h)
    taken_v (suc d) [] h = absurd (false≢true h)
    taken_v (suc d) (m ∷ l) h =
        begins_v n row (λ x. read_v d x) (λ x. read_f d x) (λ x g. taken_v d x g) (λ x g. taken_f d x g) (value_mark m) m (number_of_v m) l h

    taken_f : (d : ℕ) (l : List ℕ) → ok_f (read_f d l).tree n row ≡ true → Begins (print_f (read_f d l).tree) (read_f d l).used l
    taken_f zero l h = absurd (false≢true h)
    taken_f (suc d) [] h = absurd (false≢true h)
    taken_f (suc d) (m ∷ l) h =
        begins_f n row (λ x. read_v d x) (λ x. read_f d x) (λ x g. taken_v d x g) (λ x g. taken_f d x g) (formula_mark m) m (number_of_f m) l h

-- The laws.

-- the reading r of l, asked for within depth d, took what its tree is printed as, and its tree is within that depth
pub record Printed {A : Type 0} (print : A → List ℕ) (depth : A → ℕ) (d : ℕ) (r : Read A) (l : List ℕ) : Type 0 where
  pub first : take r.used l ≡ print r.tree
  pub inside : r.used ≤ length l
  pub within : depth r.tree ≤ d
  pub count : length (print r.tree) ≡ r.used
  pub split : l ≡ print r.tree ++ drop r.used l

printed : {A : Type 0} (print : A → List ℕ) (depth : A → ℕ) (d : ℕ) (r : Read A) (l : List ℕ)
    → Begins (print r.tree) r.used l → depth r.tree ≤ d → Printed print depth d r l
printed print depth d r l b h = record {
  first = b.first;
  inside = b.inside;
  within = h;
  count = ap length (sym b.first) ∙ length-take-le r.used l b.inside;
  split = sym (take-append-drop r.used l) ∙ ap (λ (x : List ℕ). x ++ drop r.used l) b.first;
}

-- where the fields of a reading are read as its tree, whatever follows, they are so read with m behind the list
again : {A : Type 0} (print : A → List ℕ) (depth : A → ℕ) (d : ℕ) (p : Reader A) (r : Read A) (l : List ℕ)
    → Printed print depth d r l → ReadsAs p (print r.tree) r.tree → (m : List ℕ) → p (l ++ m) ≡ r
again print depth d p r l h reads m =
    let xs : List ℕ = print r.tree in
    let e : l ++ m ≡ xs ++ (drop r.used l ++ m) =
    ap (λ (x : List ℕ). x ++ m) h.split ∙ append_assoc xs (drop r.used l) m
    in
    ap p e ∙ reads (drop r.used l ++ m) ∙ leaf_eq r.tree h.count

module _ (n : ℕ) (row : Bool) (d : ℕ) (l : List ℕ) where
  pub read_print_v : ok_v (read_v d l).tree n row ≡ true → Printed print_v depth_v d (read_v d l) l
  read_print_v h = printed print_v depth_v d (read_v d l) l (taken_v n row d l h) (within_v d l)

  pub read_print_f : ok_f (read_f d l).tree n row ≡ true → Printed print_f depth_f d (read_f d l) l
  read_print_f h = printed print_f depth_f d (read_f d l) l (taken_f n row d l h) (within_f d l)

  -- with more fields behind, and more depth asked for
  on_v : ok_v (read_v d l).tree n row ≡ true → (e : ℕ) → d ≤ e → (m : List ℕ) → read_v e (l ++ m) ≡ read_v d l
  on_v h e de m =
      let k : depth_v (read_v d l).tree ≤ e = omega (arith, de, within_v d l) in
      again print_v depth_v d (read_v e) (read_v d l) l (read_print_v h) (λ x. print_read_v n row (read_v d l).tree e h k x) m

  on_f : ok_f (read_f d l).tree n row ≡ true → (e : ℕ) → d ≤ e → (m : List ℕ) → read_f e (l ++ m) ≡ read_f d l
  on_f h e de m =
      let k : depth_f (read_f d l).tree ≤ e = omega (arith, de, within_f d l) in
      again print_f depth_f d (read_f e) (read_f d l) l (read_print_f h) (λ x. print_read_f n row (read_f d l).tree e h k x) m

  pub read_more_v : ok_v (read_v d l).tree n row ≡ true → (m : List ℕ) → read_v d (l ++ m) ≡ read_v d l
  read_more_v h m = on_v h d (omega arith) m

  pub read_more_f : ok_f (read_f d l).tree n row ≡ true → (m : List ℕ) → read_f d (l ++ m) ≡ read_f d l
  read_more_f h m = on_f h d (omega arith) m
