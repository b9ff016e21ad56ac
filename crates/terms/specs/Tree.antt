-- Terms as trees: values and formulas, what they evaluate to, and which are well formed (01, "Terms").
--
-- A tree has the marks' meaning and not their numbers: those are in Mark, how fields are read as a tree is in Read, how a
-- tree is written as fields in Print, and how deep one is in Depth.
use Rattle.std.specs.Prelude.{ℕ, ◌+◌, ◌-◌, ◌%◌, Bool, true, false, cond, not, ◌&&◌, ◌||◌, List, ◌==◌, nat_lt, slice_index}
use Rattle.terms.specs.declared.Arith.{Arith}
use Rattle.terms.specs.declared.Arith.TheVariants.{Sum, Difference, Remainder}
use Rattle.terms.specs.declared.Compare.{Compare}
use Rattle.terms.specs.declared.Compare.TheVariants.{Equal, Less}
use Rattle.terms.specs.declared.Join.{Join}
use Rattle.terms.specs.declared.Join.TheVariants.{And, Or}

-- "A value may hold a formula and a formula holds values."
--
-- `no_value` and `no_formula` are no terms of 01. They stand where nothing could be read: a wrong mark, fields that end too early,
-- or a term that is too deep. They are not well formed, so a loaded design holds none.
mutual
  -- "`0 n` the number n; `1 i` parameter i, counted from 0, of the row's process (the implementation's in kinds 5 to 7); `2` the sum value,
  -- only in rows; `3 v v` sum and `4 v v` difference, both modulo 65,536; `5 v v` remainder"; by zero there is none (02, order 5); "`6 f v
  -- v` the first value if the formula holds, else the second."
  pub data Value : Type 0 where
    num par : ℕ → Value
    sum_value : Value
    arith : Arith → Value → Value → Value
    choice : Formula → Value → Value → Value
    no_value : Value

  -- "`10` true; `11` false; `12 v v` equal; `13 v v` less; `14 f` not; `15 f f` and; `16 f f` or."
  pub data Formula : Type 0 where
    const : Bool → Formula
    compare : Compare → Value → Value → Formula
    negation : Formula → Formula
    join : Join → Formula → Formula → Formula
    no_formula : Formula

-- "`3 v v` sum and `4 v v` difference, both modulo 65,536; `5 v v` remainder". Numbers are below 65,536, so that 65,536 - y is never cut
-- off (proofs/Eval). Where an operation has no value (`arith_has`), what is said with the number that stands here comes after
-- criterion 10 (criteria/specs/Failure).
abbrev pub arith_of : Arith → ℕ → ℕ → ℕ
arith_of Sum x y = (x + y) % 65536
arith_of Difference x y = (x + (65536 - y)) % 65536
arith_of Remainder x y = cond (y == 0) x (x % y)

-- "Remainder by zero has no value" (02, order 5): whether an operation has one, by its second number
abbrev pub arith_has : Arith → ℕ → Bool
arith_has Sum y = true
arith_has Difference y = true
arith_has Remainder y = not (y == 0)

-- "`12 v v` equal; `13 v v` less"
abbrev pub compare_of : Compare → ℕ → ℕ → Bool
compare_of Equal x y = x == y
compare_of Less x y = nat_lt x y

-- "`15 f f` and; `16 f f` or"
abbrev pub join_of : Join → Bool → Bool → Bool
join_of And x y = x && y
join_of Or x y = x || y

-- The value of a term at the parameter values ps and the sum value s, and whether a formula holds there, where they have a value: what an
-- evaluation computes. Whether there is one is has_v and has_f; what a term means, a value or none, is said in Meaning, and that this is it.
unfoldable mutual
  pub eval_v : Value → List ℕ → ℕ → ℕ
  eval_v (num n) ps s = n
  eval_v (par i) ps s = slice_index ps i
  eval_v sum_value ps s = s
  eval_v (arith o a b) ps s = arith_of o (eval_v a ps s) (eval_v b ps s)
  eval_v (choice f a b) ps s = cond (eval_f f ps s) (eval_v a ps s) (eval_v b ps s)
  eval_v no_value ps s = 0

  pub eval_f : Formula → List ℕ → ℕ → Bool
  eval_f (const b) ps s = b
  eval_f (compare o a b) ps s = compare_of o (eval_v a ps s) (eval_v b ps s)
  eval_f (negation f) ps s = not (eval_f f ps s)
  eval_f (join o f g) ps s = join_of o (eval_f f ps s) (eval_f g ps s)
  eval_f no_formula ps s = false

-- It has a value there.
unfoldable mutual
  pub has_v : Value → List ℕ → ℕ → Bool
  has_v (num n) ps s = true
  has_v (par i) ps s = true
  has_v sum_value ps s = true
  has_v (arith o a b) ps s = has_v a ps s && (has_v b ps s && arith_has o (eval_v b ps s))
  has_v (choice f a b) ps s = has_f f ps s && cond (eval_f f ps s) (has_v a ps s) (has_v b ps s)
  has_v no_value ps s = false

  pub has_f : Formula → List ℕ → ℕ → Bool
  has_f (const b) ps s = true
  has_f (compare o a b) ps s = has_v a ps s && has_v b ps s
  has_f (negation f) ps s = has_f f ps s
  has_f (join o f g) ps s = has_f f ps s && has_f g ps s
  has_f no_formula ps s = false

-- Well formed where the row's process, or the implementation in kinds 5 to 8, has n parameters, and where a row's sum value may be read or
-- not: no "wrong mark", no "parameter that doesn't exist", no "sum value outside a row" (fault 6). The depth is not asked here: a reading is
-- never deeper than its bound (proofs/Depth).
unfoldable mutual
  pub ok_v : Value → ℕ → Bool → Bool
  ok_v (num k) n row = true
  ok_v (par i) n row = nat_lt i n
  ok_v sum_value n row = row
  ok_v (arith o a b) n row = ok_v a n row && ok_v b n row
  ok_v (choice f a b) n row = ok_f f n row && (ok_v a n row && ok_v b n row)
  ok_v no_value n row = false

  pub ok_f : Formula → ℕ → Bool → Bool
  ok_f (const b) n row = true
  ok_f (compare o a b) n row = ok_v a n row && ok_v b n row
  ok_f (negation f) n row = ok_f f n row
  ok_f (join o f g) n row = ok_f f n row && ok_f g n row
  ok_f no_formula n row = false
