-- Values fit in 16 bits: where every number of a term, every parameter value and the sum value is below 65,536, so is the term's
-- value.
use Rattle.std.proofs.Common.{ℕ, ◌%◌, Bool, true, false, cond, eqb, List, arith}
use native.Mathlib.Nat.{mod-le}
use Rattle.terms.specs.Tree as tree
use Rattle.terms.specs.Tree.{Value, eval_v, eval_f, arith_of}
use Rattle.terms.specs.Fit.{Fits16, FitsAll, FitsV}
use Rattle.terms.specs.declared.Arith.{Arith}
use Rattle.terms.specs.declared.Arith.TheVariants.{Sum, Difference, Remainder}

cond_fits : (b : Bool) (x y : ℕ) → Fits16 x → Fits16 y → Fits16 (cond b x y)
cond_fits true x y hx hy = hx
cond_fits false x y hx hy = hy

arith_fits : (o : Arith) (x y : ℕ) → Fits16 x → Fits16 (arith_of o x y)
arith_fits Sum x y h = omega arith
arith_fits Difference x y h = omega arith
arith_fits Remainder x y h = cond_fits (eqb y 0) x (x % y) h (omega (arith, mod-le x y))

pub value_fits : (t : Value) (ps : List ℕ) (s : ℕ) → FitsV t → FitsAll ps → Fits16 s → Fits16 (eval_v t ps s)
unfolding eval_v FitsV
value_fits (tree.num n) ps s h hp hs = h
value_fits (tree.par i) ps s h hp hs = hp i
value_fits tree.sum_value ps s h hp hs = hs
value_fits (tree.arith o a b) ps s h hp hs = arith_fits o (eval_v a ps s) (eval_v b ps s) (value_fits a ps s h.0 hp hs)
value_fits (tree.choice f a b) ps s h hp hs =
    cond_fits (eval_f f ps s) _ _ (value_fits a ps s h.1.0 hp hs) (value_fits b ps s h.1.1 hp hs)
value_fits tree.no_value ps s h hp hs = omega arith
