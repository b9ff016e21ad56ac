-- The marks of terms: which number stands for what (01, "Terms"). What follows a mark is in Read.
use Rattle.std.specs.Prelude.{ℕ, true, false, cond, ◌==◌}
use Rattle.terms.specs.declared.Arith.TheVariants.{Sum, Difference, Remainder}
use Rattle.terms.specs.declared.Compare.TheVariants.{Equal, Less}
use Rattle.terms.specs.declared.Join.TheVariants.{And, Or}
use Rattle.terms.specs.declared.ValueMark.{ValueMark}
use Rattle.terms.specs.declared.ValueMark.TheVariants as vm
use Rattle.terms.specs.declared.FormulaMark.{FormulaMark}
use Rattle.terms.specs.declared.FormulaMark.TheVariants as fm

-- "Values: `0 n` the number n; `1 i` parameter i; `2` the sum value; `3 v v` sum and `4 v v` difference; `5 v v` remainder; `6 f v v`"
unfoldable pub value_mark : ℕ → ValueMark
value_mark m =
    cond (m == 0) vm.Number
    (cond (m == 1) vm.Parameter
    (cond (m == 2) vm.SumValue
    (cond (m == 3) (vm.Arithmetic Sum)
    (cond (m == 4) (vm.Arithmetic Difference)
    (cond (m == 5) (vm.Arithmetic Remainder)
    (cond (m == 6) vm.Choice vm.Wrong))))))

-- "Formulas: `10` true; `11` false; `12 v v` equal; `13 v v` less; `14 f` not; `15 f f` and; `16 f f` or."
unfoldable pub formula_mark : ℕ → FormulaMark
formula_mark m =
    cond (m == 10) (fm.Constant true)
    (cond (m == 11) (fm.Constant false)
    (cond (m == 12) (fm.Comparison Equal)
    (cond (m == 13) (fm.Comparison Less)
    (cond (m == 14) fm.Negation
    (cond (m == 15) (fm.Connective And)
    (cond (m == 16) (fm.Connective Or) fm.Wrong))))))
