-- What a text that is not turned down keeps (`Admitted` in criteria/specs/Design), as a test.
use Rattle.std.specs.Prelude.{Bool, true, false, not, ◌&&◌, List, [], ◌∷◌, eqb, ltb}
use Rattle.foundation.specs.Nth.{each_b}
use Rattle.foundation.specs.Reflects.{◌⇒◌}
use Rattle.terms.specs.Tree.{Value, num, par, sum_value, arith, choice, no_value}
use Rattle.criteria.specs.Design.{Design, Process, Row, states}

abbrev pub sizes_fit_b : Process → Bool
sizes_fit_b p = each_b (λ q. ltb q.size 65536 && ltb q.initial q.size) p.parameters

abbrev pub spans_fit_b : Process → Bool
spans_fit_b p = each_b (λ r. ltb 0 r.span && ltb r.span 257) p.rows

-- each row's action, if it is visible, differs from those of the later rows
abbrev pub one_each_b : List Row → Bool
one_each_b [] = true
one_each_b (r ∷ rows) = (not (eqb r.action 0) ⇒ each_b (λ q. not (eqb r.action q.action)) rows) && one_each_b rows

-- the term `0 0`
abbrev pub is_zero : Value → Bool
is_zero (num n) = eqb n 0
is_zero (par i) = false
is_zero sum_value = false
is_zero (arith o v w) = false
is_zero (choice f v w) = false
is_zero no_value = false

abbrev pub admitted_b : Design → Bool
admitted_b d =
    sizes_fit_b d.impl
    && (sizes_fit_b d.spec
    && (spans_fit_b d.impl
    && (spans_fit_b d.spec
    && (ltb (states d) 65537
    && (one_each_b d.impl.rows
    && (one_each_b d.spec.rows
    && (each_b (λ q. not (eqb q.action 0)) d.spec.rows
    && (each_b (λ r. eqb r.action 0 ⇒ is_zero r.carries) d.impl.rows
    && each_b (λ r. each_b (λ q. eqb r.action q.action ⇒ eqb r.span q.span) d.spec.rows) d.impl.rows))))))))
