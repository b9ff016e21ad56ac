-- The test for `Admitted` says whether a design is.
use mathlib.Core.Path.{◌≡◌, refl, sym, ◌∙◌, ap, subst}
use mathlib.Core.Logic.{◌≢◌}
use mathlib.Core.List.{List, [], ◌∷◌}
use Prim.Native.Nat.{ℕ, suc, ◌≤◌}
use native.Mathlib.Omega.{arith}
use lib.Dec.{ltb}
use native.Mathlib.Nat.{suc_inj}
use Rattle.foundation.specs.Nth.{first, later, EachIs}
use Rattle.foundation.specs.Reflects.{Reflects, so, not_so}
use Rattle.foundation.proofs.Nth.{nth_nil, nth_positive, by_each}
use Rattle.foundation.proofs.Reflects.{by_eqb, by_ltb, by_not, by_and, by_if, by_iff}
use Rattle.terms.specs.Tree.{Value, num, par, sum_value, arith as arithmetic, choice, no_value}
use Rattle.criteria.specs.Design.{Design, Process, Row, SizesFit, SpansFit, OneEach, Admitted, states}
use Rattle.decision.specs.Admitted.{sizes_fit_b, spans_fit_b, one_each_b, is_zero, admitted_b}

by_sizes : (p : Process) → Reflects (SizesFit p) (sizes_fit_b p)
by_sizes p = by_each _ _ (λ q. by_and (by_ltb q.size 65536) (by_ltb q.initial q.size)) p.parameters

by_at_most : (m n : ℕ) → Reflects (m ≤ n) (ltb m (suc n))
by_at_most m n = by_iff (λ h. omega arith) (λ h. omega arith) (by_ltb m (suc n))

by_spans : (p : Process) → Reflects (SpansFit p) (spans_fit_b p)
by_spans p = by_each _ _ (λ r. by_and (by_ltb 0 r.span) (by_at_most r.span 256)) p.rows

-- ---- one row for each visible action

abbrev Differs : Row → List Row → Type 0
Differs r rows = r.action ≢ 0 → EachIs rows (λ q. r.action ≢ q.action)

one_cons : (x : Row) (rows : List Row) → Differs x rows → OneEach rows → OneEach (x ∷ rows)
one_cons x rows n one k j r q first first seen same = refl
one_cons x rows n one k j r q first (later {k = i} at) seen same = absurd (n seen i q at same)
one_cons x rows n one k j r q (later {k = i} at) first seen same = absurd (n (λ z. seen (same ∙ z)) i r at (sym same))
one_cons x rows n one k j r q (later {k = i} at) (later {k = m} to) seen same = ap suc (one i m r q at to seen same)

one_parts : (x : Row) (rows : List Row) → OneEach (x ∷ rows) → Differs x rows × OneEach rows
one_parts x rows one = (
  λ seen k q at same. nth_positive at (suc_inj (sym (one 1 (suc k) x q first (later at) seen same))),
  λ k j r q at to seen same. suc_inj (one (suc k) (suc j) r q (later at) (later to) seen same),
)

by_one : (rows : List Row) → Reflects (OneEach rows) (one_each_b rows)
by_one [] = so (λ k j r q at to seen same. absurd (nth_nil at))
by_one (x ∷ rows) =
    by_iff (λ h. one_cons x rows h.0 h.1) (one_parts x rows)
    (by_and (by_if _ (by_not (by_eqb x.action 0)) (λ _. by_each _ _ (λ q. by_not (by_eqb x.action q.action)) rows)) (by_one rows))

-- ---- the term `0 0`

abbrev IsNum : Value → Type 0
IsNum (num n) = Unit {0}
IsNum (par i) = ⊥
IsNum sum_value = ⊥
IsNum (arithmetic o v w) = ⊥
IsNum (choice f v w) = ⊥
IsNum no_value = ⊥

by_zero : (v : Value) → Reflects (v ≡ num 0) (is_zero v)
by_zero (num n) = by_iff (λ h. ap num h) (λ h. cc) (by_eqb n 0)
by_zero (par i) = not_so (λ h. subst IsNum (sym h) tt)
by_zero sum_value = not_so (λ h. subst IsNum (sym h) tt)
by_zero (arithmetic o v w) = not_so (λ h. subst IsNum (sym h) tt)
by_zero (choice f v w) = not_so (λ h. subst IsNum (sym h) tt)
by_zero no_value = not_so (λ h. subst IsNum (sym h) tt)

-- ---- all of it

pub by_admitted : (d : Design) → Reflects (Admitted d) (admitted_b d)
by_admitted d =
    by_iff
    (λ h. record {
      impl_sizes = h.0;
      spec_sizes = h.1.0;
      impl_spans = h.1.1.0;
      spec_spans = h.1.1.1.0;
      few_states = h.1.1.1.1.0;
      impl_one_row = h.1.1.1.1.1.0;
      spec_one_row = h.1.1.1.1.1.1.0;
      spec_visible = h.1.1.1.1.1.1.1.0;
      internal_data = h.1.1.1.1.1.1.1.1.0;
      same_span = h.1.1.1.1.1.1.1.1.1;
    })
    (λ a. (a.impl_sizes, (a.spec_sizes, (a.impl_spans, (a.spec_spans, (a.few_states, (a.impl_one_row, (a.spec_one_row, (a.spec_visible, (a.internal_data, a.same_span))))))))))
    (by_and (by_sizes d.impl)
    (by_and (by_sizes d.spec)
    (by_and (by_spans d.impl)
    (by_and (by_spans d.spec)
    (by_and (by_at_most (states d) 65536)
    (by_and (by_one d.impl.rows)
    (by_and (by_one d.spec.rows)
    (by_and (by_each _ _ (λ q. by_not (by_eqb q.action 0)) d.spec.rows)
    (by_and (by_each _ _ (λ r. by_if _ (by_eqb r.action 0) (λ _. by_zero r.carries)) d.impl.rows)
    (by_each _ _ (λ r. by_each _ _ (λ q. by_if _ (by_eqb r.action q.action) (λ _. by_eqb r.span q.span)) d.spec.rows) d.impl.rows))))))))))
