-- Which parameters decide whether a row keeps its criteria, as sets like those of the crate reads. Where two states in which the invariant
-- holds do not differ in these, a row that keeps its criteria at one keeps them at the other (proofs/Kept): what a step leaves as it is need
-- not be asked again. d a design, c what a step may change, rs what each mapped value reads.
use Rattle.std.specs.Prelude.{cond, List, [], ◌∷◌, map, ℕ, suc, ◌-◌, eqb}
use Rattle.std.specs.Int.Bits.{bit_and, bit_or}
use Rattle.terms.specs.Tree.{Value, Formula, const, compare, negation, join, no_formula}
use Rattle.terms.specs.declared.Join.TheVariants.{And, Or}
use Rattle.reads.specs.Reads.{only, reads_v, reads_f, is_par}
use Rattle.criteria.specs.Design.{Design, Row}
use Rattle.criteria.specs.Rows.{row_at, mark_of}
use Rattle.decision.specs.Tests.{internal_b, partner}

-- ---- sets

-- what is in a and not in c
abbrev pub without : ℕ → ℕ → ℕ
without a c = a - bit_and a c

-- r where it meets c, else nothing
unfoldable pub meeting : ℕ → ℕ → ℕ
meeting c r = cond (eqb (bit_and r c) 0) 0 r

-- ---- a step

-- the parameters, from j on, that their next values may change, and what these next values read; `1 j` leaves parameter j as it is
unfoldable pub changes_from : ℕ → List Value → ℕ
changes_from j [] = 0
changes_from j (t ∷ ts) = bit_or (cond (is_par j t) 0 (only j)) (changes_from (suc j) ts)

unfoldable pub changed_by_from : ℕ → List Value → ℕ
changed_by_from j [] = 0
changed_by_from j (t ∷ ts) = bit_or (cond (is_par j t) 0 (reads_v t)) (changed_by_from (suc j) ts)

-- what decides whether a formula that held before the step holds after it, part by part of a conjunction, the changed parameters apart
unfoldable pub after_f : ℕ → Formula → ℕ
after_f c (join And f g) = bit_or (after_f c f) (after_f c g)
after_f c (join Or f g) = let r = bit_or (reads_f f) (reads_f g) in without (meeting c r) c
after_f c (const b) = 0
after_f c (compare o a b) = let r = bit_or (reads_v a) (reads_v b) in without (meeting c r) c
after_f c (negation f) = without (meeting c (reads_f f)) c
after_f c no_formula = 0

-- ---- the mapping

abbrev pub map_reads : Design → List ℕ
map_reads d = map (λ (t : Value). reads_v t) d.mapping

-- what all of these read
unfoldable pub all_of : List ℕ → ℕ
all_of [] = 0
all_of (r ∷ rs) = bit_or r (all_of rs)

-- what is read through the mapping by one who reads the mapped values m, those from number i on
unfoldable pub through_from : ℕ → List ℕ → ℕ → ℕ
through_from i [] m = 0
through_from i (r ∷ rs) m = bit_or (cond (eqb (bit_and m (only i)) 0) 0 r) (through_from (suc i) rs m)

abbrev pub through : List ℕ → ℕ → ℕ
through rs m = through_from 0 rs m

-- what decides whether each mapped value stays the same
unfoldable pub stays : ℕ → List ℕ → ℕ
stays c [] = 0
stays c (r ∷ rs) = bit_or (meeting c r) (stays c rs)

-- what decides whether mapped value i, which reads r, is after the step what the specification's next value t says
unfoldable pub follows_at : List ℕ → ℕ → ℕ → ℕ → Value → ℕ
follows_at rs c i r t = cond (is_par i t) (meeting c r) (bit_or (without r c) (through rs (reads_v t)))

unfoldable pub follows_from : List ℕ → ℕ → ℕ → List ℕ → List Value → ℕ
follows_from all c i [] ts = 0
follows_from all c i (r ∷ rs) [] = 0
follows_from all c i (r ∷ rs) (t ∷ ts) = bit_or (follows_at all c i r t) (follows_from all c (suc i) rs ts)

-- ---- the rows of the implementation

-- what decides whether row k is enabled
unfoldable pub enabling : Design → ℕ → ℕ
enabling d k = reads_f (row_at d.impl.rows k).condition

-- criteria 4 and 5, where it is internal
unfoldable pub internal_watched : Design → ℕ → ℕ → ℕ
internal_watched d k c = bit_or (reads_f (mark_of d k)) (bit_or (stays c (map_reads d)) (reads_v d.measure))

-- criteria 6, 8 and 9, where it is visible; q is its partner
unfoldable pub visible_watched : Design → Row → Row → ℕ → ℕ
visible_watched d r q c =
    bit_or (reads_v r.carries)
    (bit_or (through (map_reads d) (bit_or (reads_f q.condition) (reads_v q.carries))) (follows_from (map_reads d) c 0 (map_reads d) q.next))

-- all its criteria
unfoldable pub watched : Design → ℕ → ℕ
watched d k =
    let r : Row = row_at d.impl.rows k in
    let c : ℕ = changes_from 0 r.next in
    bit_or (enabling d k)
    (bit_or (changed_by_from 0 r.next)
    (bit_or (after_f c d.invariant)
    (cond (internal_b r) (internal_watched d k c) (visible_watched d r (partner d.spec r.action) c))))

-- ---- the rows of the specification

-- what decides whether row k, at the mapped state, and its partner are enabled: criterion 7
unfoldable pub reply_watched : Design → ℕ → ℕ
reply_watched d k =
    let q : Row = row_at d.spec.rows k in
    bit_or (through (map_reads d) (reads_f q.condition)) (reads_f (partner d.impl q.action).condition)
