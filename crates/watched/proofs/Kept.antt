-- The law of keeping: at two states that do not differ in what a row's criteria watch, the second of them in size and in the invariant, a row
-- that keeps its criteria at the first keeps them at the second. It is said of designs in which invariant, mapping and measure have
-- values everywhere. Likewise that a row is not enabled, that an internal one has a marked step, and that a row of the specification is
-- replied to.
use mathlib.Core.Path.{◌≡◌, refl, ◌∙◌}
use mathlib.Core.Bool.{Bool, true, false, not, ◌&&◌, cond}
use mathlib.Core.List.{List, [], ◌∷◌, map}
use Prim.Native.Nat.{ℕ, ◌≤◌, ◌<◌}
use native.Mathlib.Omega.{arith}
use borrow.Author.Tests.{not-true}
use lib.Bits.{bit_or}
use lib.Dec.{eqb, ltb}
use lib.ListN.{length, get_or, length-map}
use Rattle.foundation.specs.Reflects.{◌⇒◌}
use Rattle.foundation.specs.Radix.{below_b, same_b}
use Rattle.terms.specs.Tree.{Value}
use Rattle.terms.proofs.And.{and_left, and_right, and_both}
use Rattle.terms.proofs.Sets.{Apart, apart_either}
use Rattle.reads.specs.Reads.{reads_v, reads_f, differ}
use Rattle.reads.proofs.Alike.{alike_v, alike_f}
use Rattle.criteria.specs.Design.{Design, Row, State, values, sizes, mapped, measure_at}
use Rattle.criteria.specs.Step.{next_state, data_number}
use Rattle.criteria.specs.Rows.{row_at, mark_of, marked_test}
use Rattle.decision.specs.Tests.{enabled_b, internal_b, marked_b, invariant_b, inside_b, has_invariant_b, has_mapping_b, has_measure_b, row_number, partner, holds3, holds4, holds5, holds6, holds8, holds9}
use Rattle.decision.specs.Quick.{row_holds}
use Rattle.watched.specs.Watched.{all_of, changes_from, changed_by_from, after_f, through, stays, follows_from, map_reads, enabling, internal_watched, visible_watched, watched, reply_watched}
use Rattle.watched.proofs.Step as step

-- invariant, mapping and measure have values everywhere
pub record HasEverywhere (d : Design) : Type 0 where
  pub invariant : (x : State) → has_invariant_b d x ≡ true
  pub mapping : (x : State) → has_mapping_b d x ≡ true
  pub measure : (x : State) → has_measure_b d x ≡ true

-- what follows from the same premise
implied : (a a' p p' : Bool) → a ≡ a' → (a ≡ true → p' ≡ true → p ≡ true) → (a' ⇒ p') ≡ true → (a ⇒ p) ≡ true
implied false a' p p' e f h = refl
implied true a' p p' e f h = f refl (rw (← e) at h)

module _ (d : Design) (s s' : State) (few : length s ≤ 8) (few' : length s' ≤ 8) (few-map : length d.mapping ≤ 8) where
  abbrev D : ℕ
  D = differ s s'

  abbrev t : State
  t = mapped d s

  abbrev t' : State
  t' = mapped d s'

  t_few : length t ≤ 8
  t_few = let n : length t ≡ length d.mapping = length-map d.mapping _ in omega arith

  t'_few : length t' ≤ 8
  t'_few = let n : length t' ≡ length d.mapping = length-map d.mapping _ in omega arith

  -- ---- the mapping

  values_kept : (ms : List Value) → Apart (all_of (map (λ (u : Value). reads_v u) ms)) D → values ms s 0 ≡ values ms s' 0
  unfolding all_of
  values_kept [] a = refl
  values_kept (m ∷ ms) a =
      let k = apart_either D (reads_v m) (all_of (map (λ (u : Value). reads_v u) ms)) a in
      rw (alike_v s s' few few' m 0 k.0, values_kept ms k.1)

  pub mapped_kept : Apart (all_of (map_reads d)) D → mapped d s ≡ mapped d s'
  mapped_kept a = values_kept d.mapping a

  -- ---- a row of the implementation

  module _ (k : ℕ) where
    abbrev r : Row
    r = row_at d.impl.rows k

    abbrev q : Row
    q = partner d.spec r.action

    abbrev c : ℕ
    c = changes_from 0 r.next

    pub enabled_kept : Apart (enabling d k) D → (e : ℕ) → enabled_b r s e ≡ enabled_b r s' e
    unfolding enabling
    enabled_kept a e = alike_f s s' few few' r.condition e a

    -- a row that isn't enabled keeps its criteria
    pub idle_kept : Apart (enabling d k) D → (e : ℕ) → enabled_b r s' e ≡ false → row_holds d s k r e ≡ true
    idle_kept a e off = rw (enabled_kept a e ∙ off)

    -- what it watches, part by part
    module _ (a : Apart (watched d k) D) where
      abbrev rest : ℕ
      rest = cond (internal_b r) (internal_watched d k c) (visible_watched d r q c)

      parts : Apart (enabling d k) D × Apart (changed_by_from 0 r.next) D × Apart (after_f c d.invariant) D × Apart rest D
      unfolding watched
      parts =
          let i : ℕ = after_f c d.invariant in
          let p = apart_either D (enabling d k) (bit_or (changed_by_from 0 r.next) (bit_or i rest)) a in
          let u = apart_either D (changed_by_from 0 r.next) (bit_or i rest) p.1 in
          let v = apart_either D i rest u.1 in
          (p.0, u.0, v.0, v.1)

      abbrev enables : Apart (enabling d k) D
      enables = parts.0

      abbrev by : Apart (changed_by_from 0 r.next) D
      by = parts.1

      internal_part : internal_b r ≡ true → Apart (internal_watched d k c) D
      internal_part y = (rw y at parts).3

      visible_part : internal_b r ≡ false → Apart (visible_watched d r q c) D
      visible_part y = (rw y at parts).3

      internal_parts : internal_b r ≡ true → Apart (reads_f (mark_of d k)) D × Apart (stays c (map_reads d)) D × Apart (reads_v d.measure) D
      unfolding internal_watched
      internal_parts y =
          let p = apart_either D (reads_f (mark_of d k)) (bit_or (stays c (map_reads d)) (reads_v d.measure)) (internal_part y) in
          let u = apart_either D (stays c (map_reads d)) (reads_v d.measure) p.1 in
          (p.0, u.0, u.1)

      visible_parts : internal_b r ≡ false
          → Apart (reads_v r.carries) D × Apart (through (map_reads d) (bit_or (reads_f q.condition) (reads_v q.carries))) D × Apart (follows_from (map_reads d) c 0 (map_reads d) q.next) D
      unfolding visible_watched
      visible_parts y =
          let m : ℕ = through (map_reads d) (bit_or (reads_f q.condition) (reads_v q.carries)) in
          let n : ℕ = follows_from (map_reads d) c 0 (map_reads d) q.next in
          let p = apart_either D (reads_v r.carries) (bit_or m n) (visible_part y) in
          let u = apart_either D m n p.1 in
          (p.0, u.0, u.1)

      -- the specification's side
      partner_parts : internal_b r ≡ false → Apart (reads_f q.condition) (differ t t') × Apart (reads_v q.carries) (differ t t')
      partner_parts y =
          apart_either (differ t t') (reads_f q.condition) (reads_v q.carries)
          (step.through_apart s s' few few' d.mapping (bit_or (reads_f q.condition) (reads_v q.carries)) (visible_parts y).1)

      -- the same steps are marked
      pub marked_kept : internal_b r ≡ true → (e : ℕ) → marked_b d k s e ≡ marked_b d k s' e
      marked_kept y e = alike_f s s' few few' (mark_of d k) e (internal_parts y).0

      -- an internal row with a marked step has it still
      pub loud_kept : (e : ℕ) → marked_test d s k r e ≡ marked_test d s' k r e
      loud_kept e = go (internal_b r) refl
        where
          go : (b : Bool) → internal_b r ≡ b → b && (enabled_b r s e && marked_b d k s e) ≡ b && (enabled_b r s' e && marked_b d k s' e)
          go true y = rw (enabled_kept enables e, marked_kept y e)
          go false y = refl

      module _ (has : HasEverywhere d) (few_next : length r.next ≤ 8) (ends : (i : ℕ) → length r.next ≤ i → get_or s i 0 ≡ 0)
          (inside : (i : ℕ) → i < length r.next → get_or s i 0 < get_or (sizes d.impl) i 0) (holds : invariant_b d s ≡ true) (e : ℕ) where
        abbrev x : State
        x = next_state r s e

        abbrev x' : State
        x' = next_state r s' e

        x_few : length x ≤ 8
        x_few = step.x_few s s' few few' e r.next few_next ends by

        x'_few : length x' ≤ 8
        x'_few = step.x'_few s s' few few' e r.next few_next ends by

        on : enabled_b r s e ≡ enabled_b r s' e
        on = enabled_kept enables e

        third : holds3 d s' r e ≡ true → holds3 d s r e ≡ true
        third h = implied (enabled_b r s e) (enabled_b r s' e) _ (inside_b d x' && has_invariant_b d x') on (λ y p. and_both (go (and_left (inside_b d x') (has_invariant_b d x') p)) (has.invariant x)) h
          where
            go : inside_b d x' ≡ true → inside_b d x ≡ true
            go p =
                and_both (step.sizes_kept s s' few few' e r.next few_next ends by (sizes d.impl) inside (and_left (below_b (sizes d.impl) x') (invariant_b d x') p))
                (step.invariant_kept s s' few few' e r.next few_next ends by d.invariant holds (and_right (below_b (sizes d.impl) x') (invariant_b d x') p) parts.2)

        fourth : holds4 d s' r e ≡ true → holds4 d s r e ≡ true
        fourth h =
            implied (enabled_b r s e) (enabled_b r s' e) _ (internal_b r ⇒ (same_b t' (mapped d x') && has_mapping_b d x')) on
            (λ y. implied (internal_b r) (internal_b r) _ (same_b t' (mapped d x') && has_mapping_b d x') refl
            (λ z p. and_both (step.mapping_kept s s' few few' e r.next few_next ends by d.mapping (and_left (same_b t' (mapped d x')) (has_mapping_b d x') p) (internal_parts z).1) (has.mapping x))) h

        measures : internal_b r ≡ true → (measure_at d x ≡ measure_at d x') × (measure_at d s ≡ measure_at d s')
        measures y =
            let m = (internal_parts y).2 in
            (alike_v x x' x_few x'_few d.measure 0 (step.after_all s s' few few' e r.next few_next ends by (reads_v d.measure) m), alike_v s s' few few' d.measure 0 m)

        fifth : holds5 d s' k r e ≡ true → holds5 d s k r e ≡ true
        fifth h =
            let less : Bool = ltb (measure_at d x') (measure_at d s') in
            implied (enabled_b r s e) (enabled_b r s' e) _ (internal_b r ⇒ marked_b d k s' e ⇒ (less && has_measure_b d x')) on
            (λ y. implied (internal_b r) (internal_b r) _ (marked_b d k s' e ⇒ (less && has_measure_b d x')) refl
            (λ z. implied (marked_b d k s e) (marked_b d k s' e) _ (less && has_measure_b d x') (marked_kept z e)
            (λ u p. and_both (go z ∙ and_left less (has_measure_b d x') p) (has.measure x)))) h
          where
            go : internal_b r ≡ true → ltb (measure_at d x) (measure_at d s) ≡ ltb (measure_at d x') (measure_at d s')
            go z = rw ((measures z).0, (measures z).1)

        sixth : holds6 d s' r e ≡ true → holds6 d s r e ≡ true
        sixth h =
            implied (enabled_b r s e) (enabled_b r s' e) _ (not (internal_b r) ⇒ enabled_b q t' e) on
            (λ y. implied (not (internal_b r)) (not (internal_b r)) _ (enabled_b q t' e) refl
            (λ z p. alike_f t t' t_few t'_few q.condition e (partner_parts (not-true (internal_b r) z)).0 ∙ p)) h

        eighth : holds8 d s' r e ≡ true → holds8 d s r e ≡ true
        eighth h =
            let there : Bool = not (eqb (row_number d.spec r.action) 0) in
            let same-data : Bool = eqb (data_number r s' e) (data_number q t' e) in
            implied (enabled_b r s e) (enabled_b r s' e) _ (not (internal_b r) ⇒ there ⇒ same-data) on
            (λ y. implied (not (internal_b r)) (not (internal_b r)) _ (there ⇒ same-data) refl
            (λ z. implied there there _ same-data refl (λ u p. go (not-true (internal_b r) z) ∙ p))) h
          where
            go : internal_b r ≡ false → eqb (data_number r s e) (data_number q t e) ≡ eqb (data_number r s' e) (data_number q t' e)
            go z = rw (alike_v s s' few few' r.carries e (visible_parts z).0, alike_v t t' t_few t'_few q.carries e (partner_parts z).1)

        ninth : holds9 d s' r e ≡ true → holds9 d s r e ≡ true
        ninth h =
            let there : Bool = not (eqb (row_number d.spec r.action) 0) in
            let led : Bool = same_b (mapped d x') (next_state q t' e) in
            implied (enabled_b r s e) (enabled_b r s' e) _ (not (internal_b r) ⇒ there ⇒ (led && has_mapping_b d x')) on
            (λ y. implied (not (internal_b r)) (not (internal_b r)) _ (there ⇒ (led && has_mapping_b d x')) refl
            (λ z. implied there there _ (led && has_mapping_b d x') refl
            (λ u p. and_both (step.follows_kept s s' few few' e r.next few_next ends by d.mapping few-map q.next (and_left led (has_mapping_b d x') p) (visible_parts (not-true (internal_b r) z)).2) (has.mapping x)))) h

        -- ---- all criteria

        from8 : holds8 d s' r e && holds9 d s' r e ≡ true → holds8 d s r e && holds9 d s r e ≡ true
        from8 h = and_both (eighth (and_left (holds8 d s' r e) (holds9 d s' r e) h)) (ninth (and_right (holds8 d s' r e) (holds9 d s' r e) h))

        pub row_kept : row_holds d s' k r e ≡ true → row_holds d s k r e ≡ true
        row_kept h =
            let p8 : Bool = holds8 d s' r e && holds9 d s' r e in
            let p6 : Bool = holds6 d s' r e && p8 in
            let p5 : Bool = holds5 d s' k r e && p6 in
            let p4 : Bool = holds4 d s' r e && p5 in
            let h4 = and_right (holds3 d s' r e) p4 h in
            let h5 = and_right (holds4 d s' r e) p5 h4 in
            let h6 = and_right (holds5 d s' k r e) p6 h5 in
            let h8 = and_right (holds6 d s' r e) p8 h6 in
            and_both (third (and_left (holds3 d s' r e) p4 h)) (and_both (fourth (and_left (holds4 d s' r e) p5 h4))
            (and_both (fifth (and_left (holds5 d s' k r e) p6 h5)) (and_both (sixth (and_left (holds6 d s' r e) p8 h6)) (from8 h8))))

  -- ---- a row of the specification

  module _ (k : ℕ) where
    abbrev w : Row
    w = row_at d.spec.rows k

    abbrev back : Row
    back = partner d.impl w.action

    pub reply_kept : Apart (reply_watched d k) D → (e : ℕ) → (enabled_b w t e ⇒ enabled_b back s e) ≡ (enabled_b w t' e ⇒ enabled_b back s' e)
    unfolding reply_watched
    reply_kept a e =
        let p = apart_either D (through (map_reads d) (reads_f w.condition)) (reads_f back.condition) a in
        rw (alike_f t t' t_few t'_few w.condition e (step.through_apart s s' few few' d.mapping (reads_f w.condition) p.0), alike_f s s' few few' back.condition e p.1)
