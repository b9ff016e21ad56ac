-- Two bisimilar states are rooted bisimilar where no internal row is enabled in the implementation's, marked or not: every first step is
-- answered and replied at once. That it is so only there: proofs/Rooted.
use mathlib.Core.Path.{◌≡◌, refl, sym, ◌∙◌, subst}
use Prim.Native.Nat.{ℕ}
use Rattle.criteria.specs.Design.{Design, State}
use Rattle.criteria.specs.Step.{Label, Step, NoInternal, Chain, none, more}
use Rattle.criteria.specs.Bisimilar.{Bisimilar, RootedAnswer, RootedReply, RootedBisimilar}

module _ (d : Design) (s t : State) where
  module _ (b : Bisimilar d s t) (quiet : NoInternal d.impl s) where
    stays : {u u' : State} {n : ℕ} → Chain d u n u' → u ≡ s → u' ≡ s
    stays none e = e
    stays (more {u = w} i c) e =
        let p = subst (λ x. Step d.impl i.label x w) e i.step in
        absurd (quiet p.at p.row p.sum p.is_row (p.action ∙ i.zero) p.enabled)

    answered : (s' : State) (l : Label) → Step d.impl l s s' → RootedAnswer d l t s'
    answered s' l p =
        let seen : l.action ≡ 0 → ⊥ = λ z. quiet p.at p.row p.sum p.is_row (p.action ∙ z) p.enabled in
        let a = b.is_bisimulation.visible s t s' l b.relates (record { step = p; nonzero = seen }) in
        record { to = a.to; step = a.step; bisimilar = record { relation = b.relation; is_bisimulation = b.is_bisimulation; relates = a.related } }

    replied : (t' : State) (l : Label) → Step d.spec l t t' → RootedReply d l s t'
    replied t' l p =
        let r = b.is_bisimulation.back s t t' l b.relates p in
        record {
          to = r.to;
          step = subst (λ x. Step d.impl l x r.to) (stays r.chain refl) r.step;
          bisimilar = record { relation = b.relation; is_bisimulation = b.is_bisimulation; relates = r.related };
        }

    pub quiet_rooted : RootedBisimilar d s t
    quiet_rooted = record {
      relation = λ x y. (x ≡ s) × (y ≡ t);
      is_rooted = record {
        between = λ x y r. rw (r.0, r.1) (b.is_bisimulation.between s t b.relates);
        forth = λ x y s' l r p. subst (λ u. RootedAnswer d l u s') (sym r.1) (answered s' l (subst (λ u. Step d.impl l u s') r.0 p));
        back = λ x y t' l r p. subst (λ u. RootedReply d l u t') (sym r.0) (replied t' l (subst (λ u. Step d.spec l u t') r.1 p));
      };
      relates = (refl, refl);
    }
