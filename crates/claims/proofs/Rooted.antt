-- Verdict 0 is given exactly if the initial states are rooted branching bisimilar: what says that a text is accepted says so of its design's
-- verdict, one way, and the way goes by the internal rows of the initial state, as rootedness does.
use Prim.Native.Nat.{ℕ}
use mathlib.Core.Path.{◌≡◌, sym, ap, ◌∙◌}
use mathlib.Core.List.{List}
use native.Mathlib.Omega.{arith}
use Rattle.verdicts.specs.declared.Acceptance.TheVariants.{AsIs, AfterInternal}
use Rattle.criteria.specs.Design.{Design, Admitted}
use Rattle.criteria.specs.Bisimilar.{InitialRooted}
use Rattle.criteria.specs.Verdict.{Acceptance, accepted}
use Rattle.criteria.specs.Verdict as criteria
use Rattle.criteria.proofs.Rooted.{rooted_exactly}
use Rattle.decision.specs.Verdict.{verdict_of}
use Rattle.decision.proofs.Demand2.{demand2}
use Rattle.design.specs.Lines.{design_text}
use Rattle.loader.proofs.Passed.{admitted}
use Rattle.answers.specs.declared.Verdict.TheVariants.{Accepted, TurnedDown}
use Rattle.desk.specs.declared.Desk.{Desk}
use Rattle.desk.specs.Desk.{tell_of}
use Rattle.stages.specs.Said.{said_verdict}
use Rattle.stages.proofs.Stages.{Stage, fresh, going, accepts, fails}
use Rattle.stages.proofs.Judging.{tell_at, decided_answer}
use Rattle.claims.specs.Rooted.{Exactly, Rooted}
use Rattle.claims.proofs.Kept.{Accepts, accepted_verdict}
use Rattle.claims.proofs.OneCall.{check_accepts}
use Rattle.claims.proofs.Reached.{accepts_not, reached}

-- ---- of a design whose verdict is acceptance

module _ (d : Design) (a : Admitted d) where
  as_is_rooted : verdict_of d ≡ accepted AsIs → InitialRooted d
  as_is_rooted v = let p = (demand2 d a).as_is.0 v in (rooted_exactly d a p.0).1 p.1

  after_internal_not : verdict_of d ≡ accepted AfterInternal → InitialRooted d → ⊥
  after_internal_not v r =
      let p = (demand2 d a).after_internal.0 v in
      let i = p.1 in
      (rooted_exactly d a p.0).0 r i.at i.row i.sum i.is_row i.internal i.enabled

-- ---- whatever says so only of designs that are accepted so

exactly : (text : List ℕ) (Says : Acceptance → Type 0) → ((how : Acceptance) → Says how → Accepts how text) → Exactly Says (design_text text)
exactly text Says says = record {
  as_is = (λ s. ((AsIs, s), is_rooted s), λ p. as_is_by p.0.0 p.0.1 p.1);
  after_internal = (λ s. ((AfterInternal, s), not_rooted s), λ p. after_by p.0.0 p.0.1 p.1);
}
  where
    is_rooted : Says AsIs → InitialRooted (design_text text)
    is_rooted s = let a = says AsIs s in as_is_rooted (design_text text) (admitted text a.free) a.verdict_is

    not_rooted : Says AfterInternal → InitialRooted (design_text text) → ⊥
    not_rooted s = let a = says AfterInternal s in after_internal_not (design_text text) (admitted text a.free) a.verdict_is

    as_is_by : (how : Acceptance) → Says how → InitialRooted (design_text text) → Says AsIs
    as_is_by AsIs s r = s
    as_is_by AfterInternal s r = absurd (not_rooted s r)

    after_by : (how : Acceptance) → Says how → (InitialRooted (design_text text) → ⊥) → Says AfterInternal
    after_by AsIs s n = absurd (n (is_rooted s))
    after_by AfterInternal s n = s

-- ---- what a verdict tells

open_not : {k : ℕ} {how : Acceptance} → TurnedDown k ≡ Accepted how → ⊥
open_not e = let z : ◌≡◌ {A = ℕ} 0 1 = cc in omega arith

said_so : (v : criteria.Verdict) (how : Acceptance) → said_verdict v ≡ Accepted how → v ≡ accepted how
said_so (criteria.accepted a) how e = cc
said_so (criteria.failed x) how e = let z : ◌≡◌ {A = ℕ} 0 1 = cc in absurd (omega arith)

told_accepts : (text : List ℕ) (d : Desk) → Stage text d → (how : Acceptance) → (tell_of d).answer ≡ Accepted how → Accepts how text
told_accepts text d (fresh h e z) how t = absurd (open_not (sym (tell_at d e) ∙ t))
told_accepts text d (going h e l u p) how t = absurd (open_not (sym (tell_at d e) ∙ t))
told_accepts text d (accepts a h e v) how t =
    record { free = h.free; verdict_is = said_so (verdict_of (design_text text)) how (sym (decided_answer text d (accepts a h e v) (accepts_not e)) ∙ t) }
told_accepts text d (fails x h e v) how t =
    let q : said_verdict (criteria.failed x) ≡ Accepted how = sym (tell_at d e) ∙ t in
    absurd (let z : ◌≡◌ {A = ℕ} 0 1 = cc in omega arith)

-- ---- every call

pub rooted : Rooted
rooted = record {
  by_check = λ {text} c. exactly text _ (λ how e. check_accepts how c e);
  by_advance = λ {text} c. exactly text _ (λ how a. accepted_verdict c a);
  by_verdict = λ {text} {desk = desk} c w t. exactly text _ (λ how e. told_accepts text desk (reached c w).stage how (sym (ap (λ x. x.answer) t.0) ∙ e));
}
