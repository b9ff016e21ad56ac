-- The states in the invariant, each with its mapped state, are a branching bisimulation where the criteria hold: a visible step is
-- answered at once (criteria 6, 8, 9), a step of the specification after a run to a focus point (criteria 7, 8, 9).
use mathlib.Core.Path.{◌≡◌, refl, sym, ◌∙◌, ap, subst}
use mathlib.Core.Option.{some}
use Prim.Native.Nat.{ℕ}
use Rattle.terms.specs.Meaning.{meant_v}
use Rattle.terms.proofs.Meaning.{has_says_v, says_value, value_says}
use Rattle.criteria.specs.Design.{Design, Row, State, StateOf, InvariantState, Admitted, HasMeasure, mapped}
use Rattle.criteria.specs.Step.{Label, Step, Enabled, Visible, FocusPoint, next_state, data_number}
use Rattle.criteria.specs.Criteria.{Criteria, RowHas, OthersHave, Partner}
use Rattle.criteria.specs.Bisimilar.{Answer, Reply, BranchingBisimulation, Promised}
use Rattle.criteria.proofs.Parameters.{size_16_bits}
use Rattle.criteria.proofs.Runs.{step_inside_lem, internal_inside, internal_mapped, along, run_chain, chain_stays, run_kept, reaches}

-- the relation: s is inside, and t is its mapped state
pub record Related (d : Design) (s t : State) : Type 0 where
  pub inside : InvariantState d s
  pub is_mapped : mapped d s ≡ t

-- a step of the implementation from s with the label l, to a state related to t'
pub record AtOnce (d : Design) (l : Label) (s t' : State) : Type 0 where
  pub to : State
  pub step : Step d.impl l s to
  pub related : Related d to t'

-- what a row carries that has its values there
pub carries_some : {r : Row} {s : State} {e : ℕ} → RowHas r s → Enabled r s e → meant_v r.carries s e ≡ some (data_number r s e)
carries_some {r} {s} {e} h on = says_value r.carries s e (has_says_v r.carries s e (h.carries e on))

module _ (d : Design) (a : Admitted d) (have : (s : State) → InvariantState d s → OthersHave d s) (others : (s : State) → InvariantState d s → Criteria d s) where
  -- criteria 6, 8, 9: a visible step of s is answered by the mapped state
  answer : (s s' : State) (l : Label) → InvariantState d s → Visible d.impl l s s' → Answer d (Related d) l (mapped d s) s'
  answer s s' l i v =
      let st = v.step in
      let c = others s i in
      let seen : st.row.action ≡ 0 → ⊥ = λ z. v.nonzero (sym st.action ∙ z) in
      let q = c.sixth st.at st.row st.sum st.is_row st.enabled seen in
      let h = (have s i).spec q.at q.row q.is_row in
      let partner : Partner d st.row q.row = (q.at, (q.is_row, q.same)) in
      let equal-data = c.eighth st.at st.row st.sum st.is_row st.enabled seen q.row partner in
      let equal_next = c.ninth st.at st.row st.sum st.is_row st.enabled seen q.row partner in
      record {
        to = next_state q.row (mapped d s) st.sum;
        step = record {
          at = q.at;
          row = q.row;
          sum = st.sum;
          is_row = q.is_row;
          enabled = q.enabled;
          action = q.same ∙ st.action;
          number = carries_some h q.enabled ∙ ap some (sym equal-data ∙ (value_says st.row.carries s st.sum l.number st.number).1);
          goes = record { have = h.next st.sum q.enabled; same = refl };
        };
        related = record { inside = step_inside_lem d have others s s' l i st; is_mapped = ap (λ u. mapped d u) (sym st.goes.same) ∙ equal_next.same };
      }

  -- criteria 7, 8, 9: at a focus point a step of the mapped state is answered at once
  reply_at : (s t' : State) (l : Label) → InvariantState d s → FocusPoint d s → Step d.spec l (mapped d s) t' → AtOnce d l s t'
  reply_at s t' l i focus st =
      let c = others s i in
      let p = c.seventh st.at st.row st.sum st.is_row focus st.enabled in
      let seen : p.row.action ≡ 0 → ⊥ = λ z. a.spec_visible st.at st.row st.is_row (sym p.same ∙ z) in
      let h = (have s i).impl p.at p.row p.is_row in
      let partner : Partner d p.row st.row = (st.at, (st.is_row, sym p.same)) in
      let equal-data = c.eighth p.at p.row st.sum p.is_row p.enabled seen st.row partner in
      let equal_next = c.ninth p.at p.row st.sum p.is_row p.enabled seen st.row partner in
      record {
        to = next_state p.row s st.sum;
        step = record {
          at = p.at;
          row = p.row;
          sum = st.sum;
          is_row = p.is_row;
          enabled = p.enabled;
          action = p.same ∙ st.action;
          number = carries_some h p.enabled ∙ ap some (equal-data ∙ (value_says st.row.carries (mapped d s) st.sum l.number st.number).1);
          goes = record { have = h.next st.sum p.enabled; same = refl };
        };
        related = record { inside = c.third p.at p.row st.sum p.is_row p.enabled; is_mapped = equal_next.same ∙ st.goes.same };
      }

  -- and elsewhere after a run to a focus point, which has the same mapped state
  reply : (s t' : State) (l : Label) → InvariantState d s → Step d.spec l (mapped d s) t' → Reply d (Related d) l s (mapped d s) t'
  reply s t' l i st =
      let f = reaches d have others s i in
      let r = along d have others s f.end f.length i f.run in
      let same : mapped d f.end ≡ mapped d s = r.same_mapped in
      let w = reply_at f.end t' l r.inside f.focus (subst (λ t. Step d.spec l t t') (sym same) st) in
      record {
        length = f.length;
        before = f.end;
        chain = run_chain d f.run;
        still = record { inside = r.inside; is_mapped = same };
        to = w.to;
        step = w.step;
        related = w.related;
      }

  pub bisimulation : BranchingBisimulation d (Related d)
  bisimulation = record {
    between = λ s t r. (r.inside.in_size, subst (StateOf d.spec) r.is_mapped (size_16_bits d.spec a.spec_sizes (mapped d s) (others s r.inside).second));
    internal = λ s t s' r st. record { inside = internal_inside d have others s s' r.inside st; is_mapped = internal_mapped d have others s s' r.inside st ∙ r.is_mapped };
    visible = λ s t s' l r v. subst (λ u. Answer d (Related d) l u s') r.is_mapped (answer s s' l r.inside v);
    back = λ s t t' l r st. subst (λ u. Reply d (Related d) l s u t') r.is_mapped (reply s t' l r.inside (subst (λ u. Step d.spec l u t') (sym r.is_mapped) st));
  }

  pub promised : (s : State) → InvariantState d s → HasMeasure d s → Promised d s
  promised s i m = record {
    has_mapped = (have s i).mapping;
    has_measure = m;
    bisimilar = record { relation = Related d; is_bisimulation = bisimulation; relates = record { inside = i; is_mapped = refl } };
    runs = run_kept d have others s i;
    reaches = reaches d have others s i;
    chains = chain_stays d have others s i;
  }
