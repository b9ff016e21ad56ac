-- Bisimilarity tells states apart, with a witness for each part of its definition: an implementation that can do nothing where the
-- specification can do something (`stuck_differs`: there is a reply), one whose action carries another number (`data_differs`: there is
-- an answer with the same label), one with an internal step to where it can do nothing (`trap_differs`: internal steps lead to related
-- states), one whose action may lead there (`fall_differs`: so do a step and its answer), and one that goes on where the specification's
-- action may lead to where that can do nothing (`end_differs`: so do a step and its reply). And for rooted bisimilarity: the same but for the
-- internal step (`rooted_..`), and one that may begin with an internal step that changes nothing (`idle_differs`: it is answered too).
use mathlib.Core.Path.{◌≡◌, refl, sym, ◌∙◌, subst}
use mathlib.Core.Bool.{true, true≢false}
use mathlib.Core.List.{List, [], ◌∷◌}
use Prim.Native.Nat.{ℕ}
use native.Mathlib.Omega.{arith}
use Rattle.foundation.specs.Nth.{first, later, EachIs}
use Rattle.foundation.proofs.Nth.{nth_nil, nth_cons}
use Rattle.terms.specs.Tree.{Formula, const, num, par, compare, eval_v, eval_f}
use Rattle.terms.specs.Meaning.{meant_v, meant_f, Has}
use Rattle.terms.proofs.Meaning.{holds_says, value_says}
use Rattle.terms.specs.declared.Compare.TheVariants.{Equal}
use Rattle.criteria.specs.Design.{Design, Row, Process, State, Have}
use Rattle.criteria.specs.Step.{Label, Step, Chain, none, more, data_number, next_state}
use Rattle.criteria.specs.Bisimilar.{Bisimilar, RootedBisimilar}

-- action 1 with the number n, at any time
abbrev always : ℕ → Row
always n = record { action = 1; span = 1; condition = const true; carries = num n; next = num 0 ∷ [] }

abbrev one_state : List Row → Process
one_state rows = record { parameters = record { size = 1; initial = 0 } ∷ []; rows = rows }

abbrev one : State
one = 0 ∷ []

abbrev label : ℕ → Label
label n = record { action = 1; number = n }

-- this implementation beside a specification that does action 1 with the number 7
abbrev beside : List Row → Design
beside rows = record { impl = one_state rows; spec = one_state (always 7 ∷ []); invariant = const true; mapping = num 0 ∷ []; measure = num 0; marks = [] }

-- a number has its value
number_has : (n : ℕ) (s : State) (e : ℕ) → Have (num n ∷ []) s e
unfolding meant_v
number_has n s e = nth_cons (λ v. Has (meant_v v s e)) (record { value = n; is = refl }) (λ k x at. absurd (nth_nil at))

steps : (n : ℕ) → Step (one_state (always n ∷ [])) (label n) one one
unfolding eval_v meant_v meant_f
steps n = record { at = 1; row = always n; sum = 0; is_row = first; enabled = record { in_span = omega arith; condition = refl }; action = refl; number = refl; goes = record { have = number_has 0 one 0; same = refl } }

-- it can do nothing
pub stuck_differs : Bisimilar (beside []) one one → ⊥
stuck_differs b = nth_nil (b.is_bisimulation.back one one one (label 7) b.relates (steps 7)).step.is_row

-- it carries 5
seven : EachIs (always 7 ∷ []) (λ r. (t : State) (e : ℕ) → data_number r t e ≡ 5 → ⊥)
unfolding eval_v
seven = nth_cons (λ r. (t : State) (e : ℕ) → data_number r t e ≡ 5 → ⊥) (λ t e h. omega arith) (λ k x at. absurd (nth_nil at))

pub data_differs : Bisimilar (beside (always 5 ∷ [])) one one → ⊥
data_differs b =
    let answer = (b.is_bisimulation.visible one one one (label 5) b.relates (record { step = steps 5; nonzero = λ h. omega arith })).step in
    seven answer.at answer.row answer.is_row one answer.sum (value_says answer.row.carries one answer.sum 5 answer.number).1

-- ---- into a stuck state

-- where the parameter is 0: action 1 with the number 7, which stays there
abbrev at_0 : Formula
at_0 = compare Equal (par 0) (num 0)

abbrev stays : Row
stays = record { action = 1; span = 1; condition = at_0; carries = num 7; next = num 0 ∷ [] }

-- and a row that leads to 1, where nothing is enabled: an internal one, or the same action again
abbrev falls : ℕ → ℕ → Row
falls a n = record { action = a; span = 1; condition = at_0; carries = num n; next = num 1 ∷ [] }

abbrev two_states : ℕ → ℕ → Process
two_states a n = record { parameters = record { size = 2; initial = 0 } ∷ []; rows = stays ∷ falls a n ∷ [] }

abbrev both : Process → Process → Design
both impl spec = record { impl = impl; spec = spec; invariant = const true; mapping = num 0 ∷ []; measure = num 0; marks = [] }

abbrev stuck : State
stuck = 1 ∷ []

falling : (a n : ℕ) → Step (two_states a n) (record { action = a; number = n }) one stuck
unfolding eval_v meant_v meant_f
falling a n = record { at = 2; row = falls a n; sum = 0; is_row = later first; enabled = record { in_span = omega arith; condition = refl }; action = refl; number = refl; goes = record { have = number_has 1 one 0; same = refl } }

module _ (a n : ℕ) where
  none_enabled : EachIs (two_states a n).rows (λ r. (e : ℕ) → eval_f r.condition stuck e ≡ true → ⊥)
  unfolding eval_f
  none_enabled =
      nth_cons (λ r. (e : ℕ) → eval_f r.condition stuck e ≡ true → ⊥) (λ e h. true≢false (sym h))
      (nth_cons (λ r. (e : ℕ) → eval_f r.condition stuck e ≡ true → ⊥) (λ e h. true≢false (sym h)) (λ k x at. absurd (nth_nil at)))

  no_step : {l : Label} {s : State} → Step (two_states a n) l stuck s → ⊥
  no_step x = none_enabled x.at x.row x.is_row x.sum (holds_says x.row.condition stuck x.sum x.enabled.condition).1

  -- beside a specification that does action 1 with the number 7 at any time
  abbrev trap : Design
  trap = both (two_states a n) (one_state (always 7 ∷ []))

  no_reply : {l : Label} {s u : State} {k : ℕ} → Chain trap s k u → s ≡ stuck → {s' : State} → Step (two_states a n) l u s' → ⊥
  no_reply none e x = no_step (rw e at x)
  no_reply (more i c) e x = no_step (rw e at i.step)

  -- a stuck state is no such specification's state
  stuck_other : Bisimilar trap stuck one → ⊥
  stuck_other b = let reply = b.is_bisimulation.back stuck one one (label 7) b.relates (steps 7) in no_reply reply.chain refl reply.step

  stuck_apart : (b : Bisimilar trap one one) → b.relation stuck one → ⊥
  stuck_apart b related = stuck_other (record { relation = b.relation; is_bisimulation = b.is_bisimulation; relates = related })

-- an internal step leads there
pub trap_differs : Bisimilar (trap 0 0) one one → ⊥
trap_differs b =
    stuck_apart 0 0 b
    (b.is_bisimulation.internal one one stuck b.relates (record { label = record { action = 0; number = 0 }; step = falling 0 0; zero = refl }))

-- the action leads there: its answer leads elsewhere
only_one : {l : Label} {t : State} → Step (one_state (always 7 ∷ [])) l one t → t ≡ one
unfolding eval_v
only_one {t = t} x = goes_one x.at x.row x.is_row x.sum t x.goes.same
  where
    goes_one : EachIs (always 7 ∷ []) (λ r. (e : ℕ) (u : State) → next_state r one e ≡ u → u ≡ one)
    goes_one = nth_cons (λ r. (e : ℕ) (u : State) → next_state r one e ≡ u → u ≡ one) (λ e u h. sym h) (λ k y at. absurd (nth_nil at))

pub fall_differs : Bisimilar (trap 1 7) one one → ⊥
fall_differs b =
    let answer = b.is_bisimulation.visible one one stuck (label 7) b.relates (record { step = falling 1 7; nonzero = λ h. omega arith }) in
    stuck_apart 1 7 b (subst (λ t. b.relation stuck t) (only_one answer.step) answer.related)

-- the specification's action leads there: the implementation goes on
abbrev ends : Design
ends = both (one_state (always 7 ∷ [])) (two_states 1 7)

visible_rows : EachIs (always 7 ∷ []) (λ r. r.action ≡ 0 → ⊥)
visible_rows = nth_cons (λ r. r.action ≡ 0 → ⊥) (λ h. omega arith) (λ k y at. absurd (nth_nil at))

pub end_differs : Bisimilar ends one one → ⊥
end_differs b =
    let reply = b.is_bisimulation.back one one stuck (label 7) b.relates (falling 1 7) in
    let there = subst (λ s. b.relation s stuck) (only_one (subst (λ s. Step (one_state (always 7 ∷ [])) (label 7) s reply.to) (stays_one reply.chain refl) reply.step)) reply.related in
    no_step 1 7 (b.is_bisimulation.visible one stuck one (label 7) there (record { step = steps 7; nonzero = λ h. omega arith })).step
  where
    stays_one : {s u : State} {k : ℕ} → Chain ends s k u → s ≡ one → u ≡ one
    stays_one none e = e
    stays_one (more i c) e = absurd (visible_rows i.step.at i.step.row i.step.is_row (i.step.action ∙ i.zero))

-- ---- rooted

pub rooted_stuck_differs : RootedBisimilar (beside []) one one → ⊥
rooted_stuck_differs b = nth_nil (b.is_rooted.back one one one (label 7) b.relates (steps 7)).step.is_row

pub rooted_data_differs : RootedBisimilar (beside (always 5 ∷ [])) one one → ⊥
rooted_data_differs b =
    let answer = (b.is_rooted.forth one one one (label 5) b.relates (steps 5)).step in
    seven answer.at answer.row answer.is_row one answer.sum (value_says answer.row.carries one answer.sum 5 answer.number).1

pub rooted_fall_differs : RootedBisimilar (trap 1 7) one one → ⊥
rooted_fall_differs b =
    let answer = b.is_rooted.forth one one stuck (label 7) b.relates (falling 1 7) in
    stuck_other 1 7 (subst (Bisimilar (trap 1 7) stuck) (only_one answer.step) answer.bisimilar)

pub rooted_end_differs : RootedBisimilar ends one one → ⊥
rooted_end_differs b =
    let reply = b.is_rooted.back one one stuck (label 7) b.relates (falling 1 7) in
    let there = subst (λ s. Bisimilar ends s stuck) (only_one reply.step) reply.bisimilar in
    no_step 1 7 (there.is_bisimulation.visible one stuck one (label 7) there.relates (record { step = steps 7; nonzero = λ h. omega arith })).step

-- an internal step that stays
abbrev idle : Row
idle = record { action = 0; span = 1; condition = const true; carries = num 0; next = num 0 ∷ [] }

idles : Step (one_state (always 7 ∷ idle ∷ [])) (record { action = 0; number = 0 }) one one
unfolding eval_v meant_v meant_f
idles = record { at = 2; row = idle; sum = 0; is_row = later first; enabled = record { in_span = omega arith; condition = refl }; action = refl; number = refl; goes = record { have = number_has 0 one 0; same = refl } }

pub idle_differs : RootedBisimilar (beside (always 7 ∷ idle ∷ [])) one one → ⊥
idle_differs b =
    let answer = (b.is_rooted.forth one one one (record { action = 0; number = 0 }) b.relates idles).step in
    visible_rows answer.at answer.row answer.is_row answer.action
