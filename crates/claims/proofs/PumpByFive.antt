-- The pump table advanced by 5, call by call on a new desk: "open 5, open 5, accepted 2"; and with data of row 3 `0 0`: "open 5, failed 5".
use Prim.Native.Nat.{ℕ, ◌+◌, ◌<◌}
use mathlib.Core.Path.{◌≡◌, refl, ◌∙◌, subst}
use mathlib.Core.List.{List, [], ◌∷◌}
use native.Mathlib.Omega.{arith}
use Rattle.foundation.specs.First.{first_in, all_in_range}
use Rattle.foundation.specs.Nth.{first, later}
use Rattle.foundation.specs.Radix.{values_of}
use Rattle.foundation.specs.Walk.{walk}
use Rattle.terms.specs.Tree.{eval_v, has_v}
use Rattle.decision.specs.Tests.{row_from}
use Rattle.decision.specs.Examine.{examine}
use Rattle.verdicts.specs.declared.Acceptance.TheVariants.{AsIs}
use Rattle.decision.specs.Verdict.{checked, acceptance_of, verdict_of}
use Rattle.pump.specs.Table.{given, wrong_data, Case, case, cases}
use Rattle.answers.specs.declared.Phase.TheVariants as phase
use Rattle.answers.specs.declared.Done.{Done}
use Rattle.answers.specs.declared.Done.TheVariants as done
use Rattle.answers.specs.declared.Advance.{Advance}
use Rattle.answers.specs.declared.Advance.TheVariants as progress
use Rattle.desk.specs.declared.Desk.{Desk}
use Rattle.stages.specs.Count.{stop_of, due_of}
use Rattle.claims.specs.Calls.{Called, load, advance, Walked}
use Rattle.claims.specs.Calls as calls
use Rattle.claims.specs.Contracted.{Calls}
use Rattle.claims.proofs.Divided.{Advanced, last_advance, Loaded, only_load, load_done, next_due}
use Rattle.claims.specs.Pump.{text_for, Reports}
use Rattle.claims.proofs.Pump.{pump_reports}

abbrev as_given : Case
as_given = case given 0 0 0 0 0

abbrev with_wrong_data : Case
with_wrong_data = case wrong_data 1 8 9 3 0

-- ---- computed: what is due, and when the check is decided

given_due : (due_of given (verdict_of given) 0 5 ≡ progress.Open 5) × (due_of given (verdict_of given) 5 5 ≡ progress.Open 5) × (due_of given (verdict_of given) 10 5 ≡ progress.Accepted AsIs 2)
unfolding due_of checked acceptance_of examine walk first_in all_in_range values_of row_from eval_v has_v
given_due = (refl, refl, refl)

wrong_due : (due_of wrong_data (verdict_of wrong_data) 0 5 ≡ progress.Open 5) × (due_of wrong_data (verdict_of wrong_data) 5 5 ≡ progress.Failed 5)
unfolding due_of checked acceptance_of examine walk first_in all_in_range values_of row_from eval_v has_v
wrong_due = (refl, refl)

given_stop : stop_of given (verdict_of given) ≡ 12
unfolding checked acceptance_of examine walk first_in all_in_range values_of row_from eval_v has_v
given_stop = refl

wrong_stop : stop_of wrong_data (verdict_of wrong_data) ≡ 10
unfolding checked acceptance_of examine walk first_in all_in_range values_of row_from eval_v has_v
wrong_stop = refl

given_reports : Reports as_given
unfolding cases
given_reports = pump_reports 1 as_given first

wrong_reports : Reports with_wrong_data
unfolding cases
wrong_reports = pump_reports 2 with_wrong_data (later first)

-- ---- call by call

module _ (c : Case) (r : Reports c) where
  -- an advance by 5 on an open desk answers what is due, and leaves the desk open till the check is decided
  by_5 : {cs : List Called} {m k : ℕ} {a : Advance} {e : Desk} (x : Advanced cs 5 a e) → Walked cs (text_for c) m k → x.desk.phase ≡ phase.Open
      → (a ≡ due_of c.table (verdict_of c.table) m 5) × (m + 5 < stop_of c.table (verdict_of c.table) → e.phase ≡ phase.Open)
  by_5 {m = m} {a = a} {e = e} x w o =
      let v = verdict_of c.table in
      let d = next_due (text_for c) r.is_text v r.comes x w o (λ z. omega arith) in
      subst (λ t. (a ≡ due_of t v m 5) × (m + 5 < stop_of t v → e.phase ≡ phase.Open)) r.says_table (d.answers, d.stays)

  done_is : {l : Done} {e : Desk} → Loaded (text_for c) l e → l ≡ done.Done
  done_is x = (load_done (text_for c) r.is_text x).0

  opens : {l : Done} {e : Desk} → Loaded (text_for c) l e → e.phase ≡ phase.Open
  opens x = (load_done (text_for c) r.is_text x).1

-- "advancing by 5 gives open 5, open 5, accepted 2"
pub given_by_5 : {l : Done} {x y z : Advance} {desk : Desk}
    → Calls (advance 5 z ∷ advance 5 y ∷ advance 5 x ∷ load (text_for as_given) l ∷ []) desk
    → (l ≡ done.Done) × (x ≡ progress.Open 5) × (y ≡ progress.Open 5) × (z ≡ progress.Accepted AsIs 2)
given_by_5 {l} {x} {y} {z} c =
    let third = last_advance c refl in
    let second = last_advance third.made refl in
    let one = last_advance second.made refl in
    let loaded = only_load one.made refl in
    let ok : l ≡ done.Done = done_is as_given given_reports loaded in
    let w : Walked (load (text_for as_given) l ∷ []) (text_for as_given) 0 0 = rw ok calls.loaded in
    let stop = given_stop in
    let a = by_5 as_given given_reports one w (opens as_given given_reports loaded) in
    let b = by_5 as_given given_reports second (calls.on w) (a.1 (omega arith)) in
    let d = by_5 as_given given_reports third (calls.on (calls.on w)) (b.1 (omega arith)) in
    (ok, a.0 ∙ given_due.0, b.0 ∙ given_due.1, d.0 ∙ given_due.2)

-- "advancing by 5: open 5, failed 5"
pub wrong_data_by_5 : {l : Done} {x y : Advance} {desk : Desk} → Calls (advance 5 y ∷ advance 5 x ∷ load (text_for with_wrong_data) l ∷ []) desk
    → (l ≡ done.Done) × (x ≡ progress.Open 5) × (y ≡ progress.Failed 5)
wrong_data_by_5 {l} {x} {y} c =
    let second = last_advance c refl in
    let one = last_advance second.made refl in
    let loaded = only_load one.made refl in
    let ok : l ≡ done.Done = done_is with_wrong_data wrong_reports loaded in
    let w : Walked (load (text_for with_wrong_data) l ∷ []) (text_for with_wrong_data) 0 0 = rw ok calls.loaded in
    let stop = wrong_stop in
    let a = by_5 with_wrong_data wrong_reports one w (opens with_wrong_data wrong_reports loaded) in
    let b = by_5 with_wrong_data wrong_reports second (calls.on w) (a.1 (omega arith)) in
    (ok, a.0 ∙ wrong_due.0, b.0 ∙ wrong_due.1)
