-- What the functions return is what specs/Lent says.
use mathlib.Core.Path.{◌≡◌, refl, ◌∙◌, ap, subst}
use mathlib.Core.List.{List}
use Prim.Native.Nat.{ℕ}
use Rattle.verdicts.specs.declared.Report.{Report}
use Rattle.answers.specs.declared.Phase.{Phase}
use Rattle.answers.specs.declared.Phase.TheVariants as phase
use Rattle.answers.specs.declared.Verdict.{Verdict}
use Rattle.answers.specs.Answers.{done_number, told_by, verdict_numbers, verdict_numbers_by}
use Rattle.design.specs.declared.Counts.{Counts}
use Rattle.desk.specs.declared.Desk.{Desk}
use Rattle.desk.specs.declared.AfterLoad.{AfterLoad}
use Rattle.desk.specs.declared.AfterAdvance.{AfterAdvance}
use Rattle.desk.specs.declared.AfterDrop.{AfterDrop}
use Rattle.desk.specs.Desk.{load_of, advance_of, drop_of}
use Rattle.desk_numbers.specs.Numbers.{counts_in, phase_in, advance_result, advance_told, numbers_told}
use Rattle.desk_numbers.proofs.Laws.{phase_again}
use Rattle.lent_desk.specs.Lent.{desk_in, Keeps}

-- ---- a desk in memory

pub desk_is : (f s c p : List ℕ) (n : ℕ) (k : List ℕ) (q : Counts) (h : Phase) → q ≡ counts_in c → h ≡ phase_in k
    → record { lines = record { fields = f; starts = s }; counts = q; plan = p; next = n; phase = h } ≡ desk_in f s c p n k
desk_is f s c p n k q h eq eh = rw (eq, eh)

module _ (d e : Desk) (f s c p : List ℕ) (n : ℕ) (k : List ℕ) where
  pub keeps_same : e ≡ d → Keeps e f s c p n k → Keeps d f s c p n k
  keeps_same ed h = subst (λ (x : Desk). Keeps x f s c p n k) ed h

-- a load, an advance, a drop of the desk that stands there
module _ (d : Desk) (m : Desk) (em : d ≡ m) (f s c p : List ℕ) (n : ℕ) (k : List ℕ) where
  module _ (text : List ℕ) (a : AfterLoad) (ea : a ≡ load_of d text) where
    after_load : a ≡ load_of m text
    after_load = ea ∙ ap (λ (x : Desk). load_of x text) em

    pub load_number_lem : (r : ℕ) → r ≡ done_number a.answer → r ≡ done_number (load_of m text).answer
    load_number_lem r er = er ∙ ap (λ (x : AfterLoad). done_number x.answer) after_load

    pub load_keeps : Keeps a.desk f s c p n k → Keeps (load_of m text).desk f s c p n k
    load_keeps h = subst (λ (x : AfterLoad). Keeps x.desk f s c p n k) after_load h

  module _ (j : ℕ) (a : AfterAdvance) (ea : a ≡ advance_of d j) where
    after_advance : a ≡ advance_of m j
    after_advance = ea ∙ ap (λ (x : Desk). advance_of x j) em

    pub advance_returns : (r : ℕ) → r ≡ advance_result a.answer → r ≡ advance_result (advance_of m j).answer
    advance_returns r er = er ∙ ap (λ (x : AfterAdvance). advance_result x.answer) after_advance

    pub advance_tells : (r : ℕ) → r ≡ advance_told a.answer → r ≡ advance_told (advance_of m j).answer
    advance_tells r er = er ∙ ap (λ (x : AfterAdvance). advance_told x.answer) after_advance

    pub advance_keeps : Keeps a.desk f s c p n k → Keeps (advance_of m j).desk f s c p n k
    advance_keeps h = subst (λ (x : AfterAdvance). Keeps x.desk f s c p n k) after_advance h

  module _ (a : AfterDrop) (ea : a ≡ drop_of d) where
    after_drop : a ≡ drop_of m
    after_drop = ea ∙ ap drop_of em

    pub drop_number : (r : ℕ) → r ≡ done_number a.answer → r ≡ done_number (drop_of m).answer
    drop_number r er = er ∙ ap (λ (x : AfterDrop). done_number x.answer) after_drop

    pub drop_keeps : Keeps a.desk f s c p n k → Keeps (drop_of m).desk f s c p n k
    drop_keeps h = subst (λ (x : AfterDrop). Keeps x.desk f s c p n k) after_drop h

-- the report's numbers, by the phase
pub verdict_numbers_lem : (h : Phase) (k : List ℕ) (v : Verdict) (r : Report) → h ≡ phase_in k → v ≡ told_by h → r ≡ verdict_numbers v
    → numbers_told r ≡ numbers_told (verdict_numbers_by (phase_in k))
verdict_numbers_lem h k v r eh ev er = ap numbers_told (er ∙ ap verdict_numbers ev ∙ by_phase h ∙ ap verdict_numbers_by eh)
  where
    by_phase : (q : Phase) → verdict_numbers (told_by q) ≡ verdict_numbers_by q
    by_phase phase.Empty = refl
    by_phase phase.Open = refl
    by_phase (phase.Accepted how) = refl
    by_phase (phase.Failed x) = refl

-- what stands in memory after a call is the desk that the next one finds
pub found_again : (d : Desk) (f s c p : List ℕ) (n : ℕ) (k : List ℕ) → Keeps d f s c p n k → desk_in f s c p n k ≡ d
found_again d f s c p n k h = rw (h.fields, h.starts, h.counts, h.plan, h.next, h.phase_is, phase_again d.phase)
