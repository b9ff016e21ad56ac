-- What each call returns, by the number of its phase and the tests that led there, is what specs/Desk says.
use Prim.Native.Nat.{ℕ}
use mathlib.Core.Path.{◌≡◌, refl, sym, ap, ◌∙◌}
use mathlib.Core.Logic.{◌≢◌}
use mathlib.Core.Bool.{Bool, true, false, cond}
use mathlib.Core.List.{List}
use native.Mathlib.Omega.{arith}
use Rattle.std.specs.Prelude.{Result, Ok, Err, replicate}
use Rattle.layout.specs.Lines.{no_lines}
use Rattle.design.specs.declared.Counts.{Counts}
use Rattle.layout.specs.declared.Lines.{Lines}
use Rattle.verdicts.specs.declared.Fault.{Fault}
use Rattle.verdicts.specs.Refusals.{fault_number}
use lib.Dec.{eqb}
use Rattle.loader.specs.declared.Loaded.{Loaded}
use Rattle.loader.specs.Load.{loaded_of}
use Rattle.start.specs.Start.{start_in}
use Rattle.walk.specs.Walk.{plan_of}
use Rattle.examining.specs.declared.Examined.{Examined}
use Rattle.examining.specs.Examined.{walked_to, examined_next, failed_start, examined_from}
use Rattle.desk.specs.Answers.{load_number, advance_count}
use Rattle.desk.proofs.Numbers.{load_number_lem, advance_count_lem}
use Rattle.answers.specs.declared.Phase.{Phase}
use Rattle.answers.specs.declared.Phase.TheVariants as phase
use Rattle.answers.specs.declared.Done.TheVariants as done
use Rattle.answers.specs.declared.Advance.{Advance}
use Rattle.answers.specs.declared.Verdict.{Verdict}
use Rattle.answers.specs.Answers.{load_number_by, advance_number, empty_number, told_by, advanced_to}
use Rattle.desk.specs.declared.Desk.{Desk}
use Rattle.desk.specs.declared.AfterLoad.{AfterLoad}
use Rattle.desk.specs.declared.AfterAdvance.{AfterAdvance}
use Rattle.desk.specs.Desk.{empty_desk, placed, not_loaded, load_empty, load_by, load_of, not_advanced, fail_start, walked_on, examine_next, examine_open, advance_open, advance_by, advance_of, tell_of, drop_by, drop_of}

-- counts are nothing if each is 0
module _ (c : Counts) where
  pub no_counts : (c.kind1 ≡ 0) × ((c.kind2 ≡ 0) × ((c.kind3 ≡ 0) × ((c.kind4 ≡ 0) × (c.kind8 ≡ 0)))) → c ≡ record { kind1 = 0; kind2 = 0; kind3 = 0; kind4 = 0; kind8 = 0 }
  no_counts e =
      ap (λ (x : ℕ). record { kind1 = x; kind2 = c.kind2; kind3 = c.kind3; kind4 = c.kind4; kind8 = c.kind8 }) e.0
      ∙ ap (λ (x : ℕ). record { kind1 = 0; kind2 = x; kind3 = c.kind3; kind4 = c.kind4; kind8 = c.kind8 }) e.1.0
      ∙ ap (λ (x : ℕ). record { kind1 = 0; kind2 = 0; kind3 = x; kind4 = c.kind4; kind8 = c.kind8 }) e.1.1.0
      ∙ ap (λ (x : ℕ). record { kind1 = 0; kind2 = 0; kind3 = 0; kind4 = x; kind8 = c.kind8 }) e.1.1.1.0
      ∙ ap (λ (x : ℕ). record { kind1 = 0; kind2 = 0; kind3 = 0; kind4 = 0; kind8 = x }) e.1.1.1.1

-- a new desk has no lines, and counts of nothing
pub new_desk : (l : Lines) (c : Counts) → l ≡ no_lines
    → (c.kind1 ≡ 0) × ((c.kind2 ≡ 0) × ((c.kind3 ≡ 0) × ((c.kind4 ≡ 0) × (c.kind8 ≡ 0))))
    → record { lines = l; counts = c; plan = replicate 387 0; next = 0; phase = phase.Empty } ≡ empty_desk
new_desk l c el ec =
    ap (λ (x : Lines). record { lines = x; counts = c; plan = replicate 387 0; next = 0; phase = phase.Empty }) el
    ∙ ap (λ (x : Counts). record { lines = no_lines; counts = x; plan = replicate 387 0; next = 0; phase = phase.Empty }) (no_counts c ec)

module _ (d : Desk) where
  -- ---- by phase: 0 where the call is done, else the number by which it is turned down

  load_by_lem : (p : Phase) (text : List ℕ) → load_number_by p ≡ 0 → load_empty d (loaded_of text) ≡ load_by p d text
  load_by_lem phase.Empty text h = refl
  load_by_lem phase.Open text h = absurd (omega (arith, h))
  load_by_lem (phase.Accepted how) text h = absurd (omega (arith, h))
  load_by_lem (phase.Failed f) text h = absurd (omega (arith, h))

  not_loaded_by : (p : Phase) (text : List ℕ) → load_number_by p ≢ 0 → not_loaded (load_number_by p) d ≡ load_by p d text
  not_loaded_by phase.Empty text h = absurd (h refl)
  not_loaded_by phase.Open text h = refl
  not_loaded_by (phase.Accepted how) text h = refl
  not_loaded_by (phase.Failed f) text h = refl

  advance_by_lem : (p : Phase) (n : ℕ) → advance_number p n ≡ 0 → examine_open d n ≡ advance_by p d n
  unfolding advance_open
  advance_by_lem phase.Empty n h = absurd (omega (arith, h))
  advance_by_lem phase.Open n h = go (eqb n 0) h
    where
      go : (b : Bool) → ◌≡◌ {A = ℕ} (cond b 8 0) 0 → examine_open d n ≡ cond b (not_advanced 8 d) (examine_open d n)
      go true e = absurd (omega (arith, e))
      go false e = refl
  advance_by_lem (phase.Accepted how) n h = absurd (omega (arith, h))
  advance_by_lem (phase.Failed f) n h = absurd (omega (arith, h))

  not_advanced_by : (p : Phase) (n : ℕ) → advance_number p n ≢ 0 → not_advanced (advance_number p n) d ≡ advance_by p d n
  unfolding advance_open
  not_advanced_by phase.Empty n h = refl
  not_advanced_by phase.Open n h = go (eqb n 0) h
    where
      go : (b : Bool) → ◌≢◌ {A = ℕ} (cond b 8 0) 0 → not_advanced (cond b 8 0) d ≡ cond b (not_advanced 8 d) (examine_open d n)
      go true e = refl
      go false e = absurd (e refl)
  not_advanced_by (phase.Accepted how) n h = refl
  not_advanced_by (phase.Failed f) n h = refl

  drop_by_lem : (p : Phase) → empty_number p ≡ 0 → record { answer = done.Done; desk = empty_desk } ≡ drop_by p d
  drop_by_lem phase.Empty h = absurd (omega (arith, h))
  drop_by_lem phase.Open h = refl
  drop_by_lem (phase.Accepted how) h = refl
  drop_by_lem (phase.Failed f) h = refl

  not_dropped_by : (p : Phase) → empty_number p ≢ 0 → record { answer = done.TurnedDown (empty_number p); desk = d } ≡ drop_by p d
  not_dropped_by phase.Empty h = refl
  not_dropped_by phase.Open h = absurd (h refl)
  not_dropped_by (phase.Accepted how) h = absurd (h refl)
  not_dropped_by (phase.Failed f) h = absurd (h refl)

  module _ (text : List ℕ) (k : ℕ) (e : k ≡ load_number_by d.phase) where
    pub load_done : k ≡ 0 → (r : AfterLoad) → r ≡ load_empty d (loaded_of text) → r ≡ load_of d text
    unfolding load_of
    load_done h r er = er ∙ load_by_lem d.phase text (sym e ∙ h)

    pub load_refused : k ≢ 0 → not_loaded k d ≡ load_of d text
    unfolding load_of
    load_refused h = ap (λ j. not_loaded j d) e ∙ not_loaded_by d.phase text (λ z. h (e ∙ z))

    pub refused_number : k ≢ 0 → k ≡ load_number d.phase text
    refused_number h = load_number_lem d text (not_loaded k d) (load_refused h)

  module _ (n k : ℕ) (e : k ≡ advance_number d.phase n) where
    pub advance_done : k ≡ 0 → (r : AfterAdvance) → r ≡ examine_open d n → r ≡ advance_of d n
    unfolding advance_of
    advance_done h r er = er ∙ advance_by_lem d.phase n (sym e ∙ h)

    pub advance_refused : k ≢ 0 → not_advanced k d ≡ advance_of d n
    unfolding advance_of
    advance_refused h = ap (λ j. not_advanced j d) e ∙ not_advanced_by d.phase n (λ z. h (e ∙ z))

    pub refused_count : k ≢ 0 → 0 ≡ advance_count d n
    refused_count h = advance_count_lem d n (not_advanced k d) (advance_refused h)

  module _ (k : ℕ) (e : k ≡ empty_number d.phase) where
    pub drop_done : k ≡ 0 → (x : Desk) → x ≡ empty_desk → record { answer = done.Done; desk = x } ≡ drop_of d
    unfolding drop_of
    drop_done h x ex = ap (λ y. record { answer = done.Done; desk = y }) ex ∙ drop_by_lem d.phase (sym e ∙ h)

    pub drop_refused : k ≢ 0 → record { answer = done.TurnedDown k; desk = d } ≡ drop_of d
    unfolding drop_of
    drop_refused h = ap (λ j. record { answer = done.TurnedDown j; desk = d }) e ∙ not_dropped_by d.phase (λ z. h (e ∙ z))

  pub told : (v : Verdict) → v ≡ told_by d.phase → record { answer = v; desk = d } ≡ tell_of d
  unfolding tell_of
  told v e = ap (λ w. record { answer = w; desk = d }) e

  -- ---- load on an empty desk

  module _ (q m : Result Loaded Fault) (eq : q ≡ m) where
    pub loaded : (l : Loaded) → q ≡ Ok l → (p : List ℕ) → p ≡ plan_of l.lines.fields l.lines.starts l.counts
        → record { answer = done.Done; desk = record { lines = l.lines; counts = l.counts; plan = p; next = 0; phase = phase.Open } } ≡ load_empty d m
    loaded l e p ep = rw (← eq, e, ep)

    pub not_loaded_lem : (f : Fault) → q ≡ Err f → (k : ℕ) → k ≡ fault_number f → not_loaded k d ≡ load_empty d m
    not_loaded_lem f e k ek = rw (← eq, e, ek)

-- ---- advance on an open desk

module _ (d : Desk) (n : ℕ) where
  abbrev left : Examined → AfterAdvance
  left x = record { answer = advanced_to x.phase x.count; desk = placed d x.next x.phase }

  abbrev on : Examined
  on = examined_next d.lines.fields d.lines.starts d.counts d.plan d.next n

  by_tests : (b c : Bool)
      → left (cond b (cond c on (failed_start d.lines.fields d.lines.starts d.counts)) on) ≡ cond b (cond c (examine_next d n) (fail_start d)) (examine_next d n)
  unfolding examined_next walked_to examine_next walked_on failed_start fail_start
  by_tests true true = refl
  by_tests true false = refl
  by_tests false c = refl

  pub examined_open : (x : Examined) → x ≡ examined_from d.lines.fields d.lines.starts d.counts d.plan d.next n
      → (a : Advance) → a ≡ advanced_to x.phase x.count
      → record { answer = a; desk = record { lines = d.lines; counts = d.counts; plan = d.plan; next = x.next; phase = x.phase } } ≡ examine_open d n
  unfolding examined_from examine_open
  examined_open x ex a ea = rw (ea, ex) (by_tests (eqb d.next 0) (start_in d.lines.fields d.lines.starts d.counts))
