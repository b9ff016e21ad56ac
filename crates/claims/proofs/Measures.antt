-- What a measure made by the desk is: as 02 says, for every call on a desk that holds a text, and for every call with a text.
use Prim.Native.Nat.{ℕ, ◌≤◌, ◌<◌}
use mathlib.Core.Path.{◌≡◌, refl, sym, ap, ◌∙◌, subst}
use mathlib.Core.Logic.{◌≢◌, ◌⊎◌, inl, inr}
use mathlib.Core.Bool.{Bool, true, false, cond}
use mathlib.Core.List.{List}
use native.Mathlib.Omega.{arith}
use native.Mathlib.Decide.{dec_le}
use lib.ListN.{length}
use Rattle.foundation.specs.Radix.{below_b}
use Rattle.foundation.proofs.Reflects.{says_yes, is_so, by_below}
use Rattle.reader.specs.Text.{fields_by_line}
use Rattle.criteria.specs.Design.{Design, State, RowIs, InSize, Invariant, InvariantState, sizes, states, state_number}
use Rattle.criteria.specs.Measure.{LongestRun, Measure, Measurable, MeetsFifth}
use Rattle.criteria.proofs.Measure.{not_both, longest_meets, run_least, no_loop}
use Rattle.foundation.specs.Reflects.{Reflects, so, not_so}
use Rattle.decision.proofs.Tests.{by_holds}
use Rattle.design.specs.Lines.{counts_of, design_text}
use Rattle.design.specs.Loaded.{fields_held, starts_held, design_at, design_in}
use Rattle.design.specs.declared.Shape.{Shape}
use Rattle.layout.specs.Sizes.{shape_of}
use Rattle.layout.proofs.Sizes.{sections_kept}
use Rattle.loader.specs.Load.{fault_of}
use Rattle.loader.proofs.Lowest.{free_exactly}
use Rattle.loader.proofs.Passed.{admitted, design_in_lem, counts_allowed_lem}
use Rattle.marked_edges.specs.Edges.{SumsNumbered}
use Rattle.answers.specs.declared.Phase.TheVariants as phase
use Rattle.answers.specs.declared.Measured.{Measured}
use Rattle.answers.specs.declared.Measured.TheVariants.{Filled, Loop, TurnedDown}
use Rattle.answers.specs.Answers.{measured_number}
use Rattle.longest_runs.specs.Runs.{KeptPast}
use Rattle.longest_runs.proofs.Kept.{kept_none}
use Rattle.measure.specs.Answer.{number_at, LongestRuns, Made, leaves, filled, loop, SameAnswer, both_filled, both_loop, both_refused, MeasureIn, short, has_room}
use Rattle.measuring.proofs.Laws.{one_text}
use Rattle.measuring.specs.Measured.{MeasureText, faulty, design_text_lem, Tells, result_of, number_told}
use Rattle.desk.specs.declared.Desk.{Desk}
use Rattle.desk.specs.Measure.{MeasureOf, refused_empty, on_loaded}
use Rattle.desk.proofs.Measure.{one_answer}
use Rattle.stages.proofs.Ready.{Ready}
use Rattle.stages.proofs.Stages.{Stage, fresh, going, accepts, fails}
use Rattle.claims.specs.Measures.{Fills, MadeOf, Measures}
use Rattle.claims.proofs.Lists.{made_by, made_for}
use Rattle.claims.proofs.Reached.{reached}

-- ---- answers told apart

filled_no_loop : {k : ℕ} → Filled ≡ Loop k → ⊥
filled_no_loop e = let z : ◌≡◌ {A = ℕ} 0 1 = cc in omega arith

loop_is : {j k : ℕ} → Loop j ≡ Loop k → j ≡ k
loop_is e = cc

refused_not_done : {j : ℕ} → (TurnedDown j ≡ Filled) ⊎ ((k : ℕ) × (TurnedDown j ≡ Loop k)) → ⊥
refused_not_done (inl e) = let z : ◌≡◌ {A = ℕ} 0 1 = cc in omega arith
refused_not_done (inr (k, e)) = let z : ◌≡◌ {A = ℕ} 0 1 = cc in omega arith

-- ---- the longest runs as a measure

module _ (d : Design) (few : states d ≤ 65536) (measurable : Measurable d) (slice : List ℕ) (runs : LongestRuns d slice) where
  -- 0 for a list that is no state
  at : State → ℕ
  at s = cond (below_b (sizes d.impl) s) (number_at d slice s) 0

  at_is : (s : State) → InSize d.impl s → at s ≡ number_at d slice s
  unfolding at
  at_is s i = rw (is_so (by_below (sizes d.impl) s) i)

  at_fits : (s : State) → at s < 65536
  unfolding at
  at_fits s = go (below_b (sizes d.impl) s) refl
    where
      go : (b : Bool) → below_b (sizes d.impl) s ≡ b → cond b (number_at d slice s) 0 < 65536
      go true e = let l = runs.few s (says_yes (by_below (sizes d.impl) s) e) in omega arith
      go false e = omega arith

  abbrev made : Measure
  made = record { at = at; fits = at_fits }

  made_meets : MeetsFifth d at
  made_meets = longest_meets d measurable at (λ s i. subst (LongestRun d s) (sym (at_is s i.in_size)) (runs.inside s i))

  made_least : (μ : Measure) → MeetsFifth d μ.at → (s : State) → InSize d.impl s → number_at d slice s ≤ μ.at s
  made_least μ fifth s in_size = go (by_holds d s)
    where
      go : {b : Bool} → Reflects (Invariant d s) b → number_at d slice s ≤ μ.at s
      go (so holds) =
          let i : InvariantState d s = record { in_size = in_size; invariant = holds } in
          run_least d measurable μ.at fifth s (number_at d slice s) i (runs.inside s i)
      go (not_so out) = let z = runs.elsewhere s in_size out in omega arith

  fills : Fills d slice
  fills = record { longest = runs; made = made; is = at_is; meets = made_meets; least = made_least }

-- ---- what a call came to, by its case

kept_all : (n : ℕ) (before after : List ℕ) → after ≡ before → KeptPast n before after
kept_all n before after e = rw e (kept_none n before)

module _ (d : Design) (few : states d ≤ 65536) (before after : List ℕ) where
  made_short : length before < states d → after ≡ before → MadeOf d before after (TurnedDown 17)
  made_short l same = record {
    short = (λ _. l, λ _. refl);
    leaves = (λ e. let z : ◌≡◌ {A = ℕ} 17 18 = ap measured_number e in absurd (omega arith), λ p. let q = p.0 in absurd (omega arith));
    refused = λ _ _. same;
    done = (λ e. absurd (refused_not_done e), λ p. let q = p.0 in absurd (omega arith));
    kept = kept_all (states d) before after same;
    filled = λ e. absurd (refused_not_done (inl e));
    loops = λ k e. absurd (refused_not_done (inr (k, e)));
    named = λ room _. absurd (omega arith);
    exactly = λ room _. absurd (omega arith);
  }

  by_case : states d ≤ length before → (r : Measured) → Made d before after r → MadeOf d before after r
  by_case room r (leaves out same) = record {
    short = (λ e. let z : ◌≡◌ {A = ℕ} 18 17 = ap measured_number e in absurd (omega arith), λ l. absurd (omega arith));
    leaves = (λ _. (room, out), λ _. refl);
    refused = λ _ _. same;
    done = (λ e. absurd (refused_not_done e), λ p. absurd (not_both d p.1 out));
    kept = kept_all (states d) before after same;
    filled = λ e. absurd (refused_not_done (inl e));
    loops = λ k e. absurd (refused_not_done (inr (k, e)));
    named = λ _ measurable. absurd (not_both d measurable out);
    exactly = λ _ measurable. absurd (not_both d measurable out);
  }
  by_case room r (filled measurable kept runs) = record {
    short = (λ e. let z : ◌≡◌ {A = ℕ} 0 17 = ap measured_number e in absurd (omega arith), λ l. absurd (omega arith));
    leaves = (λ e. let z : ◌≡◌ {A = ℕ} 0 18 = ap measured_number e in absurd (omega arith), λ p. absurd (not_both d measurable p.1));
    refused = λ k e. absurd (filled_refused e);
    done = (λ _. (room, measurable), λ _. inl refl);
    kept = kept;
    filled = λ _. fills d few measurable after runs;
    loops = λ k e. absurd (filled_no_loop e);
    named = λ _ _. (λ o. absurd (no_loop d measurable (at d few measurable after runs) (made_meets d few measurable after runs) o.0 o.1), λ l. absurd (filled_no_loop l.1));
    exactly = λ _ _. (λ _ k e. filled_no_loop e, λ _. (made d few measurable after runs, made_meets d few measurable after runs));
  }
    where
      filled_refused : {k : ℕ} → Filled ≡ TurnedDown k → ⊥
      filled_refused e = let z : ◌≡◌ {A = ℕ} 0 1 = cc in omega arith
  by_case room r (loop s measurable kept zero-all on) = record {
    short = (λ e. let z : ◌≡◌ {A = ℕ} 0 17 = ap measured_number e in absurd (omega arith), λ l. absurd (omega arith));
    leaves = (λ e. let z : ◌≡◌ {A = ℕ} 0 18 = ap measured_number e in absurd (omega arith), λ p. absurd (not_both d measurable p.1));
    refused = λ k e. absurd (loop_refused e);
    done = (λ _. (room, measurable), λ _. inr (state_number d s, refl));
    kept = kept;
    filled = λ e. absurd (filled_no_loop (sym e));
    loops = λ k e. record { zero = zero-all; state = s; named = loop_is e; on_loop = on };
    named = λ _ _. (λ _. (state_number d s, refl), λ _. (s, on));
    exactly = λ _ _. (λ m. absurd (no_loop d measurable m.0.at m.1 s on), λ none. absurd (none (state_number d s) refl));
  }
    where
      loop_refused : {j k : ℕ} → Loop j ≡ TurnedDown k → ⊥
      loop_refused e = let z : ◌≡◌ {A = ℕ} 0 1 = cc in omega arith

-- ---- the arrays of a text that is not turned down

module _ (text : List ℕ) (free : fault_of text ≡ 0) where
  abbrev lines : List (List ℕ)
  lines = fields_by_line text

  abbrev d : Design
  d = design_text text

  few_states : states d ≤ 65536
  few_states = (admitted text free).few_states

  same_design : design_at (fields_held lines) (starts_held lines) (shape_of (counts_of lines)) ≡ d
  same_design = ap (λ (h : Shape). design_at (fields_held lines) (starts_held lines) h) (sections_kept (counts_of lines) (counts_allowed_lem text free)) ∙ design_in_lem text free

  spans : SumsNumbered (fields_held lines) (starts_held lines) (shape_of (counts_of lines)).implementation
  spans k r is = ((admitted text free).impl_spans k r (subst (λ (x : Design). RowIs x.impl.rows k r) same_design is)).1

  pub text_made : {before after : List ℕ} {r : Measured} → MeasureIn (fields_held lines) (starts_held lines) (counts_of lines) before after r → MadeOf d before after r
  text_made {before} {after} (short none same) = made_short d few_states before after (go (dec_le (states d) (length before))) same
    where
      go : Dec (states d ≤ length before) → length before < states d
      go (no l) = omega arith
      go (yes l) =
          let e : states (design_in (fields_held lines) (starts_held lines) (counts_of lines)) ≡ states d = ap states (design_in_lem text free) in
          let f = few_states in
          absurd (none (record { counts = counts_allowed_lem text free; spans = spans; places = omega arith; numbers = omega arith }))
  text_made {before} {after} {r} (has_room room m) =
      let e : states (design_in (fields_held lines) (starts_held lines) (counts_of lines)) ≡ states d = ap states (design_in_lem text free) in
      let p = room.places in
      by_case d few_states before after (omega arith) r (subst (λ (x : Design). Made x before after r) (design_in_lem text free) m)

-- ---- on a desk that holds a text

ready : {text : List ℕ} {desk : Desk} → Stage text desk → Ready text desk
ready (fresh h e z) = h
ready (going h e a b p) = h
ready (accepts how h e v) = h
ready (fails x h e v) = h

not_empty : {text : List ℕ} {desk : Desk} → Stage text desk → desk.phase ≡ phase.Empty → ⊥
not_empty (fresh h e z) q = let y = sym e ∙ q in let z : ◌≡◌ {A = ℕ} 0 1 = cc in omega arith
not_empty (going h e a b p) q = let y = sym e ∙ q in let z : ◌≡◌ {A = ℕ} 0 1 = cc in omega arith
not_empty (accepts how h e v) q = let y = sym e ∙ q in let z : ◌≡◌ {A = ℕ} 0 1 = cc in omega arith
not_empty (fails x h e v) q = let y = sym e ∙ q in let z : ◌≡◌ {A = ℕ} 0 1 = cc in omega arith

desk_made : {text before after : List ℕ} {desk : Desk} {r : Measured} → Stage text desk → MeasureOf desk before after r → MadeOf (design_text text) before after r
desk_made s (refused_empty e same) = absurd (not_empty s e)
desk_made {text} {desk = desk} s (on_loaded some m) =
    let h = ready s in
    let t = h.held in
    text_made text h.free (rw (t.fields_are, t.starts_are, t.counts_are) at m)

-- ---- in one call

one_call : {text before after : List ℕ} {r : Measured} → fault_of text ≡ 0 → MeasureText text before after r → MadeOf (design_text text) before after r
one_call free (faulty some same) = absurd (some free)
one_call {text} {before} {after} {r} free (design_text_lem none m) =
    text_made text free m

-- what is told of two answers that are the same but for the state
told_same : {a b : Measured} → SameAnswer a b → (result_of a ≡ result_of b) × (result_of a ≢ 1 → number_told a ≡ number_told b)
told_same both_filled = (refl, λ _. refl)
told_same (both_loop j k) = (refl, λ o. absurd (o refl))
told_same (both_refused k) = (refl, λ _. refl)

one_told : {text before after other : List ℕ} {r q j k : ℕ} → Tells text before after r j → Tells text before other q k
    → (after ≡ other) × ((r ≡ q) × (r ≢ 1 → j ≡ k))
one_told s t =
    let same = one_text s.is t.is in
    let told = told_same same.1 in
    (same.0, (s.returned ∙ told.0 ∙ sym t.returned, λ o. s.told ∙ told.1 (λ e. o (s.returned ∙ e)) ∙ sym t.told))

pub measures : Measures
measures = record {
  by_desk = λ c w m. let p = made_by m in (p.0, desk_made (reached c w).stage p.1);
  in_one_call = λ {text} is m. let t = made_for m in (t.answer, (one_call ((free_exactly text).1 is) t.is, (t.returned, t.told)));
  determined = λ m n. one_answer (made_by m).1 (made_by n).1;
  determined_in_one_call = λ m n. one_told (made_for m) (made_for n);
}
