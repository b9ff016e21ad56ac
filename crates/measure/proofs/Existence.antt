-- There is an answer for all arrays and every slice: so that every call has one.
use mathlib.Core.Path.{◌≡◌, refl, sym, ◌∙◌}
use mathlib.Core.Logic.{◌⊎◌, inl, inr}
use mathlib.Core.Bool.{Bool, true, false, true≢false}
use mathlib.Core.List.{List}
use Prim.Native.Nat.{ℕ, zero, suc, ◌+◌, ◌≤◌, ◌<◌}
use native.Mathlib.Numerals.{add-one}
use native.Mathlib.Omega.{arith}
use native.Mathlib.Decide.{dec_lt, dec_le}
use lib.ListN.{length}
use Rattle.foundation.specs.Reflects.{so}
use Rattle.foundation.proofs.Reflects.{says_yes, says_no}
use Rattle.criteria.specs.Design.{states}
use Rattle.criteria.specs.Measure.{Measurable, Unmeasurable}
use Rattle.decision.proofs.Measurable.{measurable_or_not}
use Rattle.design.specs.Loaded.{design_at, design_in}
use Rattle.design.specs.declared.Counts.{Counts}
use Rattle.design.specs.declared.Process.{Process}
use Rattle.design.specs.declared.Shape.{Shape}
use Rattle.layout.specs.Sizes.{counts_fit, shape_of, state_count_in}
use Rattle.steps.specs.Arrays.{row_span}
use Rattle.marked_edges.specs.Edges.{next_in, SumsNumbered}
use Rattle.longest_runs.proofs.Existence.{written_there}
use Rattle.measurable.specs.Measurable.{can, cannot}
use Rattle.answers.specs.declared.Measured.{Measured}
use Rattle.answers.specs.declared.Measured.TheVariants as measured
use Rattle.measure.specs.Answer.{HasRoom, MeasureIn, short, answer_of}
use Rattle.measure.proofs.Room.{SpansTo, spans_turn, spans_fail, spans_end, enough, measure_leaves, measure_made}

-- ---- room, or none

module _ (f s : List ℕ) (p : Process) where
  spans_so_far : (k : ℕ) → SpansTo f s p k ⊎ (SumsNumbered f s p → ⊥)
  spans_so_far zero = inl (record { all = λ j l. absurd (omega arith) })
  spans_so_far (suc k) = go (spans_so_far k)
    where
      at : SpansTo f s p k → Dec (256 < row_span f s p k) → SpansTo f s p (suc k) ⊎ (SumsNumbered f s p → ⊥)
      at g (yes l) = inr (says_no (spans_fail f s p k (row_span f s p k) refl l) refl)
      at g (no l) = inl (rw (← add-one k) (spans_turn f s p k (row_span f s p k) refl (omega arith) g))

      go : SpansTo f s p k ⊎ (SumsNumbered f s p → ⊥) → SpansTo f s p (suc k) ⊎ (SumsNumbered f s p → ⊥)
      go (inr n) = inr n
      go (inl g) = at g (dec_lt 256 (row_span f s p k))

  spans_or_not : SumsNumbered f s p ⊎ (SumsNumbered f s p → ⊥)
  spans_or_not = go (spans_so_far (p.rows.count + 1))
    where
      go : SpansTo f s p (p.rows.count + 1) ⊎ (SumsNumbered f s p → ⊥) → SumsNumbered f s p ⊎ (SumsNumbered f s p → ⊥)
      go (inr n) = inr n
      go (inl g) = inl (says_yes (spans_end f s p (p.rows.count + 1) (omega arith) g) refl)

module _ (f s : List ℕ) (c : Counts) (n : ℕ) where
  room_or_not : HasRoom f s c n ⊎ (HasRoom f s c n → ⊥)
  room_or_not = by_counts (counts_fit c) refl
    where
      by_states : counts_fit c ≡ true → SumsNumbered f s (shape_of c).implementation → Dec (states (design_in f s c) ≤ n) → Dec (states (design_in f s c) ≤ 65536)
          → HasRoom f s c n ⊎ (HasRoom f s c n → ⊥)
      by_states fit spans (no l) k = inr (λ r. l r.places)
      by_states fit spans (yes l) (no k) = inr (λ r. k r.numbers)
      by_states fit spans (yes l) (yes k) = inl (record { counts = fit; spans = spans; places = l; numbers = k })

      by_spans : counts_fit c ≡ true → SumsNumbered f s (shape_of c).implementation ⊎ (SumsNumbered f s (shape_of c).implementation → ⊥)
          → HasRoom f s c n ⊎ (HasRoom f s c n → ⊥)
      by_spans fit (inr o) = inr (λ r. o r.spans)
      by_spans fit (inl spans) = by_states fit spans (dec_le (states (design_in f s c)) n) (dec_le (states (design_in f s c)) 65536)

      by_counts : (b : Bool) → counts_fit c ≡ b → HasRoom f s c n ⊎ (HasRoom f s c n → ⊥)
      by_counts true fit = by_spans fit (spans_or_not f s (shape_of c).implementation)
      by_counts false unfit = inr (λ r. true≢false (sym r.counts ∙ unfit))

-- ---- the answer

pub record MeasureFrom (f s : List ℕ) (c : Counts) (before : List ℕ) : Type 0 where
  pub after : List ℕ
  pub answer : Measured
  pub is : MeasureIn f s c before after answer

module _ (f s : List ℕ) (c : Counts) (before : List ℕ) where
  abbrev h : Shape
  h = shape_of c

  abbrev m : ℕ
  m = state_count_in f s c

  pub measure_there : MeasureFrom f s c before
  measure_there = go (room_or_not f s c (length before))
    where
      made : HasRoom f s c (length before) → Measurable (design_at f s h) ⊎ Unmeasurable (design_at f s h) → MeasureFrom f s c before
      made r (inr out) =
          record { after = before; answer = measured.TurnedDown 18; is = measure_leaves f s before before c h m true refl refl (so r) refl false (cannot out) refl refl }
      made r (inl all) =
          let t = written_there (next_in f s h) m before (enough f s c h m (length before) true refl refl (so r) refl) in
          record {
            after = t.after;
            answer = answer_of t.answer;
            is = measure_made f s before t.after c h m true refl refl (so r) refl true t.answer (answer_of t.answer) (can all) refl t.is refl;
          }

      go : HasRoom f s c (length before) ⊎ (HasRoom f s c (length before) → ⊥) → MeasureFrom f s c before
      go (inr none) = record { after = before; answer = measured.TurnedDown 17; is = short none refl }
      go (inl r) = made r (measurable_or_not (design_at f s h))
