-- Looking at a design: what is told of a text that is held is what its design says. Calls are by the functions' own contracts, as in
-- specs/Contracted; what is told of a term, a state or a row is in looking/specs/Told. A state is lent as eight values, 0 after the last
-- parameter's. It holds: `looks` in proofs/Looks.
use Rattle.std.specs.Prelude.{ℕ, ◌<◌, ◌≤◌, ◌≡◌, ◌≢◌, ◌↔◌, List, length, drop}
use Rattle.std.specs.Borrow.{Bor, MutBor}
use contract.Lifetimes.{Lfts}
use Rattle.terms.specs.Tree.{Value, Formula}
use Rattle.criteria.specs.Design.{Design, Row, State, RowIs}
use Rattle.criteria.specs.Criteria.{Criterion2, Criterion3, Criterion4, Criterion5, Criterion6, Criterion7, Criterion8, Criterion9, OthersHave}
use Rattle.design.specs.Line.{value_in, formula_in}
use Rattle.design.specs.Lines.{design_text}
use Rattle.design.specs.Faults.{DesignText, LowestFault}
use Rattle.steps.specs.Arrays.{padded}
use Rattle.fault_lines.specs.Shows.{Tells, Explains}
use Rattle.told_terms.specs.Terms.{value_told, formula_told}
use Rattle.told_rows.specs.Rows.{told_row}
use Rattle.looking.specs.Told.{state_told}
use Rattle.looking.proofs.look_value.Reads as value_reads
use Rattle.looking.proofs.look_formula.Reads as formula_reads
use Rattle.looking.proofs.hold_design.Reads as hold_reads
use Rattle.looking.proofs.fault_line.Reads as fault_reads
use Rattle.looking.proofs.look_state.Reads as state_reads
use Rattle.looking.proofs.look_row.Reads as row_reads
use Rattle.looking.proofs.look_criterion.Reads as criterion_reads

-- ---- calls

-- a text is held: the number that is returned, and the fields, starts and counts after the call
pub data Holds : List ℕ → ℕ → List ℕ → List ℕ → List ℕ → Type 0 where
  holds : (κs : Lfts 4) (text : Bor (List ℕ)) (f₀ s₀ c₀ f s c : MutBor (List ℕ)) (r : ℕ) → hold_reads.Post κs (text, (f₀, (s₀, (c₀, tt)))) r (text, (f, (s, (c, tt))))
      → Holds text.now r f.now s.now c.now

-- the line that is named for a text, from a line on
pub data Names : List ℕ → ℕ → ℕ → Type 0 where
  names : (κs : Lfts 1) (text : Bor (List ℕ)) (from r : ℕ) → fault_reads.Post κs (text, (from, tt)) r (text, (from, tt)) → Names text.now from r

-- a value term or a formula at a place of the fields is looked at
pub data SeesValue : List ℕ → ℕ → State → ℕ → ℕ → Type 0 where
  sees : (κs : Lfts 2) (f : Bor (List ℕ)) (at : ℕ) (v : Bor (List ℕ)) (e r : ℕ) → value_reads.Post κs (f, (at, (v, (e, tt)))) r (f, (at, (v, (e, tt))))
      → SeesValue f.now at v.now e r

pub data SeesFormula : List ℕ → ℕ → State → ℕ → ℕ → Type 0 where
  sees : (κs : Lfts 2) (f : Bor (List ℕ)) (at : ℕ) (v : Bor (List ℕ)) (e r : ℕ) → formula_reads.Post κs (f, (at, (v, (e, tt)))) r (f, (at, (v, (e, tt))))
      → SeesFormula f.now at v.now e r

-- a state, a row, a criterion is looked at; what is told of the first two stands in a buffer after the call
pub data SeesState : List ℕ → List ℕ → List ℕ → State → List ℕ → Type 0 where
  sees : (κs : Lfts 4) (f s c v : Bor (List ℕ)) (before told : MutBor (List ℕ)) → state_reads.Post κs (f, (s, (c, (v, (before, tt))))) tt (f, (s, (c, (v, (told, tt)))))
      → SeesState f.now s.now c.now v.now told.now

pub data SeesRow : List ℕ → List ℕ → List ℕ → ℕ → ℕ → State → ℕ → List ℕ → Type 0 where
  sees : (κs : Lfts 4) (f s c : Bor (List ℕ)) (side k : ℕ) (v : Bor (List ℕ)) (e : ℕ) (before told : MutBor (List ℕ))
      → row_reads.Post κs (f, (s, (c, (side, (k, (v, (e, (before, tt)))))))) tt (f, (s, (c, (side, (k, (v, (e, (told, tt))))))))
      → SeesRow f.now s.now c.now side k v.now e told.now

pub data SeesCriterion : List ℕ → List ℕ → List ℕ → State → ℕ → ℕ → ℕ → ℕ → Type 0 where
  sees : (κs : Lfts 3) (f s c v : Bor (List ℕ)) (n k e r : ℕ)
      → criterion_reads.Post κs (f, (s, (c, (v, (n, (k, (e, tt))))))) r (f, (s, (c, (v, (n, (k, (e, tt)))))))
      → SeesCriterion f.now s.now c.now v.now n k e r

-- ---- what a criterion asks

-- criterion n at the state s asks for this, at row k and the sum value e
pub data Asks (d : Design) (s : State) : ℕ → ℕ → ℕ → Type 0 → Type 1 where
  second : {k e : ℕ} → Asks d s 2 k e (Criterion2 d s)
  third : {k e : ℕ} {r : Row} → RowIs d.impl.rows k r → e < r.span → Asks d s 3 k e (Criterion3 d s r e)
  fourth : {k e : ℕ} {r : Row} → RowIs d.impl.rows k r → e < r.span → Asks d s 4 k e (Criterion4 d s r e)
  fifth : {k e : ℕ} {r : Row} → RowIs d.impl.rows k r → e < r.span → Asks d s 5 k e (Criterion5 d s k r e)
  sixth : {k e : ℕ} {r : Row} → RowIs d.impl.rows k r → e < r.span → Asks d s 6 k e (Criterion6 d s r e)
  -- "In criterion 7 the row is the specification's."
  seventh : {k e : ℕ} {q : Row} → RowIs d.spec.rows k q → e < q.span → Asks d s 7 k e (Criterion7 d s q e)
  eighth : {k e : ℕ} {r : Row} → RowIs d.impl.rows k r → e < r.span → Asks d s 8 k e (Criterion8 d s r e)
  ninth : {k e : ℕ} {r : Row} → RowIs d.impl.rows k r → e < r.span → Asks d s 9 k e (Criterion9 d s r e)

-- ---- the statement

pub record Looks : Type 1 where
  -- a design text is held, and no other: of that the lowest fault is told
  pub held : {text f s c : List ℕ} {r : ℕ} → Holds text r f s c → (r ≡ 0) ↔ DesignText text
  pub fault : {text f s c : List ℕ} {r : ℕ} → Holds text r f s c → r ≢ 0 → LowestFault text r
  -- the line named is the first from there on that shows this fault; and some line does, unless the text is too long or has too few of a kind
  pub line : {text : List ℕ} {from r : ℕ} → Names text from r → Tells text from r
  pub shown : (text : List ℕ) → Explains text
  -- of a state and of a row is told what the text's design says of them
  pub state : {text f s c v told : List ℕ} → Holds text 0 f s c → SeesState f s c v told → told ≡ state_told (design_text text) v
  pub row : {text f s c v told : List ℕ} {side k e : ℕ} → Holds text 0 f s c → SeesRow f s c side k v e told → told ≡ told_row (design_text text) side k v e
  -- of a term at a place is told what it means; and at the eight values of a state what it means at the state
  pub value : {f v : List ℕ} {at e r : ℕ} → SeesValue f at v e r → r ≡ value_told (value_in (drop at f)).tree v e
  pub formula : {f v : List ℕ} {at e r : ℕ} → SeesFormula f at v e r → r ≡ formula_told (formula_in (drop at f)).tree v e
  pub value_at_state : (s : State) → length s ≤ 8 → (t : Value) (e : ℕ) → value_told t (padded s) e ≡ value_told t s e
  pub formula_at_state : (s : State) → length s ≤ 8 → (t : Formula) (e : ℕ) → formula_told t (padded s) e ≡ formula_told t s e
  -- a criterion of 2 to 9, at a row and a sum value below its span, is told to hold exactly where it does, in a state where all but the
  -- invariant and the measure has its values
  pub criterion : {text f s c v : List ℕ} {n k e r : ℕ} → Holds text 0 f s c → SeesCriterion f s c v n k e r → OthersHave (design_text text) v
      → {C : Type 0} → Asks (design_text text) v n k e C → (r ≡ 1) ↔ C
  -- nothing is asked of a caller, and every call has an answer; that of a line is there by its contract alone
  pub hold_asks : (κs : Lfts 4) (text : Bor (List ℕ)) (f s c : MutBor (List ℕ)) → hold_reads.Pre κs (text, (f, (s, (c, tt))))
  pub line_asks : (κs : Lfts 1) (text : Bor (List ℕ)) (from : ℕ) → fault_reads.Pre κs (text, (from, tt))
  pub value_asks : (κs : Lfts 2) (f : Bor (List ℕ)) (at : ℕ) (v : Bor (List ℕ)) (e : ℕ) → value_reads.Pre κs (f, (at, (v, (e, tt))))
  pub formula_asks : (κs : Lfts 2) (f : Bor (List ℕ)) (at : ℕ) (v : Bor (List ℕ)) (e : ℕ) → formula_reads.Pre κs (f, (at, (v, (e, tt))))
  pub state_asks : (κs : Lfts 4) (f s c v : Bor (List ℕ)) (told : MutBor (List ℕ)) → state_reads.Pre κs (f, (s, (c, (v, (told, tt)))))
  pub row_asks : (κs : Lfts 4) (f s c : Bor (List ℕ)) (side k : ℕ) (v : Bor (List ℕ)) (e : ℕ) (told : MutBor (List ℕ))
      → row_reads.Pre κs (f, (s, (c, (side, (k, (v, (e, (told, tt))))))))
  pub criterion_asks : (κs : Lfts 3) (f s c v : Bor (List ℕ)) (n k e : ℕ) → criterion_reads.Pre κs (f, (s, (c, (v, (n, (k, (e, tt)))))))
  pub hold_there : (text : List ℕ) → (r : ℕ) × (f s c : List ℕ) × Holds text r f s c
  pub value_there : (f : List ℕ) (at : ℕ) (v : List ℕ) (e : ℕ) → (r : ℕ) × SeesValue f at v e r
  pub formula_there : (f : List ℕ) (at : ℕ) (v : List ℕ) (e : ℕ) → (r : ℕ) × SeesFormula f at v e r
  pub state_there : (f s c v : List ℕ) → (told : List ℕ) × SeesState f s c v told
  pub row_there : (f s c : List ℕ) (side k : ℕ) (v : List ℕ) (e : ℕ) → (told : List ℕ) × SeesRow f s c side k v e told
  pub criterion_there : (f s c v : List ℕ) (n k e : ℕ) → (r : ℕ) × SeesCriterion f s c v n k e r
