-- Laws of calls and lists of calls: what a contract's equation says of a call, that every call has an answer (`answered_all`), and the
-- latest call of a list.
use Prim.Native.Nat.{ℕ}
use mathlib.Core.Path.{◌≡◌, refl, sym, ap, ◌∙◌}
use mathlib.Core.Bool.{false, true≢false}
use mathlib.Core.List.{List, [], ◌∷◌}
use borrow.Author.Tests.{eq-eqb}
use lib.Dec.{eqb}
use denote.Ref.{Bor, MutBor}
use Rattle.answers.specs.declared.Done.{Done}
use Rattle.answers.specs.declared.Advance.{Advance}
use Rattle.desk.specs.declared.Desk.{Desk}
use Rattle.desk.specs.declared.AfterLoad.{AfterLoad}
use Rattle.desk.specs.declared.AfterMeasure.{AfterMeasure}
use Rattle.desk.specs.Desk.{empty_desk, load_of, advance_of, tell_of, drop_of}
use Rattle.desk.specs.Measure.{MeasureOf}
use Rattle.desk.proofs.Measure.{number_of, answer_there}
use Rattle.desk.proofs.Numbers.{load_number_lem, advance_number_lem, advance_count_lem, verdict_numbers_lem, drop_number}
use Rattle.conversion.specs.Result.{Way, there, back}
use Rattle.conversion.specs.Answer as conversion
use Rattle.checker.specs.OneCall.{answer_of, buffer_written}
use Rattle.measuring.specs.Measured as measuring
use Rattle.measuring.proofs.Laws.{text_there}
use Rattle.claims.specs.Calls.{Called, load, advance, verdict, measure, drop}
use Rattle.claims.specs.Contracted.{Loads, loads, Makes, makes, Checks, checks, Writes, marks, unmarks, MakesFor, makes_for, AsksNothing, Answered}

-- ---- one call

pub loaded_as : {d : Desk} {text : List ℕ} {r : AfterLoad} → Loads d text r → r ≡ load_of d text
loaded_as (loads κs d text r p) = p.0

pub answered : {text report after : List ℕ} {r : ℕ} → Checks text report r after → r ≡ answer_of text report
answered (checks κs text report after r p) = p.0

pub written : {text report after : List ℕ} {r : ℕ} → Checks text report r after → after ≡ buffer_written text report
written (checks κs text report after r p) = p.1

-- a measure: the desk stays, and what it answers and writes
pub made_by : {d : Desk} {slice after : List ℕ} {r : AfterMeasure} → Makes d slice r after → (r.desk ≡ d) × MeasureOf d slice after r.answer
made_by (makes κs d slice after r p) = (p.0, p.1.0)

-- and one made for a text
pub made_for : {text slice after : List ℕ} {r number : ℕ} → MakesFor text slice r number after → measuring.Tells text slice after r number
made_for (makes_for κs text slice after before number r p) = p

-- the number, the length and the buffer of a writer's call
pub writer_number : {way : Way} {text buffer after : List ℕ} {n r : ℕ} → Writes way text buffer n r after
    → n ≡ (conversion.answer_of way text buffer).number
writer_number (marks κs text buffer after before number r p) = p.1.1
writer_number (unmarks κs text buffer after before number r p) = p.1.1

pub writer_length : {way : Way} {text buffer after : List ℕ} {n r : ℕ} → Writes way text buffer n r after
    → r ≡ (conversion.answer_of way text buffer).length
writer_length (marks κs text buffer after before number r p) = p.0
writer_length (unmarks κs text buffer after before number r p) = p.0

pub writer_buffer : {way : Way} {text buffer after : List ℕ} {n r : ℕ} → Writes way text buffer n r after
    → after ≡ conversion.buffer_written way text buffer
writer_buffer (marks κs text buffer after before number r p) = p.1.0
writer_buffer (unmarks κs text buffer after before number r p) = p.1.0

-- ---- nothing is asked, and every call has an answer

pub asks_nothing : AsksNothing
asks_nothing = record {
  of_empty = tt;
  of_load = λ κs d text. tt;
  of_advance = λ d n. tt;
  of_verdict = λ d. tt;
  of_measure = λ κs d slice. tt;
  of_drop = λ d. tt;
  of_check = λ κs text report. tt;
  of_mark = λ κs text buffer number. tt;
  of_measuring = λ κs text slice number. tt;
  of_unmark = λ κs text buffer number. tt;
}

-- bytes, or a number, lent from anywhere
abbrev pub lent : {A : Type 0} → A → Bor A
lent x = record { ref_ptr = (0, 0); now = x }

-- the same, lent to be written
abbrev pub lent_out : {A : Type 0} → A → MutBor A
lent_out x = record { ref_ptr = (0, 0); ghost_name = 0; now = x }

writes_as : (way : Way) (text buffer : List ℕ) → let w = conversion.answer_of way text buffer in
    Writes way text buffer w.number w.length (conversion.buffer_written way text buffer)
writes_as there text buffer =
    marks ([], ([], ([], tt))) (lent text) (lent_out buffer) (lent_out (conversion.buffer_written there text buffer))
    (lent_out 0) (lent_out (conversion.answer_of there text buffer).number) _ (refl, (refl, refl))
writes_as back text buffer =
    unmarks ([], ([], ([], tt))) (lent text) (lent_out buffer) (lent_out (conversion.buffer_written back text buffer))
    (lent_out 0) (lent_out (conversion.answer_of back text buffer).number) _ (refl, (refl, refl))

makes_some : (d : Desk) (slice : List ℕ) → (r : AfterMeasure) × (after : List ℕ) × Makes d slice r after
makes_some d slice =
    let m = answer_there d slice in
    let r : AfterMeasure = record { answer = m.answer; desk = d } in
    (r, m.after, makes ([], tt) d (lent_out slice) (lent_out m.after) r (refl, (m.is, number_of m.is)))

makes_for_some : (text slice : List ℕ) → (r number : ℕ) × (after : List ℕ) × MakesFor text slice r number after
makes_for_some text slice =
    let m = text_there text slice in
    let r = measuring.result_of m.answer in
    let k = measuring.number_told m.answer in
    let call = makes_for ([], ([], ([], tt))) (lent text) (lent_out slice) (lent_out m.after) (lent_out 0) (lent_out k) r in
    (r, k, m.after, call (record { answer = m.answer; is = m.is; returned = refl; told = refl }))

pub answered_all : Answered
answered_all = record {
  new = (empty_desk, refl);
  load = λ d text. (load_of d text, loads ([], tt) d (lent text) (load_of d text) (refl, load_number_lem d text (load_of d text) refl));
  advance = λ d n. (advance_of d n, (refl, (advance_number_lem d n (advance_of d n) refl, advance_count_lem d n (advance_of d n) refl)));
  verdict = λ d. (tell_of d, (refl, verdict_numbers_lem d (tell_of d) refl));
  measure = makes_some;
  measuring = makes_for_some;
  drop = λ d. (drop_of d, (refl, drop_number d (drop_of d) refl));
  check = λ text report. (
    answer_of text report,
    buffer_written text report,
    checks ([], ([], tt)) (lent text) (lent_out report) (lent_out (buffer_written text report)) (answer_of text report) (refl, refl),
  );
  writer = λ way text buffer.
      let w = conversion.answer_of way text buffer in
      (w.number, w.length, conversion.buffer_written way text buffer, writes_as way text buffer);
}

-- ---- lists

-- the latest call of a list, and those before it
pub latest : {c e : Called} {cs ds : List Called} → c ∷ cs ≡ e ∷ ds → c ≡ e
latest q = cc

pub earlier : {c e : Called} {cs ds : List Called} → c ∷ cs ≡ e ∷ ds → cs ≡ ds
earlier q = cc

-- a load, an advance, a verdict, a measure or a drop
abbrev kind : Called → ℕ
kind (load text a) = 0
kind (advance n a) = 1
kind (verdict v) = 2
kind (measure slice after a) = 3
kind (drop a) = 4

-- lists whose latest calls are of two kinds are not the same
pub apart : {c e : Called} {cs ds : List Called} → c ∷ cs ≡ e ∷ ds → eqb (kind c) (kind e) ≡ false → ⊥
apart {c} {e} q f = true≢false (sym (eq-eqb (kind c) (kind e) (ap kind (latest q))) ∙ f)

-- and those that are of one kind have the same arguments and answers
pub same_load : {t u : List ℕ} {a b : Done} {cs ds : List Called} → load t a ∷ cs ≡ load u b ∷ ds → (t ≡ u) × (a ≡ b)
same_load q = let p = latest q in (cc, cc)

pub same_advance : {n i : ℕ} {a b : Advance} {cs ds : List Called} → advance n a ∷ cs ≡ advance i b ∷ ds → (n ≡ i) × (a ≡ b)
same_advance q = let p = latest q in (cc, cc)
