-- A load's answer, for every text that what was read may be of; and the line of a measure, from its head and its pieces.
use Rattle.std.proofs.Common.{◌≡◌, ℕ, min, List, [], ◌∷◌, ◌++◌, Bool, cond, length, take, sym, ap, ◌∙◌}
use Rattle.std.proofs.lemmas.List.{take_min}
use Rattle.desk.specs.declared.Desk.{Desk}
use Rattle.desk.specs.declared.AfterLoad.{AfterLoad}
use Rattle.desk.specs.Desk.{load_of}
use Rattle.desk.proofs.Cut.{load_cut}
use Rattle.answer_lines.specs.Answers.{done_line, measure_line}
use Rattle.answer_lines.proofs.Pieces.{Pieces, line_in_pieces}
use Rattle.calls.specs.Calls.{IsText, MeasureSaid}

-- what was read stands for every text that begins with it
module _ (desk : Desk) (n k : ℕ) (room : List ℕ) (r : AfterLoad) (l : length room ≡ 28673) (ek : k ≡ min n 28673) (e : r ≡ load_of desk (take k room))
    (text : List ℕ) (i : IsText n room text) where
  loaded : r ≡ load_of desk text
  loaded =
      let first : take k room ≡ take n room = rw (ek, ← l) (take_min n room) in
      let start : take 28673 text ≡ take n room = rw l at i.1 in
      e ∙ (ap (load_of desk) (first ∙ sym start) ∙ load_cut desk text)

  pub load_desk : r.desk ≡ (load_of desk text).desk
  load_desk = ap (λ x. x.desk) loaded

  pub load_line : (word x : List ℕ) → x ≡ done_line word r.answer → x ≡ done_line word (load_of desk text).answer
  load_line word x h = h ∙ ap (λ y. done_line word y.answer) loaded

-- the head, and if the places follow these in pieces and byte 10, are the line of that answer
pub measure_line_lem : (d : Desk) (n : ℕ) (after head x : List ℕ) (places : Bool) (s : MeasureSaid d n after head places) → Pieces after 0 x
    → head ++ cond places (x ++ (10 ∷ [])) [] ≡ measure_line s.answer after
measure_line_lem d n after head x places s p = rw (s.said, s.follow) (line_in_pieces s.answer after x p)
