-- What a line shows is a fault of the text (`shows_fault`), and the fault by which a text is turned down is shown by one of its lines, unless
-- the text is too long, or has too few lines of a kind (`explained`): so `next` explains (`explains`).
use Prim.Native.Nat.{ℕ, suc, ◌+◌, ◌*◌, ◌<◌, ◌≤◌}
use mathlib.Core.Path.{◌≡◌, refl, sym, ap, ◌∙◌}
use mathlib.Core.Logic.{◌≢◌}
use mathlib.Core.Bool.{Bool, true, false}
use mathlib.Core.List.Memᴰ
use mathlib.Core.List.{List, [], ◌∷◌, ◌++◌, map, append_assoc, Memᴰ}
use native.Mathlib.Omega.{arith}
use native.Mathlib.Nat.{le-mul_of_pos_right, mul_assoc}
use borrow.Author.Tests.{eqb-true, eqb-false, eq-eqb, ltb-true, ltb-false, leb-true, leb-false}
use lib.Dec.{eqb, ltb, leb}
use lib.ListN.{length, length-append}
use Rattle.foundation.specs.Lowest.{First, here, past}
use Rattle.foundation.proofs.Reflects.{says_yes}
use Rattle.reader.specs.Text.{lines_of, last_of, fields_by_line, count_all, Fault2, Fault3}
use Rattle.reader.specs.Text as reader
use Rattle.kinds.specs.Kinds.{whole_text, entry_in, last_in}
use Rattle.kinds.specs.declared.Entry.{Entry}
use Rattle.kinds.proofs.Table.{known_within, rank_own, rank_none, rank_some}
use Rattle.criteria.specs.Design.{Row, RowIs}
use Rattle.design.specs.Line.{row_of}
use Rattle.design.specs.Lines.{kind_of, of_kind, count_of, design_of}
use Rattle.design.specs.Faults as faults
use Rattle.design.specs.Faults.{entry_of, of_rank, size_of, IsParameter, IsRow, Fault4, Fault5, Fault6, Fault7, Fault}
use Rattle.design.specs.Tests.{bounds_fit}
use Rattle.design.proofs.Fault5.{by_bounds, bounds_of, has_fault5}
use Rattle.loader.specs.Load.{fault_of}
use Rattle.loader.proofs.Lowest.{lowest_fault}
use Rattle.fault_lines.specs.Shows as shows
use Rattle.fault_lines.specs.Shows.{Cut, Shows2, Shows3, Shows4, Shows5, Shows6, Shows7, Shows, Explained, Explains, states}
use Rattle.line_faults.specs.Tests.{action_of}
use Rattle.fault_lines.proofs.Cuts.{some_lines}
use Rattle.fault_lines.proofs.Decides.{row_kind, row_3, row_4}
use Rattle.fault_lines.proofs.Places.{Place, place_of, place_cut, cut_among, last_place, Crossing, crossing, count_append, ranks_append, states_append, states_one, states_none, states_some, last_rank_lem, Falling, falls_place, falls_at, row_place, TwoPlaces, two_places, kinds_at, row_nth}

-- ==== what a line shows is a fault

fault_2 : (text : List ℕ) {line : List ℕ} {l : ℕ} {earlier later : List (List ℕ)} → Cut (lines_of text) l earlier line later → Shows2 text line later → Fault2 text
fault_2 text c (shows.broken n) = reader.broken (cut_among c) n
fault_2 text c (shows.unended e n) = reader.unended n

parameter_1 : IsParameter 1
unfolding entry_in
parameter_1 = refl

module _ {lines earlier later : List (List ℕ)} {line : List ℕ} {l : ℕ} (c : Cut lines l earlier line later) where
  -- the numbers of all lines by those of the parts
  count_parts : count_all lines ≡ count_all earlier + (length line + count_all later)
  unfolding count_all
  count_parts = ap count_all c.parts ∙ count_append earlier (line ∷ later)

  rank_parts : length (of_rank whole_text (entry_of whole_text line).rank lines)
      ≡ length (of_rank whole_text (entry_of whole_text line).rank earlier) + suc (length (of_rank whole_text (entry_of whole_text line).rank later))
  unfolding of_rank
  rank_parts =
      let r = (entry_of whole_text line).rank in
      ap (λ ls. length (of_rank whole_text r ls)) c.parts ∙ (ranks_append r earlier (line ∷ later) ∙ rw (eq-eqb r r refl))

  states_parts : states lines ≡ states earlier * (states (line ∷ []) * states later)
  states_parts = ap states c.parts ∙ (states_append earlier (line ∷ later) ∙ ap (λ n. states earlier * n) (states_append (line ∷ []) later))

  fault_4 : Shows4 earlier line → Fault4 whole_text lines
  fault_4 (shows.unknown e) = faults.unknown (cut_among c) e
  fault_4 (shows.falling h) = faults.falling (rw c.parts (falls_at earlier line later h))
  fault_4 (shows.one_more h) = go (eqb (entry_of whole_text line).most 0) refl
    where
      go : (b : Bool) → eqb (entry_of whole_text line).most 0 ≡ b → Fault4 whole_text lines
      go true e = faults.unknown (cut_among c) (eqb-true _ 0 e)
      go false e = let p = rank_parts in faults.wrong_count (kind_of line) (eqb-false _ 0 e) (λ a. let m = a.1 in omega arith)
  fault_4 (shows.not_exactly e n) = faults.not_exactly (cut_among c) e n
  fault_4 (shows.too_few e n) = faults.too_few (cut_among c) e n

  -- the product passes the bound, or a later size is 0
  fault_5 : Shows5 earlier line → Fault5 lines
  fault_5 (shows.size p e) = faults.size (cut_among c) p e
  fault_5 (shows.initial p e) = faults.initial (cut_among c) p e
  fault_5 (shows.span p e) = faults.span (cut_among c) p e
  fault_5 (shows.passing k a b) = go (bounds_fit lines) refl
    where
      go : (f : Bool) → bounds_fit lines ≡ f → Fault5 lines
      go false e = has_fault5 lines e
      go true e =
          let bounds = bounds_of lines (says_yes (by_bounds lines) e) in
          let some : 1 ≤ states later = states_some later (λ x m j. ((bounds.numbers x (rw c.parts (in_later x m))).0 (rw j parameter_1)).0) in
          let z = states_parts in
          let y : states lines ≡ states earlier * size_of line * states later = z ∙ rw (states_one line k) (sym (mul_assoc (states earlier) (size_of line) (states later))) in
          let p = le-mul_of_pos_right {m = states later} (states earlier * size_of line) some in
          let q = bounds.few_states in
          absurd (omega arith)
        where
          in_later : (x : List ℕ) → Memᴰ x later → Memᴰ x (earlier ++ line ∷ later)
          in_later x m = Memᴰ.append_right earlier (Memᴰ.tail m)

fault_3 : (text : List ℕ) {line : List ℕ} {l : ℕ} {earlier later : List (List ℕ)} → Cut (fields_by_line text) l earlier line later → Shows3 earlier line → Fault3 text
fault_3 text c (shows.long h) = reader.long_line_lem (cut_among c) h
fault_3 text c (shows.passing a b) = let p = count_parts c in reader.many (omega arith)

fault_6 : {lines earlier later : List (List ℕ)} {line : List ℕ} {l : ℕ} → Cut lines l earlier line later → Shows6 lines line → Fault6 lines
fault_6 c (shows.wrong_terms h n) = faults.wrong_terms (cut_among c) h n

-- ---- 7: a line's row, by its number

module _ (k : ℕ) (f : List ℕ → Row) (lines : List (List ℕ)) where
  row_of_lem : {l : ℕ} {earlier later : List (List ℕ)} {line : List ℕ} → Cut lines l earlier line later → kind_of line ≡ k
      → RowIs (map f (of_kind k lines)) (suc (length (of_kind k earlier))) (f line)
  row_of_lem {earlier = earlier} {later = later} {line = line} c e = rw c.parts (row_nth k f earlier line later e)

  -- a line and one before it are two rows
  pub record Apart (line other : List ℕ) : Type 0 where
    pub number : ℕ
    pub number_other : ℕ
    pub is : RowIs (map f (of_kind k lines)) number (f line)
    pub is_other : RowIs (map f (of_kind k lines)) number_other (f other)
    pub apart : number ≢ number_other

  apart_of : {l : ℕ} {earlier later : List (List ℕ)} {line other : List ℕ} → Cut lines l earlier line later → kind_of line ≡ k → Memᴰ other earlier
      → kind_of other ≡ k → Apart line other
  apart_of {earlier = earlier} {later = later} {line = line} {other = other} c e m g =
      let p = place_of earlier other m in
      let parts : lines ≡ p.earlier ++ other ∷ (p.later ++ line ∷ later) =
      c.parts ∙ (ap (λ (x : List (List ℕ)). x ++ line ∷ later) p.parts ∙ append_assoc p.earlier (other ∷ p.later) (line ∷ later))
      in
      let before : length (of_kind k earlier) ≡ length (of_kind k p.earlier) + suc (length (of_kind k p.later)) =
      ap (λ (x : List (List ℕ)). length (of_kind k x)) p.parts
      ∙ (ap length (kinds_at k f p.earlier other p.later g) ∙ length-append (of_kind k p.earlier) (other ∷ of_kind k p.later))
      in
      record {
        number = suc (length (of_kind k earlier));
        number_other = suc (length (of_kind k p.earlier));
        is = row_of_lem c e;
        is_other = rw parts (row_nth k f p.earlier other (p.later ++ line ∷ later) g);
        apart = λ z. omega arith;
      }

module _ {lines earlier later : List (List ℕ)} {line : List ℕ} {l : ℕ} (c : Cut lines l earlier line later) where
  abbrev impl : List ℕ → Row
  impl = row_of (count_of 1 lines)

  abbrev spec : List ℕ → Row
  spec = row_of (count_of 2 lines)

  twice_3 : {other : List ℕ} → kind_of line ≡ 3 → action_of line ≢ 0 → Memᴰ other earlier → kind_of other ≡ 3 → action_of other ≡ action_of line
      → Fault7 (design_of lines)
  unfolding design_of
  twice_3 e n m g a =
      let p = apart_of 3 impl lines c e m g in
      faults.twice_impl record { number_r = p.number; number_q = p.number_other; is_r = p.is; is_q = p.is_other; apart = p.apart } n (sym a)

  twice_4 : {other : List ℕ} → kind_of line ≡ 4 → action_of line ≢ 0 → Memᴰ other earlier → kind_of other ≡ 4 → action_of other ≡ action_of line
      → Fault7 (design_of lines)
  unfolding design_of
  twice_4 e n m g a =
      let p = apart_of 4 spec lines c e m g in
      faults.twice_spec record { number_r = p.number; number_q = p.number_other; is_r = p.is; is_q = p.is_other; apart = p.apart } n (sym a)

  fault_7 : Shows7 lines earlier line → Fault7 (design_of lines)
  unfolding design_of
  fault_7 (shows.twice {other = other} r n m e a) = go (eqb (kind_of line) 3) (eqb (kind_of line) 4) refl refl
    where
      go : (x y : Bool) → eqb (kind_of line) 3 ≡ x → eqb (kind_of line) 4 ≡ y → Fault7 (design_of lines)
      go true y ex ey = let k = eqb-true (kind_of line) 3 ex in twice_3 k n m (e ∙ k) a
      go false true ex ey = let k = eqb-true (kind_of line) 4 ey in twice_4 k n m (e ∙ k) a
      go false false ex ey = absurd (row_kind (kind_of line) (eqb-false (kind_of line) 3 ex) (eqb-false (kind_of line) 4 ey) r)
  fault_7 (shows.internal_spec e a) = faults.internal_spec (row_of_lem 4 spec lines c e) a
  fault_7 (shows.internal_data e a n) = faults.internal_data (row_of_lem 3 impl lines c e) a n
  fault_7 (shows.spans_differ {other = other} e m g a n) =
      faults.spans_differ (row_of_lem 3 impl lines (place_cut (place_of lines other m)) g) (row_of_lem 4 spec lines c e) a n

pub shows_fault : (text : List ℕ) {k l : ℕ} → Shows text k l → Fault text k
shows_fault text (shows.second c p) = faults.second (fault_2 text c p)
shows_fault text (shows.third c p) = faults.third (fault_3 text c p)
shows_fault text (shows.fourth c p) = faults.fourth (fault_4 c p)
shows_fault text (shows.fifth c p) = faults.fifth (fault_5 c p)
shows_fault text (shows.sixth c p) = faults.sixth (fault_6 c p)
shows_fault text (shows.seventh c p) = faults.seventh (fault_7 c p)

-- ==== a fault is shown

-- a rank is that of one kind only
same_kind : (j k : ℕ) → (entry_in whole_text k).most ≢ 0 → (entry_in whole_text j).rank ≡ (entry_in whole_text k).rank → j ≡ k
unfolding last_in
same_kind j k z e =
    let w : k ≤ 8 = known_within whole_text k (omega arith) in
    let r = rank_own k w in
    let s = rank_some k (omega arith) in
    go (leb j 8) refl r s
  where
    go : (b : Bool) → leb j 8 ≡ b → (entry_in whole_text k).rank ≡ k → 1 ≤ (entry_in whole_text k).rank → j ≡ k
    go true l r s = let o = rank_own j (leb-true j 8 l) in omega arith
    go false l r s = let o = rank_none j (leb-false j 8 l) in absurd (omega arith)

last_none : last_of 10 [] ≡ 10
unfolding last_of
last_none = refl

module _ (text : List ℕ) where
  abbrev lines : List (List ℕ)
  lines = fields_by_line text

  -- by a line that is at fault
  line_2 : {line : List ℕ} → Memᴰ line (lines_of text) → ((later : List (List ℕ)) → Shows2 text line later) → Explained text 2
  line_2 {line} m p = let q = place_of (lines_of text) line m in shows.shown (shows.second (place_cut q) (p q.later))

  last_2 : (ls : List (List ℕ)) → lines_of text ≡ ls → last_of 10 text ≢ 10 → Explained text 2
  last_2 [] e n = absurd (empty text e n)
    where
      empty : (t : List ℕ) → lines_of t ≡ [] → last_of 10 t ≢ 10 → ⊥
      empty [] e n = n last_none
      empty (b ∷ t) e n = some_lines b t e
  last_2 (x ∷ ls) e n =
      let p = last_place x ls in
      let q : Place (lines_of text) p.line = record { earlier = p.earlier; later = []; parts = e ∙ p.parts } in
      shows.shown (shows.second (place_cut q) (shows.unended refl n))

  explain_2 : Fault2 text → Explained text 2
  explain_2 (reader.broken m n) = line_2 m (λ later. shows.broken n)
  explain_2 (reader.unended n) = last_2 (lines_of text) refl n

  explain_3 : Fault3 text → Explained text 3
  unfolding count_all
  explain_3 (reader.long_line_lem {fields = line} m h) = let q = place_of lines line m in shows.shown (shows.third (place_cut q) (shows.long h))
  explain_3 (reader.many h) =
      let x = crossing count_all 4096 lines (omega arith) h in
      let b = x.below in
      let a = x.above in
      let n = count_append x.place.earlier (x.line ∷ []) in
      shows.shown (shows.third (place_cut x.place) (shows.passing b (omega arith)))

  line_4 : {line : List ℕ} → Memᴰ line lines → ((earlier : List (List ℕ)) → Shows4 earlier line) → Explained text 4
  line_4 {line} m p = let q = place_of lines line m in shows.shown (shows.fourth (place_cut q) (p q.earlier))

  fall_4 : Falling lines → Explained text 4
  fall_4 f =
      let q : Place lines f.line = record { earlier = f.before ++ (f.higher ∷ []); later = f.later; parts = f.parts } in
      let r = last_rank_lem 0 f.before f.higher in
      let h = f.falls in
      shows.shown (shows.fourth (place_cut q) (shows.falling (omega arith)))

  -- too many lines of a kind: the one that is one more than there may be
  more_4 : (k : ℕ) → (entry_in whole_text k).most ≢ 0 → (entry_in whole_text k).most < length (of_rank whole_text (entry_in whole_text k).rank lines) → Explained text 4
  unfolding of_rank
  more_4 k z h = go (eqb (entry_of whole_text x.line).rank r) refl
    where
      r : ℕ
      r = (entry_in whole_text k).rank

      x : Crossing (λ ls. length (of_rank whole_text (entry_in whole_text k).rank ls)) (entry_in whole_text k).most lines
      x = crossing (λ ls. length (of_rank whole_text (entry_in whole_text k).rank ls)) (entry_in whole_text k).most lines (omega arith) h

      sum : length (of_rank whole_text r (x.place.earlier ++ (x.line ∷ [])))
          ≡ length (of_rank whole_text r x.place.earlier) + length (of_rank whole_text r (x.line ∷ []))
      sum = ranks_append r x.place.earlier (x.line ∷ [])

      go : (b : Bool) → eqb (entry_of whole_text x.line).rank r ≡ b → Explained text 4
      go true e =
          let same : kind_of x.line ≡ k = same_kind (kind_of x.line) k z (eqb-true _ r e) in
          let a = x.above in
          let one_line : length (of_rank whole_text r (x.line ∷ [])) ≡ 1 = rw e in
          let s = sum in
          shows.shown (shows.fourth (place_cut x.place) (shows.one_more (rw same (omega arith))))
      go false e =
          let a = x.above in
          let b = x.below in
          let no_line : length (of_rank whole_text r (x.line ∷ [])) ≡ 0 = rw e in
          let s = sum in
          absurd (omega arith)

  explain_4 : Fault4 whole_text lines → Explained text 4
  explain_4 (faults.unknown m e) = line_4 m (λ earlier. shows.unknown e)
  explain_4 (faults.falling f) = fall_4 (falls_place f)
  explain_4 (faults.wrong_count k z n) = go (leb e.fewest c) (leb c e.most) refl refl
    where
      e : Entry
      e = entry_in whole_text k

      c : ℕ
      c = length (of_rank whole_text (entry_in whole_text k).rank lines)

      go : (a b : Bool) → leb e.fewest c ≡ a → leb c e.most ≡ b → Explained text 4
      go false b ea eb = shows.missing record { kind = k; fewer = leb-false e.fewest c ea }
      go true false ea eb = more_4 k z (leb-false c e.most eb)
      go true true ea eb = absurd (n (leb-true e.fewest c ea, leb-true c e.most eb))
  explain_4 (faults.not_exactly m e n) = line_4 m (λ earlier. shows.not_exactly e n)
  explain_4 (faults.too_few m e n) = line_4 m (λ earlier. shows.too_few e n)

  line_5 : {line : List ℕ} → Memᴰ line lines → ((earlier : List (List ℕ)) → Shows5 earlier line) → Explained text 5
  line_5 {line} m p = let q = place_of lines line m in shows.shown (shows.fifth (place_cut q) (p q.earlier))

  -- too many states: the kind 1 line with which there are
  states_5 : 65536 < states lines → Explained text 5
  unfolding of_kind
  states_5 h = go (eqb (kind_of x.line) 1) refl
    where
      x : Crossing states 65536 lines
      x = crossing states 65536 lines (omega arith) h

      sum : states (x.place.earlier ++ (x.line ∷ [])) ≡ states x.place.earlier * states (x.line ∷ [])
      sum = states_append x.place.earlier (x.line ∷ [])

      go : (b : Bool) → eqb (kind_of x.line) 1 ≡ b → Explained text 5
      go true e =
          let k = eqb-true (kind_of x.line) 1 e in
          let a : 65536 < states x.place.earlier * size_of x.line = rw (sum, states_one x.line k) at x.above in
          shows.shown (shows.fifth (place_cut x.place) (shows.passing k x.below a))
      go false e =
          let a : 65536 < states x.place.earlier * 1 = rw (sum, states_none x.line (eqb-false (kind_of x.line) 1 e)) at x.above in
          let b = x.below in
          absurd (omega arith)

  explain_5 : Fault5 lines → Explained text 5
  explain_5 (faults.size m p e) = line_5 m (λ earlier. shows.size p e)
  explain_5 (faults.initial m p e) = line_5 m (λ earlier. shows.initial p e)
  explain_5 (faults.span m r e) = line_5 m (λ earlier. shows.span r e)
  explain_5 (faults.states h) = states_5 h

  explain_6 : Fault6 lines → Explained text 6
  explain_6 (faults.wrong_terms {line = line} m h n) = shows.shown (shows.sixth (place_cut (place_of lines line m)) (shows.wrong_terms h n))

  -- of two rows of one action the later
  later_7 : (k : ℕ) (f : List ℕ → Row) → ((line : List ℕ) → (f line).action ≡ action_of line) → IsRow k → {r q : Row} → TwoPlaces k f lines r q
      → q.action ≢ 0 → r.action ≡ q.action → Explained text 7
  later_7 k f acts row {r} {q} t n a =
      let here-is : action_of t.line ≡ q.action = sym (acts t.line) ∙ ap (λ (x : Row). x.action) t.says in
      let there-is : action_of t.other ≡ r.action = sym (acts t.other) ∙ ap (λ (x : Row). x.action) t.says_other in
      shows.shown
      (shows.seventh (place_cut t.place)
      (shows.twice (rw t.kind row) (λ z. n (sym here-is ∙ z)) t.among (t.kind_other ∙ sym t.kind) (there-is ∙ (a ∙ sym here-is))))

  twice_7 : (k : ℕ) (f : List ℕ → Row) → ((line : List ℕ) → (f line).action ≡ action_of line) → IsRow k → (i j : ℕ) (r q : Row) → RowIs (map f (of_kind k lines)) i r
      → RowIs (map f (of_kind k lines)) j q → i ≢ j → r.action ≢ 0 → r.action ≡ q.action → Explained text 7
  twice_7 k f acts row i j r q is_r is_q apart n a = go (ltb i j) refl
    where
      go : (b : Bool) → ltb i j ≡ b → Explained text 7
      go true e = later_7 k f acts row (two_places k f lines i j r q (ltb-true i j e) is_r is_q) (λ z. n (a ∙ z)) a
      go false e = let h = ltb-false i j e in later_7 k f acts row (two_places k f lines j i q r (omega arith) is_q is_r) n (sym a)

  explain_7 : Fault7 (design_of lines) → Explained text 7
  unfolding design_of
  explain_7 (faults.twice_impl {r = r} {q = q} t n a) =
      twice_7 3 (row_of (count_of 1 lines)) (λ line. refl) row_3 t.number_r t.number_q r q t.is_r t.is_q t.apart n a
  explain_7 (faults.twice_spec {r = r} {q = q} t n a) =
      twice_7 4 (row_of (count_of 2 lines)) (λ line. refl) row_4 t.number_r t.number_q r q t.is_r t.is_q t.apart n a
  explain_7 (faults.internal_spec {k = i} {q = q} is a) =
      let p = row_place 4 (row_of (count_of 2 lines)) lines i q is in
      shows.shown (shows.seventh (place_cut p.place) (shows.internal_spec p.kind (ap (λ (x : Row). x.action) p.says ∙ a)))
  explain_7 (faults.internal_data {k = i} {r = r} is a n) =
      let p = row_place 3 (row_of (count_of 1 lines)) lines i r is in
      shows.shown
      (shows.seventh (place_cut p.place)
      (shows.internal_data p.kind (ap (λ (x : Row). x.action) p.says ∙ a) (λ z. n (sym (ap (λ (x : Row). x.carries) p.says) ∙ z))))
  explain_7 (faults.spans_differ {k = i} {j = j} {r = r} {q = q} is_r is_q a n) =
      let o = row_place 3 (row_of (count_of 1 lines)) lines i r is_r in
      let p = row_place 4 (row_of (count_of 2 lines)) lines j q is_q in
      let act-o = ap (λ (x : Row). x.action) o.says in
      let act-p = ap (λ (x : Row). x.action) p.says in
      let span-o = ap (λ (x : Row). x.span) o.says in
      let span-p = ap (λ (x : Row). x.span) p.says in
      shows.shown
      (shows.seventh (place_cut p.place)
      (shows.spans_differ p.kind (cut_among (place_cut o.place)) o.kind (act-o ∙ (a ∙ sym act-p)) (λ z. n (sym span-o ∙ (z ∙ span-p)))))

  explain : {k : ℕ} → Fault text k → Explained text k
  explain (faults.first f) = shows.too_long
  explain (faults.second f) = explain_2 f
  explain (faults.third f) = explain_3 f
  explain (faults.fourth f) = explain_4 f
  explain (faults.fifth f) = explain_5 f
  explain (faults.sixth f) = explain_6 f
  explain (faults.seventh f) = explain_7 f

  found : {k : ℕ} {ks : List ℕ} → First (Fault text) ks k → Fault text k
  found (here f) = f
  found (past n f) = found f

  pub explained : Explained text (fault_of text)
  explained = go (eqb (fault_of text) 0) refl
    where
      go : (b : Bool) → eqb (fault_of text) 0 ≡ b → Explained text (fault_of text)
      go true e = let z : fault_of text ≡ 0 = eqb-true (fault_of text) 0 e in rw z shows.free
      go false e = explain (found (lowest_fault text (eqb-false (fault_of text) 0 e)))

  pub explains : Explains text
  explains = record { fault = shows_fault text; explained = explained }
