-- The test of a line decides whether it shows the fault by which the text is turned down (`decided`); so the search, line after line, tells
-- the first one that does (`Sought`, and what each of its turns keeps).
use Prim.Native.Nat.{ℕ, suc, ◌+◌, ◌-◌, ◌<◌, ◌≤◌, min}
use mathlib.Core.Path.{◌≡◌, refl, sym, ap, ◌∙◌}
use mathlib.Core.Logic.{◌≢◌, ◌⊎◌, inl, inr}
use mathlib.Core.Bool.{Bool, true, false, cond, ◌&&◌}
use mathlib.Core.List.Memᴰ
use mathlib.Core.List.{List, [], ◌∷◌, ◌++◌, map, Memᴰ}
use native.Mathlib.Omega.{arith}
use native.Mathlib.Nat.{eq-or-lt_of_le}
use borrow.Author.Tests.{eqb-true, eqb-false, leb-true, leb-false, le-leb}
use lib.Dec.{eqb, leb}
use lib.ListN.{length, get_or, take, drop, length-append, length-map, length-drop, take-append-drop}
use lib.Seq.{drop-length, split_at}
use Rattle.foundation.specs.Lowest.{First, here, past}
use Rattle.foundation.specs.Reflects.{Reflects, so, not_so}
use Rattle.foundation.proofs.Reflects.{says_yes, says_no, by_iff}
use Rattle.terms.proofs.And.{and_left, and_right}
use Rattle.reader.specs.Line.{fields_of}
use Rattle.reader.specs.Text.{lines_of, last_of, fields_by_line}
use Rattle.reader.proofs.Text.{last_append}
use Rattle.kinds.specs.Kinds.{whole_text}
use Rattle.design.specs.Lines.{kind_of, count_of, internal_of}
use Rattle.design.specs.Faults.{Fault, first, fourth, sixth, fault_order}
use Rattle.design.proofs.Fault4.{Layout, layout_of}
use Rattle.line_check.specs.LineFits.{line_fits}
use Rattle.line_check.proofs.LineFits.{fault6_at}
use Rattle.loader.specs.Load.{fault_of, loaded_of}
use Rattle.loader.proofs.Lowest.{lowest_fault}
use Rattle.std.specs.Prelude.{Result, Ok, Err}
use Rattle.verdicts.specs.declared.Fault.{Fault as TextFault}
use Rattle.verdicts.specs.Refusals.{fault_number}
use Rattle.loader.proofs.Passed.{of_ok, of_err}
use Rattle.loader.specs.declared.Loaded.{Loaded}
use Rattle.fault_lines.specs.Shows as shows
use Rattle.fault_lines.specs.Shows.{Cut, Shows2, Shows3, Shows4, Shows5, Shows6, Shows7, Shows, Tells}
use Rattle.line_faults.specs.Tests.{line_length, shows2, shows3, shows4, shows5, shows6, shows7, shown}
use Rattle.line_faults.proofs.Turns.{end_within}
use Rattle.fault_lines.proofs.Cuts.{cut_one, cut_fields, some_lines, Start, start_first, start_last, start_cut, byte_after, start_on}
use Rattle.fault_lines.proofs.Decides.{by_2, by_3, by_4, by_5, by_6, by_7}

-- ---- faults below the lowest are absent

not_here : {P : ℕ → Type 0} {j k : ℕ} {ks : List ℕ} → First P (j ∷ ks) k → j ≢ k → (P j → ⊥) × First P ks k
not_here (here p) n = absurd (n refl)
not_here (past a f) n = (a, f)

module _ (text : List ℕ) (k : ℕ) (e : fault_of text ≡ k) where
  lowest : k ≢ 0 → First (Fault text) fault_order k
  lowest z = rw e at (lowest_fault text (λ h. z (sym e ∙ h)))

  pub absent_4 : 4 < k → Fault text 4 → ⊥
  absent_4 l =
      let f1 = not_here (lowest (λ z. omega arith)) (λ z. omega arith) in
      let f2 = not_here f1.1 (λ z. omega arith) in
      let f3 = not_here f2.1 (λ z. omega arith) in
      (not_here f3.1 (λ z. omega arith)).0

  pub absent_6 : 6 < k → Fault text 6 → ⊥
  absent_6 l =
      let f1 = not_here (lowest (λ z. omega arith)) (λ z. omega arith) in
      let f2 = not_here f1.1 (λ z. omega arith) in
      let f3 = not_here f2.1 (λ z. omega arith) in
      let f4 = not_here f3.1 (λ z. omega arith) in
      let f5 = not_here f4.1 (λ z. omega arith) in
      (not_here f5.1 (λ z. omega arith)).0

  pub in_order : 4 < k → Layout whole_text (fields_by_line text)
  in_order l = layout_of whole_text (fields_by_line text) (λ f. absent_4 l (fourth f))

  pub all_fit : 6 < k → {line : List ℕ} → Memᴰ line (fields_by_line text)
      → line_fits (count_of 1 (fields_by_line text)) (count_of 2 (fields_by_line text)) (internal_of (fields_by_line text)) line (kind_of line) ≡ true
  all_fit l {line} m = go (line_fits (count_of 1 (fields_by_line text)) (count_of 2 (fields_by_line text)) (internal_of (fields_by_line text)) line (kind_of line)) refl
    where
      go : (b : Bool) → line_fits (count_of 1 (fields_by_line text)) (count_of 2 (fields_by_line text)) (internal_of (fields_by_line text)) line (kind_of line) ≡ b → b ≡ true
      go true h = refl
      go false h = absurd (absent_6 l (sixth (fault6_at (fields_by_line text) m h)))

-- ---- whether the text ends with a line, without byte 10

last_by : (c : ℕ) (text : List ℕ) (ends : Bool) → eqb c 10 ≡ ends → cond ends 0 (suc (line_length text)) ≡ suc (length text)
    → ((b : ℕ) → line_length text ≡ length text → 0 < length text → last_of b text ≢ 10) → last_of c text ≢ 10
unfolding last_of
last_by c text true e h ih = absurd (omega arith)
last_by c [] false e h ih = eqb-false c 10 e
last_by c (d ∷ text) false e h ih = ih c (omega arith) (omega arith)

no_ten : (text : List ℕ) (b : ℕ) → line_length text ≡ length text → 0 < length text → last_of b text ≢ 10
unfolding line_length last_of
no_ten [] b e h = absurd (omega arith)
no_ten (c ∷ text) b e h = last_by c text _ refl e (no_ten text)

last_part : (xs text : List ℕ) (b : ℕ) → 0 < length text → last_of b (xs ++ text) ≡ last_of 10 text
unfolding last_of
last_part xs [] b h = absurd (omega arith)
last_part xs (c ∷ text) b h = last_append xs b c text

no_lines : (text : List ℕ) → lines_of text ≡ [] → text ≡ []
no_lines [] e = refl
no_lines (b ∷ text) e = absurd (some_lines b text e)

-- ---- a line that starts at a place

module _ (text : List ℕ) (at l end : ℕ) (s : Start text at l) (h : at < length text) (ends : end ≡ at + line_length (drop at text)) where
  abbrev line : List ℕ
  line = take (end - at) (drop at text)

  abbrev later : List (List ℕ)
  later = lines_of (drop (min (suc end) (length text)) text)

  unended : length text ≤ end → (later ≡ []) × (last_of 10 text ≢ 10)
  unfolding lines_of
  unended b =
      let d = length-drop at text in
      let w = end_within text at end h ends in
      let m : min (suc end) (length text) ≡ length text = omega arith in
      let last : last_of 10 text ≡ last_of 10 (drop at text) =
      ap (last_of 10) (sym (take-append-drop at text)) ∙ last_part (take at text) (drop at text) 10 (omega arith)
      in
      (rw (m, drop-length text), λ z. no_ten (drop at text) 10 (omega arith) (omega arith) (sym last ∙ z))

  ended : end < length text → (later ≡ []) × (last_of 10 text ≢ 10) → ⊥
  unfolding last_of
  ended b u =
      let m : min (suc end) (length text) ≡ suc end = omega arith in
      let none : drop (suc end) text ≡ [] = no_lines (drop (suc end) text) (rw m at u.0) in
      let parts : text ≡ take end text ++ get_or text end 0 ∷ [] = split_at text end 0 b ∙ rw none in
      let last : last_of 10 text ≡ get_or text end 0 = ap (last_of 10) parts ∙ last_append (take end text) 10 (get_or text end 0) [] in
      u.1 (last ∙ byte_after text at l end s h ends b)

  by_last : Reflects ((later ≡ []) × (last_of 10 text ≢ 10)) (leb (length text) end)
  by_last = go (leb (length text) end) refl
    where
      go : (b : Bool) → leb (length text) end ≡ b → Reflects ((later ≡ []) × (last_of 10 text ≢ 10)) b
      go true e = so (unended (leb-true (length text) end e))
      go false e = not_so (ended (leb-false (length text) end e))

  abbrev lines : List (List ℕ)
  lines = fields_by_line text

  abbrev earlier : List (List ℕ)
  earlier = fields_by_line (take at text)

  abbrev fields : List ℕ
  fields = fields_of line

  cut : Cut (lines_of text) l (lines_of (take at text)) line later
  cut = start_cut text at l end s h ends

  here_cut : Cut lines l earlier fields (map fields_of later)
  here_cut = cut_fields text cut

  among : Memᴰ fields lines
  among = rw here_cut.parts (Memᴰ.append_right earlier (Memᴰ.head refl))

  -- what the line shows is what its number shows
  at_2 : {b : Bool} → Reflects (Shows2 text line later) b → Reflects (Shows text 2 l) b
  at_2 = by_iff (shows.second cut) from
    where
      from : Shows text 2 l → Shows2 text line later
      from (shows.second c p) = let q = cut_one c cut in rw (q.line, q.later) at p

  at_3 : {b : Bool} → Reflects (Shows3 earlier fields) b → Reflects (Shows text 3 l) b
  at_3 = by_iff (shows.third here_cut) from
    where
      from : Shows text 3 l → Shows3 earlier fields
      from (shows.third c p) = let q = cut_one c here_cut in rw (q.earlier, q.line) at p

  at_4 : {b : Bool} → Reflects (Shows4 earlier fields) b → Reflects (Shows text 4 l) b
  at_4 = by_iff (shows.fourth here_cut) from
    where
      from : Shows text 4 l → Shows4 earlier fields
      from (shows.fourth c p) = let q = cut_one c here_cut in rw (q.earlier, q.line) at p

  at_5 : {b : Bool} → Reflects (Shows5 earlier fields) b → Reflects (Shows text 5 l) b
  at_5 = by_iff (shows.fifth here_cut) from
    where
      from : Shows text 5 l → Shows5 earlier fields
      from (shows.fifth c p) = let q = cut_one c here_cut in rw (q.earlier, q.line) at p

  at_6 : {b : Bool} → Reflects (Shows6 lines fields) b → Reflects (Shows text 6 l) b
  at_6 = by_iff (shows.sixth here_cut) from
    where
      from : Shows text 6 l → Shows6 lines fields
      from (shows.sixth c p) = let q = cut_one c here_cut in rw q.line at p

  at_7 : {b : Bool} → Reflects (Shows7 lines earlier fields) b → Reflects (Shows text 7 l) b
  at_7 = by_iff (shows.seventh here_cut) from
    where
      from : Shows text 7 l → Shows7 lines earlier fields
      from (shows.seventh c p) = let q = cut_one c here_cut in rw (q.earlier, q.line) at p

  none_else : (k : ℕ) → k ≢ 2 → k ≢ 3 → k ≢ 4 → k ≢ 5 → k ≢ 6 → k ≢ 7 → Shows text k l → ⊥
  none_else k a b c d e f (shows.second x y) = a refl
  none_else k a b c d e f (shows.third x y) = b refl
  none_else k a b c d e f (shows.fourth x y) = c refl
  none_else k a b c d e f (shows.fifth x y) = d refl
  none_else k a b c d e f (shows.sixth x y) = e refl
  none_else k a b c d e f (shows.seventh x y) = f refl

  module _ (k : ℕ) (fault : fault_of text ≡ k) where
    abbrev last : Bool
    last = leb (length text) end

    -- by the fault's number
    pub decided : Reflects (Shows text k l) (shown k text (take at text) line last)
    decided = go2 (eqb k 2) refl
      where
        Of : ℕ → Bool → Type 0
        Of j b = Reflects (Shows text j l) b

        put : {j : ℕ} {b : Bool} → k ≡ j → Of j b → Of k b
        put e r = rw e r

        go7 : k ≢ 2 → k ≢ 3 → k ≢ 4 → k ≢ 5 → k ≢ 6 → (b : Bool) → eqb k 7 ≡ b → Of k (cond b (shows7 lines earlier fields) false)
        go7 n2 n3 n4 n5 n6 true e =
            let z = eqb-true k 7 e in
            let l7 : 6 < k = omega arith in
            put z (at_7 (by_7 (in_order text k fault (omega arith)) earlier fields (all_fit text k fault l7 among)))
        go7 n2 n3 n4 n5 n6 false e = not_so (none_else k n2 n3 n4 n5 n6 (eqb-false k 7 e))

        go6 : k ≢ 2 → k ≢ 3 → k ≢ 4 → k ≢ 5 → (b : Bool) → eqb k 6 ≡ b → Of k (cond b (shows6 lines fields) (cond (eqb k 7) (shows7 lines earlier fields) false))
        go6 n2 n3 n4 n5 true e = let z = eqb-true k 6 e in put z (at_6 (by_6 (in_order text k fault (omega arith)) fields))
        go6 n2 n3 n4 n5 false e = go7 n2 n3 n4 n5 (eqb-false k 6 e) _ refl

        go5 : k ≢ 2 → k ≢ 3 → k ≢ 4 → (b : Bool) → eqb k 5 ≡ b
            → Of k (cond b (shows5 earlier fields) (cond (eqb k 6) (shows6 lines fields) (cond (eqb k 7) (shows7 lines earlier fields) false)))
        go5 n2 n3 n4 true e = put (eqb-true k 5 e) (at_5 (by_5 earlier fields))
        go5 n2 n3 n4 false e = go6 n2 n3 n4 (eqb-false k 5 e) _ refl

        go4 : k ≢ 2 → k ≢ 3 → (b : Bool) → eqb k 4 ≡ b
            → Of k (cond b (shows4 earlier fields) (cond (eqb k 5) (shows5 earlier fields) (cond (eqb k 6) (shows6 lines fields) (cond (eqb k 7) (shows7 lines earlier fields) false))))
        go4 n2 n3 true e = put (eqb-true k 4 e) (at_4 (by_4 earlier fields))
        go4 n2 n3 false e = go5 n2 n3 (eqb-false k 4 e) _ refl

        go3 : k ≢ 2 → (b : Bool) → eqb k 3 ≡ b
            → Of k (cond b (shows3 earlier fields) (cond (eqb k 4) (shows4 earlier fields) (cond (eqb k 5) (shows5 earlier fields) (cond (eqb k 6) (shows6 lines fields) (cond (eqb k 7) (shows7 lines earlier fields) false)))))
        go3 n2 true e = put (eqb-true k 3 e) (at_3 (by_3 earlier fields))
        go3 n2 false e = go4 n2 (eqb-false k 3 e) _ refl

        go2 : (b : Bool) → eqb k 2 ≡ b
            → Of k (cond b (shows2 last line) (cond (eqb k 3) (shows3 earlier fields) (cond (eqb k 4) (shows4 earlier fields) (cond (eqb k 5) (shows5 earlier fields) (cond (eqb k 6) (shows6 lines fields) (cond (eqb k 7) (shows7 lines earlier fields) false))))))
        go2 true e = put (eqb-true k 2 e) (at_2 (by_2 text line later last by_last))
        go2 false e = go3 (eqb-false k 2 e) _ refl

-- ---- the search

-- it has come to line l, which starts at a place, and no line before it from `from` on shows the fault
pub record Sought (text : List ℕ) (fault from at l : ℕ) : Type 0 where
  pub start : Start text at l
  pub none : (j : ℕ) → from ≤ j → j < l → Shows text fault j → ⊥

-- a line that shows something has a number from 1 on, at most that of the last line
numbered : {lines : List (List ℕ)} {l : ℕ} {e r : List (List ℕ)} {x : List ℕ} → Cut lines l e x r → (1 ≤ l) × (l ≤ length lines)
numbered {e = e} {r = r} {x = x} c =
    let n = c.counted in
    let m = ap length c.parts ∙ length-append e (x ∷ r) in
    (omega arith, omega arith)

lines_many : (text : List ℕ) → length (fields_by_line text) ≡ length (lines_of text)
lines_many text = length-map (lines_of text) fields_of

within_text : (text : List ℕ) {l : ℕ} → (1 ≤ l) × (l ≤ length (fields_by_line text)) → (1 ≤ l) × (l ≤ length (lines_of text))
within_text text n = let m = lines_many text in let a = n.0 in let b = n.1 in (omega arith, omega arith)

shows_number : (text : List ℕ) {k l : ℕ} → Shows text k l → (1 ≤ l) × (l ≤ length (lines_of text))
shows_number text (shows.second c p) = numbered c
shows_number text (shows.third c p) = within_text text (numbered c)
shows_number text (shows.fourth c p) = within_text text (numbered c)
shows_number text (shows.fifth c p) = within_text text (numbered c)
shows_number text (shows.sixth c p) = within_text text (numbered c)
shows_number text (shows.seventh c p) = within_text text (numbered c)

pub sought_first : (text : List ℕ) (fault from : ℕ) → Sought text fault from 0 1
sought_first text fault from = record { start = start_first text; none = λ j a b p. let n = (shows_number text p).0 in omega arith }

module _ (text : List ℕ) (fault from at l : ℕ) (e : fault_of text ≡ fault) (q : Sought text fault from at l) where
  pub sought_last : length text ≤ at → Tells text from 0
  sought_last h =
      let n = start_last text at l q.start h in
      shows.none (λ j a p. let p' : Shows text fault j = rw e at p in let m = (shows_number text p').1 in q.none j a (omega arith) p')

  module _ (h : at < length text) (end : ℕ) (ends : end ≡ at + line_length (drop at text)) where
    abbrev test : Bool
    test = shown fault text (take at text) (take (end - at) (drop at text)) (leb (length text) end)

    by_test : Reflects (Shows text fault l) test
    by_test = decided text at l end q.start h ends fault e

    module _ (b : Bool) (eb : b ≡ leb from l && test) where
      pub sought_here : b ≡ true → Tells text from l
      sought_here t =
          let both : leb from l && test ≡ true = sym eb ∙ t in
          shows.line (leb-true from l (and_left (leb from l) test both)) (rw e (says_yes by_test (and_right (leb from l) test both)))
          (λ j a c p. q.none j a c (rw e at p))

      pub sought_on : b ≡ false → (to : ℕ) → to ≡ min (suc end) (length text) → Sought text fault from to (l + 1)
      sought_on f to et =
          record { start = rw et (start_on text at l end q.start h ends); none = λ j a c p. let g : j ≤ l = omega arith in before j a (eq-or-lt_of_le g) p }
        where
          before : (j : ℕ) → from ≤ j → (j ≡ l) ⊎ (j < l) → Shows text fault j → ⊥
          before j a (inl k) p =
              let both : leb from l && test ≡ false = sym eb ∙ f in
              let w : leb from l ≡ true = le-leb from l (omega arith) in
              says_no by_test (rw w at both) (rw k at p)
          before j a (inr k) p = q.none j a k p

-- ---- the whole

-- of a text that is too long that is the lowest fault, which no line shows
one_lowest : {text : List ℕ} {k : ℕ} → First (Fault text) fault_order k → 28672 < length text → k ≡ 1
one_lowest (here f) h = refl
one_lowest (past n f) h = absurd (n (first h))

shows_from_2 : {text : List ℕ} {k l : ℕ} → Shows text k l → 2 ≤ k
shows_from_2 (shows.second c p) = omega arith
shows_from_2 (shows.third c p) = omega arith
shows_from_2 (shows.fourth c p) = omega arith
shows_from_2 (shows.fifth c p) = omega arith
shows_from_2 (shows.sixth c p) = omega arith
shows_from_2 (shows.seventh c p) = omega arith

pub too_long : (text : List ℕ) (from : ℕ) → 28672 < length text → Tells text from 0
too_long text from h =
    shows.none
    (λ j a p. let n = shows_from_2 p in let z = one_lowest (lowest_fault text (λ e. omega arith)) h in omega arith)

pub no_fault : (text : List ℕ) (from : ℕ) (r : Result Loaded TextFault) → r ≡ loaded_of text → (l : Loaded) → r ≡ Ok l → Tells text from 0
no_fault text from r er l e = shows.none (λ j a p. let n = shows_from_2 p in let z = (of_ok text r er l e).0 in omega arith)

pub fault_is : (text : List ℕ) (r : Result Loaded TextFault) → r ≡ loaded_of text → (f : TextFault) → r ≡ Err f → (k : ℕ) → k ≡ fault_number f → fault_of text ≡ k
fault_is text r er f e k ek = of_err text r er f e ∙ sym ek
