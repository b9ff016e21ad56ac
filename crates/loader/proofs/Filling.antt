-- Filling a desk's arrays: what a turn of each loop keeps. Storing what is left, from here, gives the whole.
use Prim.Native.Nat.{ℕ, suc, ◌+◌, ◌-◌, ◌*◌, ◌≤◌, ◌<◌}
use mathlib.Core.Path.{◌≡◌, refl, ap, ◌∙◌}
use mathlib.Core.Bool.{Bool, true, false}
use mathlib.Core.List.{List, [], ◌++◌}
use native.Mathlib.Omega.{arith}
use native.Mathlib.Numerals.{add-one}
use lib.ListN.{length, get_or, set, take, drop, length-drop}
use lib.Seq.{sets, drop-drop}
use Rattle.reader.specs.Line.{field_there, fields_of, next_at}
use Rattle.reader.specs.Text.{fields_by_line, count_all, columns_fault}
use Rattle.std.specs.Prelude.{Some, None}
use Rattle.reader.proofs.Line.{first_field, no_field, next_moved}
use Rattle.reader.proofs.Turns.{count_turn}
use Rattle.reader.proofs.Faults.{columns_free, most_in_all}
use Rattle.design.specs.Loaded.{joined, starts_from}
use Rattle.design.specs.Tests.{each_line_is}
use Rattle.design.proofs.Loaded.{sets_append}
use Rattle.loader.specs.Filled.{Filled}
use Rattle.loader.proofs.Places.{AtLine, at_first, at_end, at_next, more_lines, these, part_fields, line_fields, next_within}

-- ---- the fields of a part: k of them are stored, from `to` on

module _ (bytes into whole : List ℕ) (to k : ℕ) (inv : sets into (to + k) (fields_of (drop (6 * k) bytes)) ≡ whole) where
  later : drop 6 (drop (6 * k) bytes) ≡ drop (6 * (k + 1)) bytes
  later = let e : 6 * k + 6 ≡ 6 * (k + 1) = omega arith in drop-drop 6 (6 * k) bytes ∙ ap (λ (j : ℕ). drop j bytes) e

  pub copy_stop : field_there bytes k ≡ None → into ≡ whole
  copy_stop e = rw (no_field (drop (6 * k) bytes) e) at inv

  pub copy_turn : (n : ℕ) → field_there bytes k ≡ Some n
      → sets (set into (to + k) n) (to + next_at bytes k) (fields_of (drop (6 * next_at bytes k) bytes)) ≡ whole
  copy_turn n e =
      let next : to + (k + 1) ≡ suc (to + k) = omega arith in
      rw (next_moved bytes k n e, next) (rw (first_field (drop (6 * k) bytes) n e, later) at inv)

-- there is room for one more
pub copy_place : (bytes : List ℕ) (to k : ℕ) → k + length (fields_of (drop (6 * k) bytes)) ≡ length (fields_of bytes) → to + length (fields_of bytes) ≤ 4096
    → (n : ℕ) → field_there bytes k ≡ Some n → to + k < 4096
copy_place bytes to k inv fit n e = omega (arith, count_turn bytes k inv n e, next_moved bytes k n e)

-- ---- filling: k lines are stored, `to` fields

pub record Progress (text fields₀ starts₀ fields starts : List ℕ) (at to k : ℕ) : Type 0 where
  pub here : AtLine text at k
  pub few : k ≤ 84
  pub total : to + count_all (drop k (fields_by_line text)) ≡ count_all (fields_by_line text)
  pub fields_so : sets fields to (joined (drop k (fields_by_line text))) ≡ sets fields₀ 0 (joined (fields_by_line text))
  pub starts_so : sets starts k (starts_from to (drop k (fields_by_line text))) ≡ sets starts₀ 0 (starts_from 0 (fields_by_line text))

pub fill_start : (text fields starts : List ℕ) → columns_fault text ≡ 0 → Progress text fields starts fields starts 0 0 0
fill_start text fields starts free =
    record { here = at_first text free; few = omega arith; total = omega arith; fields_so = refl; starts_so = refl }

module _ (text fields₀ starts₀ fields starts : List ℕ) (at to k : ℕ) (p : Progress text fields₀ starts₀ fields starts at to k) where
  abbrev lines : List (List ℕ)
  lines = fields_by_line text

  fits : count_all lines ≤ 4096
  fits = most_in_all text (columns_free text p.here.free).third

  pub to_fits : to ≤ 4096
  to_fits = let f = fits in let t = p.total in omega arith

  pub fill_end : length text ≤ at → Filled lines fields₀ starts₀ k fields (set starts k to)
  unfolding starts_from joined
  fill_end h =
      let d = at_end text at k p.here h in
      let l = length-drop k lines in
      let z : length (drop k lines) ≡ 0 = ap length d in
      let s = p.here.stored in
      let f = p.few in
      record {
        few = λ _. omega arith;
        fields_held_lem = λ _. rw d at p.fields_so;
        starts_held_lem = λ _. rw d at p.starts_so;
        many = λ m. absurd (omega arith);
      }

  module _ (inside : at < length text) where
    abbrev line : List ℕ
    line = get_or lines k []

    abbrev later_lines : List (List ℕ)
    later_lines = drop (suc k) lines

    fields_here : fields_of (take (length text - at) (drop at text)) ≡ line
    fields_here = part_fields text at k p.here inside

    total_here : to + (length line + count_all later_lines) ≡ count_all lines
    unfolding count_all
    total_here = rw (these text at k p.here inside) at p.total

    pub copy_fits : to + length (fields_of (take (length text - at) (drop at text))) ≤ 4096
    copy_fits = rw fields_here (let t = total_here in let f = fits in omega arith)

    pub too_many : 84 ≤ k → Filled lines fields₀ starts₀ 85 fields starts
    too_many h =
        let m = more_lines text at k p.here inside in
        record { few = λ l. absurd (omega arith); fields_held_lem = λ l. absurd (omega arith); starts_held_lem = λ l. absurd (omega arith); many = λ l. refl }

    module _ (room : k < 84) (n : ℕ) (en : n ≡ length (fields_of (take (length text - at) (drop at text))))
        (fields' : List ℕ) (ef : fields' ≡ sets fields to (fields_of (take (length text - at) (drop at text)))) where
      pub to_next : to + n ≤ 4096
      to_next = let h = copy_fits in omega arith

      pub within : at + 6 * n + 1 ≤ length text
      within = next_within text at k p.here inside n en

      pub fill_turn : Progress text fields₀ starts₀ fields' (set starts k to) (at + 6 * n + 1) (to + n) (k + 1)
      unfolding joined starts_from
      fill_turn =
          let t = total_here in
          let q : n ≡ length line = en ∙ ap length fields_here in
          let f : fields' ≡ sets fields to line = rw fields_here at ef in
          let fs : sets fields to (line ++ joined later_lines) ≡ sets fields₀ 0 (joined lines) = rw (these text at k p.here inside) at p.fields_so in
          let ss : sets (set starts k to) (suc k) (starts_from (to + length line) later_lines) ≡ sets starts₀ 0 (starts_from 0 lines) =
          rw (these text at k p.here inside) at p.starts_so
          in
          let next = at_next text at k p.here inside n en in
          rw (add-one k)
          (record {
            here = rw (add-one k) at next;
            few = room;
            total = omega arith;
            fields_so = rw (f, q) (sets_append fields line (joined later_lines) to ∙ fs);
            starts_so = rw q ss;
          })

-- ---- asking each line: those before the place passed

pub record Asked (test : List ℕ → Bool) (text : List ℕ) (at : ℕ) : Type 0 where
  pub k : ℕ
  pub here : AtLine text at k
  pub left : each_line_is test (drop k (fields_by_line text)) ≡ each_line_is test (fields_by_line text)

module _ (test : List ℕ → Bool) (text : List ℕ) where
  pub ask_start : columns_fault text ≡ 0 → Asked test text 0
  ask_start free = record { k = 0; here = at_first text free; left = refl }

  module _ (at : ℕ) (p : Asked test text at) where
    pub ask_end : length text ≤ at → true ≡ each_line_is test (fields_by_line text)
    unfolding each_line_is
    ask_end h = rw (at_end text at p.k p.here h) at p.left

    module _ (inside : at < length text) (n : ℕ) (en : n ≡ length (fields_of (take (length text - at) (drop at text)))) where
      pub ask_within : at + 6 * n + 1 ≤ length text
      ask_within = next_within text at p.k p.here inside n en

      module _ (r : Bool) (er : r ≡ test (fields_of (take (at + 6 * n - at) (drop at text)))) where
        answer : r ≡ test (get_or (fields_by_line text) p.k [])
        answer = er ∙ ap test (line_fields text at p.k p.here inside n en)

        pub ask_stop : r ≡ false → false ≡ each_line_is test (fields_by_line text)
        unfolding each_line_is
        ask_stop e = rw (these text at p.k p.here inside, ← answer, e) at p.left

        pub ask_turn : r ≡ true → Asked test text (at + 6 * n + 1)
        unfolding each_line_is
        ask_turn e =
            record {
              k = p.k + 1;
              here = at_next text at p.k p.here inside n en;
              left = rw (add-one p.k) (rw (these text at p.k p.here inside, ← answer, e) at p.left);
            }
