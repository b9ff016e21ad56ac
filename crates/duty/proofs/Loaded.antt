-- What is compared on the arrays that hold two design texts is the specifications in their lines: a line with a line (`by_line`), the lines of
-- a kind with those of the other (`by_section`), and so both kinds (`same_held`). Each test says yes exactly if the lists are equal.
use Prim.Native.Nat.{ℕ, zero, suc, ◌+◌, ◌≤◌, ◌<◌}
use mathlib.Core.Path.{◌≡◌, refl, sym, ap, subst, ◌∙◌}
use mathlib.Core.Bool.{Bool, true, ◌&&◌}
use mathlib.Core.List.{List, [], ◌∷◌, ◌++◌, append_assoc}
use native.Mathlib.Omega.{arith}
use native.Mathlib.Numerals.{add-one}
use lib.Dec.{eqb}
use lib.ListN.{length, get_or, take, length-append, get_or-append}
use lib.Seq.{ext_get_or, get_or-append-add}
use Rattle.foundation.specs.Reflects.{Reflects}
use Rattle.foundation.specs.First.{all_in_range}
use Rattle.foundation.proofs.First.{by_all}
use Rattle.foundation.proofs.Reflects.{says_yes, is_so, same_test, by_value, by_eqb, by_iff, by_and}
use Rattle.reader.specs.Text.{fields_by_line, count_all}
use Rattle.design.specs.Lines.{of_kind, counts_of}
use Rattle.design.specs.Loaded.{line_from, fields_held, starts_held, sections}
use Rattle.design.specs.declared.Process.{Process}
use Rattle.design.specs.declared.Section.{Section}
use Rattle.design.proofs.WholeText.{in_order}
use Rattle.design.proofs.Loaded.{starts_are, line_then, later_fields}
use Rattle.loader.specs.Load.{fault_of}
use Rattle.loader.proofs.Passed.{lay, few, fits}
use Rattle.duty.specs.Arrays.{length_at, same_field, same_from, same_line, same_lines_from, same_section, same_process}
use Rattle.duty.specs.Duty.{same_specification}
use Rattle.duty.proofs.Same.{by_specification}

-- ---- lists compared place by place

module _ {A : Type 0} (none : A) (x y : List A) (m n : ℕ) (em : m ≡ length x) (en : n ≡ length y) (t : ℕ → Bool)
    (says : (k : ℕ) → k < length x → k < length y → Reflects (get_or x k none ≡ get_or y k none) (t k)) where
  abbrev Places : Type 0
  Places = (m ≡ n) × ((k : ℕ) → 0 ≤ k → k < 0 + m → t k ≡ true)

  equal : Places → x ≡ y
  equal p =
      let e : length x ≡ length y = sym em ∙ p.0 ∙ en in
      ext_get_or none x y e (λ k u. says_yes (says k u (omega arith)) (p.1 k (omega arith) (omega arith)))

  places : x ≡ y → Places
  places q =
      let e : length x ≡ length y = ap (λ (z : List A). length z) q in
      (em ∙ e ∙ sym en, λ k l u. is_so (says k (omega arith) (omega arith)) (ap (λ (z : List A). get_or z k none) q))

  by_places : Reflects (x ≡ y) (eqb m n && all_in_range t m 0)
  by_places = by_iff equal places (by_and (by_eqb m n) (by_all (λ k. t k ≡ true) t (λ k. by_value (t k)) m 0))

-- ---- lines that arrays hold

-- no more lines and fields than there is room for
record Room (lines : List (List ℕ)) : Type 0 where
  few : length lines ≤ 84
  fit : count_all lines ≤ 4096

count_next : (lines : List (List ℕ)) (i : ℕ) → i < length lines → count_all (take (i + 1) lines) ≡ count_all (take i lines) + length (get_or lines i [])
unfolding count_all
count_next [] i h = absurd (omega arith)
count_next (line ∷ lines) zero h = omega arith
count_next (line ∷ lines) (suc i) h = rw (add-one (suc i)) (let e = count_next lines i (omega arith) in let f = rw (add-one i) at e in omega arith)

module _ (lines : List (List ℕ)) (room : Room lines) (i : ℕ) (h : i < length lines) where
  length_held : length_at (starts_held lines) i ≡ length (get_or lines i [])
  length_held =
      rw (starts_are lines room.few room.fit (i + 1) (omega arith), starts_are lines room.few room.fit i (omega arith), count_next lines i h)
      (omega arith)

  field_held : (k : ℕ) → k < length (get_or lines i []) → get_or (line_from (fields_held lines) (starts_held lines) i) k 0 ≡ get_or (get_or lines i []) k 0
  field_held k l = rw (line_then lines room.few room.fit i h) (get_or-append (get_or lines i []) (later_fields lines i) 0 k l)

-- some of the lines, from this one on
record Stands (lines some : List (List ℕ)) (first : ℕ) : Type 0 where
  inside : first + length some ≤ length lines
  line : (k : ℕ) → k < length some → get_or lines (first + k) [] ≡ get_or some k []

stands : (lines a b c : List (List ℕ)) → lines ≡ a ++ (b ++ c) → Stands lines b (length a)
stands lines a b c split = record {
  inside = rw (split, length-append a (b ++ c), length-append b c) (omega arith);
  line = λ k h. rw (split, get_or-append-add a (b ++ c) k []) (get_or-append b c [] k h);
}

-- ---- those of one text with those of another

module _ (own due : List (List ℕ)) (room : Room own) (place : Room due) where
  abbrev f : List ℕ
  f = fields_held own

  abbrev s : List ℕ
  s = starts_held own

  abbrev g : List ℕ
  g = fields_held due

  abbrev t : List ℕ
  t = starts_held due

  by_line : (i j : ℕ) → i < length own → j < length due → Reflects (get_or own i [] ≡ get_or due j []) (same_line f s i g t j)
  unfolding same_line same_from
  by_line i j h l =
      by_places 0 (get_or own i []) (get_or due j []) (length_at s i) (length_at t j) (length_held own room i h) (length_held due place j l)
      (same_field f (get_or s i 0) g (get_or t j 0))
      (λ k u v. rw (field_held own room i h k u, field_held due place j l k v) (by_eqb (get_or (get_or own i []) k 0) (get_or (get_or due j []) k 0)))

  by_section : (a b : List (List ℕ)) (here there : Section) → here.count ≡ length a → there.count ≡ length b
      → Stands own a here.first → Stands due b there.first → Reflects (a ≡ b) (same_section f s here g t there)
  unfolding same_section same_lines_from
  by_section a b here there ea eb p q =
      by_places [] a b here.count there.count ea eb (λ k. same_line f s (here.first + k) g t (there.first + k))
      (λ k u v.
      let i = p.inside in
      let j = q.inside in
      rw (← p.line k u, ← q.line k v) (by_line (here.first + k) (there.first + k) (omega arith) (omega arith)))

-- ---- two texts

module _ (text : List ℕ) (ok : fault_of text ≡ 0) where
  abbrev lines : List (List ℕ)
  lines = fields_by_line text

  abbrev k : ℕ → List (List ℕ)
  k i = of_kind i lines

  abbrev behind : List (List ℕ)
  behind = k 5 ++ (k 6 ++ (k 7 ++ (k 8 ++ [])))

  room : Room lines
  room = record { few = few text ok; fit = fits text ok }

  split : lines ≡ k 1 ++ (k 2 ++ (k 3 ++ (k 4 ++ behind)))
  split = sym (in_order (lay text ok).kinds)

  parameters : Stands lines (k 2) (length (k 1))
  parameters = stands lines (k 1) (k 2) (k 3 ++ (k 4 ++ behind)) split

  rows : Stands lines (k 4) (length (k 1) + length (k 2) + length (k 3))
  rows =
      subst (λ n. Stands lines (k 4) n) (length-append (k 1 ++ k 2) (k 3) ∙ ap (λ n. n + length (k 3)) (length-append (k 1) (k 2)))
      (stands lines ((k 1 ++ k 2) ++ k 3) (k 4) behind
      (split ∙ sym (append_assoc (k 1) (k 2) (k 3 ++ (k 4 ++ behind))) ∙ sym (append_assoc (k 1 ++ k 2) (k 3) (k 4 ++ behind))))

module _ (text duty : List ℕ) (ok : fault_of text ≡ 0) (fine : fault_of duty ≡ 0) where
  abbrev own : List (List ℕ)
  own = fields_by_line text

  abbrev due : List (List ℕ)
  due = fields_by_line duty

  abbrev here : Process
  here = (sections (counts_of own)).specification

  abbrev there : Process
  there = (sections (counts_of due)).specification

  -- a kind
  by_kind : (k : ℕ) (a b : Section) → a.count ≡ length (of_kind k own) → b.count ≡ length (of_kind k due) → Stands own (of_kind k own) a.first → Stands due (of_kind k due) b.first
      → Reflects (of_kind k own ≡ of_kind k due) (same_section (fields_held own) (starts_held own) a (fields_held due) (starts_held due) b)
  by_kind k = by_section own due (room text ok) (room duty fine) (of_kind k own) (of_kind k due)

  pub same_held : same_process (fields_held own) (starts_held own) here (fields_held due) (starts_held due) there ≡ same_specification own due
  same_held =
      same_test
      (by_and
      (by_kind 2 here.parameters there.parameters refl refl (parameters text ok) (parameters duty fine))
      (by_kind 4 here.rows there.rows refl refl (rows text ok) (rows duty fine)))
      (by_specification own due)
