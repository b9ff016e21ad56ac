-- The tests of a line (line_faults/specs/Tests) decide what it shows (specs/Shows): 2 to 5 of any lines, 6 and 7 where the faults before are absent.
use Prim.Native.Nat.{ℕ, suc, ◌+◌, ◌*◌, ◌<◌, ◌≤◌}
use mathlib.Core.Path.{◌≡◌, refl, sym, ap, ◌∙◌}
use mathlib.Core.Logic.{◌≢◌, ◌⊎◌, inl, inr}
use mathlib.Core.Bool.{Bool, true, false, cond, not, ◌&&◌, ◌||◌, true≢false}
use mathlib.Core.List.{List, [], ◌∷◌, map}
use native.Mathlib.Omega.{arith}
use borrow.Author.Tests.{eqb-true, eqb-false, ltb-true, ltb-false, leb-true, leb-false, lt-ltb, eq-eqb, ne_eqb, not-true}
use lib.Dec.{eqb, ltb, leb}
use lib.ListN.{length, get_or, drop, length-map}
use Rattle.foundation.specs.Reflects.{Reflects, so, not_so}
use Rattle.foundation.proofs.Reflects.{says_yes, by_value, by_eqb, by_ltb, by_iff, by_not, by_and, by_or}
use Rattle.reader.specs.Line.{IsLine}
use Rattle.reader.specs.Text.{last_of, count_all, is_line}
use Rattle.reader.proofs.Faults.{is_line_lem, line_is}
use Rattle.kinds.specs.Kinds.{whole_text, entry_in, has_terms}
use Rattle.kinds.specs.declared.Entry.{Entry}
use Rattle.kinds.specs.declared.Role.{Role}
use Rattle.kinds.specs.declared.Role.TheVariants as role
use Rattle.terms.specs.Tree.{num, ok_f}
use Rattle.terms.proofs.And.{and_left, and_right}
use Rattle.criteria.specs.Design.{Row}
use Rattle.criteria.specs.Step.{internal_rows}
use Rattle.decision.specs.Admitted.{is_zero}
use Rattle.design.specs.Line.{formula_in, row_of}
use Rattle.design.specs.Lines.{kind_of, of_kind, count_of, internal_of}
use Rattle.design.specs.Faults.{entry_of, of_rank, IsRow, size_of, HasTerms, LineTerms}
use Rattle.design.specs.Tests.{numbers_fit_by, length_fits_by}
use Rattle.design.proofs.Each.{by_leb}
use Rattle.design.proofs.Fault4.{Layout}
use Rattle.design.proofs.WholeText.{counted, rank_kind}
use Rattle.line_check.specs.LineFits.{terms_fit, line_fits}
use Rattle.line_check.proofs.LineFits.{by_line}
use Rattle.action_check.proofs.ActionsFit.{by_zero}
use Rattle.fault_lines.specs.Shows as shows
use Rattle.fault_lines.specs.Shows.{Shows2, Shows3, Shows4, Shows5, Shows6, Shows7, last_rank, states}
use Rattle.line_faults.specs.Tests.{action_of, span_of}
use Rattle.line_faults.specs.Tests.{cap, small, has_action, clashes, gathered, bare_by, shows2, shows3, shows4, shows5, shows6, shows7, add_fields, add_rank, add_internal, add_action, add_clash}
use Rattle.fault_lines.proofs.Counts.{fields_from_lem, last_all, ranks_all, internal_all, states_all, Some, by_any}

-- ---- 2

by_whole : (line : List ℕ) → Reflects (IsLine line → ⊥) (not (is_line line))
by_whole line = by_not (by_iff (is_line_lem line) (line_is line) (by_value (is_line line)))

pub by_2 : (text line : List ℕ) (later : List (List ℕ)) (last : Bool) → Reflects ((later ≡ []) × (last_of 10 text ≢ 10)) last
    → Reflects (Shows2 text line later) (shows2 last line)
by_2 text line later last r = by_iff to from (by_or (by_whole line) r)
  where
    to : (IsLine line → ⊥) ⊎ ((later ≡ []) × (last_of 10 text ≢ 10)) → Shows2 text line later
    to (inl n) = shows.broken n
    to (inr u) = shows.unended u.0 u.1

    from : Shows2 text line later → (IsLine line → ⊥) ⊎ ((later ≡ []) × (last_of 10 text ≢ 10))
    from (shows.broken n) = inl n
    from (shows.unended e n) = inr (e, n)

-- ---- 3

pub by_3 : (earlier : List (List ℕ)) (line : List ℕ) → Reflects (Shows3 earlier line) (shows3 earlier line)
by_3 earlier line =
    let n = count_all earlier in
    let e : gathered add_fields 0 earlier ≡ cap n = fields_from_lem 0 earlier (omega arith) ∙ ap cap (omega arith) in
    rw e
    (by_iff to from
    (by_or (by_ltb 256 (length line)) (by_and (by_leb (cap n) 4096) (by_ltb 4096 (cap (cap n + length line))))))
  where
    n : ℕ
    n = count_all earlier

    to : (256 < length line) ⊎ ((cap n ≤ 4096) × (4096 < cap (cap n + length line))) → Shows3 earlier line
    to (inl h) = shows.long h
    to (inr h) = let a = h.0 in let b = h.1 in shows.passing (omega arith) (omega arith)

    from : Shows3 earlier line → (256 < length line) ⊎ ((cap n ≤ 4096) × (4096 < cap (cap n + length line)))
    from (shows.long h) = inl h
    from (shows.passing a b) = inr (omega arith, omega arith)

-- ---- 4

-- no kind has many lines
most_by : (e : Entry) (b : Bool) (f : Entry) → e.most ≤ 32 → f.most ≤ 32 → (cond b e f).most ≤ 32
most_by e true f h k = h
most_by e false f h k = k

most_few : (k : ℕ) → (entry_in whole_text k).most ≤ 32
unfolding entry_in
most_few k =
    most_by _ (eqb k 1) _ (omega arith)
    (most_by _ (eqb k 2) _ (omega arith)
    (most_by _ (eqb k 3) _ (omega arith)
    (most_by _ (eqb k 4) _ (omega arith)
    (most_by _ (eqb k 5) _ (omega arith)
    (most_by _ (eqb k 6) _ (omega arith) (most_by _ (eqb k 7) _ (omega arith) (most_by _ (eqb k 8) _ (omega arith) (omega arith))))))))

abbrev WrongLength : Entry → ℕ → Type 0
WrongLength e n = ((has_terms e.terms ≡ false) × (n ≢ e.fixed)) ⊎ ((has_terms e.terms ≡ true) × (n < e.fixed))

by_length : (e : Entry) (n : ℕ) → Reflects (WrongLength e n) (not (length_fits_by e n))
by_length e n = go (has_terms e.terms) refl
  where
    go : (b : Bool) → has_terms e.terms ≡ b → Reflects (WrongLength e n) (not (cond b (leb e.fixed n) (eqb n e.fixed)))
    go true q = by_iff (λ h. inr (q, omega arith)) from (by_not (by_leb e.fixed n))
      where
        from : WrongLength e n → e.fixed ≤ n → ⊥
        from (inl h) l = true≢false (sym q ∙ h.0)
        from (inr h) l = let k = h.1 in omega arith
    go false q = by_iff (λ h. inl (q, h)) from (by_not (by_eqb n e.fixed))
      where
        from : WrongLength e n → n ≡ e.fixed → ⊥
        from (inl h) l = h.1 l
        from (inr h) l = true≢false (sym h.0 ∙ q)

pub by_4 : (earlier : List (List ℕ)) (line : List ℕ) → Reflects (Shows4 earlier line) (shows4 earlier line)
by_4 earlier line =
    rw (last_all 0 earlier, ranks_all (entry_of whole_text line).rank earlier)
    (by_iff to from
    (by_or (by_or (by_ltb r (last_rank 0 earlier)) (by_leb m (cap n))) (by_length (entry_of whole_text line) (length line))))
  where
    r : ℕ
    r = (entry_of whole_text line).rank

    m : ℕ
    m = (entry_of whole_text line).most

    n : ℕ
    n = length (of_rank whole_text (entry_of whole_text line).rank earlier)

    few : m ≤ 32
    few = most_few (kind_of line)

    to : ((r < last_rank 0 earlier) ⊎ (m ≤ cap n)) ⊎ WrongLength (entry_of whole_text line) (length line) → Shows4 earlier line
    to (inl (inl h)) = shows.falling h
    to (inl (inr h)) = shows.one_more (omega arith)
    to (inr (inl h)) = shows.not_exactly h.0 h.1
    to (inr (inr h)) = shows.too_few h.0 h.1

    from : Shows4 earlier line → ((r < last_rank 0 earlier) ⊎ (m ≤ cap n)) ⊎ WrongLength (entry_of whole_text line) (length line)
    from (shows.unknown e) = inl (inr (omega arith))
    from (shows.falling h) = inl (inl h)
    from (shows.one_more h) = inl (inr (omega (arith, few)))
    from (shows.not_exactly e h) = inr (inl (e, h))
    from (shows.too_few e h) = inr (inr (e, h))

-- ---- 5

abbrev OutOfBounds : Role → ℕ → ℕ → Type 0
OutOfBounds r a b = ((r ≡ role.Parameter) × (a ≡ 0)) ⊎ (((r ≡ role.Parameter) × (a ≤ b)) ⊎ ((r ≡ role.Row) × ((b ≡ 0) ⊎ (256 < b))))

by_bounds : (r : Role) (a b : ℕ) → Reflects (OutOfBounds r a b) (not (numbers_fit_by r a b))
by_bounds role.Parameter a b = go (leb 1 a) (ltb b a) refl refl
  where
    go : (x y : Bool) → leb 1 a ≡ x → ltb b a ≡ y → Reflects (OutOfBounds role.Parameter a b) (not (x && y))
    go false y e f = let h = leb-false 1 a e in so (inl (refl, omega arith))
    go true false e f = so (inr (inl (refl, ltb-false b a f)))
    go true true e f = not_so no
      where
        no : OutOfBounds role.Parameter a b → ⊥
        no (inl h) = let k = h.1 in let l = leb-true 1 a e in omega arith
        no (inr (inl h)) = let k = h.1 in let l = ltb-true b a f in omega arith
        no (inr (inr h)) = let z = h.0 in true≢false cc
by_bounds role.Row a b = go (leb 1 b) (leb b 256) refl refl
  where
    go : (x y : Bool) → leb 1 b ≡ x → leb b 256 ≡ y → Reflects (OutOfBounds role.Row a b) (not (x && y))
    go false y e f = let h = leb-false 1 b e in so (inr (inr (refl, inl (omega arith))))
    go true false e f = so (inr (inr (refl, inr (leb-false b 256 f))))
    go true true e f = not_so no
      where
        no : OutOfBounds role.Row a b → ⊥
        no (inl h) = let z = h.0 in true≢false cc
        no (inr (inl h)) = let z = h.0 in true≢false cc
        no (inr (inr h)) = which h.1
          where
            which : (b ≡ 0) ⊎ (256 < b) → ⊥
            which (inl k) = let l = leb-true 1 b e in omega arith
            which (inr k) = let l = leb-true b 256 f in omega arith
by_bounds role.Other a b = not_so no
  where
    no : OutOfBounds role.Other a b → ⊥
    no (inl h) = let z = h.0 in true≢false cc
    no (inr (inl h)) = let z = h.0 in true≢false cc
    no (inr (inr h)) = let z = h.0 in true≢false cc

pub by_5 : (earlier : List (List ℕ)) (line : List ℕ) → Reflects (Shows5 earlier line) (shows5 earlier line)
by_5 earlier line =
    rw (states_all earlier)
    (by_iff to from
    (by_or (by_bounds (entry_of whole_text line).role (size_of line) (get_or line 2 0))
    (by_and (by_eqb (kind_of line) 1) (by_and (by_leb (cap n) 65536) (by_ltb 65536 (cap (cap (cap n) * size_of line)))))))
  where
    n : ℕ
    n = states earlier

    Passing : Type 0
    Passing = (kind_of line ≡ 1) × ((cap n ≤ 65536) × (65536 < cap (cap (cap n) * size_of line)))

    to : OutOfBounds (entry_of whole_text line).role (size_of line) (get_or line 2 0) ⊎ Passing → Shows5 earlier line
    to (inl (inl h)) = shows.size h.0 h.1
    to (inl (inr (inl h))) = shows.initial h.0 h.1
    to (inl (inr (inr h))) = shows.span h.0 h.1
    to (inr h) =
        let a = h.1.0 in
        let e : cap (cap n) ≡ n = omega arith in
        let b : 65536 < cap (n * size_of line) = rw e at h.1.1 in
        shows.passing h.0 (omega arith) (omega arith)

    from : Shows5 earlier line → OutOfBounds (entry_of whole_text line).role (size_of line) (get_or line 2 0) ⊎ Passing
    from (shows.size p e) = inl (inl (p, e))
    from (shows.initial p e) = inl (inr (inl (p, e)))
    from (shows.span p e) = inl (inr (inr (p, e)))
    from (shows.passing k a b) = let e : cap (cap n) ≡ n = omega arith in inr (k, (omega arith, rw e (omega arith)))

-- ---- 6

by_terms : (lines : List (List ℕ)) (line : List ℕ) → Reflects (Shows6 lines line) (not (line_fits (count_of 1 lines) (count_of 2 lines) (internal_of lines) line (kind_of line)))
by_terms lines line = go (line_fits (count_of 1 lines) (count_of 2 lines) (internal_of lines) line (kind_of line)) (by_line _ _ _ line (kind_of line))
  where
    Made : Type 0
    Made = LineTerms (count_of 1 lines) (count_of 2 lines) (internal_of lines) line (kind_of line)

    no : (HasTerms (kind_of line) → Made) → Shows6 lines line → ⊥
    no f (shows.wrong_terms h n) = n (f h)

    yes : ((HasTerms (kind_of line) → Made) → ⊥) → (b : Bool) → has_terms (entry_in whole_text (kind_of line)).terms ≡ b → Shows6 lines line
    yes n true e = shows.wrong_terms e (λ m. n (λ _. m))
    yes n false e = absurd (n (λ h. absurd (true≢false (sym h ∙ e))))

    go : (b : Bool) → Reflects (HasTerms (kind_of line) → Made) b → Reflects (Shows6 lines line) (not b)
    go true (so f) = not_so (no f)
    go false (not_so n) = so (yes n _ refl)

-- the counts of lines that stand in order are small
module _ {lines : List (List ℕ)} (lay : Layout whole_text lines) where
  small_1 : small (gathered (add_rank 1) 0 lines) ≡ count_of 1 lines
  small_1 =
      let c = (counted lay).kind1.1 in
      let e : gathered (add_rank 1) 0 lines ≡ count_of 1 lines = ranks_all 1 lines ∙ rw (rank_kind 1 (omega arith) (omega arith) lines) (omega arith) in
      rw (e, lt-ltb (count_of 1 lines) 65536 (omega arith))

  small_2 : small (gathered (add_rank 2) 0 lines) ≡ count_of 2 lines
  small_2 =
      let c = (counted lay).kind2.1 in
      let e : gathered (add_rank 2) 0 lines ≡ count_of 2 lines = ranks_all 2 lines ∙ rw (rank_kind 2 (omega arith) (omega arith) lines) (omega arith) in
      rw (e, lt-ltb (count_of 2 lines) 65536 (omega arith))

  internal_few : (rows : List Row) → internal_rows rows ≤ length rows
  unfolding internal_rows
  internal_few [] = omega arith
  internal_few (r ∷ rows) = go (eqb r.action 0) (internal_few rows)
    where
      go : (b : Bool) → internal_rows rows ≤ length rows → cond b (suc (internal_rows rows)) (internal_rows rows) ≤ suc (length rows)
      go true h = omega arith
      go false h = omega arith

  small_internal : small (gathered add_internal 0 lines) ≡ internal_of lines
  small_internal =
      let c = (counted lay).kind3 in
      let n = length-map (of_kind 3 lines) (row_of (count_of 1 lines)) in
      let f = internal_few (map (row_of (count_of 1 lines)) (of_kind 3 lines)) in
      let e : gathered add_internal 0 lines ≡ internal_of lines = internal_all lines ∙ omega arith in
      rw (e, lt-ltb (internal_of lines) 65536 (omega arith))

  pub by_6 : (line : List ℕ) → Reflects (Shows6 lines line) (shows6 lines line)
  by_6 line = rw (small_1, small_2, small_internal) (by_terms lines line)

-- ---- 7

-- the kinds of rows are 3 and 4
row_by_lem : (e : Entry) (b : Bool) (f : Entry) → (e.role ≡ role.Row → ⊥) → (f.role ≡ role.Row → ⊥) → (cond b e f).role ≡ role.Row → ⊥
row_by_lem e true f h k = h
row_by_lem e false f h k = k

pub row_kind : (k : ℕ) → k ≢ 3 → k ≢ 4 → IsRow k → ⊥
unfolding entry_in
row_kind k a b =
    rw (ne_eqb k 3 a, ne_eqb k 4 b)
    (row_by_lem _ (eqb k 1) _ (λ z. true≢false cc)
    (row_by_lem _ (eqb k 2) _ (λ z. true≢false cc)
    (row_by_lem _ (eqb k 5) _ (λ z. true≢false cc)
    (row_by_lem _ (eqb k 6) _ (λ z. true≢false cc)
    (row_by_lem _ (eqb k 7) _ (λ z. true≢false cc) (row_by_lem _ (eqb k 8) _ (λ z. true≢false cc) (λ z. true≢false cc)))))))

pub row_3 : IsRow 3
unfolding entry_in
row_3 = refl

pub row_4 : IsRow 4
unfolding entry_in
row_4 = refl

-- a row with an action
action_yes : (k a : ℕ) (line : List ℕ) → kind_of line ≡ k → action_of line ≡ a → has_action k a line ≡ true
action_yes k a line e f = rw (eq-eqb (kind_of line) k e, eq-eqb (action_of line) a f)

action_says : (k a : ℕ) (line : List ℕ) → has_action k a line ≡ true → (kind_of line ≡ k) × (action_of line ≡ a)
action_says k a line h = says_yes (by_and (by_eqb (kind_of line) k) (by_eqb (action_of line) a)) h

module _ {lines : List (List ℕ)} (lay : Layout whole_text lines) (earlier : List (List ℕ)) (line : List ℕ)
    (fits : line_fits (count_of 1 lines) (count_of 2 lines) (internal_of lines) line (kind_of line) ≡ true) where
  -- where the condition is well formed
  condition_ok : kind_of line ≡ 3 → ok_f (formula_in (drop 3 line)).tree (count_of 1 lines) true ≡ true
  unfolding line_fits terms_fit entry_in
  condition_ok e = and_left _ _ (rw e at fits)

  bare_is : kind_of line ≡ 3 → bare_by (small (gathered (add_rank 1) 0 lines)) (drop 3 line) ≡ is_zero (row_of (count_of 1 lines) line).carries
  bare_is e = rw (small_1 lay, condition_ok e)

  impl_internal : kind_of line ≡ 3 → action_of line ≡ 0 → Reflects (Shows7 lines earlier line) (not (bare_by (small (gathered (add_rank 1) 0 lines)) (drop 3 line)))
  impl_internal k a = rw (bare_is k) (by_iff (shows.internal_data k a) from (by_not (by_zero (row_of (count_of 1 lines) line).carries)))
    where
      from : Shows7 lines earlier line → (row_of (count_of 1 lines) line).carries ≢ num 0
      from (shows.twice r n m e f) = absurd (n a)
      from (shows.internal_spec e f) = absurd (omega arith)
      from (shows.internal_data e f n) = n
      from (shows.spans_differ e m f g n) = absurd (omega arith)

  impl_visible : kind_of line ≡ 3 → action_of line ≢ 0 → Reflects (Shows7 lines earlier line) (ltb 0 (gathered (add_action 3 (action_of line)) 0 earlier))
  impl_visible k a = by_iff to from (by_any (add_action 3 (action_of line)) (has_action 3 (action_of line)) (λ n l. refl) earlier)
    where
      to : Some (has_action 3 (action_of line)) earlier → Shows7 lines earlier line
      to s = let h = action_says 3 (action_of line) s.line s.passes in shows.twice (rw k row_3) a s.among (h.0 ∙ sym k) h.1

      from : Shows7 lines earlier line → Some (has_action 3 (action_of line)) earlier
      from (shows.twice {other = other} r n m e f) = record { line = other; among = m; passes = action_yes 3 (action_of line) other (e ∙ k) f }
      from (shows.internal_spec e f) = absurd (omega arith)
      from (shows.internal_data e f n) = absurd (a f)
      from (shows.spans_differ e m f g n) = absurd (omega arith)

  abbrev Twice : Type 0
  Twice = Some (has_action 4 (action_of line)) earlier

  abbrev Clash : Type 0
  Clash = Some (clashes (action_of line) (span_of line)) lines

  spec_row_lem : kind_of line ≡ 4
      → Reflects (Shows7 lines earlier line) (eqb (action_of line) 0 || (ltb 0 (gathered (add_action 4 (action_of line)) 0 earlier) || ltb 0 (gathered (add_clash (action_of line) (span_of line)) 0 lines)))
  spec_row_lem k =
      by_iff to from
      (by_or (by_eqb (action_of line) 0)
      (by_or (by_any (add_action 4 (action_of line)) (has_action 4 (action_of line)) (λ n l. refl) earlier)
      (by_any (add_clash (action_of line) (span_of line)) (clashes (action_of line) (span_of line)) (λ n l. refl) lines)))
    where
      visible : (b : Bool) → eqb (action_of line) 0 ≡ b → Twice → Shows7 lines earlier line
      visible true e s = shows.internal_spec k (eqb-true (action_of line) 0 e)
      visible false e s =
          let h = action_says 4 (action_of line) s.line s.passes in
          shows.twice (rw k row_4) (eqb-false (action_of line) 0 e) s.among (h.0 ∙ sym k) h.1

      to : (action_of line ≡ 0) ⊎ (Twice ⊎ Clash) → Shows7 lines earlier line
      to (inl a) = shows.internal_spec k a
      to (inr (inl s)) = visible _ refl s
      to (inr (inr s)) =
          let p = s.passes in
          let h = action_says 3 (action_of line) s.line (and_left _ (not (eqb (span_of s.line) (span_of line))) p) in
          let n = not-true _ (and_right (has_action 3 (action_of line) s.line) _ p) in
          shows.spans_differ k s.among h.0 h.1 (eqb-false (span_of s.line) (span_of line) n)

      from : Shows7 lines earlier line → (action_of line ≡ 0) ⊎ (Twice ⊎ Clash)
      from (shows.twice {other = other} r n m e f) = inr (inl (record { line = other; among = m; passes = action_yes 4 (action_of line) other (e ∙ k) f }))
      from (shows.internal_spec e f) = inl f
      from (shows.internal_data e f n) = absurd (omega arith)
      from (shows.spans_differ {other = other} e m f g n) =
          inr (inr (record { line = other; among = m; passes = rw (action_yes 3 (action_of line) other f g, ne_eqb (span_of other) (span_of line) n) }))

  no_row : kind_of line ≢ 3 → kind_of line ≢ 4 → Shows7 lines earlier line → ⊥
  no_row a b (shows.twice r n m e f) = row_kind (kind_of line) a b r
  no_row a b (shows.internal_spec e f) = b e
  no_row a b (shows.internal_data e f n) = a e
  no_row a b (shows.spans_differ e m f g n) = b e

  pub by_7 : Reflects (Shows7 lines earlier line) (shows7 lines earlier line)
  by_7 = go (eqb (kind_of line) 3) (eqb (kind_of line) 4) (eqb (action_of line) 0) refl refl refl
    where
      go : (x y z : Bool) → eqb (kind_of line) 3 ≡ x → eqb (kind_of line) 4 ≡ y → eqb (action_of line) 0 ≡ z
          → Reflects (Shows7 lines earlier line)
          (cond x
          (cond z (not (bare_by (small (gathered (add_rank 1) 0 lines)) (drop 3 line))) (ltb 0 (gathered (add_action 3 (action_of line)) 0 earlier)))
          (cond y
          (eqb (action_of line) 0 || (ltb 0 (gathered (add_action 4 (action_of line)) 0 earlier) || ltb 0 (gathered (add_clash (action_of line) (span_of line)) 0 lines)))
          false))
      go true y true ex ey ez = impl_internal (eqb-true (kind_of line) 3 ex) (eqb-true (action_of line) 0 ez)
      go true y false ex ey ez = impl_visible (eqb-true (kind_of line) 3 ex) (eqb-false (action_of line) 0 ez)
      go false true z ex ey ez = spec_row_lem (eqb-true (kind_of line) 4 ey)
      go false false z ex ey ez = not_so (no_row (eqb-false (kind_of line) 3 ex) (eqb-false (kind_of line) 4 ey))
