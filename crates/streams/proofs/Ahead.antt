-- The bytes ahead, by the places they stand at.
use Rattle.std.proofs.Common.{◌≡◌, ℕ, suc, ◌+◌, ◌-◌, ◌<◌, ◌≤◌, min, List, [], ◌∷◌, ◌++◌, None, Some, Ok, Err, length, get_or, take, drop, slice_range, sym, ap, ◌∙◌, subst, arith, add-one, drop-cons, length-take, drop-drop, take-append-drop, append_assoc}
use Rattle.std.proofs.lemmas.List.{drop-take, drop_min}
use Rattle.std.specs.declared.option.Option.{Option}
use Rattle.std.specs.declared.result.Result.{Result}
use Rattle.std.specs.declared.io.Error.{Error}
use Rattle.std.specs.Io.KnownBytes.{Keeps, Consumes, IsAtEnd, prepend_known}
use Rattle.std.proofs.KnownBytes.{Keeps-refl, Keeps-trans, prepend_known-nil}
use Rattle.streams.specs.Reading.{GaveByte}

passed : (xs : List ℕ) (i j n : ℕ) → i + n ≤ j → slice_range xs (i + n) j ≡ drop n (slice_range xs i j)
passed xs i j n h =
    let whole : n + (j - (i + n)) ≡ j - i = omega arith in
    ap (take (j - (i + n))) (sym (drop-drop n i xs))
    ∙ (sym (drop-take n (j - (i + n)) (drop i xs)) ∙ ap (λ k. drop n (take k (drop i xs))) whole)

-- one place further on the first of them is not ahead
pub stepped : (xs : List ℕ) (i j : ℕ) → i < j → slice_range xs (i + 1) j ≡ drop 1 (slice_range xs i j)
stepped xs i j h = passed xs i j 1 (omega arith)

least_dropped : (k n : ℕ) (xs : List ℕ) → drop (min k n) (take k xs) ≡ drop n (take k xs)
least_dropped k n xs =
    let front = take k xs in
    let same : min (min k n) (length front) ≡ min n (length front) = omega (arith, length-take k xs) in
    sym (drop_min (min k n) front) ∙ (ap (λ m. drop m front) same ∙ drop_min n front)

-- n places further on, or as many as there are
pub went_on : (xs : List ℕ) (i j n : ℕ) → i ≤ j → slice_range xs (i + min (j - i) n) j ≡ drop n (slice_range xs i j)
went_on xs i j n h = passed xs i j (min (j - i) n) (omega arith) ∙ least_dropped (j - i) n (drop i xs)

-- of what is ahead after some bytes are passed over, those are the first of what is left
pub skipped : (known : Option (List ℕ)) (n : ℕ) (front rest : List ℕ) → rest ≡ drop n front
    → Consumes (prepend_known front known) (prepend_known rest known) (take n front)
skipped None n front rest e = tt
skipped (Some xs) n front rest e =
    ap (λ l. l ++ xs) (sym (take-append-drop n front)) ∙ (append_assoc (take n front) (drop n front) xs ∙ ap (λ l. take n front ++ (l ++ xs)) (sym e))

-- ---- one byte

first_and_rest : (xs : List ℕ) (i j : ℕ) → i < j → i < length xs → slice_range xs i j ≡ get_or xs i 0 ∷ slice_range xs (i + 1) j
first_and_rest xs i j h l = let n : j - i ≡ suc (j - (i + 1)) = omega arith in rw (n, drop-cons xs i 0 l, ← add-one i)

consumed : (known : Option (List ℕ)) (front rest : List ℕ) (b : ℕ) → front ≡ b ∷ rest
    → Consumes (prepend_known front known) (prepend_known rest known) (b ∷ [])
consumed None front rest b e = tt
consumed (Some xs) front rest b e = ap (λ l. l ++ xs) e

module _ (known : Option (List ℕ)) (block : List ℕ) (at end : ℕ) where
  -- the first byte ahead
  pub gave_first : at < end → at < length block
      → Consumes (prepend_known (slice_range block at end) known) (prepend_known (slice_range block (at + 1) end) known) (get_or block at 0 ∷ [])
  gave_first h l = consumed known _ _ _ (first_and_rest block at end h l)

  -- with none ahead those are left that the reader has
  none_ahead : end ≤ at → prepend_known (slice_range block at end) known ≡ known
  none_ahead h = let n : end - at ≡ 0 = omega arith in rw n (prepend_known-nil known)

  pub gave_none : end ≤ at → IsAtEnd known
      → Keeps (prepend_known (slice_range block at end) known) (prepend_known (slice_range block at end) known)
      × IsAtEnd (prepend_known (slice_range block at end) known)
  gave_none h e = (Keeps-refl _, subst IsAtEnd (sym (none_ahead h)) e)

kept_consumed : (a b c : Option (List ℕ)) (bs : List ℕ) → Keeps a b → Consumes b c bs → Consumes a c bs
kept_consumed None b c bs p q = tt
kept_consumed (Some x) None c bs p q = absurd p
kept_consumed (Some x) (Some y) None bs p q = absurd q
kept_consumed (Some x) (Some y) (Some z) bs p q = sym p ∙ q

pub gave_after : (a b c : Option (List ℕ)) (r : Result (Option ℕ) Error) → Keeps a b → GaveByte b c r → GaveByte a c r
gave_after a b c (Ok (Some x)) p q = kept_consumed a b c (x ∷ []) p q
gave_after a b c (Ok None) p q = (Keeps-trans a b c p q.0, q.1)
gave_after a b c (Err e) p q = Keeps-trans a b c p q
