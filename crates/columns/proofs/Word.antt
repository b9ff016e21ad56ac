-- Laws of specs/Word: a word of some bytes and those after them is both words, one above the other (`word_append`); eight bytes are those of
-- their word (`eight_back`); the zero bits at the low end of what a word differs from blanks in tell the blanks that begin it (`counted`).
use Prim.Native.Nat.{ℕ, zero, suc, ◌+◌, ◌*◌, ◌/◌, ◌%◌, ◌^◌, ◌<◌, ◌≤◌, min}
use mathlib.Core.Path.{◌≡◌, refl, sym, ◌∙◌, ap}
use mathlib.Core.Bool.{Bool, true, false, cond}
use mathlib.Core.List.{List, [], ◌∷◌, ◌++◌}
use native.Mathlib.Omega.{arith}
use native.Mathlib.Nat.{suc-add, zero-add, add-zero, mul-one, mul_assoc, pow-suc}
use borrow.Author.Tests.{eqb-true, eqb-false}
use lib.Dec.{eqb, lit<, lit≤}
use lib.ListN.{length, get_or, take, drop, length-drop}
use lib.Seq.{take-add, take-take, drop-drop, drop-cons, length-take-le}
use lib.Bits.{bit_xor, xor_block, xor_self, xor_lt, xor_add_and, and_le_l, and_le_r, block_half, block_odd, shifted_half, shifted_even}
use lib.Count.{count_trailing_zeros, under, trailing_le}
use Rattle.columns.specs.Scan.{blanks_of}
use Rattle.columns.specs.Word.{bytes_of, word_of, EightBytes}

-- ---- a word's bytes

-- bytes above others
word_append : (xs ys : List ℕ) → word_of (xs ++ ys) ≡ word_of xs + word_of ys * 256 ^ length xs
unfolding word_of
word_append [] ys = omega arith
word_append (x ∷ xs) ys =
    let p : word_of ys * 256 ^ suc (length xs) ≡ word_of ys * 256 ^ length xs * 256 = rw (pow-suc 256 (length xs), mul_assoc) in
    let ih = word_append xs ys in
    omega arith

-- the n bytes of a part from a place on, and the n after them
halves : (n at a b : ℕ) (part : List ℕ) → at + n ≤ length part → a ≡ word_of (take n (drop at part)) → b ≡ word_of (take n (drop (at + n) part))
    → a + b * 256 ^ n ≡ word_of (take (n + n) (drop at part))
halves n at a b part h ea eb =
    let long : length (take n (drop at part)) ≡ n = length-take-le n (drop at part) (rw (length-drop) (omega arith)) in
    rw (take-add n n (drop at part), drop-drop n at part, word_append (take n (drop at part)) (take n (drop (at + n) part)), long, ea, eb)

pub two : (at : ℕ) (part : List ℕ) → at + 2 ≤ length part → get_or part at 0 + get_or part (at + 1) 0 * 256 ≡ word_of (take 2 (drop at part))
unfolding word_of
two at part h =
    halves 1 at (get_or part at 0) (get_or part (at + 1) 0) part (omega arith) (one at (omega arith)) (one (at + 1) (omega arith))
  where
    one : (i : ℕ) → i < length part → get_or part i 0 ≡ word_of (take 1 (drop i part))
    one i g = rw (drop-cons part i 0 g) (omega arith)

pub four : (at a b : ℕ) (part : List ℕ) → at + 4 ≤ length part → a ≡ word_of (take 2 (drop at part)) → b ≡ word_of (take 2 (drop (at + 2) part))
    → a + b * 65536 ≡ word_of (take 4 (drop at part))
four at a b part h ea eb = halves 2 at a b part (omega arith) ea eb

pub eight : (a b : ℕ) (part : List ℕ) → 8 ≤ length part → a ≡ word_of (take 4 (drop 0 part)) → b ≡ word_of (take 4 (drop 4 part))
    → a + b * 4294967296 ≡ word_of (take 8 part)
eight a b part h ea eb = halves 4 0 a b part (omega arith) ea eb

-- bytes are those of their word
bytes_back : (bytes : List ℕ) → ((i : ℕ) → get_or bytes i 0 < 256) → bytes_of (length bytes) (word_of bytes) ≡ bytes
unfolding bytes_of word_of
bytes_back [] h = refl
bytes_back (b ∷ bytes) h =
    let small = h 0 in
    let low : (b + word_of bytes * 256) % 256 ≡ b = omega arith in
    let high : (b + word_of bytes * 256) / 256 ≡ word_of bytes = omega arith in
    rw (low, high, bytes_back bytes (λ i. h (suc i)))

pub eight_back : (bytes : List ℕ) → EightBytes bytes → bytes_of 8 (word_of bytes) ≡ bytes
eight_back bytes e = rw e.eight at (bytes_back bytes e.byte)

first_bytes : (n : ℕ) (part : List ℕ) → ((i : ℕ) → get_or part i 0 < 256) → (i : ℕ) → get_or (take n part) i 0 < 256
first_bytes zero part h i = lit< tt
first_bytes (suc n) [] h i = lit< tt
first_bytes (suc n) (b ∷ part) h zero = h 0
first_bytes (suc n) (b ∷ part) h (suc i) = first_bytes n part (λ j. h (suc j)) i

-- ---- zero bits at a word's low end

-- k of them
zeros_below : (k j a : ℕ) → count_trailing_zeros (k + j) (a * 2 ^ k) ≡ k + count_trailing_zeros j a
unfolding count_trailing_zeros
zeros_below zero j a = rw (zero-add j, zero-add (count_trailing_zeros j a), mul-one)
zeros_below (suc k) j a = rw (suc-add k j, shifted_even a k, shifted_half a k, zeros_below k j a, suc-add)

-- fewer than k where the k lowest bits aren't 0
zeros_within : (k j a r : ℕ) → r < 2 ^ k → 0 < r → count_trailing_zeros (k + j) (a * 2 ^ k + r) < k
unfolding count_trailing_zeros
zeros_within zero j a r h p = let z : ⊥ = omega arith in absurd z
zeros_within (suc k) j a r h p =
    rw (suc-add k j, block_odd a k r, block_half a k r)
    (by_lowest (r % 2) refl (λ q. zeros_within k j a (r / 2) (omega (arith, pow-suc 2 k)) q))
  where
    by_lowest : (d : ℕ) → r % 2 ≡ d → (0 < r / 2 → count_trailing_zeros (k + j) (a * 2 ^ k + r / 2) < k)
        → under d (count_trailing_zeros (k + j) (a * 2 ^ k + r / 2)) < suc k
    by_lowest zero e ih = let f = ih (omega arith) in omega arith
    by_lowest (suc d) e ih = omega arith

-- two numbers that differ in no bit are equal
xor_none : (a b : ℕ) → bit_xor a b ≡ 0 → a ≡ b
xor_none a b e = omega (arith, xor_add_and a b, and_le_l a b, and_le_r a b)

-- ---- blanks

-- k blanks as a word
abbrev blank_bytes : ℕ → ℕ
blank_bytes zero = 0
blank_bytes (suc k) = blank_bytes k * 256 + 32

-- the bits of k bytes
abbrev bits_of : ℕ → ℕ
bits_of zero = 0
bits_of (suc k) = 8 + bits_of k

-- what the lowest byte differs from a blank in, under that of the others
by_byte : (bits others blanks b : ℕ) (blank : Bool) → eqb b 32 ≡ blank → b < 256 → count_trailing_zeros bits others / 8 ≡ blanks
    → count_trailing_zeros (8 + bits) (others * 2 ^ 8 + bit_xor b 32) / 8 ≡ cond blank (suc blanks) 0
by_byte bits others blanks b true e h ih =
    let z : bit_xor b 32 ≡ 0 = rw (eqb-true b 32 e) (xor_self 32) in
    rw (z, add-zero) (omega (arith, zeros_below 8 bits others))
by_byte bits others blanks b false e h ih =
    let p : bit_xor b 32 ≡ 0 → ⊥ = λ q. eqb-false b 32 e (xor_none b 32 q) in
    let f = zeros_within 8 bits others (bit_xor b 32) (xor_lt 8 b 32 h (lit< tt)) (omega arith) in
    omega arith

by_bits : (k word : ℕ) → count_trailing_zeros (bits_of k) (bit_xor word (blank_bytes k)) / 8 ≡ blanks_of (bytes_of k word)
unfolding blanks_of bytes_of count_trailing_zeros
by_bits zero word = refl
by_bits (suc k) word =
    let parts : word ≡ word / 256 * 2 ^ 8 + word % 256 = omega arith in
    let low : word % 256 < 256 = omega arith in
    let differ = xor_block 8 (word / 256) (blank_bytes k) (word % 256) 32 low (lit< tt) in
    rw (ap (λ (w : ℕ). bit_xor w (blank_bytes k * 256 + 32)) parts ∙ differ)
    (by_byte (bits_of k) (bit_xor (word / 256) (blank_bytes k)) (blanks_of (bytes_of k (word / 256))) (word % 256) _ refl low (by_bits k (word / 256)))

-- the blanks that begin the first n of columns
pub blanks_first : (n : ℕ) (columns : List ℕ) → blanks_of (take n columns) ≡ min n (blanks_of columns)
unfolding blanks_of
blanks_first zero columns = omega arith
blanks_first (suc n) [] = omega arith
blanks_first (suc n) (b ∷ columns) = by_first (eqb b 32) (blanks_first n columns)
  where
    by_first : (blank : Bool) → blanks_of (take n columns) ≡ min n (blanks_of columns)
        → cond blank (suc (blanks_of (take n columns))) 0 ≡ min (suc n) (cond blank (suc (blanks_of columns)) 0)
    by_first true ih = omega arith
    by_first false ih = omega arith

pub counted : (word count : ℕ) → count ≡ min 6 (count_trailing_zeros 64 (bit_xor word 0x2020_2020_2020_2020) / 8)
    → count ≡ blanks_of (take 6 (bytes_of 8 word))
counted word count e = e ∙ (ap (min 6) (by_bits 8 word) ∙ sym (blanks_first 6 (bytes_of 8 word)))

pub count_fits : (x : ℕ) → count_trailing_zeros 64 x / 8 < 2 ^ 64
count_fits x = let most = trailing_le 64 x in omega arith

-- the word of a part's first eight bytes counts for the part
pub of_part : (word count : ℕ) (part : List ℕ) → 8 ≤ length part → ((i : ℕ) → get_or part i 0 < 256) → word ≡ word_of (take 8 part)
    → count ≡ blanks_of (take 6 (bytes_of 8 word)) → count ≡ blanks_of (take 6 part)
of_part word count part h bytes e c =
    let back = eight_back (take 8 part) (record { eight = length-take-le 8 part h; byte = first_bytes 8 part bytes }) in
    c ∙ rw (e, back, take-take 6 8 part (lit≤ tt))
