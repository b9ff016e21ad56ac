-- A word of eight bytes (02, order 3: "Blanks by the word"). No reader of 01 needs this file.
use Rattle.std.specs.Prelude.{ℕ, zero, suc, ◌+◌, ◌*◌, ◌/◌, ◌%◌, ◌<◌, ◌≡◌, ◌↔◌, List, [], ◌∷◌, length, get_or, take}
use Rattle.columns.specs.Scan.{blanks_of}

-- bytes as a word, the first one lowest
unfoldable pub word_of : List ℕ → ℕ
word_of [] = 0
word_of (b ∷ bytes) = b + word_of bytes * 256

-- the k lowest bytes of a word, the lowest first
unfoldable pub bytes_of : ℕ → ℕ → List ℕ
bytes_of zero word = []
bytes_of (suc k) word = word % 256 ∷ bytes_of k (word / 256)

-- these are eight, and each is a byte
pub record EightBytes (bytes : List ℕ) : Type 0 where
  pub eight : length bytes ≡ 8
  pub byte : (i : ℕ) → get_or bytes i 0 < 256

-- "For any eight bytes the word's count is the one that the first six give bytewise."
-- `Counts word count`: the word's count is `count`
unfoldable pub WordLaw : (ℕ → ℕ → Type 0) → Type 0
WordLaw Counts = (bytes : List ℕ) → EightBytes bytes → (count : ℕ) → Counts (word_of bytes) count ↔ (count ≡ blanks_of (take 6 bytes))
