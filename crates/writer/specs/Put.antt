-- Bytes written into a lent buffer (01): "Past a result, a lent buffer or slice keeps its content, and a writer returns its result's
-- length." Where the buffer is too short for the bytes nothing is written, and the length is 0.
use Rattle.std.specs.Prelude.{ℕ, ◌+◌, cond, List, leb, length}
use Rattle.std.proofs.lemmas.List.Edits.{sets}

-- the buffer after bytes were written from a place on
unfoldable pub put : List ℕ → ℕ → List ℕ → List ℕ
put buffer at bytes = cond (leb (at + length bytes) (length buffer)) (sets buffer at bytes) buffer

-- how many were written
unfoldable pub put_length : List ℕ → ℕ → List ℕ → ℕ
put_length buffer at bytes = cond (leb (at + length bytes) (length buffer)) (length bytes) 0
