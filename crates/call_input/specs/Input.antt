-- What is read of an input whose bytes are known, as a line or a text: which were the first of those left.
use Rattle.std.specs.Prelude.{ℕ, ◌≡◌, ◌≤◌, List, [], ◌∷◌, ◌++◌, length, take}
use Rattle.std.specs.declared.option.Option.{Option}
use Rattle.std.specs.Io.KnownBytes.{Consumes, IsAtEnd}
use Rattle.call_input.specs.declared.Line.{Line}
use Rattle.call_input.specs.declared.Line.TheVariants as line

-- of a short line what is before its byte 10; at the end of the input none are left
abbrev pub IsLine : Option (List ℕ) → Option (List ℕ) → List ℕ → Line → Type 0
IsLine old new bytes (line.Short n) = (n ≤ length bytes) × Consumes old new (take n bytes ++ (10 ∷ []))
IsLine old new bytes line.Long = Unit {0}
IsLine old new bytes line.End = IsAtEnd old

-- a text of n bytes and a byte 10, of which as many as there is room for are kept
pub record TextRead (n : ℕ) (old new : Option (List ℕ)) (room : List ℕ) : Type 0 where
  pub text : List ℕ
  pub size : length text ≡ n
  pub kept : take (length room) text ≡ take n room
  pub first : Consumes old new (text ++ (10 ∷ []))
