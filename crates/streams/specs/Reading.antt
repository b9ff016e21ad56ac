-- What is promised of a read: that what it gives is within the room; and of a reader whose bytes are known, that they are those, and an end
-- that is told is the end. Of other readers that is the operating system's word.
use Rattle.std.specs.Prelude.{ℕ, ◌≡◌, ◌<◌, List, [], ◌∷◌, length, take, None, Some, Ok, Err}
use Rattle.std.specs.declared.option.Option.{Option}
use Rattle.std.specs.declared.result.Result.{Result}
use Rattle.std.specs.declared.io.Error.{Error}
use Rattle.std.specs.Io.KnownBytes.{Keeps, Consumes, IsAtEnd}
use Rattle.streams.specs.declared.Input.{Input}
use Rattle.streams.specs.declared.Input.TheVariants as input

-- an input that ended left room
abbrev pub Within : ℕ → Input → Type 0
Within room (input.Ended n) = n < room
Within room input.Full = Unit {0}

-- the bytes that one read gave are the first of those that were left, and none at an end that is told; a read that failed takes none
abbrev pub Gave : Option (List ℕ) → Option (List ℕ) → List ℕ → Result ℕ Error → Type 0
Gave old new room (Ok k) = Consumes old new (take k room) × (k ≡ 0 → IsAtEnd new)
Gave old new room (Err e) = Keeps old new

-- the bytes of an input that ended are all that were left, those of a full room the first of them; those read before an error are the first
abbrev pub Given : Option (List ℕ) → Option (List ℕ) → List ℕ → Result Input Error → Type 0
Given old new room (Ok (input.Ended n)) = Consumes old new (take n room) × IsAtEnd new
Given old new room (Ok input.Full) = Consumes old new room
Given old new room (Err e) = (n : ℕ) × (n < length room) × Consumes old new (take n room)

-- the byte that was given is the first of those that were left; at an end that is told none are left; a read that failed takes none
abbrev pub GaveByte : Option (List ℕ) → Option (List ℕ) → Result (Option ℕ) Error → Type 0
GaveByte old new (Ok (Some b)) = Consumes old new (b ∷ [])
GaveByte old new (Ok None) = Keeps old new × IsAtEnd new
GaveByte old new (Err e) = Keeps old new
