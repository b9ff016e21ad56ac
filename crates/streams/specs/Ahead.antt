-- What is ahead of a reader's use, and what is then left of it.
use Rattle.std.specs.Prelude.{ℕ, ◌<◌, List, get_or, slice_range}
use Rattle.std.specs.declared.option.Option.{Option}
use Rattle.std.specs.Io.KnownBytes.{prepend_known}
use Rattle.streams.specs.declared.read_ahead.ReadAhead.{ReadAhead}

-- some bytes are ahead
abbrev pub IsAhead : {R : Type 0} → ReadAhead R → Type 0
IsAhead a = a.at < a.end

-- the bytes ahead
abbrev pub ahead_of : {R : Type 0} → ReadAhead R → List ℕ
ahead_of a = slice_range a.block a.at a.end

-- the first of them, which is next
abbrev pub first_of : {R : Type 0} → ReadAhead R → ℕ
first_of a = get_or a.block a.at 0

-- the block that they stand in
abbrev pub block_of : {R : Type 0} → ReadAhead R → List ℕ
block_of a = a.block

-- the reader behind them
abbrev pub reader_of : {R : Type 0} → ReadAhead R → R
reader_of a = a.reader

-- the bytes ahead, and after them those that the reader has left
abbrev pub left_of : {R : Type 0} → (R → Option (List ℕ)) → ReadAhead R → Option (List ℕ)
left_of remaining a = prepend_known (ahead_of a) (remaining a.reader)
