-- What the one-call check as a program writes on standard output (01: "A program does the same from standard input to standard
-- output"), from what was read into a room and how reading ended.
use Rattle.std.specs.Prelude.{ℕ, ◌≡◌, List, [], length, take, Ok, Err}
use Rattle.writer.specs.Report.{report_bytes}
use Rattle.checker.specs.OneCall.{judged_of}
use Rattle.std.specs.declared.result.Result.{Result}
use Rattle.std.specs.declared.io.Error.{Error}
use Rattle.streams.specs.declared.Input.{Input}
use Rattle.streams.specs.declared.Input.TheVariants as input

-- the inputs that may have been read so: the bytes read, where the end was told; every one that begins with a full room; none where a
-- read failed
abbrev pub IsInput : Result Input Error → List ℕ → List ℕ → Type 0
IsInput (Ok (input.Ended n)) room text = text ≡ take n room
IsInput (Ok input.Full) room text = take (length room) text ≡ room
IsInput (Err e) room text = ⊥

-- the report on the bytes read, and nothing where a read failed
unfoldable pub output_of : Result Input Error → List ℕ → List ℕ
output_of (Ok (input.Ended n)) room = report_bytes (judged_of (take n room))
output_of (Ok input.Full) room = report_bytes (judged_of room)
output_of (Err e) room = []
