-- Lists of desk calls (01, "What demand 3 speaks of"): "any operations that take the desk and give it back (load, advance, verdict, drop),
-- with any arguments and in any order, those turned down included"; since 02's order 4 also measure; accepted is, since order 6, said one
-- way or the other. A list is given by its calls with their answers, the latest first. How a desk is handed from call to call is in
-- specs/Contracted, by the contracts of the methods themselves.
use Rattle.std.specs.Prelude.{ℕ, ◌+◌, ◌≢◌, List, [], ◌∷◌}
use Rattle.verdicts.specs.declared.Acceptance.{Acceptance}
use Rattle.answers.specs.declared.Done.{Done}
use Rattle.answers.specs.declared.Done.TheVariants as done
use Rattle.answers.specs.declared.Advance.{Advance}
use Rattle.answers.specs.declared.Advance.TheVariants as progress
use Rattle.answers.specs.declared.Verdict.{Verdict}
use Rattle.answers.specs.declared.Measured.{Measured}
use Rattle.answers.specs.Answers.{count_said}

-- a call with its argument, and its answer; of a measure what the slice held, and holds after it
pub data Called : Type 0 where
  load : List ℕ → Done → Called
  advance : ℕ → Advance → Called
  verdict : Verdict → Called
  measure : List ℕ → List ℕ → Measured → Called
  drop : Done → Called

-- anything but a load that returned 0
pub data NoLoad : Called → Type 0 where
  refused : {text : List ℕ} {k : ℕ} → k ≢ 0 → NoLoad (load text (done.TurnedDown k))
  advanced : {n : ℕ} {a : Advance} → NoLoad (advance n a)
  told : {v : Verdict} → NoLoad (verdict v)
  measured : {slice after : List ℕ} {a : Measured} → NoLoad (measure slice after a)
  dropped : {a : Done} → NoLoad (drop a)

-- the text "of the last load .. that returned 0": the answer `Done`, since none that is turned down has the number 0
pub data LastLoad : List Called → List ℕ → Type 0 where
  here : {text : List ℕ} {calls : List Called} → LastLoad (load text done.Done ∷ calls) text
  before : {call : Called} {calls : List Called} {text : List ℕ} → NoLoad call → LastLoad calls text → LastLoad (call ∷ calls) text

-- "A text is accepted in the list where an advance answers accepted and the text, as it stood when it was loaded, is that of the
-- last load before it that returned 0.": in this way
pub data AcceptedAs (how : Acceptance) : List Called → List ℕ → Type 0 where
  here : {n k : ℕ} {calls : List Called} {text : List ℕ} → LastLoad calls text → AcceptedAs how (advance n (progress.Accepted how k) ∷ calls) text
  before : {call : Called} {calls : List Called} {text : List ℕ} → AcceptedAs how calls text → AcceptedAs how (call ∷ calls) text

-- in one way or the other
abbrev pub AcceptedIn : List Called → List ℕ → Type 0
AcceptedIn calls text = (how : Acceptance) × AcceptedAs how calls text

-- "load and then advances": by m states in all, and the answers counted k. Verdicts, measures and refused loads may stand between them.
pub data Walked : List Called → List ℕ → ℕ → ℕ → Type 0 where
  loaded : {text : List ℕ} {calls : List Called} → Walked (load text done.Done ∷ calls) text 0 0
  on : {calls : List Called} {text : List ℕ} {m k n : ℕ} {a : Advance} → Walked calls text m k → Walked (advance n a ∷ calls) text (m + n) (k + count_said a)
  told : {calls : List Called} {text : List ℕ} {m k : ℕ} {v : Verdict} → Walked calls text m k → Walked (verdict v ∷ calls) text m k
  measured : {calls : List Called} {text slice after : List ℕ} {m k : ℕ} {a : Measured} → Walked calls text m k → Walked (measure slice after a ∷ calls) text m k
  refused : {calls : List Called} {text other : List ℕ} {m k j : ℕ} → j ≢ 0 → Walked calls text m k → Walked (load other (done.TurnedDown j) ∷ calls) text m k

-- "load and then advances" on a new desk: the load is done, and these are the advances' numbers, the latest first
pub data LoadThen (text : List ℕ) : List ℕ → List Called → Type 0 where
  loaded : LoadThen text [] (load text done.Done ∷ [])
  on : {ns : List ℕ} {calls : List Called} {n : ℕ} {a : Advance} → LoadThen text ns calls → LoadThen text (n ∷ ns) (advance n a ∷ calls)
