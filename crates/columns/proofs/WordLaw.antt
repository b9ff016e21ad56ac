-- The law of a word's count (02, order 3), of what `columns::blanks_in` ensures.
use Prim.Native.Nat.{ℕ}
use mathlib.Core.Path.{sym, ◌∙◌, ap}
use mathlib.Core.List.{List}
use lib.ListN.{take}
use Rattle.columns.specs.Scan.{blanks_of}
use Rattle.columns.specs.Word.{WordLaw}
use Rattle.columns.proofs.Word.{eight_back}
use Rattle.columns.proofs.blanks_in.Reads as blanks_in_reads

pub word_law : WordLaw (λ (word count : ℕ). blanks_in_reads.Post tt (word, tt) count (word, tt))
unfolding WordLaw
word_law bytes e count =
    let same = ap (λ (l : List ℕ). blanks_of (take 6 l)) (eight_back bytes e) in
    (λ counts. counts ∙ same, λ is. is ∙ sym same)
