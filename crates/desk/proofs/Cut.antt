-- A desk answers to a text as to its first 28,673 bytes.
use Prim.Native.Nat.{ℕ}
use mathlib.Core.Path.{◌≡◌, refl, ap}
use mathlib.Core.List.{List}
use lib.ListN.{take}
use Rattle.loader.proofs.Cut.{loaded_cut}
use Rattle.answers.specs.declared.Phase.{Phase}
use Rattle.answers.specs.declared.Phase.TheVariants as phase
use Rattle.desk.specs.declared.Desk.{Desk}
use Rattle.desk.specs.Desk.{load_empty, load_by, load_of}

load_by_lem : (p : Phase) (d : Desk) (text : List ℕ) → load_by p d (take 28673 text) ≡ load_by p d text
load_by_lem phase.Empty d text = ap (load_empty d) (loaded_cut text)
load_by_lem phase.Open d text = refl
load_by_lem (phase.Accepted how) d text = refl
load_by_lem (phase.Failed f) d text = refl

pub load_cut : (d : Desk) (text : List ℕ) → load_of d (take 28673 text) ≡ load_of d text
unfolding load_of
load_cut d text = load_by_lem d.phase d text
