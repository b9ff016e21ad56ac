-- What it means that the check passed, for demands 1 and 2 alike:
--   passed   where the check answered Some k for a part, a well-formed tree within the depth is read from the part's fields; it took k of
--            them, and they are what it is printed as; and it is read so wherever these fields stand, whatever follows them (in the
--            desk's copy too, where the evaluator reads it);
--   passes   a part that begins with a well-formed term within the depth passes.
-- Each stands once for values (-v) and once for formulas (-f).
use mathlib.Core.Path.{◌≡◌, ap, ◌∙◌}
use mathlib.Core.Bool.{Bool, true}
use mathlib.Core.List.{List, ◌++◌}
use Prim.Native.Nat.{ℕ, ◌≤◌, ◌*◌}
use lib.ListN.{length, drop}
use Rattle.terms.specs.Tree.{Value, Formula, ok_v, ok_f}
use Rattle.terms.specs.Read.{Reader, leaf, read_v, read_f}
use Rattle.terms.specs.Depth.{depth_v, depth_f}
use Rattle.terms.specs.Print.{print_v, print_f}
use Rattle.terms.proofs.Printing.{Printed, read_print_v, read_print_f, read_more_v, read_more_f}
use Rattle.reader.specs.Line.{fields_of}
use Rattle.reader.proofs.Line.{rest_fields}
use Rattle.term_check.specs.Checked.{checked_v, checked_f}
use Rattle.std.specs.Prelude.{Some}
use Rattle.term_check.proofs.Laws.{good_of, took_of}

-- a part begins with a term of k fields, which is read by p as the tree
pub record Begins {A : Type 0} (p : Reader A) (ok : A → Bool) (print : A → List ℕ) (depth : A → ℕ) (d : ℕ) (part : List ℕ) (k : ℕ) : Type 0 where
  pub tree : A
  pub well_formed : ok tree ≡ true
  pub within : depth tree ≤ d
  pub printed : fields_of part ≡ print tree ++ drop k (fields_of part)
  pub count : length (print tree) ≡ k
  pub read : (m : List ℕ) → p (fields_of part ++ m) ≡ leaf tree k
  -- what comes after the term is what the rest of the part has
  pub rest : fields_of (drop (6 * k) part) ≡ drop k (fields_of part)

begins : {A : Type 0} (p : Reader A) (ok : A → Bool) (print : A → List ℕ) (depth : A → ℕ) (d : ℕ) (part : List ℕ) (k : ℕ)
    → ok (p (fields_of part)).tree ≡ true → (p (fields_of part)).used ≡ k → Printed print depth d (p (fields_of part)) (fields_of part)
    → ((m : List ℕ) → p (fields_of part ++ m) ≡ p (fields_of part)) → Begins p ok print depth d part k
begins p ok print depth d part k good took h more = record {
  tree = (p (fields_of part)).tree;
  well_formed = good;
  within = h.within;
  printed = h.split ∙ ap (λ (j : ℕ). print (p (fields_of part)).tree ++ drop j (fields_of part)) took;
  count = h.count ∙ took;
  read = λ m. more m ∙ ap (leaf (p (fields_of part)).tree) took;
  rest = rest_fields k part (rw took at h.inside);
}

module _ (n : ℕ) (row : Bool) (d : ℕ) (part : List ℕ) where
  abbrev v : Reader Value
  v l = read_v d l

  abbrev f : Reader Formula
  f l = read_f d l

  abbrev v_ok : Value → Bool
  v_ok t = ok_v t n row

  abbrev f_ok : Formula → Bool
  f_ok t = ok_f t n row

  module _ (k : ℕ) where
    pub passed_v : Some k ≡ checked_v n row (read_v d (fields_of part)) → Begins v v_ok print_v depth_v d part k
    passed_v e =
        let good = good_of v v_ok (fields_of part) e in
        begins v v_ok print_v depth_v d part k good (took_of v v_ok (fields_of part) e)
        (read_print_v n row d (fields_of part) good) (read_more_v n row d (fields_of part) good)

    pub passed_f : Some k ≡ checked_f n row (read_f d (fields_of part)) → Begins f f_ok print_f depth_f d part k
    passed_f e =
        let good = good_of f f_ok (fields_of part) e in
        begins f f_ok print_f depth_f d part k good (took_of f f_ok (fields_of part) e)
        (read_print_f n row d (fields_of part) good) (read_more_f n row d (fields_of part) good)
