-- The pump table of 01 and its nine variants, as designs, with the report of each (01, "The pump table", the reports marked P), and what it
-- means that the report is right.
use Rattle.std.specs.Prelude.{◌≡◌, true, false, List, [], ◌∷◌, ◌++◌, ℕ}
use Rattle.terms.specs.Tree.{Value, Formula, num, par, sum_value, choice, const, compare}
use Rattle.terms.specs.declared.Compare.TheVariants.{Equal}
use Rattle.criteria.specs.Design.{Design, Row, Parameter, Admitted}
use Rattle.criteria.specs.Verdict.{Verdict, Report, report_of, Demand2}

abbrev pub is : ℕ → Formula
is n = compare Equal (par 0) (num n)

abbrev pub row : ℕ → ℕ → Formula → Value → Value → Value → Row
row a s c x v w = record { action = a; span = s; condition = c; carries = x; next = v ∷ w ∷ [] }

abbrev pub param : ℕ → ℕ → Parameter
param z v = record { size = z; initial = v }

-- in the order of the text, with the parts that a variant changes: first size, second specification size, row 2, condition
-- and data of row 3, invariant, second mapped value, measure
abbrev pub design : ℕ → ℕ → List Row → Formula → Value → Formula → Value → Value → Design
design z w row2 c x i m u = record {
  impl = record {
    parameters = param z 0 ∷ param 4 0 ∷ [];
    rows = (row 1 4 (is 0) sum_value (num 1) sum_value ∷ row2) ++ (row 2 1 c x (num 0) (par 1) ∷ []);
  };
  spec = record {
    parameters = param 2 0 ∷ param w 0 ∷ [];
    rows = row 1 4 (is 0) sum_value (num 1) sum_value ∷ row 2 1 (is 1) (par 1) (num 0) (par 1) ∷ [];
  };
  invariant = i;
  mapping = choice (is 0) (num 0) (num 1) ∷ m ∷ [];
  measure = u;
  marks = [];
}

-- row 2, with its last next value
abbrev pub done : Value → List Row
done v = row 0 1 (is 1) (num 0) (num 2) v ∷ []

abbrev pub busy : Value
busy = choice (is 1) (num 1) (num 0)

abbrev pub given : Design
given = design 3 4 (done (par 1)) (is 2) (par 1) (const true) (par 1) busy

abbrev pub wrong_data : Design
wrong_data = design 3 4 (done (par 1)) (is 2) (num 0) (const true) (par 1) busy

-- a design and its report
pub record Case : Type 0 where
  pub table : Design
  pub says : Report

abbrev pub case : Design → ℕ → ℕ → ℕ → ℕ → ℕ → Case
case d v c n k e = record { table = d; says = record { verdict = v; number = c; state = n; row = k; sum = e } }

unfoldable pub cases : List Case
cases =
    -- as given
    case given 0 0 0 0 0
    -- data of row 3 `0 0`
    ∷ case wrong_data 1 8 9 3 0
    -- measure `0 0`
    ∷ case (design 3 4 (done (par 1)) (is 2) (par 1) (const true) (par 1) (num 0)) 1 5 4 2 0
    -- invariant `11`
    ∷ case (design 3 4 (done (par 1)) (is 2) (par 1) (const false) (par 1) busy) 1 1 0 0 0
    -- row 2 removed
    ∷ case (design 3 4 [] (is 2) (par 1) (const true) (par 1) busy) 1 7 4 2 0
    -- first size 2
    ∷ case (design 2 4 (done (par 1)) (is 2) (par 1) (const true) (par 1) busy) 1 3 4 2 0
    -- second mapped value `0 0`
    ∷ case (design 3 4 (done (par 1)) (is 2) (par 1) (const true) (num 0) busy) 1 9 0 1 1
    -- condition of row 3 `10`
    ∷ case (design 3 4 (done (par 1)) (const true) (par 1) (const true) (par 1) busy) 1 6 0 3 0
    -- last next value of row 2 `0 0`
    ∷ case (design 3 4 (done (num 0)) (is 2) (par 1) (const true) (par 1) busy) 1 4 5 2 0
    -- second specification size 3
    ∷ case (design 3 3 (done (par 1)) (is 2) (par 1) (const true) (par 1) busy) 1 2 3 0 0
    ∷ []

-- "The ten reports marked P are proved from the criteria themselves, gathered in a table that a single result covers.": the design
-- is one that a text may say, and this is the report of the verdict that demand 2 asks for
pub record Right (c : Case) : Type 0 where
  pub admitted : Admitted c.table
  pub verdict : Verdict
  pub right : Demand2 c.table verdict
  pub reported : report_of verdict ≡ c.says
