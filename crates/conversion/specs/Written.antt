-- What a call of a writer comes to: the number by which it is turned down, or 0, and the length of its result, or 0.
use Rattle.std.specs.Prelude.{ℕ}

pub record Written : Type 0 where
  pub number : ℕ
  pub length : ℕ
