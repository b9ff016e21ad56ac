-- Of an answer both parts are read back: whether there is a value, and what was computed.
use Rattle.std.proofs.Common.{◌≡◌, refl, Bool, true, false, cond}
use Rattle.std.specs.Prelude.{Ok, Err, is_ok}
use Rattle.has_value.specs.Answer.{computed}

module _ {A : Type 0} where
  pub ok_is : (h : Bool) (x : A) → is_ok (cond h (Ok x) (Err x)) ≡ h
  ok_is true x = refl
  ok_is false x = refl

  pub computed_is : (h : Bool) (x : A) → computed (cond h (Ok x) (Err x)) ≡ x
  computed_is true x = refl
  computed_is false x = refl
