-- The loop of `bench_advances`: the advances made, and those that are left till one is not answered open, are all that it takes.
use Prim.Native.Nat.{ℕ, suc, ◌+◌, ◌-◌, ◌<◌, ◌≤◌}
use mathlib.Core.Path.{◌≡◌, sym, ap, ◌∙◌}
use mathlib.Core.Bool.{Bool, true, false}
use mathlib.Core.List.{List}
use native.Mathlib.Omega.{arith}
use Rattle.desk.specs.declared.Desk.{Desk}
use Rattle.desk.specs.declared.AfterLoad.{AfterLoad}
use Rattle.desk.specs.declared.AfterAdvance.{AfterAdvance}
use Rattle.desk.specs.Desk.{empty_desk, load_of, advance_of}
use Rattle.desk_c.specs.Advances.{is_open, advances_till}

-- those made, and those that are left
abbrev pub with_left : Desk → ℕ → ℕ → ℕ
with_left d n made = made + advances_till (65536 - made) d n

-- all that it takes
abbrev pub taken : List ℕ → ℕ → ℕ
taken text n = advances_till 65536 (load_of empty_desk text).desk n

pub begins : (text : List ℕ) (n : ℕ) (e : Desk) → e ≡ empty_desk → (r : AfterLoad) → r ≡ load_of e text → with_left r.desk n 0 ≡ taken text n
begins text n e ee r er = let all : 0 + advances_till 65536 (load_of empty_desk text).desk n ≡ taken text n = omega arith in rw (er, ee) all

-- ---- one advance

module _ (d : Desk) (n made : ℕ) where
  none_left : 65536 ≤ made → made ≡ with_left d n made
  unfolding advances_till
  none_left h = let none : 65536 - made ≡ 0 = omega arith in rw none (sum made)
    where
      sum : (m : ℕ) → m ≡ m + 0
      sum m = omega arith

  module _ (more : made < 65536) where
    one_more : 65536 - made ≡ suc (65536 - (made + 1))
    one_more = omega arith

    shut : is_open (advance_of d n).answer ≡ false → made + 1 ≡ with_left d n made
    unfolding advances_till
    shut h = rw (one_more, h)

    opened : is_open (advance_of d n).answer ≡ true → with_left (advance_of d n).desk n (made + 1) ≡ with_left d n made
    unfolding advances_till
    opened h = rw (one_more, h) (sum made _)
      where
        sum : (m x : ℕ) → m + 1 + x ≡ m + suc x
        sum m x = omega arith

-- ---- the loop

module _ (text : List ℕ) (d : Desk) (n made : ℕ) (some : 1 ≤ made) (so_far : with_left d n (made - 1) ≡ taken text n) where
  before : (made - 1) + 1 ≡ made
  before = omega arith

  module _ (more : made ≤ 65536) (r : AfterAdvance) (er : r ≡ advance_of d n) (b : Bool) (eb : b ≡ is_open r.answer) where
    answers : {x : Bool} → b ≡ x → is_open (advance_of d n).answer ≡ x
    answers h = ap (λ (y : AfterAdvance). is_open y.answer) (sym er) ∙ sym eb ∙ h

    pub turns : b ≡ true → with_left r.desk n ((made + 1) - 1) ≡ taken text n
    turns h =
        let same : (made + 1) - 1 ≡ (made - 1) + 1 = omega arith in
        ap (λ (y : AfterAdvance). with_left y.desk n ((made + 1) - 1)) er ∙ ap (with_left (advance_of d n).desk n) same
        ∙ opened d n (made - 1) (omega arith) (answers h) ∙ so_far

    pub stops : b ≡ false → made ≡ taken text n
    stops h = sym before ∙ shut d n (made - 1) (omega arith) (answers h) ∙ so_far

  pub ends : made ≡ 65537 → 65536 ≡ taken text n
  ends h = let all : made - 1 ≡ 65536 = omega arith in sym all ∙ none_left d n (made - 1) (omega arith) ∙ so_far
