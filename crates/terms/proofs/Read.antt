-- The laws of reading that every proof about code uses: a term is read by its mark, and where the next one stands. Laws between
-- reading and printing are in Printing.
use Rattle.std.proofs.Common.{◌≡◌, ℕ, zero, suc, ◌+◌, ◌-◌, ◌<◌, List, length, get_or, drop, sym, refl, ap, ◌∙◌, add-one, sub-one, drop-cons, drop-drop}
use Rattle.terms.specs.Mark.{value_mark, formula_mark}
use Rattle.terms.specs.Read.{read_v, read_f, value_by, formula_by}

-- where some depth is left and the fields go on, what stands at a place is read by the mark there, one deeper
pub step_v : (s : List ℕ) (at d : ℕ) → (d ≡ 0 → ⊥) → at < length s
    → read_v d (drop at s) ≡ value_by (value_mark (get_or s at 0)) (λ l. read_v (d - 1) l) (λ l. read_f (d - 1) l) (drop (at + 1) s)
unfolding read_v
step_v s at zero deep h = absurd (deep refl)
step_v s at (suc d) deep h = rw (drop-cons s at 0 h, add-one at, sub-one)

pub step_f : (s : List ℕ) (at d : ℕ) → (d ≡ 0 → ⊥) → at < length s
    → read_f d (drop at s) ≡ formula_by (formula_mark (get_or s at 0)) (λ l. read_v (d - 1) l) (λ l. read_f (d - 1) l) (drop (at + 1) s)
unfolding read_f
step_f s at zero deep h = absurd (deep refl)
step_f s at (suc d) deep h = rw (drop-cons s at 0 h, add-one at, sub-one)

-- what is left after u more fields is what stands u places further
pub place : (s : List ℕ) (n u : ℕ) {x : ℕ} → x ≡ n + u → drop u (drop n s) ≡ drop x s
place s n u e = drop-drop u n s ∙ ap (λ (k : ℕ). drop k s) (sym e)
