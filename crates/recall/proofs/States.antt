-- What an array that holds a state has: eight values, each below its size, and 0 past the last parameter; and of a row of the design how many
-- next values it has. So the law of keeping (watched/proofs/Kept) is one of such arrays.
use mathlib.Core.Path.{◌≡◌, refl, sym, ap, ◌∙◌}
use mathlib.Core.Bool.{Bool, true, false, not}
use mathlib.Core.List.{List, [], ◌∷◌}
use Prim.Native.Nat.{ℕ, zero, suc, ◌+◌, ◌≤◌, ◌<◌}
use native.Mathlib.Omega.{arith}
use lib.Bits.{bit_and}
use lib.ListN.{length, get_or, length-map, length-replicate, replicate, get_or-eq_default}
use lib.Seq.{length-sets}
use Rattle.foundation.specs.First.{all_in_range}
use Rattle.foundation.specs.Radix.{Below, values_of}
use Rattle.foundation.specs.Reflects.{Reflects}
use Rattle.foundation.proofs.All.{all_in, all_yes}
use Rattle.foundation.proofs.First.{all_alike, by_all}
use Rattle.foundation.proofs.Reflects.{says_yes, by_value}
use Rattle.foundation.proofs.Radix.{values_below}
use Rattle.terms.proofs.Sets.{Apart, apart_of}
use Rattle.reads.specs.Reads.{differ}
use Rattle.reads.proofs.Alike.{differ_sym}
use Rattle.criteria.specs.Design.{Design, Row, State, sizes, mapped}
use Rattle.criteria.specs.Rows.{row_at}
use Rattle.decision.specs.Tests.{enabled_b, invariant_b}
use Rattle.design.specs.Loaded.{design_at}
use Rattle.design.specs.declared.Shape.{Shape}
use Rattle.layout.specs.Sizes.{Fits}
use Rattle.steps.specs.Arrays.{padded}
use Rattle.steps.proofs.Arrays.{row_there}
use Rattle.steps.proofs.States as steps
use Rattle.divisors.specs.Divisors.{safe_at}
use Rattle.plan.specs.Plan.{kinds_risk, sure_in}
use Rattle.plan.proofs.Risks.{sure_kinds}
use Rattle.plan.proofs.Safe.{safe_nothing, kinds_have}
use Rattle.watched.specs.Watched.{all_of, map_reads, enabling, watched, reply_watched}
use Rattle.watched.proofs.Kept.{HasEverywhere}
use Rattle.watched.proofs.Kept as kept
use Rattle.recall.specs.Recall.{unknown, since, StateArray, Keeps, Loud, Replied}

below_at : (zs vs : List ℕ) (i : ℕ) → Below zs vs → i < length vs → get_or vs i 0 < get_or zs i 0
below_at [] [] i b l = absurd (omega arith)
below_at [] (v ∷ vs) i b l = absurd b
below_at (z ∷ zs) [] i b l = absurd b
below_at (z ∷ zs) (v ∷ vs) zero b l = b.0
below_at (z ∷ zs) (v ∷ vs) (suc i) b l = below_at zs vs i b.1 (omega arith)

pub has_everywhere : (f s : List ℕ) (h : Shape) → sure_in f s h ≡ true → HasEverywhere (design_at f s h)
has_everywhere f s h sure = record {
  invariant = λ x. (kinds_have f s h x (safe x)).0;
  mapping = λ x. (kinds_have f s h x (safe x)).1.0;
  measure = λ x. (kinds_have f s h x (safe x)).1.1;
}
  where
    safe : (x : State) → safe_at (kinds_risk f s h) x ≡ true
    safe x = safe_nothing (kinds_risk f s h) x (sure_kinds f s h sure)

pub all_hold : (t : ℕ → Bool) (n i : ℕ) → Reflects ((j : ℕ) → i ≤ j → j < i + n → t j ≡ true) (all_in_range t n i)
all_hold t n i = by_all (λ j. t j ≡ true) t (λ j. by_value (t j)) n i

module _ (f s : List ℕ) (h : Shape) (fits : Fits h) where
  abbrev d : Design
  d = design_at f s h

  abbrev n : ℕ
  n = h.implementation.parameters.count

  pub few_mapped : length d.mapping ≤ 8
  few_mapped = let e = sym (length-map d.mapping _) ∙ steps.mapped_length f s h [] in rw e fits.specification.parameters

  -- ---- an array

  module _ (v : List ℕ) (a : StateArray f s h v) where
    abbrev y : State
    y = values_of (sizes d.impl) a.number

    y_length : length y ≡ n
    y_length = steps.state_length f s h.implementation a.number

    y_short : length y ≤ 8
    y_short = rw y_length fits.implementation.parameters

    holds_y : v ≡ padded y
    holds_y = a.is ∙ steps.state_held f s h.implementation fits.implementation a.number a.below

    at : (i : ℕ) → get_or v i 0 ≡ get_or y i 0
    at i = ap (λ l. get_or l i 0) holds_y ∙ steps.same_values y y_short i

    pub eight : length v ≤ 8
    unfolding padded
    eight = let e : length v ≡ 8 = ap length holds_y ∙ length-sets (replicate 8 0) 0 y ∙ length-replicate {A = ℕ} 8 0 in omega arith

    pub ends : (i : ℕ) → n ≤ i → get_or v i 0 ≡ 0
    ends i l = let e = y_length in at i ∙ get_or-eq_default y 0 {n = i} (omega arith)

    pub inside : (i : ℕ) → i < n → get_or v i 0 < get_or (sizes d.impl) i 0
    inside i l = let e = y_length in rw (at i) (below_at (sizes d.impl) y i (values_below (sizes d.impl) a.number a.below) (omega arith))

  -- ---- a row of the implementation

  module _ (i : ℕ) (l : i < h.implementation.rows.count) where
    abbrev row : Row
    row = row_at d.impl.rows (i + 1)

    long : length row.next ≡ n
    long = ap (λ (r : Row). length r.next) (row_there f s h.implementation (i + 1) (omega arith) (omega arith)) ∙ steps.in_length n _

    few_next : length row.next ≤ 8
    few_next = rw long fits.implementation.parameters

  -- ---- the law of keeping, for arrays: x differs from v in nothing that is in a set

  module _ (v x : List ℕ) (va : StateArray f s h v) (xa : StateArray f s h x) where
    -- in the order of that law, which asks how x differs from v
    since_apart : (w : ℕ) → bit_and w (since v x) ≡ 0 → Apart w (differ x v)
    unfolding since
    since_apart w a = ap (λ m. bit_and w m) (differ_sym x v) ∙ (apart_of w unknown (differ v x) a).1

    module _ (i : ℕ) (l : i < h.implementation.rows.count) where
      pub idle_row : bit_and (enabling d (i + 1)) (since v x) ≡ 0 → ((e : ℕ) → enabled_b (row i l) v e ≡ false) → Keeps f s h i x
      idle_row a off =
          all_in _ (λ _. true) (row i l).span 0
          (λ e p u. kept.idle_kept d x v (eight x xa) (eight v va) few_mapped (i + 1) (since_apart (enabling d (i + 1)) a) e (off e))
          ∙ all_yes (λ _. true) (λ _. refl) (row i l).span 0

      module _ (sure : sure_in f s h ≡ true) (holds : invariant_b d x ≡ true) (a : bit_and (watched d (i + 1)) (since v x) ≡ 0) where
        watch_apart : Apart (watched d (i + 1)) (differ x v)
        watch_apart = since_apart (watched d (i + 1)) a

        pub keeps_row : Keeps f s h i v → Keeps f s h i x
        keeps_row k =
            all_in _ (λ _. true) (row i l).span 0
            (λ e p u. kept.row_kept d x v (eight x xa) (eight v va) few_mapped (i + 1) watch_apart (has_everywhere f s h sure) (few_next i l) (ends_next i l)
            (λ j m. inside x xa j (let z = long i l in omega arith)) holds e (says_yes (all_hold _ (row i l).span 0) k e p u))
            ∙ all_yes (λ _. true) (λ _. refl) (row i l).span 0
          where
            ends_next : (i : ℕ) (l : i < h.implementation.rows.count) (j : ℕ) → length (row i l).next ≤ j → get_or x j 0 ≡ 0
            ends_next i l j m = let z = long i l in ends x xa j (omega arith)

        pub loud_row : Loud f s h i v → Loud f s h i x
        loud_row k =
            all_alike _ _ (row i l).span 0 (λ e. ap not (kept.loud_kept d x v (eight x xa) (eight v va) few_mapped (i + 1) watch_apart e)) ∙ k

    pub mapped_same : bit_and (all_of (map_reads d)) (since v x) ≡ 0 → mapped d x ≡ mapped d v
    mapped_same a = kept.mapped_kept d x v (eight x xa) (eight v va) few_mapped (since_apart (all_of (map_reads d)) a)

    pub replied_row : (i : ℕ) → bit_and (reply_watched d (i + 1)) (since v x) ≡ 0 → Replied f s h i v → Replied f s h i x
    replied_row i a k =
        all_alike _ _ (row_at d.spec.rows (i + 1)).span 0
        (λ e. kept.reply_kept d x v (eight x xa) (eight v va) few_mapped (i + 1) (since_apart (reply_watched d (i + 1)) a) e) ∙ k
