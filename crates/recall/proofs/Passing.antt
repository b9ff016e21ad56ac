-- What is known at the last state is carried to the next, place by place; and a state of which mapping, rows and replies pass passes.
use mathlib.Core.Path.{◌≡◌, refl, sym, subst, ap, ◌∙◌}
use mathlib.Core.Bool.{Bool, true, false, not, true≢false, or-true}
use mathlib.Core.List.{List}
use Prim.Native.Nat.{ℕ, ◌+◌}
use native.Mathlib.Omega.{arith}
use borrow.Author.Tests.{not-false}
use lib.Bits.{bit_and}
use lib.ListN.{get_or}
use Rattle.foundation.specs.First.{all_in_range}
use Rattle.foundation.specs.Reflects.{◌⇒◌}
use Rattle.foundation.proofs.All.{all_in, all_yes}
use Rattle.foundation.proofs.Reflects.{says_yes}
use Rattle.terms.proofs.Sets.{apart_of, apart_all}
use Rattle.terms.proofs.And.{and_both}
use Rattle.reads.specs.Reads.{differ}
use Rattle.reads.proofs.Alike.{differ_triangle}
use Rattle.criteria.specs.Design.{Design, Row, mapped}
use Rattle.criteria.specs.Rows.{marked_test}
use Rattle.decision.specs.Tests.{enabled_b, partner, focus_b, all_rows, holds7}
use Rattle.decision.specs.Quick.{row_holds}
use Rattle.design.specs.Loaded.{design_at}
use Rattle.design.specs.declared.Shape.{Shape}
use Rattle.steps.specs.Arrays.{mapped_in}
use Rattle.plan.proofs.Held.{row_as_is, row_is, numbered}
use Rattle.state_passes.proofs.Decided.{rows_held_lem, focus_held, sevens_held}
use Rattle.std.specs.Prelude.{Option, Some, IfSome}
use Rattle.recall.specs.Recall.{When, since, Task, Known, Replied, RowIs, MappedIs, RowsCarried, RepliesCarried, MappedCarried, Recalls, OneLoud, RowsTo, RepliesTo, MappedTo, Passed}
use Rattle.recall.proofs.States.{all_hold}

-- ---- from one state to the next

since_triangle : (last v x : List ℕ) (w : ℕ) → bit_and w (since last v) ≡ 0 → bit_and w (since v x) ≡ 0 → bit_and w (since last x) ≡ 0
unfolding since
since_triangle last v x w a b =
    let p = apart_of w 256 (differ last v) a in
    let q = apart_of w 256 (differ v x) b in
    apart_all w 256 (differ last x) p.0 (differ_triangle last v x w p.1 q.1)

module _ (f s v watch after t : List ℕ) (h : Shape) (b : Bool) where
  pub mapped_here : When b (MappedTo f s h watch v after t) → not b ≡ false → t ≡ mapped_in f s h v
  mapped_here w y = (w.so (not-false b y)).here.is

module _ (f s : List ℕ) (h : Shape) (p sets last v : List ℕ) (task : Task f s h p sets v) where
  carry : (w : ℕ) (P : List ℕ → Type 0) → Known f s h last w P → bit_and w (since last v) ≡ 0 → Known f s h v w P × P v
  carry w P k a = (λ x xa holds b. k x xa holds (since_triangle last v x w a b), k v task.state task.holds a)

  module _ (watch t : List ℕ) (m : ℕ) (em : m ≡ since last v) (known : Recalls f s h watch t last) where
    changed_is : (w : ℕ) → bit_and w m ≡ 0 → bit_and w (since last v) ≡ 0
    changed_is w a = rw (← em) a

    pub carried_mapping : MappedCarried f s h m watch t v
    carried_mapping = record { mapping = λ a. carry (get_or watch 64 0) (MappedIs f s h t) known.mapping (changed_is (get_or watch 64 0) a) }

    module _ (one t₁ : List ℕ) (b : Bool) (mapping : When b (MappedTo f s h watch v one t₁)) (y : not b ≡ false) where
      to_mapping : MappedTo f s h watch v one t₁
      to_mapping = mapping.so (not-false b y)

      same_one : (j : ℕ) → (j ≡ 64 → ⊥) → get_or one j 0 ≡ get_or watch j 0
      same_one j n = to_mapping.others j n

      pub carried_rows : RowsCarried f s h m one v
      carried_rows = record {
        row = λ i l a.
            let few = task.fits.implementation.rows in
            let e = same_one i (λ z. omega arith) in
            let g = same_one (65 + i) (λ z. omega arith) in
            let k = carry (get_or watch i 0) (RowIs f s h i (get_or watch (65 + i) 0)) (known.rows i l) (changed_is (get_or watch i 0) (ap (λ z. bit_and z m) (sym e) ∙ a)) in
            subst (λ w. Known f s h v w (RowIs f s h i (get_or one (65 + i) 0)) × RowIs f s h i (get_or one (65 + i) 0) v) (sym e)
            (subst (λ z. Known f s h v (get_or watch i 0) (RowIs f s h i z) × RowIs f s h i z v) (sym g) k);
      }

      module _ (two : List ℕ) (r₂ : Option Bool) (quiet : Bool) (rows : IfSome r₂ (λ q. RowsTo f s h one v two h.implementation.rows.count q)) (y₂ : r₂ ≡ Some quiet) where
        to_rows : RowsTo f s h one v two h.implementation.rows.count quiet
        to_rows = rw y₂ at rows

        pub carried_replies : RepliesCarried f s h m two v
        carried_replies = record {
          row = λ i l a.
              let few = task.fits.specification.rows in
              let e = to_rows.others (32 + i) (omega arith) (omega arith) ∙ same_one (32 + i) (λ z. omega arith) in
              let k = carry (get_or watch (32 + i) 0) (Replied f s h i) (known.replies i l) (changed_is (get_or watch (32 + i) 0) (ap (λ z. bit_and z m) (sym e) ∙ a)) in
              subst (λ w. Known f s h v w (Replied f s h i) × Replied f s h i v) (sym e) k;
        }

        module _ (three : List ℕ) (replies : RepliesTo f s h two v three h.specification.rows.count quiet) where
          abbrev d : Design
          d = design_at f s h

          abbrev row_count : ℕ
          row_count = h.implementation.rows.count

          abbrev impl_row : ℕ → Row
          impl_row i = row_as_is f s h.implementation i

          abbrev spec_row : ℕ → Row
          spec_row i = row_as_is f s h.specification i

          rows_all : all_rows d.impl.rows (row_holds d v) ≡ true
          rows_all =
              sym (rows_held_lem f s h task.fits v)
              ∙ all_in _ (λ _. true) row_count 0
              (λ i z u. ap (λ (r : Row). all_in_range (λ e. row_holds d v (i + 1) r e) r.span 0) (sym (row_is f s h.implementation i (omega arith))) ∙ (to_rows.done i (omega arith)).1.keeps)
              ∙ all_yes (λ _. true) (λ _. refl) row_count 0

          -- one that has a marked step is enough
          loud : OneLoud f s h v row_count → focus_b d v ≡ false
          loud o = sym (focus_held f s h task.fits v) ∙ go (all_in_range quiets row_count 0) refl
            where
              quiets : ℕ → Bool
              quiets i = all_in_range (λ e. not (marked_test d v (i + 1) (impl_row i) e)) (impl_row i).span 0

              here : quiets o.row ≡ false
              here = ap (λ (r : Row). all_in_range (λ e. not (marked_test d v (o.row + 1) r e)) r.span 0) (sym (row_is f s h.implementation o.row o.before)) ∙ o.is

              go : (z : Bool) → all_in_range quiets row_count 0 ≡ z → z ≡ false
              go true e = absurd (true≢false (sym (says_yes (all_hold quiets row_count 0) e o.row (omega arith) (let u = o.before in omega arith)) ∙ here))
              go false e = refl

          abbrev asks : Row → ℕ → Bool
          asks q e = enabled_b q (mapped d v) e ⇒ enabled_b (partner d.impl q.action) v e

          replied : quiet ≡ true → all_rows d.spec.rows (λ _. asks) ≡ true
          replied q =
              sym (numbered f s h.specification (λ _ (r : Row). all_in_range (asks r) r.span 0))
              ∙ all_in _ (λ _. true) h.specification.rows.count 0
              (λ i z u. ap (λ (r : Row). all_in_range (asks r) r.span 0) (sym (row_is f s h.specification i (omega arith))) ∙ (replies.done i (omega arith)).1 q)
              ∙ all_yes (λ _. true) (λ _. refl) h.specification.rows.count 0

          replies_all : all_rows d.spec.rows (λ _. holds7 d v) ≡ true
          replies_all = sym (sevens_held f s h task.fits v) ∙ go quiet refl
            where
              go : (z : Bool) → quiet ≡ z → (focus_b d v ⇒ all_rows d.spec.rows (λ _. asks)) ≡ true
              go true e = rw (replied e, or-true (not (focus_b d v)))
              go false e = rw (loud (to_rows.loud e))

          passed : Passed f s h v three t₁
          passed = record {
            long = replies.long;
            holds = and_both to_mapping.here.in_size (and_both rows_all replies_all);
            recalls = record {
              rows = λ i l.
                  let few = task.fits.implementation.rows in
                  let k = (to_rows.done i l).0 in
                  subst (λ w. Known f s h v w (RowIs f s h i (get_or three (65 + i) 0))) (sym (replies.rows i (omega arith)))
                  (subst (λ z. Known f s h v (get_or two i 0) (RowIs f s h i z)) (sym (replies.others (65 + i) (omega arith))) k);
              replies = λ i l. (replies.done i l).0;
              mapping = subst (λ w. Known f s h v w (MappedIs f s h t₁)) (sym (replies.others 64 (omega arith) ∙ to_rows.others 64 (omega arith) (omega arith))) to_mapping.on;
            };
          }

        pub state_passed : (three : List ℕ) (r : Bool) → When r (RepliesTo f s h two v three h.specification.rows.count quiet) → When r (Passed f s h v three t₁)
        state_passed three r replies = record { so = λ z. passed three (replies.so z) }
