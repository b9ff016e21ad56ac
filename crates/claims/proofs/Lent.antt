-- Each call on lent memory is one of the desk that stands there.
use mathlib.Core.Path.{◌≡◌, sym, ◌∙◌, ap}
use Rattle.answers.specs.Answers.{done_number}
use Rattle.desk.specs.declared.Desk.{Desk}
use Rattle.desk.specs.declared.AfterLoad.{AfterLoad}
use Rattle.desk.specs.declared.AfterAdvance.{AfterAdvance}
use Rattle.desk.specs.declared.AfterVerdict.{AfterVerdict}
use Rattle.desk.specs.declared.AfterDrop.{AfterDrop}
use Rattle.desk.specs.Desk.{load_of, advance_of, tell_of, drop_of}
use Rattle.desk_numbers.specs.Numbers.{advance_result, advance_told, numbers_told}
use Rattle.lent_desk.specs.Lent.{Keeps}
use Rattle.lent_desk.proofs.Laws.{found_again}
use Rattle.claims.specs.Lent.{Memory, desk_of, Lent}
use Rattle.claims.proofs.Lists.{loaded_as, answered_all}

-- memory that keeps a desk is that desk
stands : (d : Desk) (m : Memory) → Keeps d m.fields.now m.starts.now m.counts.now m.plan.now m.next.now m.phase.now → desk_of m ≡ d
stands d m h = found_again d m.fields.now m.starts.now m.counts.now m.plan.now m.next.now m.phase.now h

pub lent : Lent
unfolding tell_of
lent = record {
  new = λ m m' p. stands _ m' p.1;
  load = λ m m' text r p.
      let a = answered_all.load (desk_of m) text.now in
      let e : load_of (desk_of m) text.now ≡ a.0 = sym (loaded_as a.1) in
      (a.0, a.1, p.1.0 ∙ ap (λ (x : AfterLoad). done_number x.answer) e, stands _ m' p.1.1 ∙ ap (λ (x : AfterLoad). x.desk) e);
  advance = λ m m' n r before number p.
      let a = answered_all.advance (desk_of m) n in
      let e : advance_of (desk_of m) n ≡ a.0 = sym a.1.0 in (
        a.0,
        a.1,
        p.1.0 ∙ ap (λ (x : AfterAdvance). advance_result x.answer) e,
        p.1.1.0 ∙ ap (λ (x : AfterAdvance). advance_told x.answer) e,
        stands _ m' p.1.1.1 ∙ ap (λ (x : AfterAdvance). x.desk) e,
      );
  verdict = λ m before numbers p.
      let a = answered_all.verdict (desk_of m) in
      (a.0, a.1, p.1 ∙ ap numbers_told (sym a.1.1), ap (λ (x : AfterVerdict). x.desk) a.1.0);
  new_asks = λ κs m. tt;
  load_asks = λ κs m text. tt;
  advance_asks = λ κs m n number. tt;
  verdict_asks = λ κs m numbers. tt;
  drop_asks = λ κs m. tt;
  drop = λ m m' r p.
      let a = answered_all.drop (desk_of m) in
      let e : drop_of (desk_of m) ≡ a.0 = sym a.1.0 in
      (a.0, a.1, p.1.0 ∙ ap (λ (x : AfterDrop). done_number x.answer) e, stands _ m' p.1.1 ∙ ap (λ (x : AfterDrop). x.desk) e);
}
