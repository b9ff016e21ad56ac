use mathlib.Core.Path.{refl}
use Rattle.line_faults.proofs.Turns as turns
use Rattle.line_faults.proofs.gathered.Goals as goal

pub loop-at-init : goal.loop-at-init
loop-at-init g c = λ by told. refl

pub slice_bounds-step-end : goal.slice_bounds-step-end
slice_bounds-step-end g c = search turns.end_within

pub loop-at-smaller : goal.loop-at-smaller
loop-at-smaller g c = search turns.gets_on

pub loop-at-preserved : goal.loop-at-preserved
loop-at-preserved g c =
    λ by told.
    turns.gather_on _ by _ _ _ (c.loop-at.invariant by told) c.loop-at-test.true _ c.line_end-end.ensures _ (told _ _ _ c.step-n.ensures) _ c.onward-at.ensures

pub returns : goal.returns
returns g c = λ by told. turns.gather_end _ by _ _ _ (c.loop-at.invariant by told) c.loop-at-test.false
