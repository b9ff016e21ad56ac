use Rattle.line_check.proofs.Laws as laws
use Rattle.line_check.proofs.each_fits.Goals as goal

pub returns-in_default : goal.returns-in_default
returns-in_default g c =
    λ next told. laws.each_stop next _ _ _ _ (c.loop-i.invariant next told) c.loop-i-test.true (told _ _ c.in_default.ensures)

pub loop-i-preserved : goal.loop-i-preserved
loop-i-preserved g c =
    λ next told.
    laws.each_turn next _ _ _ _ (c.loop-i.invariant next told) c.loop-i-test.true _ (told _ _ c.in-Some.ensures) _ c.rest-left.ensures

pub returns : goal.returns
returns g c = λ next told. laws.each_end next _ _ _ _ (c.loop-i.invariant next told) c.loop-i-test.false _ c.ended.ensures
