use borrow.Author.Rules.{rules}
use mathlib.Core.Path.{refl}
use native.Mathlib.Omega.{arith}
use Rattle.walk.proofs.Turning as laws
use Rattle.walk.proofs.walk_by_turns.Goals as goal

pub pays-keep-requires : goal.pays-keep-requires
pays-keep-requires c = search laws.pays_asks

pub overflow_add-end : goal.overflow_add-end
overflow_add-end c = omega (arith, laws.end_fits _ _ _ _ _ _ c.requires.planned c.requires.n_bound)

pub loop-at-init : goal.loop-at-init
loop-at-init c =
    (laws.end_fits _ _ _ _ _ _ c.requires.planned c.requires.n_bound, (refl, (search laws.walks_begin, search laws.knows_nothing)))

pub overflow_cast-at : goal.overflow_cast-at
overflow_cast-at c = omega arith

pub take_turn-step-requires-clause-ready : goal.take_turn-step-requires-clause-ready
take_turn-step-requires-clause-ready c =
    laws.made_ready _ _ _ _ _ c.requires.fits c.requires.planned c.sets-sets.ensures

pub take_turn-step-requires-clause-number_bound : goal.take_turn-step-requires-clause-number_bound
take_turn-step-requires-clause-number_bound c = omega (arith, c.requires.n_bound)

pub take_turn-step-requires-clause-knows : goal.take_turn-step-requires-clause-knows
take_turn-step-requires-clause-knows c = c.loop-at.invariant.1.1.1

pub returns-in-Fail : goal.returns-in-Fail
returns-in-Fail c =
    laws.walks_fail _ _ _ _ _ _ c.loop-at.at c.take_turn-step.result c.loop-at.invariant.1.1.0 c.take_turn-step.ensures.turn_is (omega arith) _ c.in-Fail.is

pub overflow_add-wait : goal.overflow_add-wait
overflow_add-wait c = omega arith

pub loop-at-smaller : goal.loop-at-smaller
loop-at-smaller c = omega (arith, laws.turn_onward _ _ _ _ _ _ c.take_turn-step.ensures.turn_is)

pub loop-at-preserved : goal.loop-at-preserved
loop-at-preserved c =
    (c.loop-at.invariant.0, (c.loop-at.invariant.1.0, (laws.walks_on _ _ _ _ _ _ c.loop-at.at c.take_turn-step.result c.loop-at.invariant.1.1.0 c.take_turn-step.ensures.turn_is (search rules), c.take_turn-step.ensures.knows_2)))

pub returns : goal.returns
returns c = search laws.walks_end
