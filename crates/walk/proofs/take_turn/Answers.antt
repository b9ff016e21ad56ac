-- Outside the invariant, by what is known, or examined.
use borrow.Author.Rules.{rules}
use Rattle.walk.proofs.Turning as laws
use Rattle.walk.proofs.take_turn.Goals as goal

pub returns-then-not-seek-clause-turn_is : goal.returns-then-not-seek-clause-turn_is
returns-then-not-seek-clause-turn_is c = search laws.turn_alone

pub past-past-requires-clause-fits : goal.past-past-requires-clause-fits
past-past-requires-clause-fits c = search laws.ready_fits

pub past-past-requires-clause-shape_bound : goal.past-past-requires-clause-shape_bound
past-past-requires-clause-shape_bound c = search laws.ready_few

pub past-past-requires-clause-v_value : goal.past-past-requires-clause-v_value
past-past-requires-clause-v_value c = search laws.turn_state

pub past-past-requires-clause-v_value_2 : goal.past-past-requires-clause-v_value_2
past-past-requires-clause-v_value_2 c = search laws.turn_fails

pub returns-then-not-inside-clause-turn_is : goal.returns-then-not-inside-clause-turn_is
returns-then-not-inside-clause-turn_is c = search laws.turn_outside

pub examine_inside-requires : goal.examine_inside-requires
examine_inside-requires c = search laws.ready_fits

pub returns-then-not-keep-clause-turn_is : goal.returns-then-not-keep-clause-turn_is
returns-then-not-keep-clause-turn_is c =
    laws.turn_examined _ _ _ _ _ _ _ _ c.examine_inside.ensures c.requires.ready (search rules) (search laws.turn_holds)

pub passes-requires-clause-task : goal.passes-requires-clause-task
passes-requires-clause-task c =
    laws.turn_task _ _ _ _ _ _ c.args.number c.requires.ready (search rules) (search laws.turn_holds) (search rules)

pub passes-requires-clause-recalls : goal.passes-requires-clause-recalls
passes-requires-clause-recalls c = search laws.knows_recalls

pub returns-then-passes-clause-turn_is : goal.returns-then-passes-clause-turn_is
returns-then-passes-clause-turn_is c =
    laws.turn_passes _ _ _ _ _ _ _ c.requires.ready (search rules) (search laws.turn_holds) _ _ _ c.passes.ensures (search rules)

pub returns-then-passes-clause-knows_2 : goal.returns-then-passes-clause-knows_2
returns-then-passes-clause-knows_2 c = laws.knows_passed _ _ _ _ _ _ _ c.passes.ensures (search rules)

pub examine_inside-requires-2 : goal.examine_inside-requires-2
examine_inside-requires-2 c = search laws.ready_fits

pub returns-clause-turn_is : goal.returns-clause-turn_is
returns-clause-turn_is c =
    laws.turn_examined _ _ _ _ _ _ _ _ c.examine_inside-2.ensures c.requires.ready (search rules) (laws.turn_holds _ _ _ _ _ c.invariant-inside.ensures (search rules))

pub returns-clause-knows_2 : goal.returns-clause-knows_2
returns-clause-knows_2 c = search laws.ready_forgets
