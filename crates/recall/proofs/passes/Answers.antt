-- Mapping, rows, replies.
use borrow.Author.Rules.{rules}
use Rattle.recall.proofs.Passing as laws
use Rattle.recall.proofs.Turns as turns
use Rattle.recall.proofs.passes.Goals as goal

pub mapping_passes-requires-clause-mapped_carried : goal.mapping_passes-requires-clause-mapped_carried
mapping_passes-requires-clause-mapped_carried c = search laws.carried_mapping

pub returns-then-not-mapping_passes : goal.returns-then-not-mapping_passes
returns-then-not-mapping_passes c = search turns.when_not

pub rows_pass-requires-clause-t_value : goal.rows_pass-requires-clause-t_value
rows_pass-requires-clause-t_value c = laws.mapped_here _ _ _ _ _ _ _ _ c.mapping_passes.ensures (search rules)

pub rows_pass-requires-clause-rows_carried : goal.rows_pass-requires-clause-rows_carried
rows_pass-requires-clause-rows_carried c =
    laws.carried_rows _ _ _ _ _ _ _ c.requires.task _ _ _ c.since-changed.ensures c.requires.recalls _ _ _ c.mapping_passes.ensures (search rules)

pub returns-in_default : goal.returns-in_default
returns-in_default c = search turns.when_not

pub replies_pass-requires-clause-t_value : goal.replies_pass-requires-clause-t_value
replies_pass-requires-clause-t_value c = laws.mapped_here _ _ _ _ _ _ _ _ c.mapping_passes.ensures (search rules)

pub replies_pass-requires-clause-replies_carried : goal.replies_pass-requires-clause-replies_carried
replies_pass-requires-clause-replies_carried c =
    laws.carried_replies _ _ _ _ _ _ _ c.requires.task _ _ _ c.since-changed.ensures c.requires.recalls _ _ _ c.mapping_passes.ensures (search rules) _ _ _ c.rows_pass.ensures c.in-Some.is

pub returns : goal.returns
returns c =
    laws.state_passed _ _ _ _ _ _ _ c.requires.task _ _ _ c.since-changed.ensures c.requires.recalls _ _ _ c.mapping_passes.ensures (search rules) _ _ _ c.rows_pass.ensures c.in-Some.is _ _ c.replies_pass.ensures
