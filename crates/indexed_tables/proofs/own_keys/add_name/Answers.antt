use Rattle.std.proofs.Common.{◌++◌, [], ◌∷◌, ◌∙◌, arith}
use Rattle.std.proofs.lemmas.Grind.{common_steps}
use Rattle.indexed_tables.proofs.FoldedNames.{new_name, known_name}
use Rattle.indexed_tables.proofs.own_keys.add_name.Goals as goal

pub returns-in_ok-push-clause-names : goal.returns-in_ok-push-clause-names
returns-in_ok-push-clause-names c =
    c.in_ok-push.ensures.items ∙ (λ j. c.args.names.now.written.items ++ c.in_ok-from_slice.ensures j ∷ [])
    ∙ new_name c.args.names.now.folded.keys c.args.names.now.written.items c.in_ok-folded.folded c.args.word.now c.in_ok-insert.field-0 c.requires c.in_ok-folded.ensures.ok c.in_ok-insert.ensures.added c.if-branch.true

pub returns-else-branch-clause-names : goal.returns-else-branch-clause-names
returns-else-branch-clause-names c =
    known_name c.args.names.now.folded.keys c.args.names.now.written.items c.in_ok-folded.folded c.args.word.now c.in_ok-insert.field-0 c.requires c.in_ok-folded.ensures.ok c.in_ok-insert.ensures.added c.if-branch.false

pub returns-in_ok-push-clause-folded : goal.returns-in_ok-push-clause-folded
returns-in_ok-push-clause-folded c = grind (arith, common_steps)

pub returns-else-branch-clause-folded : goal.returns-else-branch-clause-folded
returns-else-branch-clause-folded c = grind (arith, common_steps)
