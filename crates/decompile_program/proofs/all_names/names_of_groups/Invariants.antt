use Rattle.std.proofs.Common.{◌≡◌, ◌++◌, map}
use Rattle.rule_model.specs.declared.tables.Group.{Group}
use Rattle.decompile_program.proofs.all_names.names_of_groups.Given as goal

abbrev pub invariant-loop-group : goal.invariant-loop-group
invariant-loop-group l = l.names ++ map (λ (group : Group). group.name) l.group-iterator ≡ map (λ (group : Group). group.name) l.file.groups
