use Rattle.std.proofs.Common.{◌≡◌}
use Rattle.std.specs.List.{list_any}
use Rattle.kmx_verifier.specs.Options.{used_in_group}
use Rattle.kmx_verifier.proofs.options.groups_use.Given as goal

abbrev pub invariant-loop-group : goal.invariant-loop-group
invariant-loop-group l = list_any (λ group. used_in_group l.store group) l.group-iterator ≡ list_any (λ group. used_in_group l.store group) l.file.groups
