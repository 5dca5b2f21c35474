use Rattle.std.proofs.Common.{◌≡◌, drop}
use Rattle.std.specs.List.{list_any}
use Rattle.core_export.specs.Readable.{is_misread_group}
use Rattle.core_export.proofs.misread.some_group_misread.Given as goal

abbrev pub invariant-loop-group : goal.invariant-loop-group
invariant-loop-group l = list_any is_misread_group (drop l.group-index l.groups) ≡ list_any is_misread_group l.groups
