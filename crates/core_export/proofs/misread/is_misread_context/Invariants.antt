use Rattle.std.proofs.Common.{◌≡◌, drop}
use Rattle.std.specs.List.{list_any}
use Rattle.core_export.specs.Readable.{is_misread_pattern}
use Rattle.core_export.proofs.misread.is_misread_context.Given as goal

abbrev pub invariant-loop-item : goal.invariant-loop-item
invariant-loop-item l = list_any is_misread_pattern (drop l.item-index l.context) ≡ list_any is_misread_pattern l.context
