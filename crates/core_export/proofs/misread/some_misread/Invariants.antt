use Rattle.std.proofs.Common.{◌≡◌, drop}
use Rattle.std.specs.List.{list_any}
use Rattle.core_export.specs.Readable.{is_misread_output}
use Rattle.core_export.proofs.misread.some_misread.Given as goal

abbrev pub invariant-loop-output : goal.invariant-loop-output
invariant-loop-output l = list_any is_misread_output (drop l.output-index l.outputs) ≡ list_any is_misread_output l.outputs
