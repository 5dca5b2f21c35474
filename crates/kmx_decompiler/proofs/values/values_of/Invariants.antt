use Rattle.std.proofs.Common.{◌≡◌, []}
use Rattle.std.specs.Prelude.{flat_map}
use Rattle.decompile_program.specs.WrittenOut.{group_values}
use Rattle.kmx_decompiler.specs.Values.{with_values}
use Rattle.kmx_decompiler.proofs.values.values_of.Given as goal

abbrev pub invariant-loop-group : goal.invariant-loop-group
invariant-loop-group l = with_values l.names l.values (flat_map group_values l.group-iterator) ≡ with_values l.names [] (flat_map group_values l.file.groups)
