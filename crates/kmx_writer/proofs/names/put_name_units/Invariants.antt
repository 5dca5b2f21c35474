use Rattle.std.proofs.Common.{◌≡◌, ◌++◌}
use Rattle.std.specs.Str.{IsUtf8}
use Rattle.std.specs.Str.Iter.{chars_rest}
use Rattle.kmn_base.specs.Spelling.{unit_bytes}
use Rattle.kmx_writer.proofs.TextSteps.{text_units}
use Rattle.kmx_writer.proofs.names.put_name_units.Given as goal

abbrev pub invariant-loop-c : goal.invariant-loop-c
invariant-loop-c l =
    IsUtf8 (chars_rest l.c-iterator) × (l.out ++ unit_bytes (text_units (chars_rest l.c-iterator)) ≡ l.fn.out ++ unit_bytes (text_units l.fn.name))
