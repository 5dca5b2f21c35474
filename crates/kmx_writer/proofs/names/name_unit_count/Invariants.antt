use Rattle.std.proofs.Common.{◌≡◌, ◌+◌, length}
use Rattle.std.specs.List.{flat_map}
use Rattle.std.specs.Str.{IsUtf8, chars}
use Rattle.std.specs.Str.Iter.{chars_rest}
use Rattle.kmn_base.specs.Spelling.{char_units}
use Rattle.kmx_writer.proofs.names.name_unit_count.Given as goal

abbrev pub invariant-loop-c : goal.invariant-loop-c
invariant-loop-c l =
    IsUtf8 (chars_rest l.c-iterator) × (l.count + length (flat_map char_units (chars (chars_rest l.c-iterator))) ≡ length (flat_map char_units (chars l.fn.name)))
