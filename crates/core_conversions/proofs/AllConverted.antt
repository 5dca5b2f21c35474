-- Tables take the same steps after the three conversions, and each conversion keeps what presses do.
use Rattle.std.proofs.Common.{◌∙◌}
use Rattle.core_conversions.specs.Conversions.{nul_first, plain_sides}
use Rattle.core_conversions.specs.Laws.{ConvertedKeepsTraces, ConversionsKeepPresses}
use Rattle.core_conversions.proofs.NulFirst.{nul_first_keeps_presses, nul_first_keeps_traces}
use Rattle.core_conversions.proofs.PlainSides.{plain_sides_keep_presses, plain_sides_keep_traces}
use Rattle.core_conversions.proofs.EmptyAsNomatch.{empty_as_nomatch_keeps_presses, empty_as_nomatch_keeps_traces}

pub converted_keeps_traces : ConvertedKeepsTraces
converted_keeps_traces tables events =
    empty_as_nomatch_keeps_traces (plain_sides (nul_first tables)) events
    ∙ plain_sides_keep_traces (nul_first tables) events
    ∙ nul_first_keeps_traces tables events

pub conversions_keep_presses : ConversionsKeepPresses
conversions_keep_presses = record { nul = nul_first_keeps_presses; sides = plain_sides_keep_presses; empty = empty_as_nomatch_keeps_presses }
