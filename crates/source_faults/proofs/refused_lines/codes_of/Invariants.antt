use Rattle.std.proofs.Common.{take}
use Rattle.source_faults.specs.RefusedLines.{HasCodes}
use Rattle.source_faults.proofs.refused_lines.codes_of.Given as goal

abbrev pub invariant-loop-refusal : goal.invariant-loop-refusal
invariant-loop-refusal l = HasCodes (take l.refusal-index l.refusals) l.codes.entries
