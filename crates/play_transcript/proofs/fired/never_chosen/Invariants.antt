use Rattle.std.proofs.Common.{◌≡◌, ◌++◌, drop}
use Rattle.play_transcript.specs.TraceText.{never_chosen}
use Rattle.play_transcript.proofs.fired.never_chosen.Given as goal

abbrev pub invariant-loop-hit : goal.invariant-loop-hit
invariant-loop-hit l = l.lines.items ++ never_chosen (drop l.hit-index l.hits) ≡ never_chosen l.hits
