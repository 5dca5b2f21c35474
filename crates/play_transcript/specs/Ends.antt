-- How a play ends.
use Rattle.std.specs.Prelude.{ℕ, zero, suc, List, Option, Some, None}
use Rattle.kmn_base.specs.declared.codes.Code.{Code}
use Rattle.rule_model.specs.Trace.{Trace}
use Rattle.rule_model.specs.declared.script.Entry.{Entry}
use Rattle.play_transcript.specs.Failures.{failures}
use Rattle.play_transcript.specs.declared.playing.PlayEnd.{PlayEnd}
use Rattle.play_transcript.specs.declared.playing.PlayEnd.TheVariants as ended

-- a play ends with a refusal if an event was refused, else with failed expectations if expected texts differed, else well
abbrev pub end_after : Option (ℕ × Code) → ℕ → PlayEnd
end_after (Some refused) failed = ended.Refused
end_after None zero = ended.Done
end_after None (suc failed) = ended.ExpectFailed

-- how the play of a script ends whose events have this trace
abbrev pub play_end : Trace → List Entry → PlayEnd
play_end traced entries = end_after traced.refused (failures traced entries)
