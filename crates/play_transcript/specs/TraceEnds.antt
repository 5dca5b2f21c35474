-- How a traced script ends.
use Rattle.std.specs.Prelude.{ℕ, Option, Some, None}
use Rattle.kmn_base.specs.declared.codes.Code.{Code}
use Rattle.rule_model.specs.Trace.{Trace}
use Rattle.play_transcript.specs.declared.following.TraceEnd.{TraceEnd}
use Rattle.play_transcript.specs.declared.following.TraceEnd.TheVariants as ended

-- a traced script ends with a refusal if an event was refused, else well
abbrev pub end_after : Option (ℕ × Code) → TraceEnd
end_after (Some refused) = ended.Refused
end_after None = ended.Done

-- how a traced script ends whose events have this trace
abbrev pub trace_end : Trace → TraceEnd
trace_end traced = end_after traced.refused
