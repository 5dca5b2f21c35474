use Rattle.std.proofs.Common.{◌≡◌, ◌++◌, drop, flat_map}
use Rattle.std.specs.String.{string_bytes}
use Rattle.play_transcript.specs.TraceText.{hit_if_any}
use Rattle.play_transcript.proofs.fired.put_hits.Given as goal

abbrev pub invariant-loop-hit : goal.invariant-loop-hit
invariant-loop-hit l =
    string_bytes l.text ++ flat_map hit_if_any (drop l.hit-index l.hits) ≡ string_bytes l.fn.text ++ flat_map hit_if_any l.hits
