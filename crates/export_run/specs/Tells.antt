-- What a run prints if it stops before it writes.
use Rattle.std.specs.Prelude.{◌≡◌}
use Rattle.export_run.specs.declared.reading.ExportStop.{ExportStop}
use Rattle.export_run.specs.declared.reading.ExportStop.TheVariants as stop
use Rattle.keyman_words.specs.declared.status.Status.{Status}
use Rattle.keyman_words.specs.declared.status.Status.TheVariants as status
use Rattle.keyman_words.specs.Seen.{SinkView}
use Rattle.keyman_words.specs.Tells.{Tells}
use Rattle.export_run.specs.Lines.{unexported_line}

-- the run prints the line of the reason, or no output
abbrev pub PrintsStop : {S : Type 0} → ExportStop → SinkView S → S → S → Status → Type 0
PrintsStop (stop.Refused why) sinks out out_after how = Tells status.Refused (unexported_line why) sinks out out_after how
PrintsStop stop.ReadFault sinks out out_after how = (how ≡ status.ReadFault) × (out_after ≡ out)
PrintsStop stop.Memory sinks out out_after how = (how ≡ status.Memory) × (out_after ≡ out)
