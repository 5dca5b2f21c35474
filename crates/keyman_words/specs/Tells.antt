-- What is printed before a run ends.
use Rattle.std.specs.Prelude.{◌≡◌, ℕ, IsTrue, List, ◌++◌, Result, IfOk, IfErr}
use Rattle.kmn_outside.specs.Outside.{Rose}
use Rattle.kmn_outside.specs.declared.traits.WriteError.{WriteError}
use Rattle.kmn_outside.specs.declared.traits.WriteError.TheVariants as write
use Rattle.play_transcript.specs.Printing.{IsBegun}
use Rattle.keyman_words.specs.declared.status.Status.{Status}
use Rattle.keyman_words.specs.declared.status.Status.TheVariants as status
use Rattle.keyman_words.specs.Seen.{SinkView}

-- the fault count of a sink before and after printing, if the run ends with this status, which is `good` unless printing fails
abbrev pub SinkCounts : Status → ℕ → ℕ → Status → Type 0
SinkCounts good before after status.WriteFault = Rose before after
SinkCounts good before after status.Memory = after ≡ before
SinkCounts good before after status.Words = ⊥
SinkCounts good before after status.ReadFault = ⊥
SinkCounts good before after other = (other ≡ good) × (after ≡ before)

-- what was printed before a run ends with a status: all bytes, or a first part of them if printing failed
abbrev pub PrintsBy : List ℕ → List ℕ → List ℕ → Status → Type 0
PrintsBy bytes before after status.WriteFault = IsBegun before after bytes
PrintsBy bytes before after status.Memory = IsBegun before after bytes
PrintsBy bytes before after other = after ≡ before ++ bytes

-- bytes are printed, and the run ends with the status `good`, unless printing fails
pub record Tells {S : Type 0} (good : Status) (bytes : List ℕ) (sinks : SinkView S) (out out_after : S) (how : Status) : Type 0 where
  pub counts : SinkCounts good (sinks.faults out) (sinks.faults out_after) how
  pub told : sinks.told out_after ≡ sinks.told out
  pub prints : IsTrue (sinks.told out) → PrintsBy bytes (sinks.written out) (sinks.written out_after) how

-- bytes that were made are printed as in `Tells`; if an allocation failed while they were made, the sink is unchanged
pub record PrintsResult {S E : Type 0} (good : Status) (made : Result (List ℕ) E) (sinks : SinkView S) (out out_after : S) (how : Status) : Type 0 where
  pub printed : IfOk made (λ bytes. Tells good bytes sinks out out_after how)
  pub silent : IfErr made (λ _. (how ≡ status.Memory) × (out_after ≡ out))

-- the status of a run that ends with a failed write of a file or to the sink
abbrev pub write_status : WriteError → Status
write_status write.Failed = status.WriteFault
write_status write.Memory = status.Memory
