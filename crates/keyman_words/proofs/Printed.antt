-- What was printed before a run ended well or with a refusal.
use Rattle.std.proofs.Common.{◌≡◌, ◌⊎◌, inl, inr, ℕ, IsTrue, List, ◌++◌, Result, Ok, Err, refl, sym, subst}
use Rattle.std.specs.Prelude.{IfOk}
use Rattle.play_transcript.proofs.PrintingLaws.{none_begun}
use Rattle.keyman_words.specs.declared.status.Status.{Status}
use Rattle.keyman_words.specs.declared.status.Status.TheVariants as status
use Rattle.keyman_words.specs.Seen.{SinkView}
use Rattle.keyman_words.specs.Tells.{Tells, PrintsResult}

-- if a whole line was printed and the run ends well or with a refusal, `Tells` holds
pub tells_line : {S : Type 0} (good : Status) (bytes : List ℕ) (sinks : SinkView S) (out out_after : S) → (good ≡ status.Done) ⊎ (good ≡ status.Refused)
    → sinks.faults out_after ≡ sinks.faults out → sinks.told out_after ≡ sinks.told out → (IsTrue (sinks.told out) → sinks.written out_after ≡ sinks.written out ++ bytes) → Tells good bytes sinks out out_after good
tells_line good bytes sinks out out_after (inl is) faults told prints =
    subst (λ (s : Status). Tells s bytes sinks out out_after s) (sym is) (record { counts = (refl, faults); told = told; prints = prints })
tells_line good bytes sinks out out_after (inr is) faults told prints =
    subst (λ (s : Status). Tells s bytes sinks out out_after s) (sym is) (record { counts = (refl, faults); told = told; prints = prints })

-- if an allocation failed and nothing was printed, that is a first part of any bytes, so `Tells` holds
tells_none : {S : Type 0} (good : Status) (bytes : List ℕ) (sinks : SinkView S) (out : S) → Tells good bytes sinks out out status.Memory
tells_none good bytes sinks out = record { counts = refl; told = refl; prints = λ told. none_begun (sinks.written out) bytes }

-- if a line that was made is equal to these bytes, `PrintsResult` for the line implies `Tells` for the bytes
pub tells_made : {S E : Type 0} (good : Status) (bytes : List ℕ) (made : Result (List ℕ) E) (sinks : SinkView S) (out out_after : S) (how : Status)
    → PrintsResult good made sinks out out_after how → IfOk made (λ line. line ≡ bytes) → Tells good bytes sinks out out_after how
tells_made good bytes (Ok line) sinks out out_after how tells is = subst (λ (b : List ℕ). Tells good b sinks out out_after how) is tells.printed
tells_made {S} good bytes (Err error) sinks out out_after how tells is =
    subst (λ (o : S). Tells good bytes sinks out o how) (sym tells.silent.1)
    (subst (λ (s : Status). Tells good bytes sinks out out s) (sym tells.silent.0) (tells_none good bytes sinks out))
