-- Records that are checked in order with a running total, as a loop does it.
use Rattle.std.proofs.Common.{◌≡◌, ℕ, suc, ◌+◌, ◌*◌, ◌-◌, ◌<◌, Option, None, Some, sym, ◌∙◌, ap, arith}
use Rattle.std.specs.Option.{option_or}
use Rattle.kmx_verifier.specs.declared.faults.Fault.{Fault}
use Rattle.kmx_verifier.specs.declared.faults.VerifyError.{VerifyError}
use Rattle.kmx_verifier.specs.declared.faults.VerifyError.TheVariants.{Refused, Memory}
use Rattle.kmx_verifier.specs.FaultOf.{IsRefusal}

-- if a record has no fault, the records after it have the same result
pub total_more : (fault : ℕ → ℕ → Option Fault) (counted : ℕ → ℕ) (size : ℕ) (faults : ℕ → ℕ → ℕ → Option Fault)
    → ((before place count : ℕ) → faults before place (suc count) ≡ option_or (fault before place) (faults (before + counted place) (place + size) count))
    → (before place count i : ℕ) (answer : Option Fault)
    → i < count → fault before (place + size * i) ≡ None
    → faults before (place + size * i) (count - i) ≡ answer
    → faults (before + counted (place + size * i)) (place + size * (i + 1)) (count - (i + 1)) ≡ answer
total_more fault counted size faults unfolds before place count i answer below none so_far =
    let next : count - i ≡ suc (count - (i + 1)) = omega arith in
    let behind : place + size * i + size ≡ place + size * (i + 1) = omega arith in
    let here : ℕ = place + size * i in
    let step : faults before here (count - i) ≡ faults (before + counted here) (place + size * (i + 1)) (count - (i + 1)) =
    ap (faults before here) next ∙ unfolds before here (count - (i + 1))
    ∙ ap (λ f. option_or f (faults (before + counted here) (here + size) (count - (i + 1)))) none
    ∙ ap (λ p. faults (before + counted here) p (count - (i + 1))) behind in
    sym step ∙ so_far

-- if a record has a fault, the result is this fault
pub total_stops : (fault : ℕ → ℕ → Option Fault) (counted : ℕ → ℕ) (size : ℕ) (faults : ℕ → ℕ → ℕ → Option Fault)
    → ((before place count : ℕ) → faults before place (suc count) ≡ option_or (fault before place) (faults (before + counted place) (place + size) count))
    → (before place count i : ℕ) (answer : Option Fault) (found : Fault)
    → i < count → fault before (place + size * i) ≡ Some found
    → faults before (place + size * i) (count - i) ≡ answer
    → answer ≡ Some found
total_stops fault counted size faults unfolds before place count i answer found below is so_far =
    let next : count - i ≡ suc (count - (i + 1)) = omega arith in
    let here : ℕ = place + size * i in
    sym so_far ∙ ap (faults before here) next ∙ unfolds before here (count - (i + 1))
    ∙ ap (λ f. option_or f (faults (before + counted here) (here + size) (count - (i + 1)))) is

-- if an error refuses a record for its fault, it refuses all the records for the same fault
pub refusal_stops : (fault : ℕ → ℕ → Option Fault) (counted : ℕ → ℕ) (size : ℕ) (faults : ℕ → ℕ → ℕ → Option Fault)
    → ((before place count : ℕ) → faults before place (suc count) ≡ option_or (fault before place) (faults (before + counted place) (place + size) count))
    → (before place count i : ℕ) (answer : Option Fault) (error : VerifyError)
    → i < count → IsRefusal error (λ found. fault before (place + size * i) ≡ Some found)
    → faults before (place + size * i) (count - i) ≡ answer
    → IsRefusal error (λ found. answer ≡ Some found)
refusal_stops fault counted size faults unfolds before place count i answer (Refused found) below is so_far = total_stops fault counted size faults unfolds before place count i answer found below is so_far
refusal_stops fault counted size faults unfolds before place count i answer Memory below is so_far = tt
