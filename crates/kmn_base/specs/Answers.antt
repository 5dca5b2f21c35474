-- The result of code for a stated result: exactly the stated value or the stated fault. Only `Memory` is not tied to a cause.
use Rattle.std.specs.Prelude.{◌≡◌, Option, None, Some, Result, Ok, Err}
use Rattle.kmn_base.specs.declared.refusals.Refusal.{Refusal}
use Rattle.kmn_base.specs.declared.refusals.CompileError.{CompileError}
use Rattle.kmn_base.specs.declared.refusals.CompileError.TheVariants.{Refused, TooLarge, Memory}

-- an error with a fault reports the specified fault; an error without a fault is `Memory`
abbrev pub IsFaultOf : {A F : Type 0} → Result A F → Option F → Type 0
IsFaultOf stated None = Unit {0}
IsFaultOf stated (Some fault) = stated ≡ Err fault

-- the result is the stated value, or an error with the stated fault
abbrev pub AnswersBy : {A F E : Type 0} → (E → Option F) → Result A F → Result A E → Type 0
AnswersBy tells stated (Ok value) = stated ≡ Ok value
AnswersBy tells stated (Err error) = IsFaultOf stated (tells error)

-- the result is the stated value or the stated refusal
abbrev pub Answers : {A : Type 0} → Result A Refusal → Result A CompileError → Type 0
Answers stated (Ok value) = stated ≡ Ok value
Answers stated (Err (Refused refusal)) = stated ≡ Err refusal
Answers stated (Err (TooLarge code size)) = ⊥
Answers stated (Err Memory) = Unit {0}

-- the second result, computed from the value of the first; an error of the first is returned
abbrev pub and_then : {A B F : Type 0} → Result A F → (A → Result B F) → Result B F
and_then (Ok value) next = next value
and_then (Err fault) next = Err fault
