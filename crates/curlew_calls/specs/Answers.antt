-- The cause of each error of a call.
use Rattle.std.specs.Prelude.{◌≡◌, ℕ, Bool, true, false, List, Option, Some}
use Rattle.std.specs.Str.{all_scalars}
use Rattle.kmn_base.specs.declared.codes.Code.{Code}
use Rattle.kmn_base.specs.declared.codes.Code.TheVariants.{E1, E2}
use Rattle.play_session.specs.declared.session.StepError.{StepError}
use Rattle.play_session.specs.declared.session.StepError.TheVariants as step
use Rattle.curlew_calls.specs.declared.errors.CallError.{CallError}
use Rattle.curlew_calls.specs.declared.errors.CallError.TheVariants.{Memory, Place, Length, Character, NoOption}

-- the error of a call whose step failed with this error
abbrev pub of_step : StepError → CallError
of_step step.Place = Place
of_step step.Length = Length
of_step step.Memory = Memory

-- the cause of an error of an event that is built from these numbers: a number is not a character, or the meaning refuses the event;
-- `Memory` has no specified cause
abbrev pub IsCause : (numbers : List ℕ) → (refusal : Option Code) → CallError → Type 0
IsCause numbers refusal Memory = Unit {0}
IsCause numbers refusal Place = (all_scalars numbers ≡ true) × (refusal ≡ Some E1)
IsCause numbers refusal Length = (all_scalars numbers ≡ true) × (refusal ≡ Some E2)
IsCause numbers refusal Character = all_scalars numbers ≡ false
IsCause numbers refusal NoOption = ⊥

-- the cause of an error of a caret move: the position is past the end of the text; a caret move does not allocate
abbrev pub IsCaretCause : (refusal : Option Code) → CallError → Type 0
IsCaretCause refusal Memory = ⊥
IsCaretCause refusal Place = refusal ≡ Some E1
IsCaretCause refusal Length = ⊥
IsCaretCause refusal Character = ⊥
IsCaretCause refusal NoOption = ⊥

-- the cause of an error of setting an option: no option has the name, or a number of the value is not a character
abbrev pub IsSettingCause : (known : Bool) → (numbers : List ℕ) → CallError → Type 0
IsSettingCause known numbers Memory = Unit {0}
IsSettingCause known numbers Place = ⊥
IsSettingCause known numbers Length = ⊥
IsSettingCause known numbers Character = (known ≡ true) × (all_scalars numbers ≡ false)
IsSettingCause known numbers NoOption = known ≡ false
