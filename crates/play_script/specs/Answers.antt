-- What the readers of a script return.
use Rattle.std.specs.Prelude.{◌≡◌, ℕ, List, [], ◌∷◌, Option, Some, None, Result, Ok, Err}
use Rattle.kmn_base.specs.Answers.{AnswersBy, IsFaultOf}
use Rattle.kmn_base.specs.declared.codes.Code.{Code}
use Rattle.kmn_base.specs.declared.refusals.Refusal.{Refusal}
use Rattle.play_script.specs.Found.{Found, Breaks}
use Rattle.play_script.specs.declared.errors.ScriptError.{ScriptError}
use Rattle.play_script.specs.declared.errors.ScriptError.TheVariants as error

-- the refusal that an error reports; `Memory` reports none
abbrev pub refusal_of : ScriptError → Option Refusal
refusal_of (error.Refused refusal) = Some refusal
refusal_of error.Memory = None

-- a result is the specified value, the specified refusal, or `Memory`
abbrev pub Answers : {A : Type 0} → Result A Refusal → Result A ScriptError → Type 0
Answers stated answer = AnswersBy refusal_of stated answer

-- a call leaves the specified state, or its error is the specified refusal or `Memory`
abbrev pub Leaves : {S : Type 0} → Result S Refusal → S → Result (Unit {0}) ScriptError → Type 0
Leaves stated after (Ok x) = stated ≡ Ok after
Leaves stated after (Err error) = IsFaultOf stated (refusal_of error)

-- a check succeeds if nothing is found, else it returns the one broken rule that is found; it never returns `Memory`
abbrev pub Passes : List Found → Result (Unit {0}) ScriptError → Type 0
Passes found (Ok x) = found ≡ []
Passes found (Err (error.Refused refusal)) = found ≡ Breaks refusal ∷ []
Passes found (Err error.Memory) = ⊥

-- a result is the value that was read, or the refusal `code` if there is none; it is never `Memory`
abbrev pub Needs : {A : Type 0} → ℕ → Code → Option A → Result A ScriptError → Type 0
Needs line code read (Ok value) = read ≡ Some value
Needs line code read (Err (error.Refused refusal)) = (read ≡ None) × (refusal ≡ record { line = line; code = code })
Needs line code read (Err error.Memory) = ⊥

-- a result is the value that was read, or the refusal `code` if there is none, or `Memory`
abbrev pub NeedsMade : {A : Type 0} → ℕ → Code → Option A → Result A ScriptError → Type 0
NeedsMade line code read (Ok value) = read ≡ Some value
NeedsMade line code read (Err (error.Refused refusal)) = (read ≡ None) × (refusal ≡ record { line = line; code = code })
NeedsMade line code read (Err error.Memory) = Unit {0}
