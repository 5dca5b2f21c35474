-- The result numbers of the calls.
use Rattle.std.specs.Prelude.{◌≡◌, ℕ, Bool, not, nat_eq, Option, Some, None, MatchBool}
use Rattle.play_session.specs.Session.{SessionState}
use Rattle.kmx_verifier.specs.declared.faults.Fault.{Fault}
use Rattle.curlew_calls.specs.Numbers.{rule_number}
use Rattle.curlew_calls.specs.declared.errors.CallError.{CallError}
use Rattle.curlew_calls.specs.declared.errors.CallError.TheVariants.{Memory, Place, Length, Character, NoOption}
use Rattle.curlewmetal.specs.declared.answers.FaultNumbers.{FaultNumbers}

-- the result numbers that the header names: the call succeeded, or the reason why not
abbrev pub ok_answer : ℕ
ok_answer = 0

abbrev pub refused_answer : ℕ
refused_answer = 1

abbrev pub memory_answer : ℕ
memory_answer = 2

abbrev pub place_answer : ℕ
place_answer = 3

abbrev pub length_answer : ℕ
length_answer = 4

abbrev pub closed_answer : ℕ
closed_answer = 5

abbrev pub character_answer : ℕ
character_answer = 6

abbrev pub none_answer : ℕ
none_answer = 7

-- the number of an error
abbrev pub error_number : CallError → ℕ
error_number Memory = memory_answer
error_number Place = place_answer
error_number Length = length_answer
error_number Character = character_answer
error_number NoOption = none_answer

-- a fault of a file as numbers
abbrev pub fault_numbers : Fault → FaultNumbers
fault_numbers fault = record { rule = rule_number fault.code; at = fault.at; unit = fault.unit }

-- whether a number that is used as a truth value is not 0
abbrev pub is_set : ℕ → Bool
is_set number = not (nat_eq number 0)

-- what holds if a result number is `ok_answer`, and what holds if it is another number
abbrev pub Told : (answer : ℕ) → (done otherwise : Type 0) → Type 0
Told answer done otherwise = MatchBool (nat_eq answer ok_answer) done otherwise

-- a result number is the number of an error that has a cause
abbrev pub Because : (answer : ℕ) → (cause : CallError → Type 0) → Type 0
Because answer cause = (error : CallError) × (answer ≡ error_number error) × cause error

-- the result of a call on a field: `closed_answer` if no field is open; otherwise `ok_answer` if the call is done, or the number of an
-- error that has a cause. `stays` holds after each result other than `ok_answer`
abbrev pub Answers : (held : Option SessionState) → (answer : ℕ) → (done : SessionState → Type 0) → (stays : Type 0) → (cause : SessionState → CallError → Type 0) → Type 0
Answers None answer done stays cause = (answer ≡ closed_answer) × stays
Answers (Some session) answer done stays cause = Told answer (done session) (stays × Because answer (cause session))

-- what stays if a result number is `memory_answer`, and what holds if it is another number
abbrev pub UnlessMemory : (answer : ℕ) → (stays otherwise : Type 0) → Type 0
UnlessMemory answer stays otherwise = MatchBool (nat_eq answer memory_answer) stays otherwise
