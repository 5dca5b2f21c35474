-- The cause of an error of a call, derived from the cause of the step's error.
use Rattle.std.proofs.Common.{◌≡◌, ℕ, ◌+◌, ◌-◌, ◌≤◌, Bool, true, false, not, nat_lt, nltb→le, if◌then◌else◌, List, [], length, Option, Some, None, refl, sym, subst, arith}
use Rattle.std.specs.Prelude.{◌≢◌, ◌||◌, Result, Ok, Err}
use lib.Dec.{T}
use Rattle.kmn_base.specs.declared.codes.Code.TheVariants.{E1, E2}
use Rattle.kmn_base.specs.declared.events.Event.{Event}
use Rattle.kmn_base.specs.declared.events.Event.TheVariants as event
use Rattle.kmn_base.specs.declared.limits.TheConstants.{TEXT_CHARS}
use Rattle.kmn_base.specs.declared.keys.KeyPress.{KeyPress}
use Rattle.rule_model.specs.declared.tables.Tables.{Tables}
use Rattle.rule_model.specs.Event.{State, Happening, event_of, event_refusal, happening, unless_refused, whole_text}
use Rattle.rule_model.specs.Tab.{tab}
use Rattle.std.proofs.lemmas.Option.{none-some}
use Rattle.curlew_calls.specs.Numbers.{text_of}
use Rattle.kmn_base.specs.declared.codes.Code.{Code}
use Rattle.play_session.specs.declared.session.StepError.{StepError}
use Rattle.play_session.specs.declared.session.StepError.TheVariants as step
use Rattle.play_session.specs.Answers.{code_of, takes_memory}
use Rattle.std.specs.Str.{all_scalars}
use Rattle.curlew_calls.specs.declared.errors.CallError.{CallError}
use Rattle.curlew_calls.specs.Answers.{of_step, IsCause, IsCaretCause}

-- if each number is a character, the cause of the step's error is the cause of the call's error
pub step_text_cause : (numbers : List ℕ) (refusal : Option Code) (error : StepError) (given : CallError) → given ≡ of_step error → all_scalars numbers ≡ true → code_of error ≡ refusal → IsCause numbers refusal given
step_text_cause numbers refusal step.Place given e fine is = subst (IsCause numbers refusal) (sym e) (fine, sym is)
step_text_cause numbers refusal step.Length given e fine is = subst (IsCause numbers refusal) (sym e) (fine, sym is)
step_text_cause numbers refusal step.Memory given e fine is = subst (IsCause numbers refusal) (sym e) tt

pub step_cause : (refusal : Option Code) (error : StepError) (given : CallError) → given ≡ of_step error → code_of error ≡ refusal → IsCause [] refusal given
step_cause refusal error given e is = step_text_cause [] refusal error given e refl is

-- if numbers are not a text, not all of them are characters
pub not_characters : (numbers : List ℕ) → text_of numbers ≡ None → all_scalars numbers ≡ false
not_characters numbers none = by_test (all_scalars numbers) refl none
  where
    by_test : (fine : Bool) → all_scalars numbers ≡ fine → (if fine then Some numbers else None) ≡ None → fine ≡ false
    by_test true e none = absurd (none-some numbers (sym none))
    by_test false e none = refl

-- whether an event is done, not refused
abbrev IsDone : Result Happening Code → Type 0
IsDone (Ok done) = Unit {0}
IsDone (Err code) = ⊥

allowed : (refusal : Option Code) (what done : Happening) → unless_refused refusal what ≡ Ok done → refusal ≡ None
allowed None what done e = refl
allowed (Some code) what done e = absurd (subst IsDone (sym e) tt)

not_refused : (tables : Tables) (state : State) (event : Event) (done : Happening) → event_of (tab tables) state event ≡ Ok done → event_refusal state event ≡ None
not_refused tables state event done happens = allowed (event_refusal state event) (happening (tab tables) state event) done happens

pub key_happens : (tables : Tables) (state : State) (press : KeyPress) (done : Happening) → event_of (tab tables) state (event.Key press) ≡ Ok done → event_refusal state (event.Key press) ≡ None
key_happens tables state press done happens = not_refused tables state (event.Key press) done happens

pub caret_happens : (tables : Tables) (state : State) (place : ℕ) (done : Happening) → event_of (tab tables) state (event.Caret place) ≡ Ok done → event_refusal state (event.Caret place) ≡ None
caret_happens tables state place done happens = not_refused tables state (event.Caret place) done happens

pub edit_happens : (tables : Tables) (state : State) (from to : ℕ) (text : List ℕ) (done : Happening) → event_of (tab tables) state (event.Edit from to text) ≡ Ok done → event_refusal state (event.Edit from to text) ≡ None
edit_happens tables state from to text done happens = not_refused tables state (event.Edit from to text) done happens

-- if an edit is not refused, its text has at most `TEXT_CHARS` characters
pub few_characters : (tables : Tables) (state : State) (from to : ℕ) (text : List ℕ) (done : Happening) → event_of (tab tables) state (event.Edit from to text) ≡ Ok done → length text ≤ TEXT_CHARS
few_characters tables state from to text done happens =
    let whole = length (whole_text state) in
    let fits : nat_lt TEXT_CHARS (whole - (to - from) + length text) ≡ false
    = second (nat_lt to from || nat_lt whole to) (nat_lt TEXT_CHARS (whole - (to - from) + length text)) (not_refused tables state (event.Edit from to text) done happens) in
    omega (arith, nltb→le TEXT_CHARS (whole - (to - from) + length text) (subst (λ b. T (not b)) (sym fits) tt))
  where
    second : (a b : Bool) → (if a then Some E1 else if b then Some E2 else None) ≡ None → b ≡ false
    second true b e = absurd (none-some E1 (sym e))
    second false true e = absurd (none-some E2 (sym e))
    second false false e = refl

-- a caret move is refused only for its position, and does not allocate
abbrev IsLong : Option Code → Type 0
IsLong None = ⊥
IsLong (Some E2) = Unit {0}
IsLong (Some code) = ⊥

never_long : (past : Bool) → Some E2 ≡ (if past then Some E1 else None) → ⊥
never_long true e = subst IsLong e tt
never_long false e = subst IsLong e tt

pub caret_cause : (state : State) (place : ℕ) (error : StepError) (given : CallError) → given ≡ of_step error → code_of error ≡ event_refusal state (event.Caret place)
    → (takes_memory (event.Caret place) ≡ false → error ≢ step.Memory) → IsCaretCause (event_refusal state (event.Caret place)) given
caret_cause state place step.Place given e is wants = subst (IsCaretCause (event_refusal state (event.Caret place))) (sym e) (sym is)
caret_cause state place step.Length given e is wants = absurd (never_long (nat_lt (length (whole_text state)) place) is)
caret_cause state place step.Memory given e is wants = absurd (wants refl refl)
