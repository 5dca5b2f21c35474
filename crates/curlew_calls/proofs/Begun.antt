-- If a text is inserted at the start, each position in it exists, so no caret move to it is refused.
use Rattle.std.proofs.Common.{◌≡◌, ℕ, ◌+◌, ◌≤◌, Bool, if◌then◌else◌, List, ◌++◌, length, take, drop, Option, Some, None, sym, ◌∙◌, ap, length-append, arith}
use Rattle.std.proofs.lemmas.Option.{none-some}
use Rattle.std.proofs.lemmas.Bool.{le-ltb}
use Rattle.std.proofs.lemmas.List.{take-append-drop}
use Rattle.kmn_base.specs.declared.codes.Code.{Code}
use Rattle.kmn_base.specs.declared.codes.Code.TheVariants.{E1}
use Rattle.kmn_base.specs.declared.events.Event.TheVariants as event
use Rattle.kmn_base.specs.Lists.{characters, read_again}
use Rattle.kmn_base.proofs.ReadingAgain.{reading_again_gives_the_text}
use Rattle.rule_model.specs.Event.{State, event_refusal, happening, whole_text, text_becomes, moved_caret, caret_event, edit_event}
use Rattle.play_session.specs.Session.{SessionState, after_step}
use Rattle.curlew_calls.specs.declared.errors.CallError.{CallError}
use Rattle.curlew_calls.specs.declared.errors.CallError.TheVariants.{Memory, Place, Length, Character, NoOption}
use Rattle.curlew_calls.specs.Answers.{IsCause, IsCaretCause}

-- if a text is read again on both sides of a caret, its length is unchanged
parted_length : (caret : ℕ) (whole : List ℕ) (state : State) → length (whole_text (text_becomes (take caret whole) (drop caret whole) state)) ≡ length whole
parted_length caret whole state =
    length-append (characters (read_again state.left (take caret whole))) (drop caret whole)
    ∙ ap (λ (cs : List ℕ). length cs + length (drop caret whole)) (reading_again_gives_the_text state.left (take caret whole))
    ∙ sym (length-append (take caret whole) (drop caret whole))
    ∙ ap length (take-append-drop caret whole)

pub moved_length : (place : ℕ) (state : State) → length (whole_text (caret_event place state)) ≡ length (whole_text state)
moved_length place state = parted_length place (whole_text state) state

pub put_length : (text : List ℕ) (state : State) → length (whole_text (edit_event 0 0 text state)) ≡ length text + length (whole_text state)
put_length text state =
    parted_length (moved_caret 0 0 (length text) (length (characters state.left))) (text ++ whole_text state) state
    ∙ length-append text (whole_text state)

never_refused : (session : SessionState) (text : List ℕ) (place : ℕ) → place ≤ length text → event_refusal (after_step session (event.Edit 0 0 text)).state (event.Caret place) ≡ None
unfolding happening
never_refused session text place within =
    let few : place ≤ length (whole_text (edit_event 0 0 text session.state)) = omega (arith, within, put_length text session.state) in
    ap (λ (past : Bool). if past then Some E1 else None) (le-ltb (length (whole_text (edit_event 0 0 text session.state))) place few)

no_cause : (numbers : List ℕ) (refusal here : Option Code) (error : CallError) → here ≡ None → IsCaretCause here error → IsCause numbers refusal error
no_cause numbers refusal here Memory none cause = absurd cause
no_cause numbers refusal here Place none cause = absurd (none-some E1 (sym none ∙ cause))
no_cause numbers refusal here Length none cause = absurd cause
no_cause numbers refusal here Character none cause = absurd cause
no_cause numbers refusal here NoOption none cause = absurd cause

-- if a text was inserted at the start, a caret move into it has no error
pub never_kept_from : (session put : SessionState) (text numbers : List ℕ) (place : ℕ) (refusal : Option Code) (error : CallError) → put ≡ after_step session (event.Edit 0 0 text) → place ≤ length text
    → IsCaretCause (event_refusal put.state (event.Caret place)) error → IsCause numbers refusal error
never_kept_from session put text numbers place refusal error is within cause =
    no_cause numbers refusal (event_refusal put.state (event.Caret place)) error
    (ap (λ (s : SessionState). event_refusal s.state (event.Caret place)) is ∙ never_refused session text place within) cause
