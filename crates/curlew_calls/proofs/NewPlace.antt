-- If a field moves to a new position, no step on the way is refused, so an error is `Memory`.
use Rattle.std.proofs.Common.{◌≡◌, ℕ, ◌+◌, true, List, [], ◌∷◌, length, Option, None, refl, sym, ◌∙◌, ap, arith}
use Rattle.std.proofs.lemmas.Option.{none-some}
use Rattle.std.proofs.lemmas.Bool.{false≢true}
use Rattle.std.specs.Str.{all_scalars}
use Rattle.kmn_base.specs.declared.codes.Code.{Code}
use Rattle.kmn_base.specs.declared.codes.Code.TheVariants.{E1, E2}
use Rattle.kmn_base.specs.declared.events.Event.TheVariants as event
use Rattle.rule_model.specs.Event.{event_refusal, edit_refusal, happening, whole_text}
use Rattle.play_session.specs.Session.{SessionState, after_step}
use Rattle.curlew_calls.specs.declared.errors.CallError.{CallError}
use Rattle.curlew_calls.specs.declared.errors.CallError.TheVariants.{Memory, Place, Length, Character, NoOption}
use Rattle.curlew_calls.specs.Answers.{IsCause, IsCaretCause}
use Rattle.curlew_calls.proofs.Begun.{moved_length, put_length, never_kept_from}

-- if an edit consists of characters and is not refused, its only error is `Memory`
only_memory : (numbers : List ℕ) (refusal : Option Code) (error : CallError) → all_scalars numbers ≡ true → refusal ≡ None → IsCause numbers refusal error → error ≡ Memory
only_memory numbers refusal Memory fine none cause = refl
only_memory numbers refusal Place fine none cause = absurd (none-some E1 (sym none ∙ cause.1))
only_memory numbers refusal Length fine none cause = absurd (none-some E2 (sym none ∙ cause.1))
only_memory numbers refusal Character fine none cause = absurd (false≢true (sym cause ∙ fine))
only_memory numbers refusal NoOption fine none cause = absurd cause

-- if an x was inserted at the start, the position after it exists, so an error of the caret move to it is `Memory`
pub passing_never_fails : (session put : SessionState) (error : CallError) → put ≡ after_step session (event.Edit 0 0 (0x78 ∷ []))
    → IsCaretCause (event_refusal put.state (event.Caret 1)) error → error ≡ Memory
passing_never_fails session put error is cause =
    only_memory [] None error refl refl (never_kept_from session put (0x78 ∷ []) [] 1 None error is (omega arith) cause)

-- if the x is the whole text, its deletion is not refused, so an error of the deletion is `Memory`
pub deleting_wants_memory : (session put passed : SessionState) (error : CallError) → length (whole_text session.state) ≡ 0
    → put ≡ after_step session (event.Edit 0 0 (0x78 ∷ [])) → passed ≡ after_step put (event.Caret 1)
    → IsCause [] (event_refusal passed.state (event.Edit 0 1 [])) error → error ≡ Memory
unfolding happening
deleting_wants_memory session put passed error none is so cause =
    let alone : length (whole_text put.state) ≡ 1
    = ap (λ (s : SessionState). length (whole_text s.state)) is ∙ put_length (0x78 ∷ []) session.state ∙ ap (λ (n : ℕ). 1 + n) none in
    let one : length (whole_text passed.state) ≡ 1
    = ap (λ (s : SessionState). length (whole_text s.state)) so ∙ moved_length 1 put.state ∙ alone in
    only_memory [] (event_refusal passed.state (event.Edit 0 1 [])) error refl (ap (λ (n : ℕ). edit_refusal 0 1 0 n) one) cause
