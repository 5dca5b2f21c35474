-- The result of an event in a session.
use Rattle.std.specs.Prelude.{Bool, true, false, Option, Some, None}
use Rattle.kmn_base.specs.declared.events.Event.{Event}
use Rattle.kmn_base.specs.declared.events.Event.TheVariants as event
use Rattle.kmn_base.specs.declared.codes.Code.{Code}
use Rattle.kmn_base.specs.declared.codes.Code.TheVariants.{E1, E2}
use Rattle.rule_model.specs.Act.{one_more}
use Rattle.play_session.specs.declared.session.Step.{Step}
use Rattle.play_session.specs.declared.session.StepError.{StepError}
use Rattle.play_session.specs.declared.session.StepError.TheVariants.{Place, Length, Memory}
use Rattle.play_session.specs.Session.{SessionState, happened}

-- the step that an event returns
abbrev pub step_of : SessionState → Event → Step
step_of session event = record { number = one_more session.number; outcome = (happened session event).outcome }

-- the refusal that an error reports; running out of memory is not a refusal
abbrev pub code_of : StepError → Option Code
code_of Place = Some E1
code_of Length = Some E2
code_of Memory = None

-- whether an event allocates, so that its step may run out of memory; a caret move does not allocate
abbrev pub takes_memory : Event → Bool
takes_memory (event.Key press) = true
takes_memory (event.Setting name value) = true
takes_memory (event.Caret place) = false
takes_memory (event.Edit from to text) = true
