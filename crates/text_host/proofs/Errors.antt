-- The errors of a host that are not `Memory`.
use Rattle.std.proofs.Common.{◌≡◌, false, sym, subst, refl}
use Rattle.std.specs.Prelude.{◌≢◌}
use Rattle.kmn_base.specs.declared.events.Event.{Event}
use Rattle.play_session.specs.declared.session.StepError.{StepError}
use Rattle.play_session.specs.declared.session.StepError.TheVariants as step_error
use Rattle.play_session.specs.Answers.{takes_memory}
use Rattle.text_host.specs.declared.host.HostError.{HostError}
use Rattle.text_host.specs.declared.host.HostError.TheVariants as error
use Rattle.text_host.specs.Host.{of_step}

-- an error is not `Memory`
abbrev IsNoWant : HostError → Type 0
IsNoWant error.NoField = Unit {0}
IsNoWant error.Full = Unit {0}
IsNoWant error.Place = Unit {0}
IsNoWant error.Length = Unit {0}
IsNoWant error.Memory = ⊥

other_error : (given : HostError) → IsNoWant given → given ≢ error.Memory
other_error given no_want = λ want. subst IsNoWant want no_want

given_on : (step : StepError) → step ≢ step_error.Memory → IsNoWant (of_step step)
given_on step_error.Place other = tt
given_on step_error.Length other = tt
given_on step_error.Memory other = absurd (other refl)

-- `NoField` is not `Memory`
pub no_field : error.NoField ≢ error.Memory
no_field = other_error error.NoField tt

-- if a session does not return `Memory` for an event that does not allocate, neither does its host
pub session_wants : (event : Event) (step : StepError) (given : HostError) → given ≡ of_step step → (takes_memory event ≡ false → step ≢ step_error.Memory)
    → takes_memory event ≡ false → given ≢ error.Memory
session_wants event step given is session takes_none = other_error given (subst IsNoWant (sym is) (given_on step (session takes_none)))
