-- How many expected texts of a script differ.
use Rattle.std.specs.Prelude.{ℕ, ◌+◌, if◌then◌else◌, List, [], ◌∷◌}
use Rattle.std.specs.Str.{bytes_eq}
use Rattle.rule_model.specs.declared.script.Entry.{Entry}
use Rattle.rule_model.specs.declared.script.Entry.TheVariants.{Act, Expect}
use Rattle.rule_model.specs.Event.{State, whole_text}
use Rattle.rule_model.specs.Trace.{Step, Trace}

-- the number after more entries of a script and the steps of their events, given the number before; the whole text is compared
abbrev pub failures_from : ℕ → State → List Entry → List Step → ℕ
failures_from failed state [] steps = failed
failures_from failed state (Expect line text ∷ entries) steps =
    if bytes_eq (whole_text state) text then failures_from failed state entries steps else failures_from (failed + 1) state entries steps
failures_from failed state (Act line event ∷ entries) [] = failed
failures_from failed state (Act line event ∷ entries) (step ∷ steps) = failures_from failed step.happened.after entries steps

-- the number of expected texts that differ along a trace from its first state
abbrev pub failures : Trace → List Entry → ℕ
failures traced entries = failures_from 0 traced.first entries traced.done
