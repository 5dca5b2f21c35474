-- The laws of the refusals of a source.
use Rattle.std.specs.Prelude.{◌≡◌, ℕ, List}
use Rattle.rule_checker.specs.Refused.{checked}
use Rattle.source_faults.specs.Faults.{faults, first_fault, refusal_of}

-- the first of all refusals of a source is the one that its compilation reports; there are none if it reports none
abbrev pub FirstIsReported : Type 0
FirstIsReported = (source : List ℕ) → first_fault (faults source) ≡ refusal_of (checked source)
