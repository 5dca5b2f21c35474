-- The causes that are reported: a name that is not defined anywhere is reported once.
use Rattle.std.specs.Prelude.{ℕ, ◌-◌, nat_eq, nat_lt, Bool, false, not, ◌&&◌, if◌then◌else◌, List, [], ◌∷◌, ◌++◌, length, slice_get, flat_map, Option, None, Some}
use Rattle.kmn_base.specs.declared.refusals.Refusal.{Refusal}
use Rattle.rule_model.specs.declared.program.Program.{Program}
use Rattle.store_table.specs.Names.{is_named}
use Rattle.source_names.specs.declared.causes.Cause.{Cause}
use Rattle.source_names.specs.declared.causes.Cause.TheVariants as because
use Rattle.source_names.specs.declared.causes.NameFault.{NameFault}
use Rattle.source_names.specs.Causes.{name_causes, cause_refusal}

-- causes in the order of their lines; those at one line stay in their order
abbrev pub inserted : NameFault → List NameFault → List NameFault
inserted found [] = found ∷ []
inserted found (next ∷ faults) = if nat_lt next.line found.line then next ∷ inserted found faults else found ∷ next ∷ faults

abbrev pub in_lines : List NameFault → List NameFault
in_lines [] = []
in_lines (found ∷ faults) = inserted found (in_lines faults)

-- the store, or the group, that a cause lacks
abbrev pub store_lacked : Cause → List (List ℕ)
store_lacked (because.NoStore name) = name ∷ []
store_lacked other = []

abbrev pub group_lacked : Cause → List (List ℕ)
group_lacked (because.NoGroup name) = name ∷ []
group_lacked other = []

-- the stores, and the groups, that causes lack
abbrev pub stores_lacked : List NameFault → List (List ℕ)
stores_lacked faults = flat_map (λ (fault : NameFault). store_lacked fault.cause) faults

abbrev pub groups_lacked : List NameFault → List (List ℕ)
groups_lacked faults = flat_map (λ (fault : NameFault). group_lacked fault.cause) faults

-- whether the name that a cause lacks is among those that causes before it lack
abbrev pub is_lacked : List NameFault → Cause → Bool
is_lacked before (because.NoStore name) = is_named (stores_lacked before) name
is_lacked before (because.NoGroup name) = is_named (groups_lacked before) name
is_lacked before (because.Broken code) = false

-- whether a cause is at a line
abbrev pub is_at : ℕ → Option NameFault → Bool
is_at line None = false
is_at line (Some fault) = nat_eq fault.line line

-- whether a cause is reported after others: the last of them is at another line, and none of them lacks the same name
abbrev pub is_new : List NameFault → NameFault → Bool
is_new before fault = not (is_at fault.line (slice_get before (length before - 1))) && not (is_lacked before fault.cause)

-- the causes that are reported after others
abbrev pub new_after : List NameFault → List NameFault → List NameFault
new_after before [] = []
new_after before (fault ∷ faults) =
    if is_new before fault then fault ∷ new_after (before ++ fault ∷ []) faults else new_after before faults

-- the causes that are reported of a program: of each statement, in the order of lines, the first that is new
unfoldable pub reported_causes : Program → List NameFault
reported_causes program = new_after [] (in_lines (name_causes program))

-- the names that causes lack
abbrev pub name_lacked : Cause → List (List ℕ)
name_lacked cause = store_lacked cause ++ group_lacked cause

abbrev pub names_lacked : List NameFault → List (List ℕ)
names_lacked faults = flat_map (λ (fault : NameFault). name_lacked fault.cause) faults

-- the refusal of the first cause
abbrev pub first_refusal : List NameFault → Option Refusal
first_refusal [] = None
first_refusal (fault ∷ faults) = Some (cause_refusal fault)
