-- Groups that no start group reaches, and what removing them changes.
use Rattle.std.specs.Prelude.{◌≡◌, ℕ, Bool, true, false, not, ◌&&◌, ◌||◌, List, filter, Option, Some, None}
use Rattle.std.specs.List.{list_all}
use Rattle.kmn_base.specs.declared.events.Event.{Event}
use Rattle.kmn_base.specs.Names.{same_name}
use Rattle.rule_model.specs.declared.program.GroupDef.{GroupDef}
use Rattle.rule_model.specs.declared.program.Program.{Program}
use Rattle.rule_model.specs.Keyboard.{Ref, Named, Output, UseGroup, RuleMeaning, GroupMeaning, Keyboard}
use Rattle.rule_model.specs.Naming.{names_of}
use Rattle.rule_model.specs.Src.{src}
use Rattle.rule_model.specs.Trace.{trace}

-- whether a group is kept, by its name
abbrev pub Kept : Type 0
Kept = List ℕ → Bool

-- whether a referenced group is kept
abbrev pub stays : Kept → Ref → Bool
stays kept (Named name) = kept name
stays kept other = false

-- whether an item of an output enters no group, or one that is kept
abbrev pub item_stays : Kept → Output → Bool
item_stays kept (UseGroup group) = stays kept group
item_stays kept output = true

abbrev pub output_stays : Kept → List Output → Bool
output_stays kept outputs = list_all (item_stays kept) outputs

abbrev pub optional_stays : Kept → Option (List Output) → Bool
optional_stays kept None = true
optional_stays kept (Some outputs) = output_stays kept outputs

abbrev pub rule_stays : Kept → RuleMeaning → Bool
rule_stays kept rule = output_stays kept rule.output

-- whether a group enters only groups that are kept
abbrev pub group_stays : Kept → GroupMeaning → Bool
group_stays kept group = list_all (rule_stays kept) group.rules && (optional_stays kept group.on_match && optional_stays kept group.on_nomatch)

-- whether a group enters only kept groups if it is kept itself
abbrev pub is_closed_at : Kept → GroupMeaning → Bool
is_closed_at kept group = not (kept group.name) || group_stays kept group

-- the start group is kept, and each group that a kept group enters; ASCII case does not matter
pub record IsClosedUnderUse (kept : Kept) (kb : Keyboard) : Type 0 where
  pub caseless : (a b : List ℕ) → same_name a b ≡ true → kept a ≡ kept b
  pub start : stays kept kb.start ≡ true
  pub groups : list_all (is_closed_at kept) kb.groups ≡ true

-- a keyboard with only its kept groups
abbrev pub with_kept : Kept → Keyboard → Keyboard
with_kept kept kb = record kb { groups = filter (λ (group : GroupMeaning). kept group.name) kb.groups }

-- removing groups that the start group does not reach changes no step
abbrev pub UnreachedGroupsAreSilent : Type 0
UnreachedGroupsAreSilent = (kept : Kept) (kb : Keyboard) → IsClosedUnderUse kept kb → (events : List Event) → trace (with_kept kept kb) events ≡ trace kb events

-- a program with only its kept groups
abbrev pub program_with_kept : Kept → Program → Program
program_with_kept kept program = record program { groups = filter (λ (group : GroupDef). kept group.name) program.groups }

-- without the other groups, each deadkey and each key of the dictionary keeps its number, and the same stores are options
pub record KeepsNumbers (kept : Kept) (program : Program) : Type 0 where
  pub names : names_of (program_with_kept kept program) ≡ names_of program
  pub stores : (src (program_with_kept kept program)).stores ≡ (src program).stores

-- removing them changes no step of the program, if the numbers and the options stay the same
abbrev pub UnreachedGroupsMayGo : Type 0
UnreachedGroupsMayGo =
    (kept : Kept) (program : Program) → IsClosedUnderUse kept (src program) → KeepsNumbers kept program
    → (events : List Event) → trace (src (program_with_kept kept program)) events ≡ trace (src program) events
