-- W04: groups that no key press enters.
use Rattle.std.specs.Prelude.{ℕ, zero, suc, nat_eq, Bool, false, ◌||◌, if◌then◌else◌, List, [], ◌∷◌, ◌++◌, length, flat_map, slice_get, Option, Some, None}
use Rattle.std.specs.List.{list_any}
use Rattle.virtual_keys.specs.Dictionary.{place_in}
use Rattle.rule_model.specs.declared.program.GroupDef.{GroupDef}
use Rattle.rule_model.specs.declared.program.Program.{Program}
use Rattle.store_table.specs.Names.{group_names, is_named}
use Rattle.source_uses.specs.declared.used.Part.TheVariants as part
use Rattle.source_uses.specs.declared.used.Role.TheVariants as role
use Rattle.source_uses.specs.declared.used.Use.{Use}
use Rattle.source_uses.specs.Uses.{begin_uses, group_uses}
use Rattle.name_warnings.specs.declared.warning.Warning.{Warning}
use Rattle.name_warnings.specs.declared.warning.WarningKind.TheVariants as kind

-- the numbers of reached groups with another number, which goes last if it is new
abbrev pub with_number : List ℕ → Option ℕ → List ℕ
with_number reached None = reached
with_number reached (Some number) = if list_any (nat_eq number) reached then reached else reached ++ number ∷ []

-- the numbers of reached groups with those of the groups that uses name
abbrev pub with_uses : List (List ℕ) → List ℕ → List Use → List ℕ
with_uses names reached [] = reached
with_uses names reached (found ∷ uses) = with_uses names (with_number reached (place_in names found.name)) uses

-- the numbers of reached groups with those of the groups that the statements of a group enter
abbrev pub with_entered : List (List ℕ) → List ℕ → Option GroupDef → List ℕ
with_entered names reached None = reached
with_entered names reached (Some group) = with_uses names reached (group_uses role.Group part.Output group)

abbrev pub with_entered_from : List (List ℕ) → List GroupDef → List ℕ → Option ℕ → List ℕ
with_entered_from names groups reached None = reached
with_entered_from names groups reached (Some number) = with_entered names reached (slice_get groups number)

-- the reached groups after the group at a place among them is visited
abbrev pub visited : List (List ℕ) → List GroupDef → ℕ → List ℕ → List ℕ
visited names groups place reached = with_entered_from names groups reached (slice_get reached place)

-- the reached groups after the groups at the first places among them are visited
unfoldable pub reached_after : List (List ℕ) → List GroupDef → ℕ → List ℕ → List ℕ
reached_after names groups zero start = start
reached_after names groups (suc places) start = visited names groups places (reached_after names groups places start)

-- the numbers of the groups that begin statements name, and that reached groups enter; each is visited, since each is new only once
abbrev pub reached_groups : List (List ℕ) → Program → List ℕ
reached_groups names program =
    reached_after names program.groups (length program.groups) (with_uses names [] (begin_uses program.begins))

abbrev pub is_reached : List ℕ → Option ℕ → Bool
is_reached reached None = false
is_reached reached (Some number) = list_any (nat_eq number) reached

-- W04: groups that are not reached, and whose names are not among others
abbrev pub unreached_group : List (List ℕ) → List ℕ → List (List ℕ) → GroupDef → List Warning
unreached_group names reached others group =
    if is_reached reached (place_in names group.name) || is_named others group.name
    then []
    else record { line = group.line; kind = kind.GroupNeverEntered group.name } ∷ []

abbrev pub unreached_groups : List (List ℕ) → List ℕ → List (List ℕ) → List GroupDef → List Warning
unreached_groups names reached others groups = flat_map (unreached_group names reached others) groups

abbrev pub unentered : List (List ℕ) → List (List ℕ) → Program → List Warning
unentered names others program = unreached_groups names (reached_groups names program) others program.groups

abbrev pub groups_never_entered : Program → List (List ℕ) → List Warning
groups_never_entered program aside = unentered (group_names program.groups) aside program
