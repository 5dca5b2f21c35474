-- W01 and W16: stores that are used nowhere, and system stores that are stated again.
use Rattle.std.specs.Prelude.{ℕ, nat_eq, Bool, not, ◌&&◌, if◌then◌else◌, List, [], ◌∷◌, ◌++◌}
use Rattle.std.specs.Ordering.{nat_cmp}
use Rattle.std.specs.BTreeSet.{insert_key}
use Rattle.kmn_base.specs.Rising.{is_among}
use Rattle.rule_model.specs.declared.program.StoreDef.{StoreDef}
use Rattle.rule_model.specs.declared.program.Program.{Program}
use Rattle.rule_model.specs.Naming.{is_dropped}
use Rattle.source_uses.specs.declared.used.Part.TheVariants as part
use Rattle.source_uses.specs.declared.used.Role.TheVariants as role
use Rattle.source_uses.specs.Uses.{names_of, rule_uses, stated_stores, store_uses}
use Rattle.name_warnings.specs.declared.named.Concern.TheVariants as concern
use Rattle.name_warnings.specs.declared.warning.Warning.{Warning}
use Rattle.name_warnings.specs.declared.warning.WarningKind.TheVariants as kind
use Rattle.name_warnings.specs.Named.{lacking}

-- the names of the stores that statements use
abbrev pub used_names : Program → List (List ℕ)
used_names program = names_of (store_uses role.Store program.stores) ++ names_of (rule_uses role.Store part.Whole program)

-- W01: ordinary stores that no statement uses
abbrev pub unused_stores : Program → List (List ℕ) → List Warning
unused_stores program aside = lacking concern.UnusedStore (used_names program ++ aside) (stated_stores program.stores)

-- whether a statement is of a system store that is not read and dropped
abbrev pub is_supported_system : StoreDef → Bool
is_supported_system store = not (nat_eq store.system 0) && not (is_dropped store)

-- W16: statements of a system store that is among those stated before
abbrev pub second_system : List ℕ → StoreDef → List Warning
second_system before store =
    if is_supported_system store && is_among store.system before
    then record { line = store.line; kind = kind.SecondSystemStore } ∷ []
    else []

abbrev pub second_systems : List ℕ → List StoreDef → List Warning
second_systems before [] = []
second_systems before (store ∷ stores) = second_system before store ++ second_systems (insert_key nat_cmp before store.system) stores
