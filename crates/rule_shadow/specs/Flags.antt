-- Flags that mark which stores are options.
use Rattle.std.specs.Prelude.{◌≡◌, ℕ, ◌<◌, Bool, false, nat_eq, List, length, slice_get, unwrap_or}
use Rattle.std.specs.List.{list_any}
use Rattle.rule_model.specs.declared.tables.Tables.{Tables}
use Rattle.rule_model.specs.Tab.{tab_options}

-- the flag of each store is set exactly where some item uses the store as an option
abbrev pub AreOptionFlags : Tables → List Bool → Type 0
AreOptionFlags tables flags = (store : ℕ) → store < length tables.stores → unwrap_or (slice_get flags store) false ≡ list_any (nat_eq store) (tab_options tables)
