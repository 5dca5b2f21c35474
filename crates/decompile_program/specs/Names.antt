-- The names of stores and groups in a decompiled text: their own names if these can be kept, otherwise the next free names.
use Rattle.std.specs.Prelude.{ℕ, ◌+◌, Bool, not, nat_eq, ◌&&◌, if◌then◌else◌, List, [], ◌∷◌, ◌++◌, length, take, drop, map, filter, flat_map, Option, Some, None, unwrap_or, slice_get}
use Rattle.std.specs.List.{list_any, range_with_len}
use Rattle.std.specs.Fmt.{decimal}
use Rattle.kmn_base.specs.Names.{same_name}
use Rattle.kmn_items.specs.Words.{is_system_name}
use Rattle.rule_model.specs.declared.system.TheConstants.{BITMAP, MNEMONIC_LAYOUT}
use Rattle.rule_model.specs.declared.tables.Pat.{Pat}
use Rattle.rule_model.specs.declared.tables.Pat.TheVariants as pattern
use Rattle.rule_model.specs.declared.tables.Out.{Out}
use Rattle.rule_model.specs.declared.tables.Out.TheVariants as output
use Rattle.rule_model.specs.declared.tables.Rule.{Rule}
use Rattle.rule_model.specs.declared.tables.Store.{Store}
use Rattle.rule_model.specs.declared.tables.Group.{Group}
use Rattle.rule_model.specs.declared.tables.Tables.{Tables}
use Rattle.kmn_parser.specs.Names.{is_source_name}

-- the stores that an item of a context names, except as a value
abbrev pub named_by_pattern : Pat → List ℕ
named_by_pattern (pattern.Any s) = s ∷ []
named_by_pattern (pattern.NotAny s) = s ∷ []
named_by_pattern (pattern.Index s offset) = s ∷ []
named_by_pattern (pattern.Equal s value) = s ∷ []
named_by_pattern (pattern.Unequal s value) = s ∷ []
named_by_pattern p = []

-- the stores that an item of an output names, except as a value
abbrev pub named_by_output : Out → List ℕ
named_by_output (output.Index s offset) = s ∷ []
named_by_output (output.Set s value) = s ∷ []
named_by_output (output.Save s) = s ∷ []
named_by_output (output.Reset s) = s ∷ []
named_by_output o = []

abbrev pub named_by_rule : Rule → List ℕ
named_by_rule rule = flat_map named_by_pattern rule.context ++ flat_map named_by_output rule.output

abbrev pub named_by_group : Group → List ℕ
named_by_group group = flat_map named_by_rule group.rules ++ (flat_map named_by_output group.on_match ++ flat_map named_by_output group.on_nomatch)

-- the stores that some item of tables names, except as a value
unfoldable pub named_stores : Tables → List ℕ
named_stores tables = flat_map named_by_group tables.groups

-- the system stores that are written: all that a source can state except `&version`
abbrev pub written_ids : List ℕ
written_ids = BITMAP ∷ 2 ∷ 3 ∷ 6 ∷ 7 ∷ MNEMONIC_LAYOUT ∷ 24 ∷ 35 ∷ 36 ∷ 38 ∷ []

-- whether the store of a number is written: it is an ordinary store that is named, or one of those system stores
abbrev pub is_written : List ℕ → ℕ → Store → Bool
is_written named n store = if nat_eq store.system 0 then list_any (nat_eq n) named else list_any (nat_eq store.system) written_ids

-- a letter followed by a number
abbrev pub numbered_name : List ℕ → ℕ → List ℕ
numbered_name letter n = letter ++ decimal n

-- whether a name differs from all taken names
abbrev pub is_free : List (List ℕ) → List ℕ → Bool
is_free taken name = not (list_any (same_name name) taken)

-- the first `count` names of a letter and a number, from 1 on, that are not taken
unfoldable pub free_names : List ℕ → List (List ℕ) → ℕ → List (List ℕ)
free_names letter taken count = take count (filter (is_free taken) (map (numbered_name letter) (range_with_len 1 (count + length taken))))

-- whether a name can be kept after the earlier names
abbrev pub keeps_name : List (List ℕ) → List ℕ → Bool
keeps_name earlier name = is_source_name name && is_free earlier name

-- whether a store's name can be kept after the names of the earlier stores
abbrev pub keeps_store_name : List (List ℕ) → List ℕ → Bool
keeps_store_name earlier name = not (is_system_name name) && keeps_name earlier name

-- the names of stores from a number on: None for a store that is omitted, an empty name for a system store
abbrev pub store_names : List ℕ → List (List ℕ) → List (List ℕ) → ℕ → List Store → List (Option (List ℕ))
store_names named free earlier n [] = []
store_names named free earlier n (store ∷ stores) =
    if not (is_written named n store) then None ∷ store_names named free earlier (n + 1) stores
    else if not (nat_eq store.system 0) then Some [] ∷ store_names named free earlier (n + 1) stores
    else if keeps_store_name earlier store.name then Some store.name ∷ store_names named free (earlier ++ store.name ∷ []) (n + 1) stores
    else Some (unwrap_or (slice_get free 0) []) ∷ store_names named (drop 1 free) (earlier ++ store.name ∷ []) (n + 1) stores

-- the names of groups, given the free names and the earlier names
abbrev pub group_names : List (List ℕ) → List (List ℕ) → List Group → List (List ℕ)
group_names free earlier [] = []
group_names free earlier (group ∷ groups) =
    if keeps_name earlier group.name then group.name ∷ group_names free (earlier ++ group.name ∷ []) groups
    else unwrap_or (slice_get free 0) [] ∷ group_names (drop 1 free) (earlier ++ group.name ∷ []) groups
