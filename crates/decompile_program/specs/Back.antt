-- The program that tables decompile to, statement by statement, each on its own line.
use Rattle.std.specs.Prelude.{ℕ, ◌+◌, true, false, nat_eq, if◌then◌else◌, List, [], ◌∷◌, ◌++◌, length, drop, map, codes, Option, Some, None, unwrap_or, slice_get}
use Rattle.std.specs.List.{range_with_len}
use Rattle.std.specs.Fmt.{decimal}
use Rattle.kmn_base.specs.declared.keys.TheConstants.{VIRTUAL_KEY}
use Rattle.rule_model.specs.declared.system.TheConstants.{NO_GROUP}
use Rattle.rule_model.specs.declared.program.SrcItem.{SrcItem}
use Rattle.rule_model.specs.declared.program.SrcItem.TheVariants as source
use Rattle.rule_model.specs.declared.program.StoreDef.{StoreDef}
use Rattle.rule_model.specs.declared.program.RuleKind.{RuleKind}
use Rattle.rule_model.specs.declared.program.RuleKind.TheVariants.{Plain, OnMatch, OnNoMatch}
use Rattle.rule_model.specs.declared.program.RuleDef.{RuleDef}
use Rattle.rule_model.specs.declared.program.GroupDef.{GroupDef}
use Rattle.rule_model.specs.declared.program.BeginDef.{BeginDef}
use Rattle.rule_model.specs.declared.program.Program.{Program}
use Rattle.rule_model.specs.declared.tables.Out.{Out}
use Rattle.rule_model.specs.declared.tables.Rule.{Rule}
use Rattle.rule_model.specs.declared.tables.Store.{Store}
use Rattle.rule_model.specs.declared.tables.Group.{Group}
use Rattle.rule_model.specs.declared.tables.Tables.{Tables}
use Rattle.rule_model.specs.Tab.{tab_dictionary}
use Rattle.kmx_format.specs.Versions.{version_text}
use Rattle.decompile_program.specs.Names.{named_stores, free_names, store_names, group_names}
use Rattle.decompile_program.specs.Marks.{greatest_mark}
use Rattle.decompile_program.specs.Items.{Names, group_called, back_element, back_pattern, back_output, back_key, some_items}
use Rattle.rule_model.specs.declared.system.TheConstants.{VERSION}

abbrev pub back_rule : Names → ℕ → Rule → RuleDef
back_rule names line rule = record {
  line = line;
  kind = Plain;
  context = map (back_pattern names) rule.context;
  key = back_key names rule.key;
  output = some_items (map (back_output names) rule.output);
}

-- the rules for records, from a line on
abbrev pub back_rules : Names → ℕ → List Rule → List RuleDef
back_rules names line [] = []
back_rules names line (rule ∷ rules) = back_rule names line rule ∷ back_rules names (line + 1) rules

-- the match or nomatch statement for an output, or no statement if the output is empty
abbrev pub back_statement : Names → RuleKind → ℕ → List Out → List RuleDef
back_statement names kind line [] = []
back_statement names kind line (o ∷ os) = record { line = line; kind = kind; context = []; key = None; output = map (back_output names) (o ∷ os) } ∷ []

-- the lines of these statements, given the line of their group
abbrev pub match_line : ℕ → Group → ℕ
match_line line group = line + 1 + length group.rules

abbrev pub nomatch_line : Names → ℕ → Group → ℕ
nomatch_line names line group = match_line line group + length (back_statement names OnMatch 0 group.on_match)

abbrev pub back_group : Names → ℕ → List ℕ → Group → GroupDef
back_group names line name group = record {
  line = line;
  name = name;
  using_keys = group.using_keys;
  rules = back_rules names (line + 1) group.rules
      ++ (back_statement names OnMatch (match_line line group) group.on_match ++ back_statement names OnNoMatch (nomatch_line names line group) group.on_nomatch);
}

-- the groups of the program under the given names, from a line on
abbrev pub back_groups : Names → ℕ → List (List ℕ) → List Group → List GroupDef
back_groups names line called [] = []
back_groups names line called (group ∷ groups) =
    let back : GroupDef = back_group names line (unwrap_or (slice_get called 0) []) group in
    back ∷ back_groups names (line + 1 + length back.rules) (drop 1 called) groups

-- the stores of the program under the given names, from a line on, without the omitted ones
abbrev pub back_stores : Names → ℕ → List (Option (List ℕ)) → List Store → List StoreDef
back_stores names line [] stores = []
back_stores names line (called ∷ calls) [] = []
back_stores names line (None ∷ calls) (store ∷ stores) = back_stores names line calls stores
back_stores names line (Some name ∷ calls) (store ∷ stores) =
    record { line = line; system = store.system; name = name; items = map (back_element names) store.elements } ∷ back_stores names (line + 1) calls stores

-- store statements that lack only their line, from a line on
abbrev pub numbered : ℕ → List (ℕ → StoreDef) → List StoreDef
numbered line [] = []
numbered line (store ∷ stores) = store line ∷ numbered (line + 1) stores

-- a store of the deadkeys up to a number, if there are any: it makes the program number them as the file does
abbrev pub stated_marks : List ℕ → ℕ → ℕ → StoreDef
stated_marks name count line = record { line = line; system = 0; name = name; items = map (λ m. source.Dead (decimal m)) (range_with_len 1 count) }

abbrev pub mark_store : List ℕ → ℕ → List (ℕ → StoreDef)
mark_store name count = if nat_eq count 0 then [] else stated_marks name count ∷ []

-- a store of the dictionary's keys, if there are any
abbrev pub stated_key : List ℕ → SrcItem
stated_key name = source.Key (record { flags = VIRTUAL_KEY; code = 0; name = name })

abbrev pub stated_keys : List ℕ → List (List ℕ) → ℕ → StoreDef
stated_keys name keys line = record { line = line; system = 0; name = name; items = map stated_key keys }

abbrev pub key_store : List ℕ → List (List ℕ) → List (ℕ → StoreDef)
key_store name [] = []
key_store name (key ∷ keys) = stated_keys name (key ∷ keys) ∷ []

abbrev pub version_store : ℕ → ℕ → StoreDef
version_store version line = record { line = line; system = VERSION; name = []; items = map source.Char (version_text version) }

-- the begin statements, from a line on
abbrev pub back_begins : Names → ℕ → Tables → List BeginDef
back_begins names line tables =
    record { line = line; unicode = true; group = group_called names tables.start_unicode }
    ∷ (if nat_eq tables.start_ansi NO_GROUP then [] else record { line = line + 1; unicode = false; group = group_called names tables.start_ansi } ∷ [])

-- the free names for stores: the first are for the stores of deadkeys and keys
abbrev pub free_stores : Tables → List (List ℕ)
free_stores tables = free_names (codes "s") (map (λ (store : Store). store.name) tables.stores) (length tables.stores + 2)

abbrev pub mark_stores : Tables → List (ℕ → StoreDef)
mark_stores tables = mark_store (unwrap_or (slice_get (free_stores tables) 0) []) (greatest_mark tables)

abbrev pub key_stores : Tables → List (ℕ → StoreDef)
key_stores tables = key_store (unwrap_or (slice_get (free_stores tables) (length (mark_stores tables))) []) (tab_dictionary tables.stores)

-- the stores that precede those of the file: the version, the deadkeys, the keys
abbrev pub front_stores : Tables → List (ℕ → StoreDef)
front_stores tables = version_store tables.version ∷ (mark_stores tables ++ key_stores tables)

-- the names of the stores, groups and keys of tables in the text
abbrev pub names_for : Tables → Names
names_for tables = record {
  stores = store_names (named_stores tables) (drop (length (mark_stores tables ++ key_stores tables)) (free_stores tables)) [] 0 tables.stores;
  groups = group_names (free_names (codes "g") (map (λ (group : Group). group.name) tables.groups) (length tables.groups)) [] tables.groups;
  keys = tab_dictionary tables.stores;
  elements = tables.stores;
}

-- all stores of the text
abbrev pub written_stores : Tables → List StoreDef
written_stores tables = numbered 1 (front_stores tables) ++ back_stores (names_for tables) (1 + length (front_stores tables)) (names_for tables).stores tables.stores

-- the begin statements after the stores
abbrev pub written_begins : Tables → List BeginDef
written_begins tables = back_begins (names_for tables) (1 + length (written_stores tables)) tables

-- the groups after the begin statements
abbrev pub written_groups : Tables → List GroupDef
written_groups tables =
    back_groups (names_for tables) (1 + length (written_stores tables) + length (written_begins tables)) (names_for tables).groups tables.groups

-- the program that tables decompile to
unfoldable pub back : Tables → Program
back tables = record { stores = written_stores tables; begins = written_begins tables; groups = written_groups tables }
