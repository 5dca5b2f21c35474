-- All names of a text.
use Rattle.std.specs.Prelude.{List, ℕ, [], length, map, codes}
use Rattle.rule_model.specs.declared.tables.Group.{Group}
use Rattle.rule_model.specs.declared.tables.Tables.{Tables}
use Rattle.rule_model.specs.Tab.{tab_dictionary}
use Rattle.decompile_program.specs.Items.{Names}
use Rattle.decompile_program.specs.Names.{named_stores, store_names, group_names, free_names}

-- the names of a text, given the free names that are left for stores
abbrev pub called_by : Tables → (free : List (List ℕ)) → Names
called_by tables free = record {
  stores = store_names (named_stores tables) free [] 0 tables.stores;
  groups = group_names (free_names (codes "g") (map (λ (group : Group). group.name) tables.groups) (length tables.groups)) [] tables.groups;
  keys = tab_dictionary tables.stores;
  elements = tables.stores;
}
