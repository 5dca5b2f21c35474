-- The text of tables, part by part.
use Rattle.std.specs.Prelude.{◌≡◌, ℕ, List, [], ◌++◌, length, unwrap_or, slice_get}
use Rattle.rule_model.specs.declared.tables.Tables.{Tables}
use Rattle.rule_model.specs.Tab.{tab_dictionary}
use Rattle.decompile_program.specs.Marks.{greatest_mark}
use Rattle.decompile_program.specs.Back.{names_for, free_stores, mark_stores}
use Rattle.decompile_text.specs.declared.writing.Front.{Front}
use Rattle.decompile_text.specs.Texts.{version_line, mark_line, key_line, stores_text, begins_text, groups_text}

-- the lines of the version, of the deadkeys and of the custom keys
abbrev pub front_text : Tables → List ℕ
front_text tables =
    version_line tables.version ++ (mark_line (unwrap_or (slice_get (free_stores tables) 0) []) (greatest_mark tables)
    ++ key_line (unwrap_or (slice_get (free_stores tables) (length (mark_stores tables))) []) (tab_dictionary tables.stores))

-- the text of tables: the front, followed by the stores of the file, the begin statements and the groups
unfoldable pub tables_text : Tables → List ℕ
tables_text tables =
    (front_text tables ++ stores_text (names_for tables) 0 tables.stores)
    ++ (begins_text (names_for tables) tables.start_unicode tables.start_ansi ++ groups_text (names_for tables) 0 tables.groups)

-- the content of the front stores of tables: their greatest deadkey and their dictionary
pub record IsFront (tables : Tables) (front : Front) : Type 0 where
  pub marks : front.marks ≡ greatest_mark tables
  pub keys : front.keys.items ≡ tab_dictionary tables.stores
