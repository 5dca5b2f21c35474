-- The picture that a program names.
use Rattle.std.specs.Prelude.{ℕ, Bool, nat_eq, if◌then◌else◌, List, length, find, filter_map, Option, Some, None, encode_utf8_all}
use Rattle.kmn_base.specs.declared.items.Element.{Element}
use Rattle.rule_model.specs.declared.program.Program.{Program}
use Rattle.rule_model.specs.declared.tables.Store.{Store}
use Rattle.rule_model.specs.Naming.{stores_of}
use Rattle.rule_model.specs.Tab.{element_char, store_elements}
use Rattle.rule_model.specs.declared.system.TheConstants.{BITMAP}

-- whether a store is `&bitmap`
abbrev pub is_bitmap : Store → Bool
is_bitmap store = nat_eq store.system BITMAP

-- the text of the characters among elements, if there are elements
abbrev pub picture_text : List Element → Option (List ℕ)
picture_text elements = if nat_eq (length elements) 0 then None else Some (encode_utf8_all (filter_map element_char elements))

-- the name of a program's picture: the text of its first `&bitmap`, if any, with `outs` and `$` replaced by elements
unfoldable pub picture_name : Program → Option (List ℕ)
picture_name program = picture_text (store_elements (find is_bitmap (stores_of program)))
