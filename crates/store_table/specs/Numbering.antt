-- The numbers of a program's names in its file, as far as there are numbers.
use Rattle.std.specs.Prelude.{ℕ, ◌+◌, ◌^◌, nat_lt, nat_le, if◌then◌else◌, List, [], ◌∷◌, length, map, take, Option, None, Some, option_map, Result}
use Rattle.kmn_base.specs.declared.limits.TheConstants.{KEY_NAMES}
use Rattle.kmn_base.specs.declared.refusals.Refusal.{Refusal}
use Rattle.virtual_keys.specs.Dictionary.{place_in, with_name}
use Rattle.rule_model.specs.declared.program.SrcItem.{SrcItem}
use Rattle.rule_model.specs.declared.program.Program.{Program}
use Rattle.rule_model.specs.declared.tables.Store.{Store}
use Rattle.rule_model.specs.Naming.{names_of, stores_of, mark_names, key_names}
use Rattle.store_table.specs.declared.appearing.Appeared.{Appeared}
use Rattle.store_table.specs.First.{or_refusal}
use Rattle.store_table.specs.Names.{group_names, names_refusal}

-- the names of a program, each list in the order of its numbers
pub record NameLists : Type 0 where
  pub stores : List (List ℕ)
  pub groups : List (List ℕ)
  pub marks : List (List ℕ)
  pub keys : List (List ℕ)

-- stores and groups in the order of the file, marks and key names by first appearance; of the key names, as many as have a code
unfoldable pub lists_of : Program → NameLists
lists_of program =
    record {
      stores = map (λ (store : Store). store.name) (stores_of program);
      groups = group_names program.groups;
      marks = (names_of program).marks;
      keys = take KEY_NAMES (names_of program).keys;
    }

-- the names of a program, or its first refusal for names
abbrev pub numbered : Program → Result NameLists Refusal
numbered program = or_refusal (lists_of program) (names_refusal program)

-- a number, if it is below a limit
abbrev pub below : ℕ → Option ℕ → Option ℕ
below limit None = None
below limit (Some number) = if nat_lt number limit then Some number else None

-- the number of a store or group: the index of the first with the name, if it has 32 bits
abbrev pub number_in : List (List ℕ) → List ℕ → Option ℕ
number_in names name = below (2 ^ 32) (place_in names name)

-- the number of the store with a name; a system store, whose name is empty here, is never found
abbrev pub named_store : List (List ℕ) → List ℕ → Option ℕ
named_store names [] = None
named_store names (byte ∷ name) = number_in names (byte ∷ name)

-- the number of a mark: its position from 1, if it has 16 bits
abbrev pub mark_in : List (List ℕ) → List ℕ → Option ℕ
mark_in marks name = below (2 ^ 16) (option_map (λ place. 1 + place) (place_in marks name))

-- lists with further names, each appended if no name of the list is the same; a list of keys, only while there is a code
abbrev pub with_marks : List (List ℕ) → List (List ℕ) → List (List ℕ)
with_marks marks [] = marks
with_marks marks (name ∷ names) = with_marks (with_name marks name) names

abbrev pub with_key : List (List ℕ) → List ℕ → List (List ℕ)
with_key keys name = if nat_le KEY_NAMES (length keys) then keys else with_name keys name

abbrev pub with_keys : List (List ℕ) → List (List ℕ) → List (List ℕ)
with_keys keys [] = keys
with_keys keys (name ∷ names) = with_keys (with_key keys name) names

-- no names have appeared
abbrev pub none_appeared : Appeared
none_appeared = record { marks = []; keys = [] }

-- the names that appeared, with the names of further items
abbrev pub with_item : Appeared → SrcItem → Appeared
with_item appeared item =
    record { marks = with_marks appeared.marks (mark_names item); keys = with_keys appeared.keys (key_names item) }

abbrev pub with_items : Appeared → List SrcItem → Appeared
with_items appeared [] = appeared
with_items appeared (item ∷ items) = with_items (with_item appeared item) items
