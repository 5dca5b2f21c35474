-- Programs and their tables played side by side by computation, and a program that satisfies the conditions of the law.
use Rattle.std.proofs.Common.{◌≡◌, ℕ, zero, suc, ◌<◌, true, List, [], ◌∷◌, ◌++◌, map, replicate, Option, Some, None, refl, sym, subst, arith, length, lit<}
use Rattle.std.specs.Prelude.{codes, slice_index_or}
use Rattle.std.specs.Char.{encode_utf8}
use Rattle.std.specs.Str.{chars, is_utf8}
use Rattle.virtual_keys.specs.Keys.{us_characters}
use Rattle.std.specs.List.Sorted.{IsSortedBy}
use Rattle.std.proofs.lemmas.List.Sorted.{IsPermutation-to_front, length_permutation}
use Rattle.kmn_base.specs.Lists.{without_last}
use Rattle.kmn_base.specs.declared.items.Item.{Item}
use Rattle.kmn_base.specs.declared.items.Item.TheVariants as item
use Rattle.kmn_base.specs.declared.items.Element.{Element}
use Rattle.kmn_base.specs.declared.items.Element.TheVariants as element
use Rattle.kmn_base.specs.declared.keys.RuleKey.TheVariants as key
use Rattle.kmn_base.specs.declared.events.Event.{Event}
use Rattle.kmn_base.specs.declared.events.Event.TheVariants as event
use Rattle.virtual_keys.specs.Fits.{key_fits, char_of_press}
use Rattle.kmn_base.specs.Names.{same_name}
use Rattle.virtual_keys.specs.Dictionary.{name_chars, code_in}
use Rattle.rule_model.specs.declared.program.SrcItem.{SrcItem}
use Rattle.rule_model.specs.declared.program.SrcItem.TheVariants as source
use Rattle.rule_model.specs.declared.program.StoreDef.{StoreDef}
use Rattle.rule_model.specs.declared.program.RuleDef.{RuleDef}
use Rattle.rule_model.specs.declared.program.RuleKind.TheVariants.{Plain}
use Rattle.rule_model.specs.declared.program.Program.{Program}
use Rattle.rule_model.specs.declared.tables.Pat.TheVariants as pattern
use Rattle.rule_model.specs.declared.tables.Out.TheVariants as output
use Rattle.rule_model.specs.declared.tables.Rule.{Rule}
use Rattle.rule_model.specs.declared.tables.Group.{Group}
use Rattle.rule_model.specs.declared.tables.Tables.{Tables}
use Rattle.rule_model.specs.Naming.{names_of, stores_of}
use Rattle.rule_model.specs.Src.{src, src_options, cased_keys}
use Rattle.rule_model.specs.Tab.{tab, tab_options, tab_dictionary}
use Rattle.rule_model.specs.KeyEvent.{after_key}
use Rattle.rule_model.specs.Enter.{by_default}
use Rattle.rule_model.specs.Event.{happening}
use Rattle.rule_model.specs.Trace.{Step, trace}
use Rattle.compile_laws.specs.Numbers.{values_of, numbers_of}
use Rattle.compile_laws.specs.Compiles.{Compiles, IsOrderedGroup, AreOrderedGroups, precedes, file_group}
use Rattle.compile_laws.specs.WellNamed.{IsWellNamed}
use Rattle.compile_laws.proofs.Whole.{meaning_kept}
use Rattle.compile_laws.specs.Ordered.{compiled_tables}
use Rattle.compile_laws.proofs.CompiledExamples.{store}

-- the visible part of each step: what it deleted and inserted, the items before the caret, and the current and saved values except those
-- of the system options
abbrev Seen : Type 0
Seen = ℕ × List ℕ × List Item × List (List Element) × List (Option (List Element))

abbrev seen : Step → Seen
seen step =
    (step.happened.outcome.delete, step.happened.inserted, step.happened.after.left, without_last 2 step.happened.after.current, without_last 2 step.happened.after.saved)

-- a program and its tables, played with the same events
played : Program → List Event → List Seen × List Seen
unfolding trace compiled_tables src src_options cased_keys names_of stores_of values_of tab tab_options tab_dictionary after_key happening by_default key_fits char_of_press same_name name_chars code_in us_characters chars encode_utf8
played p events = (map seen (trace (src p) events).done, map seen (trace (tab (compiled_tables p)) events).done)

abbrev both : List Seen → List Seen × List Seen
both steps = (steps, steps)

abbrev press : ℕ → Event
press code = event.Key (record { code = code; mods = 0 })

abbrev shift_press : ℕ → Event
shift_press code = event.Key (record { code = code; mods = 16 })

abbrev rule : ℕ → List SrcItem → SrcItem → List SrcItem → RuleDef
rule line context wanted output = record { line = line; kind = Plain; context = context; key = Some wanted; output = output }

abbrev program : List StoreDef → List RuleDef → Program
program stores rules =
    record {
      stores = stores;
      begins = record { line = 1; unicode = true; group = codes "main" } ∷ [];
      groups = record { line = 2; name = codes "MAIN"; using_keys = true; rules = rules } ∷ [];
    }

abbrev letters : List ℕ → List SrcItem
letters = map source.Char

abbrev virtual : ℕ → ℕ → SrcItem
virtual flags code = source.Key (record { flags = flags; code = code; name = [] })

-- the rule with the longer context is selected, though its line is later
longer_first :
    played (program [] (rule 3 [] (source.Char 99) (letters (codes "x")) ∷ rule 4 (letters (codes "a")) (source.Char 99) (letters (codes "y")) ∷ [])) (press 65 ∷ press 67 ∷ [])
    ≡ both ((0, codes "a", item.Char 97 ∷ [], [], []) ∷ (1, codes "y", item.Char 121 ∷ [], [], []) ∷ [])
unfolding played
longer_first = refl

-- an element that occurs twice counts at its first position
abbrev indexing : List ℕ → Program
indexing w =
    program (store 3 (codes "v") (letters (codes "aea")) ∷ store 4 (codes "w") (letters w) ∷ [])
    (rule 5 (source.Any (codes "v") ∷ []) (source.Char 49) (source.Index (codes "W") 1 ∷ []) ∷ [])

first_place_counts : played (indexing (codes "xyz")) (press 65 ∷ press 49 ∷ []) ≡ both ((0, codes "a", item.Char 97 ∷ [], [], []) ∷ (1, codes "x", item.Char 120 ∷ [], [], []) ∷ [])
unfolding played
first_place_counts = refl

past_the_end : played (indexing (codes "x")) (press 69 ∷ press 49 ∷ []) ≡ both ((0, codes "e", item.Char 101 ∷ [], [], []) ∷ (1, [], [], [], []) ∷ [])
unfolding played
past_the_end = refl

-- `any` as the key is each element of its store, and `index` at the key's offset uses the same position
abbrev along : List SrcItem → List ℕ → Program
along k o = program (store 1 (codes "k") k ∷ store 2 (codes "o") (letters o) ∷ []) (rule 5 [] (source.Any (codes "k")) (source.Index (codes "o") 1 ∷ []) ∷ [])

key_by_key :
    played (along (virtual 0x4000 65 ∷ virtual 0x4010 65 ∷ []) (codes "xy")) (press 65 ∷ shift_press 65 ∷ [])
    ≡ both ((0, codes "x", item.Char 120 ∷ [], [], []) ∷ (0, codes "y", item.Char 120 ∷ item.Char 121 ∷ [], [], []) ∷ [])
unfolding played
key_by_key = refl

key_records :
    map (λ (g : Group). g.rules) (compiled_tables (along (virtual 0x4000 65 ∷ virtual 0x4010 65 ∷ []) (codes "xy"))).groups
    ≡ (record { line = 5; place = 0; key = key.Virtual 0x4000 65; context = []; output = output.Char 120 ∷ [] }
    ∷ record { line = 5; place = 2; key = key.Virtual 0x4010 65; context = []; output = output.Char 121 ∷ [] }
    ∷ []) ∷ []
unfolding played
key_records = refl

key_twice : played (along (letters (codes "aba")) (codes "xyz")) (press 65 ∷ press 66 ∷ []) ≡ both ((0, codes "x", item.Char 120 ∷ [], [], []) ∷ (0, codes "y", item.Char 120 ∷ item.Char 121 ∷ [], [], []) ∷ [])
unfolding played
key_twice = refl

-- an event enters 50 groups
fifty_entries :
    played (program [] (rule 3 [] (source.Char 97) (source.Char 120 ∷ source.Enter (codes "main") ∷ []) ∷ [])) (press 65 ∷ [])
    ≡ both ((0, replicate 50 120, replicate 50 (item.Char 120), [], []) ∷ [])
unfolding played
fifty_entries = refl

-- a position is caught before the option changes, and its content is that of the state in which the item acts
caught_before :
    played
    (program (store 3 (codes "o") (letters (codes "ab")) ∷ [])
    (rule 4 (source.Equal (codes "O") (codes "ab") ∷ source.Any (codes "o") ∷ []) (source.Char 49) (source.Set (codes "o") (codes "ba") ∷ source.Index (codes "o") 2 ∷ []) ∷ []))
    (press 65 ∷ press 49 ∷ [])
    ≡ both
    ((0, codes "a", item.Char 97 ∷ [], map element.Char (codes "ab") ∷ [], None ∷ [])
    ∷ (1, codes "b", item.Char 98 ∷ [], map element.Char (codes "ba") ∷ [], None ∷ [])
    ∷ [])
unfolding played
caught_before = refl

-- options: conditions, `set`, `save`, `reset`, and a value from the host
abbrev switching : Program
switching =
    program (store 1 (codes "o") (letters (codes "0")) ∷ [])
    (rule 4 (source.Equal (codes "o") (codes "1") ∷ []) (source.Char 97) (letters (codes "x"))
    ∷ rule 5 [] (source.Char 97) (letters (codes "y"))
    ∷ rule 6 [] (source.Char 115) (source.Set (codes "o") (codes "1") ∷ [])
    ∷ rule 7 [] (source.Char 118) (source.Save (codes "o") ∷ [])
    ∷ rule 8 [] (source.Char 114) (source.Reset (codes "o") ∷ [])
    ∷ rule 9 [] (source.Char 122) (source.Set (codes "o") (codes "0") ∷ [])
    ∷ [])

abbrev switched : List ℕ → List Item → List ℕ → Option (List ℕ) → Seen
switched inserted left current None = (0, inserted, left, map element.Char current ∷ [], None ∷ [])
switched inserted left current (Some saved) = (0, inserted, left, map element.Char current ∷ [], Some (map element.Char saved) ∷ [])

switched_and_back :
    played switching
    (press 65 ∷ press 83 ∷ press 65 ∷ press 82 ∷ event.Setting (codes "O") (codes "1") ∷ press 90 ∷ press 82 ∷ press 65 ∷ press 90 ∷ press 86 ∷ [])
    ≡ (let y = item.Char 121 ∷ [] in
    let yx = item.Char 121 ∷ item.Char 120 ∷ [] in
    let yxx = item.Char 121 ∷ item.Char 120 ∷ item.Char 120 ∷ [] in
    both
    (switched (codes "y") y (codes "0") None
    ∷ switched [] y (codes "1") None
    ∷ switched (codes "x") yx (codes "1") None
    ∷ switched [] yx (codes "0") None
    ∷ switched [] yx (codes "1") (Some (codes "1"))
    ∷ switched [] yx (codes "0") (Some (codes "1"))
    ∷ switched [] yx (codes "1") (Some (codes "1"))
    ∷ switched (codes "x") yxx (codes "1") (Some (codes "1"))
    ∷ switched [] yxx (codes "0") (Some (codes "1"))
    ∷ switched [] yxx (codes "0") (Some (codes "0"))
    ∷ []))
unfolding played
switched_and_back = refl

-- each value has one store, after the stores of the statements
values_once :
    (compiled_tables switching).stores
    ≡ record { system = 0; name = codes "o"; elements = map element.Char (codes "0") }
    ∷ record { system = 0; name = []; elements = map element.Char (codes "1") }
    ∷ record { system = 0; name = []; elements = map element.Char (codes "0") }
    ∷ []
unfolding played
values_once = refl

-- a virtual key in a store is not equal to any item, and has no effect in `index` and `outs`
key_in_store :
    played
    (program (store 3 (codes "v") (letters (codes "ab")) ∷ store 4 (codes "m") (virtual 0x4000 65 ∷ letters (codes "zb")) ∷ [])
    (rule 5 (source.Any (codes "v") ∷ []) (source.Char 49) (source.Index (codes "m") 1 ∷ source.Char 113 ∷ source.Outs (codes "m") ∷ [])
    ∷ rule 6 (source.Any (codes "m") ∷ []) (source.Char 50) (source.Index (codes "v") 1 ∷ [])
    ∷ []))
    (press 65 ∷ press 49 ∷ press 90 ∷ press 50 ∷ [])
    ≡ both
    ((0, codes "a", item.Char 97 ∷ [], [], [])
    ∷ (1, codes "qzb", item.Char 113 ∷ item.Char 122 ∷ item.Char 98 ∷ [], [], [])
    ∷ (0, codes "z", item.Char 113 ∷ item.Char 122 ∷ item.Char 98 ∷ item.Char 122 ∷ [], [], [])
    ∷ (1, codes "b", item.Char 113 ∷ item.Char 122 ∷ item.Char 98 ∷ item.Char 98 ∷ [], [], [])
    ∷ [])
unfolding played
key_in_store = refl

-- names of the key dictionary are numbered by their first appearance, also in a dropped statement, and without case
abbrev named : List ℕ → SrcItem
named name = source.Key (record { flags = 0x4000; code = 0; name = name })

abbrev naming : Program
naming =
    program (record { line = 0; system = 0xFFFF; name = []; items = named (codes "T_B") ∷ [] } ∷ [])
    (rule 3 [] (named (codes "T_A")) (letters (codes "a"))
    ∷ rule 4 [] (named (codes "t_b")) (letters (codes "b"))
    ∷ rule 5 (source.Dead (codes "never") ∷ []) (named (codes "U_0043")) (source.Dead (codes "NEVER") ∷ [])
    ∷ [])

names_once :
    (compiled_tables naming).stores
    ≡ record { system = 34; name = []; elements = map element.Char (codes "T_B T_A U_0043") } ∷ []
unfolding played
names_once = refl

names_numbered : played naming (press 256 ∷ press 257 ∷ press 258 ∷ []) ≡ both
    ((0, codes "b", item.Char 98 ∷ [], [], [])
    ∷ (0, codes "a", item.Char 98 ∷ item.Char 97 ∷ [], [], [])
    ∷ (0, codes "C", item.Char 98 ∷ item.Char 97 ∷ item.Char 67 ∷ [], [], [])
    ∷ [])
unfolding played
names_numbered = refl

-- a program with an option, a key store, a key of the dictionary and a rule that has to move, and its whole tables
abbrev toggle : Program
toggle =
    program (store 1 (codes "o") (letters (codes "0")) ∷ store 2 (codes "k") (virtual 0x4000 65 ∷ source.Char 98 ∷ []) ∷ [])
    (rule 4 [] (source.Any (codes "k")) (source.Index (codes "k") 1 ∷ source.Set (codes "o") (codes "1") ∷ [])
    ∷ rule 5 (source.Equal (codes "o") (codes "1") ∷ []) (named (codes "T_X")) (source.Enter (codes "main") ∷ [])
    ∷ [])

abbrev toggle_tables : Tables
toggle_tables =
    record {
      version = 0x0A00;
      start_ansi = 0xFFFF_FFFF;
      start_unicode = 0;
      stores =
          record { system = 0; name = codes "o"; elements = element.Char 48 ∷ [] }
          ∷ record { system = 0; name = codes "k"; elements = element.Key 0x4000 65 ∷ element.Char 98 ∷ [] }
          ∷ record { system = 34; name = []; elements = map element.Char (codes "T_X") }
          ∷ record { system = 0; name = []; elements = element.Char 49 ∷ [] }
          ∷ [];
      groups =
          record {
            name = codes "MAIN";
            using_keys = true;
            rules =
                record { line = 5; place = 0; key = key.Virtual 0x4000 256; context = pattern.Equal 0 3 ∷ []; output = output.Enter 0 ∷ [] }
                ∷ record { line = 4; place = 0; key = key.Virtual 0x4000 65; context = []; output = output.Set 0 3 ∷ [] }
                ∷ record { line = 4; place = 2; key = key.Char 98; context = []; output = output.Char 98 ∷ output.Set 0 3 ∷ [] }
                ∷ [];
            on_match = [];
            on_nomatch = [];
          } ∷ [];
    }

toggle_named : IsWellNamed toggle
unfolding played is_utf8
toggle_named = record { start = refl; groups = refl; words = refl; stores = refl }

-- the records in the source's order, where the last one moves to the front
abbrev toggle_first : List Rule
toggle_first =
    record { line = 4; place = 0; key = key.Virtual 0x4000 65; context = []; output = output.Set 0 3 ∷ [] }
    ∷ record { line = 4; place = 2; key = key.Char 98; context = []; output = output.Char 98 ∷ output.Set 0 3 ∷ [] }
    ∷ []

abbrev toggle_last : Rule
toggle_last = record { line = 5; place = 0; key = key.Virtual 0x4000 256; context = pattern.Equal 0 3 ∷ []; output = output.Enter 0 ∷ [] }

abbrev toggle_groups : List Group
toggle_groups = record { name = codes "MAIN"; using_keys = true; rules = toggle_first ++ toggle_last ∷ []; on_match = []; on_nomatch = [] } ∷ []

toggle_expanded : map (file_group (numbers_of toggle)) toggle.groups ≡ toggle_groups
unfolding played
toggle_expanded = refl

toggle_sorted : IsSortedBy precedes (toggle_last ∷ toggle_first)
toggle_sorted zero d low less = refl
toggle_sorted (suc zero) d low less = refl
toggle_sorted (suc (suc k)) d low less = absurd (omega arith)

toggle_each : (k : ℕ) (group : Group) → k < 1 → IsOrderedGroup (slice_index_or toggle_groups k group) (slice_index_or toggle_tables.groups k group)
toggle_each zero group less =
    record { name = refl; using_keys = refl; records = IsPermutation-to_front toggle_first toggle_last; in_order = toggle_sorted; on_match = refl; on_nomatch = refl }
toggle_each (suc k) group less = absurd (omega arith)

toggle_compiles : Compiles toggle toggle_tables
unfolding played
toggle_compiles =
    record {
      version = refl;
      start_ansi = refl;
      start_unicode = refl;
      stores = refl;
      groups = subst (λ groups. AreOrderedGroups groups toggle_tables.groups) (sym toggle_expanded) (record { count = refl; each = toggle_each });
    }

-- so its meaning is kept for all events
toggle_kept : (events : List Event) → trace (src toggle) events ≡ trace (tab toggle_tables) events
toggle_kept = meaning_kept toggle toggle_tables toggle_named toggle_compiles

-- an ordered group has as many records as the group that it orders
same_count : (expanded group : Group) → IsOrderedGroup expanded group → length group.rules ≡ length expanded.rules
same_count expanded group is = length_permutation expanded.rules group.rules is.records

abbrev toggle_with : List Rule → Tables
toggle_with rules = record toggle_tables { groups = record { name = codes "MAIN"; using_keys = true; rules = rules; on_match = []; on_nomatch = [] } ∷ [] }

abbrev any_group : Group
any_group = record { name = []; using_keys = true; rules = []; on_match = []; on_nomatch = [] }

-- tables that lack a record are not the tables that the program compiles to
dropped_record : Compiles toggle (toggle_with (toggle_last ∷ [])) → ⊥
unfolding played
dropped_record is = let count : ◌≡◌ {A = ℕ} 1 3 = same_count _ _ (is.groups.each 0 any_group (lit< tt)) in omega arith

-- tables that have a record twice are not the tables that the program compiles to
doubled_record : Compiles toggle (toggle_with (toggle_last ∷ toggle_last ∷ toggle_first)) → ⊥
unfolding played
doubled_record is = let count : ◌≡◌ {A = ℕ} 4 3 = same_count _ _ (is.groups.each 0 any_group (lit< tt)) in omega arith
