-- The keyboard that the tables of a compiled keyboard define.
use Rattle.std.specs.Prelude.{ℕ, ◌+◌, Bool, false, not, nat_eq, if◌then◌else◌, List, [], ◌∷◌, ◌++◌, length, map, flat_map, filter, find, filter_map, Option, Some, None, slice_get, encode_utf8_all}
use Rattle.std.specs.List.{list_any, slice_split}
use Rattle.kmn_base.specs.declared.items.Element.{Element}
use Rattle.kmn_base.specs.declared.items.Element.TheVariants as element
use Rattle.kmn_base.specs.declared.keys.RuleKey.TheVariants as key
use Rattle.kmn_base.specs.Names.{same_name}
use Rattle.rule_model.specs.declared.tables.Pat.{Pat}
use Rattle.rule_model.specs.declared.tables.Pat.TheVariants as pattern
use Rattle.rule_model.specs.declared.tables.Out.{Out}
use Rattle.rule_model.specs.declared.tables.Out.TheVariants as output
use Rattle.rule_model.specs.declared.tables.Rule.{Rule}
use Rattle.rule_model.specs.declared.tables.Store.{Store}
use Rattle.rule_model.specs.declared.tables.Group.{Group}
use Rattle.rule_model.specs.declared.tables.Tables.{Tables}
use Rattle.rule_model.specs.System.{system_ref, system_options}
use Rattle.rule_model.specs.Keyboard.{Numbered, Pattern, IsChar, IsMark, IsAny, IsNotAny, IsIndex, IsContextAt, IfEqual, IfUnequal, AtStart, Output, PutChar, PutMark, PutIndex, PutContext, PutContextAt, UseGroup, SetOption, SaveOption, ResetOption, MakeBeep, DoNothing, StopEvent, OneKey, RuleMeaning, GroupMeaning, StoreMeaning, Keyboard, First}
use Rattle.rule_model.specs.declared.system.TheConstants.{KEY_DICTIONARY}

-- the elements of the store with a number, or none if there is no such store
abbrev pub store_elements : Option Store → List Element
store_elements None = []
store_elements (Some store) = store.elements

abbrev pub elements_of : List Store → ℕ → List Element
elements_of stores n = store_elements (slice_get stores n)

-- the pattern of a compiled context item; a value is the elements of its value store
abbrev pub tab_pattern : List Store → Pat → Pattern
tab_pattern stores (pattern.Char c) = IsChar c
tab_pattern stores (pattern.Mark m) = IsMark m
tab_pattern stores (pattern.Any s) = IsAny (Numbered s)
tab_pattern stores (pattern.NotAny s) = IsNotAny (Numbered s)
tab_pattern stores (pattern.Index s offset) = IsIndex (Numbered s) offset
tab_pattern stores (pattern.ContextAt offset) = IsContextAt offset
tab_pattern stores (pattern.Equal s value) = IfEqual (Numbered s) (elements_of stores value)
tab_pattern stores (pattern.Unequal s value) = IfUnequal (Numbered s) (elements_of stores value)
tab_pattern stores (pattern.SystemEqual id value) = IfEqual (system_ref id) (elements_of stores value)
tab_pattern stores (pattern.SystemUnequal id value) = IfUnequal (system_ref id) (elements_of stores value)
tab_pattern stores pattern.Nul = AtStart

-- an item of a compiled output
abbrev pub tab_output : List Store → Out → Output
tab_output stores (output.Char c) = PutChar c
tab_output stores (output.Mark m) = PutMark m
tab_output stores (output.Index s offset) = PutIndex (Numbered s) offset
tab_output stores output.Context = PutContext
tab_output stores (output.ContextAt offset) = PutContextAt offset
tab_output stores (output.Enter g) = UseGroup (Numbered g)
tab_output stores (output.Set s value) = SetOption (Numbered s) (elements_of stores value)
tab_output stores (output.SetSystem id value) = SetOption (system_ref id) (elements_of stores value)
tab_output stores (output.Save s) = SaveOption (Numbered s)
tab_output stores (output.Reset s) = ResetOption (Numbered s)
tab_output stores output.Nul = DoNothing
tab_output stores output.Beep = MakeBeep
tab_output stores output.Stop = StopEvent

-- the rule of a record; in a group without keys its key fits every press, and its position is never used
abbrev pub tab_rule : List Store → Bool → Rule → RuleMeaning
tab_rule stores using_keys rule =
    record {
      line = rule.line;
      context = map (tab_pattern stores) rule.context;
      key = OneKey (if using_keys then rule.key else key.Any);
      output = map (tab_output stores) rule.output;
    }

-- an output of a group; it is absent if it has no items
abbrev pub output_if_any : List Output → Option (List Output)
output_if_any [] = None
output_if_any (o ∷ os) = Some (o ∷ os)

abbrev pub tab_group : List Store → Group → GroupMeaning
tab_group stores group =
    record {
      name = group.name;
      using_keys = group.using_keys;
      rules = map (tab_rule stores group.using_keys) group.rules;
      on_match = output_if_any (map (tab_output stores) group.on_match);
      on_nomatch = output_if_any (map (tab_output stores) group.on_nomatch);
    }

-- the stores that the items of contexts and of outputs use as options
abbrev pub pattern_options : Pat → List ℕ
pattern_options (pattern.Equal s value) = s ∷ []
pattern_options (pattern.Unequal s value) = s ∷ []
pattern_options p = []

abbrev pub output_options : Out → List ℕ
output_options (output.Set s value) = s ∷ []
output_options (output.Save s) = s ∷ []
output_options (output.Reset s) = s ∷ []
output_options o = []

abbrev pub rule_options : Rule → List ℕ
rule_options rule = flat_map pattern_options rule.context ++ flat_map output_options rule.output

abbrev pub group_options : Group → List ℕ
group_options group =
    flat_map rule_options group.rules ++ (flat_map output_options group.on_match ++ flat_map output_options group.on_nomatch)

unfoldable pub tab_options : Tables → List ℕ
tab_options tables = flat_map group_options tables.groups

-- the stores, numbered from this number on; the stores with a listed number are options
abbrev pub with_options : List ℕ → ℕ → List Store → List StoreMeaning
with_options options n [] = []
with_options options n (store ∷ stores) =
    record { name = store.name; elements = store.elements; is_option = list_any (nat_eq n) options; is_system = false } ∷ with_options options (n + 1) stores

-- the items of a list that differ from all earlier ones, appended to those seen
abbrev pub distinct_onto : {X : Type 0} → (X → X → Bool) → List X → List X → List X
distinct_onto same seen [] = seen
distinct_onto same seen (x ∷ xs) = distinct_onto same (if list_any (λ y. same y x) seen then seen else seen ++ x ∷ []) xs

-- the characters among elements
abbrev pub element_char : Element → Option ℕ
element_char (element.Char c) = Some c
element_char e = None

-- the words of a text, which spaces separate, without empty words
abbrev pub words : List ℕ → List (List ℕ)
words text = filter (λ word. not (nat_eq (length word) 0)) (slice_split (nat_eq 32) text)

-- whether a store is the key dictionary
abbrev pub is_dictionary : Store → Bool
is_dictionary store = nat_eq store.system KEY_DICTIONARY

-- the names of the key dictionary: the distinct words of its store's characters
unfoldable pub tab_dictionary : List Store → List (List ℕ)
tab_dictionary stores =
    distinct_onto same_name [] (words (encode_utf8_all (filter_map element_char (store_elements (find is_dictionary stores)))))

-- the keyboard of tables: the first record that holds is selected
unfoldable pub tab : Tables → Keyboard
tab tables =
    record {
      start = Numbered tables.start_unicode;
      stores = with_options (tab_options tables) 0 tables.stores ++ system_options;
      groups = map (tab_group tables.stores) tables.groups;
      dictionary = tab_dictionary tables.stores;
      cased = [];
      choice = First;
    }
