-- The causes why no source can express a file's tables: a key, an element, an item, a context or a store has no spelling.
use Rattle.std.specs.Prelude.{ℕ, Bool, false, not, ◌&&◌, ◌||◌, ◌==◌, nat_eq, nat_lt, bit_and, List, [], ◌∷◌, ◌++◌, length, filter, filter_map, Option, Some, None, position, slice_get}
use Rattle.std.specs.List.{list_any, list_all}
use Rattle.std.specs.Str.{byte, bytes_eq, encode_utf8_all, is_utf8}
use Rattle.kmn_base.specs.declared.keys.TheConstants.{SHIFT_FLAGS}
use Rattle.kmn_base.specs.declared.limits.TheConstants.{DEADKEYS}
use Rattle.kmn_base.specs.declared.items.Element.{Element}
use Rattle.kmn_base.specs.declared.items.Element.TheVariants as element
use Rattle.kmn_base.specs.declared.keys.RuleKey.{RuleKey}
use Rattle.kmn_base.specs.declared.keys.RuleKey.TheVariants as key
use Rattle.kmn_base.specs.Names.{same_name}
use Rattle.virtual_keys.specs.Dictionary.{is_nameable}
use Rattle.kmn_items.specs.Words.{is_own_key}
use Rattle.rule_model.specs.declared.tables.Pat.{Pat}
use Rattle.rule_model.specs.declared.tables.Pat.TheVariants as pattern
use Rattle.rule_model.specs.declared.tables.Out.{Out}
use Rattle.rule_model.specs.declared.tables.Out.TheVariants as output
use Rattle.rule_model.specs.declared.tables.Store.{Store}
use Rattle.rule_model.specs.Tab.{elements_of, element_char, words, is_dictionary}
use Rattle.rule_model.specs.Patterns.{is_matched, is_nul}
use Rattle.item_checker.specs.Items.{is_no_character, is_layout_text}
use Rattle.kmn_parser.specs.Names.{is_inner, is_source_name}
use Rattle.decompile_program.specs.Items.{Names, store_called}
use Rattle.decompile_program.specs.Names.{named_by_pattern, named_by_output}
use Rattle.decompile_program.specs.WrittenOut.{pattern_values, output_values, has_key_name}
use Rattle.rule_model.specs.declared.system.TheConstants.{BITMAP, MNEMONIC_LAYOUT}

-- whether the number of a deadkey is larger than a source can have
abbrev pub is_far_mark : ℕ → Bool
is_far_mark mark = nat_lt DEADKEYS mark

-- whether an element has no spelling: a far deadkey, or a virtual key without a name or with flags that a source cannot express
abbrev pub is_unspelled_element : Names → Element → Bool
is_unspelled_element names (element.Char c) = false
is_unspelled_element names (element.Mark mark) = is_far_mark mark
is_unspelled_element names (element.Key flags code) = not (has_key_name names.keys code) || not (nat_eq (bit_and flags SHIFT_FLAGS) flags)

-- whether the key of a record has no spelling: a unit that is not a character of a keyboard, or a virtual key without a name
abbrev pub is_unspelled_key : Names → RuleKey → Bool
is_unspelled_key names key.Any = false
is_unspelled_key names (key.Char unit) = not (is_nameable unit)
is_unspelled_key names (key.Virtual flags code) = not (has_key_name names.keys code)

-- whether a store has a system id
abbrev pub is_system_store : Option Store → Bool
is_system_store None = false
is_system_store (Some store) = not (nat_eq store.system 0)

-- whether one of the stores with these numbers, which an item names other than as values, has a system id
abbrev pub names_system_store : Names → List ℕ → Bool
names_system_store names numbers = list_any (λ n. is_system_store (slice_get names.elements n)) numbers

-- whether both kinds of quote are among characters
abbrev pub have_both_quotes : List ℕ → Bool
have_both_quotes characters = list_any (λ c. c == byte "\"") characters && list_any (λ c. c == byte "'") characters

-- whether the elements of a value have no spelling: one is not a character, one ends a line, or both kinds of quote are among them
abbrev pub is_unspelled_value : List Element → Bool
is_unspelled_value elements =
    list_any is_no_character elements
    || (not (list_all is_inner (filter_map element_char elements)) || have_both_quotes (filter_map element_char elements))

-- whether one of the stores with these numbers is a value without a spelling
abbrev pub has_unspelled_value : Names → List ℕ → Bool
has_unspelled_value names numbers = list_any (λ n. is_unspelled_value (elements_of names.elements n)) numbers

-- whether an item of a context or an output has no spelling: a far deadkey, a named system store, or a value without a spelling
abbrev pub is_far_pattern : Pat → Bool
is_far_pattern (pattern.Mark mark) = is_far_mark mark
is_far_pattern other = false

abbrev pub is_unspelled_pattern : Names → Pat → Bool
is_unspelled_pattern names item =
    is_far_pattern item || (names_system_store names (named_by_pattern item) || has_unspelled_value names (pattern_values item))

abbrev pub is_far_output : Out → Bool
is_far_output (output.Mark mark) = is_far_mark mark
is_far_output other = false

abbrev pub is_unspelled_output : Names → Out → Bool
is_unspelled_output names item =
    is_far_output item || (names_system_store names (named_by_output item) || has_unspelled_value names (output_values item))

-- whether a condition or `nul` follows an item that is matched; the first argument states whether an earlier item was matched
abbrev pub stands_behind_match : Bool → List Pat → Bool
stands_behind_match matched [] = false
stands_behind_match matched (item ∷ items) =
    (matched && not (is_matched item)) || stands_behind_match (matched || is_matched item) items

-- whether a context has no spelling: an item has none, a condition or `nul` follows a matched item, or there are two `nul`
abbrev pub is_unspelled_context : Names → List Pat → Bool
is_unspelled_context names context =
    list_any (is_unspelled_pattern names) context
    || (stands_behind_match false context || nat_lt 1 (length (filter is_nul context)))

-- whether a name is UTF-8 and is the name of a custom key (`T_` or `U_`) that a source can have
abbrev pub is_dictionary_name : List ℕ → Bool
is_dictionary_name name = is_own_key name && (is_source_name name && is_utf8 name)

-- whether one of the names equals an earlier one; the first argument is the list of the names before
abbrev pub are_repeated : List (List ℕ) → List (List ℕ) → Bool
are_repeated before [] = false
are_repeated before (name ∷ names) = list_any (λ known. same_name known name) before || are_repeated (before ++ name ∷ []) names

-- the names in the content of a dictionary, and whether they have no spelling: one is not a key name, or equals an earlier one
abbrev pub dictionary_words : List Element → List (List ℕ)
dictionary_words elements = words (encode_utf8_all (filter_map element_char elements))

abbrev pub is_unspelled_dictionary : List Element → Bool
is_unspelled_dictionary elements =
    not (list_all is_dictionary_name (dictionary_words elements)) || are_repeated [] (dictionary_words elements)

-- whether the store of a number is the dictionary: the first one if there are several
abbrev pub is_number : ℕ → Option ℕ → Bool
is_number n None = false
is_number n (Some other) = nat_eq n other

abbrev pub is_first_dictionary : List Store → ℕ → Bool
is_first_dictionary stores n = is_number n (position is_dictionary stores)

-- whether the store of a number, which is used as an option, has no spelling: it has a system id, is not called by its own name, or
-- has an element that is not a character
abbrev pub is_unspelled_option : Names → ℕ → Store → Bool
is_unspelled_option names n store =
    not (nat_eq store.system 0) || (not (bytes_eq (store_called names n) store.name) || list_any is_no_character store.elements)

-- whether a system store has no spelling: a bitmap with an element that is not a character, or a mnemonic layout other than `0`
abbrev pub is_unspelled_system : Store → Bool
is_unspelled_system store =
    (nat_eq store.system BITMAP && list_any is_no_character store.elements)
    || (nat_eq store.system MNEMONIC_LAYOUT && not (is_layout_text store.elements))

-- whether the store of a number has no spelling: because of an element, a dictionary name, its use as an option, or its system id
abbrev pub is_unspelled_store : Names → List ℕ → ℕ → Store → Bool
is_unspelled_store names options n store =
    list_any (is_unspelled_element names) store.elements
    || (is_first_dictionary names.elements n && is_unspelled_dictionary store.elements
    || ((list_any (nat_eq n) options && is_unspelled_option names n store) || is_unspelled_system store))
