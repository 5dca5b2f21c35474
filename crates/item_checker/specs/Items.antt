-- The refusals for a program's items and system stores, if every name is defined. Statements that are read and dropped are also checked.
use Rattle.std.specs.Prelude.{ℕ, zero, suc, ◌+◌, Bool, true, false, not, ◌&&◌, nat_eq, nat_lt, if◌then◌else◌, List, [], ◌∷◌, ◌++◌, length, flat_map, slice_get, Option, Some, None, is_some}
use Rattle.std.specs.List.{list_any}
use Rattle.std.specs.Option.{option_or}
use Rattle.kmn_base.specs.declared.codes.Code.{Code}
use Rattle.kmn_base.specs.declared.codes.Code.TheVariants.{C08, C09, C10, C11, C12, C13, C14, C25}
use Rattle.kmn_base.specs.declared.items.Element.{Element}
use Rattle.kmn_base.specs.declared.items.Element.TheVariants as element
use Rattle.kmn_base.specs.declared.refusals.Refusal.{Refusal}
use Rattle.kmn_base.specs.declared.keys.TheConstants.{VIRTUAL_KEY}
use Rattle.rule_model.specs.declared.program.SrcItem.{SrcItem}
use Rattle.rule_model.specs.declared.program.SrcItem.TheVariants as source
use Rattle.rule_model.specs.declared.program.StoreDef.{StoreDef}
use Rattle.rule_model.specs.declared.program.RuleKind.{RuleKind}
use Rattle.rule_model.specs.declared.program.RuleKind.TheVariants as kind
use Rattle.rule_model.specs.declared.program.RuleDef.{RuleDef}
use Rattle.rule_model.specs.declared.program.GroupDef.{GroupDef}
use Rattle.rule_model.specs.declared.program.Program.{Program}
use Rattle.rule_model.specs.Match.{same_value}
use Rattle.rule_model.specs.Naming.{elements_named}
use Rattle.rule_model.specs.Src.{value_elements}
use Rattle.kmx_format.specs.Versions.{file_versions}
use Rattle.store_table.specs.First.{broken, first_code, at_line, earlier, first_of, all_of}
use Rattle.store_table.specs.Known.{Known, known, brought, statement_elements}
use Rattle.store_table.specs.Names.{is_named}
use Rattle.rule_model.specs.declared.system.TheConstants.{CASED_KEYS, MNEMONIC_LAYOUT, VERSION, BITMAP, LEFT_OUT}
use Rattle.virtual_keys.specs.declared.dictionary.TheConstants.{FIRST_OWN_CODE}

-- whether some rule uses the store with a name as an option
abbrev pub is_option : Known → List ℕ → Bool
is_option known name = is_named known.options name

abbrev pub is_key_element : Element → Bool
is_key_element (element.Key flags code) = true
is_key_element other = false

abbrev pub is_no_character : Element → Bool
is_no_character (element.Char c) = false
is_no_character other = true

-- whether a character is above U+FFFF, so that it cannot be a key
abbrev pub is_far : ℕ → Bool
is_far c = nat_lt 0xFFFF c

-- whether an element cannot be a key: a mark, or such a character
abbrev pub is_unfit_key : Element → Bool
is_unfit_key (element.Char c) = is_far c
is_unfit_key (element.Mark mark) = true
is_unfit_key (element.Key flags code) = false

-- whether an item of a context is matched with an item of the text; conditions and `nul` are not
abbrev pub is_pattern_item : SrcItem → Bool
is_pattern_item (source.Char c) = true
is_pattern_item (source.Dead name) = true
is_pattern_item (source.Any store) = true
is_pattern_item (source.NotAny store) = true
is_pattern_item (source.Index store offset) = true
is_pattern_item (source.ContextAt offset) = true
is_pattern_item other = false

abbrev pub is_any_item : SrcItem → Bool
is_any_item (source.Any store) = true
is_any_item other = false

-- whether the item at an offset, which counts from 1, passes a test
abbrev pub item_at : List SrcItem → ℕ → Option SrcItem
item_at items zero = None
item_at items (suc place) = slice_get items place

abbrev pub passes : (SrcItem → Bool) → Option SrcItem → Bool
passes test None = false
passes test (Some item) = test item

abbrev pub points_to : (SrcItem → Bool) → List SrcItem → ℕ → Bool
points_to test items offset = passes test (item_at items offset)

-- whether an offset is the key's, which is one after the items of the context
abbrev pub is_key_place : RuleDef → ℕ → Bool
is_key_place rule offset = is_some rule.key && nat_eq offset (length rule.context + 1)

abbrev pub is_any_key : Option SrcItem → Bool
is_any_key None = false
is_any_key (Some item) = is_any_item item

-- C08: an offset is 0, or past the items that it may refer to, or refers to a condition or `nul`
abbrev pub misses_pattern : List SrcItem → ℕ → Bool
misses_pattern items offset = not (points_to is_pattern_item items offset)

-- C09: an `index` offset refers to an item other than `any`
abbrev pub misses_any : List SrcItem → ℕ → Bool
misses_any items offset = not (points_to is_any_item items offset)

-- C10: a key store is empty, or has a mark or a character above U+FFFF
abbrev pub are_unfit_keys : List Element → Bool
are_unfit_keys [] = true
are_unfit_keys (e ∷ elements) = list_any is_unfit_key (e ∷ elements)

abbrev pub is_unfit_store : Known → List ℕ → Bool
is_unfit_store known store = are_unfit_keys (elements_named known.stores store)

-- C12: a virtual key in an output after `outs` and `$`
abbrev pub has_virtual_key : Known → List ℕ → Bool
has_virtual_key known store = list_any is_key_element (elements_named known.stores store)

-- C12: a system store that is not supported
abbrev pub is_left_out : StoreDef → Bool
is_left_out store = nat_eq store.system LEFT_OUT

-- C12: another text of `&version` or `&mnemoniclayout`, if all elements are characters
abbrev pub is_version_text : List Element → Bool
is_version_text elements = list_any (λ row. same_value (value_elements row.0) elements) file_versions

abbrev pub is_layout_text : List Element → Bool
is_layout_text elements = same_value (element.Char 48 ∷ []) elements

abbrev pub is_system_text : ℕ → List Element → Bool
is_system_text system elements =
    if nat_eq system VERSION then is_version_text elements
    else (if nat_eq system MNEMONIC_LAYOUT then is_layout_text elements else true)

abbrev pub is_other_text : Known → StoreDef → Bool
is_other_text known store =
    not (list_any is_no_character (statement_elements known store))
    && not (is_system_text store.system (statement_elements known store))

-- C13: `outs` or `$` names an option store
abbrev pub uses_option : Known → SrcItem → Bool
uses_option known (source.Outs store) = is_option known store
uses_option known item = false

-- C14: an element is not a character, in an option store, `&bitmap`, `&version` or `&mnemoniclayout`
abbrev pub needs_characters : Known → StoreDef → Bool
needs_characters known store =
    if nat_eq store.system 0 then is_option known store.name
    else list_any (nat_eq store.system) (BITMAP ∷ VERSION ∷ MNEMONIC_LAYOUT ∷ [])

abbrev pub brings_no_character : Known → SrcItem → Bool
brings_no_character known item = list_any is_no_character (brought known item)

-- C25: an element of `&casedkeys` is not a virtual key of the key table without modifiers
abbrev pub is_no_plain_key : Element → Bool
is_no_plain_key (element.Key flags code) = not (nat_eq flags VIRTUAL_KEY && nat_lt code FIRST_OWN_CODE)
is_no_plain_key other = true

-- whether a statement is `&casedkeys`, whose keys must be plain
abbrev pub needs_plain_keys : StoreDef → Bool
needs_plain_keys store = nat_eq store.system CASED_KEYS

abbrev pub brings_no_plain_key : Known → SrcItem → Bool
brings_no_plain_key known item = list_any is_no_plain_key (brought known item)

-- a store statement: its kind or its text is checked first, then its items
abbrev pub store_item_code : Known → Bool → Bool → SrcItem → Option Code
store_item_code known characters keys item =
    broken ((C13, uses_option known item) ∷ (C14, characters && brings_no_character known item)
    ∷ (C25, keys && brings_no_plain_key known item) ∷ [])

abbrev pub store_head_code : Known → StoreDef → Option Code
store_head_code known store = broken ((C12, is_left_out store) ∷ (C12, is_other_text known store) ∷ [])

abbrev pub store_code : Known → StoreDef → Option Code
store_code known store =
    option_or (store_head_code known store) (first_code (store_item_code known (needs_characters known store) (needs_plain_keys store)) store.items)

abbrev pub store_refusal : Known → List StoreDef → StoreDef → Option Refusal
store_refusal known before store = at_line store.line (store_code known store)

-- `index` and `context(k)` that refer to one of these items
abbrev pub index_code : List SrcItem → ℕ → Option Code
index_code items offset = broken ((C08, misses_pattern items offset) ∷ (C09, misses_any items offset) ∷ [])

abbrev pub context_at_code : List SrcItem → ℕ → Option Code
context_at_code items offset = broken ((C08, misses_pattern items offset) ∷ [])

-- an item of a context refers to one of those before it; C12: an item that is not supported
abbrev pub context_item_code : List SrcItem → SrcItem → Option Code
context_item_code before (source.Index store offset) = index_code before offset
context_item_code before (source.ContextAt offset) = context_at_code before offset
context_item_code before source.OutOfProfile = Some C12
context_item_code before item = None

abbrev pub context_code : List SrcItem → List SrcItem → Option Code
context_code before [] = None
context_code before (item ∷ items) =
    option_or (context_item_code before item) (context_code (before ++ item ∷ []) items)

-- a key: a character, or a key store, which must not be an option (C13)
abbrev pub key_code : Known → Option SrcItem → Option Code
key_code known (Some (source.Char c)) = broken ((C10, is_far c) ∷ [])
key_code known (Some (source.Any store)) = broken ((C10, is_unfit_store known store) ∷ (C13, is_option known store) ∷ [])
key_code known item = None

-- an item of an output that does not refer to the context; C11: `call`, C12: an item that is not supported
abbrev pub output_code : Known → SrcItem → Option Code
output_code known (source.Call text) = Some C11
output_code known source.OutOfProfile = Some C12
output_code known (source.Outs store) = broken ((C12, has_virtual_key known store) ∷ (C13, is_option known store) ∷ [])
output_code known item = None

-- `index` at the key's offset: C09 if the key isn't `any`, C13 for an option store
abbrev pub key_index_code : Known → RuleDef → List ℕ → Option Code
key_index_code known rule store = broken ((C09, not (is_any_key rule.key)) ∷ (C13, is_option known store) ∷ [])

-- an item of a rule's output; `index` may have the key's offset, which is past the context
abbrev pub rule_output_code : Known → RuleDef → SrcItem → Option Code
rule_output_code known rule (source.Index store offset) =
    if is_key_place rule offset then key_index_code known rule store else index_code rule.context offset
rule_output_code known rule (source.ContextAt offset) = context_at_code rule.context offset
rule_output_code known rule item = output_code known item

-- C12: `context`, `context(k)` or `index` in match or nomatch; an offset of 0 is C08 there too
abbrev pub offset_code : ℕ → Option Code
offset_code offset = broken ((C08, nat_eq offset 0) ∷ (C12, true) ∷ [])

abbrev pub match_output_code : Known → SrcItem → Option Code
match_output_code known (source.Index store offset) = offset_code offset
match_output_code known (source.ContextAt offset) = offset_code offset
match_output_code known source.Context = Some C12
match_output_code known item = output_code known item

-- a rule: its context, its key, then its output
abbrev pub plain_code : Known → RuleDef → Option Code
plain_code known rule =
    option_or (context_code [] rule.context)
    (option_or (key_code known rule.key) (first_code (rule_output_code known rule) rule.output))

-- a rule, match or nomatch statement
abbrev pub rule_code : Known → RuleKind → RuleDef → Option Code
rule_code known kind.Plain rule = plain_code known rule
rule_code known other rule = first_code (match_output_code known) rule.output

abbrev pub rule_refusal : Known → List RuleDef → RuleDef → Option Refusal
rule_refusal known before rule = at_line rule.line (rule_code known rule.kind rule)

-- the statements of a group
abbrev pub rules_refusal : Known → List GroupDef → GroupDef → Option Refusal
rules_refusal known before group = first_of (rule_refusal known) [] group.rules

-- the first refusal for items among all statements
unfoldable pub items_refusal : Program → Option Refusal
items_refusal program =
    earlier (first_of (store_refusal (known program)) [] program.stores)
    (first_of (rules_refusal (known program)) [] program.groups)

-- all refusals of the statements of a group
abbrev pub rules_refusals : Known → GroupDef → List Refusal
rules_refusals known group = all_of (rule_refusal known) [] group.rules

-- all refusals for items: of store statements, then of the statements of each group
unfoldable pub items_refusals : Program → List Refusal
items_refusals program =
    all_of (store_refusal (known program)) [] program.stores ++ flat_map (rules_refusals (known program)) program.groups
