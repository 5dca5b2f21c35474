-- The items of a decompiled text, given those of tables.
use Rattle.std.specs.Prelude.{ℕ, nat_lt, bit_or, if◌then◌else◌, List, [], ◌∷◌, Option, Some, None, unwrap_or, slice_get}
use Rattle.std.specs.List.{filter_map}
use Rattle.std.specs.Fmt.{decimal}
use Rattle.kmn_base.specs.declared.items.Element.{Element}
use Rattle.kmn_base.specs.declared.items.Element.TheVariants as element
use Rattle.kmn_base.specs.declared.keys.RuleKey.{RuleKey}
use Rattle.kmn_base.specs.declared.keys.RuleKey.TheVariants as key
use Rattle.kmn_base.specs.declared.keys.TheConstants.{VIRTUAL_KEY}
use Rattle.virtual_keys.specs.Dictionary.{name_in}
use Rattle.rule_model.specs.declared.program.SrcItem.{SrcItem}
use Rattle.rule_model.specs.declared.program.SrcItem.TheVariants as source
use Rattle.rule_model.specs.declared.program.KeyName.{KeyName}
use Rattle.rule_model.specs.declared.tables.Pat.{Pat}
use Rattle.rule_model.specs.declared.tables.Pat.TheVariants as pattern
use Rattle.rule_model.specs.declared.tables.Out.{Out}
use Rattle.rule_model.specs.declared.tables.Out.TheVariants as output
use Rattle.rule_model.specs.declared.tables.Store.{Store}
use Rattle.rule_model.specs.Tab.{elements_of, element_char}
use Rattle.virtual_keys.specs.declared.dictionary.TheConstants.{FIRST_OWN_CODE}

-- the names of the stores, groups and dictionary keys of tables in a text, and the stores, for the values
pub record Names : Type 0 where
  pub stores : List (Option (List ℕ))
  pub groups : List (List ℕ)
  pub keys : List (List ℕ)
  pub elements : List Store

abbrev pub store_called : Names → ℕ → List ℕ
store_called names n = unwrap_or (unwrap_or (slice_get names.stores n) None) []

abbrev pub group_called : Names → ℕ → List ℕ
group_called names n = unwrap_or (slice_get names.groups n) []

-- a value: the characters of its store
abbrev pub value_called : Names → ℕ → List ℕ
value_called names n = filter_map element_char (elements_of names.elements n)

-- a virtual key by its code, and by its name in the dictionary; in a source it has the flag of virtual keys
abbrev pub key_by_code : ℕ → ℕ → KeyName
key_by_code flags code = record { flags = bit_or flags VIRTUAL_KEY; code = code; name = [] }

abbrev pub key_by_name : Names → ℕ → ℕ → KeyName
key_by_name names flags code = record { flags = bit_or flags VIRTUAL_KEY; code = 0; name = unwrap_or (name_in names.keys code) [] }

abbrev pub key_called : Names → ℕ → ℕ → KeyName
key_called names flags code = if nat_lt code FIRST_OWN_CODE then key_by_code flags code else key_by_name names flags code

-- the item of a source for an element; the name of a deadkey is its number
abbrev pub back_element : Names → Element → SrcItem
back_element names (element.Char c) = source.Char c
back_element names (element.Mark m) = source.Dead (decimal m)
back_element names (element.Key flags code) = source.Key (key_called names flags code)

abbrev pub back_pattern : Names → Pat → SrcItem
back_pattern names (pattern.Char c) = source.Char c
back_pattern names (pattern.Mark m) = source.Dead (decimal m)
back_pattern names (pattern.Any s) = source.Any (store_called names s)
back_pattern names (pattern.NotAny s) = source.NotAny (store_called names s)
back_pattern names (pattern.Index s offset) = source.Index (store_called names s) offset
back_pattern names (pattern.ContextAt offset) = source.ContextAt offset
back_pattern names (pattern.Equal s value) = source.Equal (store_called names s) (value_called names value)
back_pattern names (pattern.Unequal s value) = source.Unequal (store_called names s) (value_called names value)
back_pattern names (pattern.SystemEqual id value) = source.SystemEqual id (value_called names value)
back_pattern names (pattern.SystemUnequal id value) = source.SystemUnequal id (value_called names value)
back_pattern names pattern.Nul = source.Nul

abbrev pub back_output : Names → Out → SrcItem
back_output names (output.Char c) = source.Char c
back_output names (output.Mark m) = source.Dead (decimal m)
back_output names (output.Index s offset) = source.Index (store_called names s) offset
back_output names output.Context = source.Context
back_output names (output.ContextAt offset) = source.ContextAt offset
back_output names (output.Enter g) = source.Enter (group_called names g)
back_output names (output.Set s value) = source.Set (store_called names s) (value_called names value)
back_output names (output.SetSystem id value) = source.SetSystem id (value_called names value)
back_output names (output.Save s) = source.Save (store_called names s)
back_output names (output.Reset s) = source.Reset (store_called names s)
back_output names output.Nul = source.Nul
back_output names output.Beep = source.Beep
back_output names output.Stop = source.Stop

abbrev pub back_key : Names → RuleKey → Option SrcItem
back_key names key.Any = None
back_key names (key.Char c) = Some (source.Char c)
back_key names (key.Virtual flags code) = Some (source.Key (key_called names flags code))

-- the items of an output; an empty output is `nul`
abbrev pub some_items : List SrcItem → List SrcItem
some_items [] = source.Nul ∷ []
some_items (i ∷ items) = i ∷ items
