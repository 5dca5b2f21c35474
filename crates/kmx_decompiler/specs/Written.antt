-- The programs that a source can write: names, values and keys as they are in its lines, and contexts in order.
use Rattle.std.specs.Prelude.{◌≡◌, ◌≤◌, Bool, true, false, not, ◌&&◌, ◌||◌, List, [], ◌∷◌, length, filter}
use Rattle.std.specs.List.{All, list_all}
use Rattle.rule_model.specs.declared.program.SrcItem.{SrcItem}
use Rattle.rule_model.specs.declared.program.SrcItem.TheVariants as source
use Rattle.rule_model.specs.declared.program.StoreDef.{StoreDef}
use Rattle.rule_model.specs.declared.program.RuleDef.{RuleDef}
use Rattle.rule_model.specs.declared.program.Program.{Program}
use Rattle.rule_model.specs.Naming.{rule_items, all_rules}
use Rattle.item_checker.specs.Items.{is_pattern_item}
use Rattle.kmn_parser.specs.Spelled.{IsSpelledName, IsStoreName, IsSpelledValue, IsSpelledKey}

-- an item as a source writes it: a name is a name of a source, a value can be quoted, and a key has a name
abbrev pub IsWrittenItem : SrcItem → Type 0
IsWrittenItem (source.Key key) = IsSpelledKey key
IsWrittenItem (source.Any name) = IsSpelledName name
IsWrittenItem (source.NotAny name) = IsSpelledName name
IsWrittenItem (source.Index name offset) = IsSpelledName name
IsWrittenItem (source.Equal name value) = IsSpelledName name × IsSpelledValue value
IsWrittenItem (source.Unequal name value) = IsSpelledName name × IsSpelledValue value
IsWrittenItem (source.SystemEqual id value) = IsSpelledValue value
IsWrittenItem (source.SystemUnequal id value) = IsSpelledValue value
IsWrittenItem (source.Set name value) = IsSpelledName name × IsSpelledValue value
IsWrittenItem (source.SetSystem id value) = IsSpelledValue value
IsWrittenItem (source.Save name) = IsSpelledName name
IsWrittenItem (source.Reset name) = IsSpelledName name
IsWrittenItem other = Unit {0}

-- whether an item is allowed in a context
abbrev pub is_allowed_in_context : SrcItem → Bool
is_allowed_in_context (source.Equal name value) = true
is_allowed_in_context (source.Unequal name value) = true
is_allowed_in_context (source.SystemEqual id value) = true
is_allowed_in_context (source.SystemUnequal id value) = true
is_allowed_in_context source.Nul = true
is_allowed_in_context source.OutOfProfile = true
is_allowed_in_context item = is_pattern_item item

-- whether a condition or `nul` follows an item that is matched; the first argument states whether an earlier item was matched
abbrev pub has_late_item : Bool → List SrcItem → Bool
has_late_item matched [] = false
has_late_item matched (item ∷ items) = (matched && not (is_pattern_item item)) || has_late_item (matched || is_pattern_item item) items

abbrev pub is_nul_item : SrcItem → Bool
is_nul_item source.Nul = true
is_nul_item other = false

-- a context as a source writes it: conditions and `nul` precede all items that are matched, and there is at most one `nul`
pub record IsWrittenContext (context : List SrcItem) : Type 0 where
  pub stand : list_all is_allowed_in_context context ≡ true
  pub order : has_late_item false context ≡ false
  pub one_nul : length (filter is_nul_item context) ≤ 1

pub record IsWrittenRule (rule : RuleDef) : Type 0 where
  pub items : All IsWrittenItem (rule_items rule)
  pub context : IsWrittenContext rule.context

pub record IsWrittenStore (store : StoreDef) : Type 0 where
  pub name : store.system ≡ 0 → IsStoreName store.name
  pub items : All IsWrittenItem store.items

-- a program as a source writes it
pub record WasWritten (program : Program) : Type 0 where
  pub stores : All IsWrittenStore program.stores
  pub rules : All IsWrittenRule (all_rules program)
