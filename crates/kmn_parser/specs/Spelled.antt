-- Programs that a text can express: their text is read as the program.
use Rattle.std.specs.Prelude.{◌≡◌, ◌≢◌, ℕ, ◌+◌, ◌^◌, ◌<◌, ◌≤◌, ◌==◌, nat_eq, Bool, true, false, ◌&&◌, bit_and, List, [], ◌∷◌, map, length, Option, Some, None, is_some, find, All}
use Rattle.std.specs.List.{list_all, list_any}
use Rattle.std.specs.Str.{byte, is_utf8}
use Rattle.kmn_base.specs.declared.keys.TheConstants.{SHIFT_FLAGS, VIRTUAL_KEY}
use Rattle.kmn_base.specs.declared.limits.TheConstants.{TEXT_BYTES}
use Rattle.virtual_keys.specs.Keys.{key_name}
use Rattle.rule_model.specs.declared.program.KeyName.{KeyName}
use Rattle.rule_model.specs.declared.program.SrcItem.{SrcItem}
use Rattle.rule_model.specs.declared.program.SrcItem.TheVariants as source
use Rattle.rule_model.specs.declared.program.StoreDef.{StoreDef}
use Rattle.rule_model.specs.declared.program.RuleKind.{RuleKind}
use Rattle.rule_model.specs.declared.program.RuleKind.TheVariants.{Plain}
use Rattle.rule_model.specs.declared.program.RuleDef.{RuleDef}
use Rattle.rule_model.specs.declared.program.GroupDef.{GroupDef}
use Rattle.rule_model.specs.declared.program.BeginDef.{BeginDef}
use Rattle.rule_model.specs.declared.program.Program.{Program}
use Rattle.kmn_items.specs.declared.syntax.Where.{Where}
use Rattle.kmn_items.specs.declared.syntax.Where.TheVariants as section
use Rattle.kmn_items.specs.declared.syntax.Seen.{Seen}
use Rattle.kmn_items.specs.declared.syntax.ItemWord.TheVariants as item
use Rattle.kmn_items.specs.declared.syntax.Lead.{Lead}
use Rattle.kmn_items.specs.declared.syntax.Lead.TheVariants as lead
use Rattle.kmn_items.specs.Words.{is_system_name, is_own_key}
use Rattle.kmn_items.specs.Forms.{is_option_id}
use Rattle.kmn_items.specs.Standing.{standing_code, seen_word, seen_count}
use Rattle.kmn_items.specs.Item.{unseen}
use Rattle.kmn_parser.specs.Line.{system_stores}
use Rattle.kmn_parser.specs.ProgramLaws.{IsCharacter}
use Rattle.kmn_parser.specs.Names.{is_inner, is_source_name}
use Rattle.kmn_parser.specs.Programs.{program_text}
use Rattle.rule_model.specs.declared.system.TheConstants.{LAYER, VERSION}

-- a name: UTF-8, which a source reads without a change
pub record IsSpelledName (name : List ℕ) : Type 0 where
  pub utf8 : is_utf8 name ≡ true
  pub read : is_source_name name ≡ true

-- the name of an ordinary store
pub record IsStoreName (name : List ℕ) : Type 0 where
  pub named : IsSpelledName name
  pub ordinary : is_system_name name ≡ false

-- a value that can be written in quotes: characters without a line end, and not both quotes
pub record IsSpelledValue (value : List ℕ) : Type 0 where
  pub characters : All IsCharacter value
  pub in_line : list_all is_inner value ≡ true
  pub one_quote : (list_any (λ c. c == byte "\"") value && list_any (λ c. c == byte "'") value) ≡ false

-- an offset of at most nine digits
abbrev pub IsSpelledOffset : ℕ → Type 0
IsSpelledOffset offset = offset < 10 ^ 9

-- a virtual key: known flags, and a code with a name, or the name of a custom key
pub record IsSpelledKey (key : KeyName) : Type 0 where
  pub virtual : bit_and key.flags VIRTUAL_KEY ≡ VIRTUAL_KEY
  pub flags : bit_and key.flags SHIFT_FLAGS ≡ key.flags
  pub own : key.code ≡ 0 → (is_own_key key.name ≡ true) × IsSpelledName key.name
  pub known : key.code ≢ 0 → (is_some (key_name key.code) ≡ true) × (key.name ≡ [])

-- whether a section keeps virtual keys: each section except an output
abbrev pub keeps_keys : Where → Bool
keeps_keys section.Output = false
keeps_keys other = true

-- an item of a section
abbrev pub IsSpelledItem : Where → SrcItem → Type 0
IsSpelledItem place (source.Char c) = IsCharacter c
IsSpelledItem place (source.Dead name) = IsSpelledName name
IsSpelledItem place (source.Key key) = (keeps_keys place ≡ true) × IsSpelledKey key
IsSpelledItem place (source.Any name) = IsSpelledName name
IsSpelledItem place (source.NotAny name) = IsSpelledName name
IsSpelledItem place (source.Index name offset) = IsSpelledName name × IsSpelledOffset offset
IsSpelledItem place source.Context = Unit {0}
IsSpelledItem place (source.ContextAt offset) = IsSpelledOffset offset
IsSpelledItem place (source.Equal name value) = IsStoreName name × IsSpelledValue value
IsSpelledItem place (source.Unequal name value) = IsStoreName name × IsSpelledValue value
IsSpelledItem place (source.SystemEqual id value) = (is_option_id id ≡ true) × IsSpelledValue value
IsSpelledItem place (source.SystemUnequal id value) = (is_option_id id ≡ true) × IsSpelledValue value
IsSpelledItem place source.Nul = Unit {0}
IsSpelledItem place (source.Enter name) = IsSpelledName name
IsSpelledItem place (source.Set name value) = IsStoreName name × IsSpelledValue value
IsSpelledItem place (source.SetSystem id value) = (nat_eq id LAYER ≡ true) × IsSpelledValue value
IsSpelledItem place (source.Save name) = IsSpelledName name
IsSpelledItem place (source.Reset name) = IsSpelledName name
IsSpelledItem place source.Beep = Unit {0}
IsSpelledItem place source.Stop = Unit {0}
IsSpelledItem place other = ⊥

-- the kind of an item by its first token
abbrev pub item_lead : SrcItem → Lead
item_lead (source.Char c) = lead.One c
item_lead (source.Dead name) = lead.Named item.Dead
item_lead (source.Key key) = lead.Bracket
item_lead (source.Any name) = lead.Named item.Any
item_lead (source.NotAny name) = lead.Named item.NotAny
item_lead (source.Index name offset) = lead.Named item.Index
item_lead source.Context = lead.Named item.Context
item_lead (source.ContextAt offset) = lead.Named item.ContextAt
item_lead (source.Equal name value) = lead.Named item.If
item_lead (source.Unequal name value) = lead.Named item.If
item_lead (source.SystemEqual id value) = lead.Named item.If
item_lead (source.SystemUnequal id value) = lead.Named item.If
item_lead source.Nul = lead.Named item.Nul
item_lead (source.Enter name) = lead.Named item.Use
item_lead (source.Set name value) = lead.Named item.Set
item_lead (source.SetSystem id value) = lead.Named item.Set
item_lead (source.Save name) = lead.Named item.Save
item_lead (source.Reset name) = lead.Named item.Reset
item_lead source.Beep = lead.Named item.Beep
item_lead source.Stop = lead.Named item.Return
item_lead other = lead.Misplaced

-- what a section has seen after an item
abbrev pub seen_lead : Seen → Lead → Seen
seen_lead seen (lead.Named word) = seen_word seen word
seen_lead seen other = seen_count seen 1

-- the items of a section, each of which is allowed after the previous ones
abbrev pub AreSpelled : Where → Seen → List SrcItem → Type 0
AreSpelled place seen [] = Unit {0}
AreSpelled place seen (i ∷ items) =
    IsSpelledItem place i × (standing_code place seen (item_lead i) ≡ None) × AreSpelled place (seen_lead seen (item_lead i)) items

-- whether a source can name the system store with an id
abbrev pub is_system_id : ℕ → Bool
is_system_id id = is_some (find (λ row. nat_eq row.1 id) system_stores)

-- a version: the characters of a value
abbrev pub IsSpelledVersion : List SrcItem → Type 0
IsSpelledVersion items = (value : List ℕ) × (items ≡ map source.Char value) × IsSpelledValue value

-- a store
pub record IsSpelledStore (store : StoreDef) : Type 0 where
  pub ordinary : store.system ≡ 0 → IsStoreName store.name
  pub system : store.system ≢ 0 → (is_system_id store.system ≡ true) × (store.name ≡ [])
  pub version : store.system ≡ VERSION → IsSpelledVersion store.items
  pub content : store.system ≢ VERSION → AreSpelled section.Store unseen store.items

-- a rule has a key exactly in a group with keys
abbrev pub IsSpelledAsKey : Bool → Option SrcItem → Type 0
IsSpelledAsKey true (Some key) = AreSpelled section.Key unseen (key ∷ [])
IsSpelledAsKey true None = ⊥
IsSpelledAsKey false (Some key) = ⊥
IsSpelledAsKey false None = Unit {0}

-- match and nomatch have neither a context nor a key
abbrev pub IsSpelledKind : Bool → RuleKind → RuleDef → Type 0
IsSpelledKind using_keys Plain rule = AreSpelled section.Context unseen rule.context × IsSpelledAsKey using_keys rule.key
IsSpelledKind using_keys other rule = (rule.context ≡ []) × (rule.key ≡ None)

-- a rule, match or nomatch of a group that uses keys or does not
pub record IsSpelledRule (using_keys : Bool) (rule : RuleDef) : Type 0 where
  pub kind : IsSpelledKind using_keys rule.kind rule
  pub output : AreSpelled section.Output unseen rule.output
  pub some : 1 ≤ length rule.output

-- rules, each in its own line from a number on
abbrev pub AreSpelledRules : Bool → ℕ → List RuleDef → Type 0
AreSpelledRules using_keys line [] = Unit {0}
AreSpelledRules using_keys line (rule ∷ rules) = (rule.line ≡ line) × IsSpelledRule using_keys rule × AreSpelledRules using_keys (line + 1) rules

-- groups, each in its own line and followed by its rules
abbrev pub AreSpelledGroups : ℕ → List GroupDef → Type 0
AreSpelledGroups line [] = Unit {0}
AreSpelledGroups line (group ∷ groups) =
    (group.line ≡ line) × IsSpelledName group.name × AreSpelledRules group.using_keys (line + 1) group.rules
    × AreSpelledGroups (line + 1 + length group.rules) groups

-- start statements, each in its own line
abbrev pub AreSpelledBegins : ℕ → List BeginDef → Type 0
AreSpelledBegins line [] = Unit {0}
AreSpelledBegins line (start ∷ begins) = (start.line ≡ line) × IsSpelledName start.group × AreSpelledBegins (line + 1) begins

-- stores, each in its own line
abbrev pub AreSpelledStores : ℕ → List StoreDef → Type 0
AreSpelledStores line [] = Unit {0}
AreSpelledStores line (store ∷ stores) = (store.line ≡ line) × IsSpelledStore store × AreSpelledStores (line + 1) stores

-- a program that a text can express: each statement can be written in its line, and the text is short enough
pub record IsSpelled (program : Program) : Type 0 where
  pub stores : AreSpelledStores 1 program.stores
  pub begins : AreSpelledBegins (1 + length program.stores) program.begins
  pub groups : AreSpelledGroups (1 + length program.stores + length program.begins) program.groups
  pub short : length (program_text program) ≤ TEXT_BYTES
