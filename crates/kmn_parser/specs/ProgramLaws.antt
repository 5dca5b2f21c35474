-- The properties of each program that is read from a source, statement by statement.
use Rattle.std.specs.Prelude.{◌≡◌, ◌≢◌, ℕ, ◌^◌, ◌<◌, ◌≤◌, Bool, true, nat_eq, bit_and, List, [], length, None, is_some, IfSome, Ok, IsUtf8, chars, All}
use lib.Utf8.{scalar}
use Rattle.kmn_base.specs.declared.keys.TheConstants.{SHIFT_FLAGS, VIRTUAL_KEY}
use Rattle.kmn_base.specs.declared.limits.TheConstants.{SOURCE_NAME_CHARS}
use Rattle.kmn_base.specs.declared.units.TheConstants.{SENTINEL}
use Rattle.kmn_lines.specs.Laws.{IsPlain}
use Rattle.rule_model.specs.declared.program.KeyName.{KeyName}
use Rattle.rule_model.specs.declared.program.SrcItem.{SrcItem}
use Rattle.rule_model.specs.declared.program.SrcItem.TheVariants as source
use Rattle.rule_model.specs.declared.program.StoreDef.{StoreDef}
use Rattle.rule_model.specs.declared.program.BeginDef.{BeginDef}
use Rattle.rule_model.specs.declared.program.RuleKind.TheVariants.{Plain}
use Rattle.rule_model.specs.declared.program.RuleDef.{RuleDef}
use Rattle.rule_model.specs.declared.program.GroupDef.{GroupDef}
use Rattle.rule_model.specs.declared.program.Program.{Program}
use Rattle.kmn_items.specs.Words.{is_own_key}
use Rattle.kmn_items.specs.Forms.{is_option_id}
use Rattle.kmn_parser.specs.Source.{parsed}
use Rattle.rule_model.specs.declared.system.TheConstants.{LAYER, KEY_DICTIONARY}

-- a character of a keyboard: a scalar value other than U+0000 and U+FFFF
pub record IsCharacter (c : ℕ) : Type 0 where
  pub valid : scalar c ≡ true
  pub not_first : c ≢ 0
  pub not_last : c ≢ SENTINEL

-- a name: UTF-8 of 1 to 80 such characters
pub record IsName (name : List ℕ) : Type 0 where
  pub utf8 : IsUtf8 name
  pub characters : All IsCharacter (chars name)
  pub some : 1 ≤ length (chars name)
  pub few : length (chars name) ≤ SOURCE_NAME_CHARS

-- the name of a custom key: a word of the form `T_..` or `U_..`
pub record IsOwnKey (name : List ℕ) : Type 0 where
  pub word : IsName name
  pub plain : All IsPlain name
  pub form : is_own_key name ≡ true

-- a virtual key: a code of the table, or a custom key, and flags of control, alt, shift and caps lock above the flag of a virtual key
pub record IsReadKey (key : KeyName) : Type 0 where
  pub virtual : bit_and key.flags VIRTUAL_KEY ≡ VIRTUAL_KEY
  pub flags : bit_and key.flags SHIFT_FLAGS ≡ key.flags
  pub code : key.code < 2 ^ 16
  pub named : key.code ≡ 0 → IsOwnKey key.name
  pub unnamed : key.code ≢ 0 → key.name ≡ []

-- an item: its characters and the characters of its value are characters of a keyboard, its key is a virtual key, a condition on a
-- system option names one, and a `set` of a system option names the layer
abbrev pub IsReadItem : SrcItem → Type 0
IsReadItem (source.Char c) = IsCharacter c
IsReadItem (source.Key key) = IsReadKey key
IsReadItem (source.Equal name value) = All IsCharacter value
IsReadItem (source.Unequal name value) = All IsCharacter value
IsReadItem (source.Set name value) = All IsCharacter value
IsReadItem (source.SystemEqual id value) = (is_option_id id ≡ true) × All IsCharacter value
IsReadItem (source.SystemUnequal id value) = (is_option_id id ≡ true) × All IsCharacter value
IsReadItem (source.SetSystem id value) = (nat_eq id LAYER ≡ true) × All IsCharacter value
IsReadItem other = Unit {0}

-- the items that are allowed as the key of a rule: a character, a virtual key, or `any`
abbrev pub IsRuleKey : SrcItem → Type 0
IsRuleKey (source.Char c) = Unit {0}
IsRuleKey (source.Key key) = Unit {0}
IsRuleKey (source.Any name) = Unit {0}
IsRuleKey other = ⊥

-- the number of a line; a source has fewer than 2 ^ 32
pub record IsLine (line : ℕ) : Type 0 where
  pub first : 1 ≤ line
  pub last : line < 2 ^ 32

-- a store: only an ordinary store has a name, and a system store has an id other than the key dictionary's
pub record IsReadStore (store : StoreDef) : Type 0 where
  pub line : IsLine store.line
  pub system : store.system < 2 ^ 32
  pub no_dictionary : store.system ≢ KEY_DICTIONARY
  pub named : store.system ≡ 0 → IsName store.name
  pub unnamed : store.system ≢ 0 → store.name ≡ []
  pub items : All IsReadItem store.items

-- a start statement
pub record IsReadBegin (start : BeginDef) : Type 0 where
  pub line : IsLine start.line
  pub group : IsName start.group

-- a rule of a group that uses keys or does not: a plain rule has a key exactly where the group uses keys, and match and nomatch have
-- neither a context nor a key
pub record IsReadRule (using_keys : Bool) (rule : RuleDef) : Type 0 where
  pub line : IsLine rule.line
  pub context : All IsReadItem rule.context
  pub key : IfSome rule.key (λ item. IsRuleKey item × IsReadItem item)
  pub output : All IsReadItem rule.output
  pub keyed : rule.kind ≡ Plain → is_some rule.key ≡ using_keys
  pub bare : rule.kind ≢ Plain → (rule.context ≡ []) × (rule.key ≡ None)

-- a group with its rules
pub record IsReadGroup (group : GroupDef) : Type 0 where
  pub line : IsLine group.line
  pub name : IsName group.name
  pub rules : All (IsReadRule group.using_keys) group.rules

-- the statements of a program that is read
pub record IsReadProgram (program : Program) : Type 0 where
  pub stores : All IsReadStore program.stores
  pub begins : All IsReadBegin program.begins
  pub groups : All IsReadGroup program.groups

-- each program that is read from a source has such statements
abbrev pub ProgramsAreRead : Type 0
ProgramsAreRead = (source : List ℕ) (program : Program) → parsed source ≡ Ok program → IsReadProgram program
