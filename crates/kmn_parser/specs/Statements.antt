-- The statements of programs as written, each in its own line.
use Rattle.std.specs.Prelude.{ℕ, nat_eq, if◌then◌else◌, List, [], ◌∷◌, ◌++◌, filter_map, codes, Option, Some, None}
use Rattle.rule_model.specs.declared.program.SrcItem.{SrcItem}
use Rattle.rule_model.specs.declared.program.SrcItem.TheVariants as source
use Rattle.rule_model.specs.declared.program.StoreDef.{StoreDef}
use Rattle.rule_model.specs.declared.program.RuleKind.{RuleKind}
use Rattle.rule_model.specs.declared.program.RuleKind.TheVariants.{Plain, OnMatch, OnNoMatch}
use Rattle.rule_model.specs.declared.program.RuleDef.{RuleDef}
use Rattle.rule_model.specs.declared.program.GroupDef.{GroupDef}
use Rattle.rule_model.specs.declared.program.BeginDef.{BeginDef}
use Rattle.kmn_items.specs.TokenTexts.{LineToken}
use Rattle.kmn_parser.specs.Line.{system_store_name}
use Rattle.kmn_parser.specs.Texts.{word, name_token, opening, closing, plus, arrow}
use Rattle.kmn_parser.specs.Items.{item_pieces, spaced_items, joined_items, value_token}
use Rattle.rule_model.specs.declared.system.TheConstants.{VERSION}

-- the name of the system store with an id, with its &
abbrev pub system_name : ℕ → List ℕ
system_name id = 38 ∷ system_store_name id

-- the name of a store in a text
abbrev pub store_name : StoreDef → List ℕ
store_name store = if nat_eq store.system 0 then store.name else system_name store.system

-- the character of a character item
abbrev pub item_char : SrcItem → Option ℕ
item_char (source.Char c) = Some c
item_char i = None

-- the part after a store's name: the characters of a version in quotes, else the items
abbrev pub content_pieces : StoreDef → List (Option LineToken)
content_pieces store =
    if nat_eq store.system VERSION then None ∷ Some (value_token (filter_map item_char store.items)) ∷ [] else joined_items store.items

-- store(name) and its content
abbrev pub store_pieces : StoreDef → List (Option LineToken)
store_pieces store =
    Some (word (codes "store")) ∷ Some opening ∷ Some (name_token (store_name store)) ∷ Some closing ∷ content_pieces store

-- begin Unicode > use(name), begin ANSI > use(name)
abbrev pub begin_pieces : BeginDef → List (Option LineToken)
begin_pieces start =
    Some (word (codes "begin")) ∷ None ∷ Some (word (if start.unicode then codes "Unicode" else codes "ANSI")) ∷ None ∷ Some arrow ∷ None
    ∷ Some (word (codes "use")) ∷ Some opening ∷ Some (name_token start.group) ∷ Some closing ∷ []

-- group(name), group(name) using keys
abbrev pub group_pieces : GroupDef → List (Option LineToken)
group_pieces group =
    Some (word (codes "group")) ∷ Some opening ∷ Some (name_token group.name) ∷ Some closing
    ∷ (if group.using_keys then None ∷ Some (word (codes "using")) ∷ None ∷ Some (word (codes "keys")) ∷ [] else [])

-- + and the key, if there is one, and then the rest
abbrev pub key_part : Option SrcItem → List (Option LineToken) → List (Option LineToken)
key_part None more = more
key_part (Some key) more = Some plus ∷ None ∷ (item_pieces key ++ None ∷ more)

-- context + key > output
abbrev pub plain_pieces : RuleDef → List (Option LineToken)
plain_pieces rule = spaced_items rule.context (key_part rule.key (Some arrow ∷ joined_items rule.output))

-- a plain rule, match > output, nomatch > output
abbrev pub rule_pieces : RuleKind → RuleDef → List (Option LineToken)
rule_pieces Plain rule = plain_pieces rule
rule_pieces OnMatch rule = Some (word (codes "match")) ∷ None ∷ Some arrow ∷ joined_items rule.output
rule_pieces OnNoMatch rule = Some (word (codes "nomatch")) ∷ None ∷ Some arrow ∷ joined_items rule.output
