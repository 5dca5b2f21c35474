-- Each line of such a program is UTF-8, and no line begins with a byte order mark.
use Rattle.std.proofs.Common.{◌≡◌, ℕ, ◌+◌, Bool, true, false, if◌then◌else◌, ◌==◌, List, [], ◌∷◌, ◌++◌, length, map, Option, None, Some, refl, ◌∙◌, ap}
use Rattle.std.specs.Prelude.{codes, nat_eq, filter_map, flat_map, option_map, unwrap_or}
use Rattle.std.specs.Str.{is_utf8}
use Rattle.std.specs.List.{list_all, starts_with}
use Rattle.std.proofs.lemmas.Bool.{eqb-true, eqb-false}
use Rattle.rule_model.specs.declared.program.SrcItem.{SrcItem}
use Rattle.rule_model.specs.declared.program.StoreDef.{StoreDef}
use Rattle.rule_model.specs.declared.program.RuleKind.{RuleKind}
use Rattle.rule_model.specs.declared.program.RuleKind.TheVariants.{Plain, OnMatch, OnNoMatch}
use Rattle.rule_model.specs.declared.program.RuleDef.{RuleDef}
use Rattle.rule_model.specs.declared.program.GroupDef.{GroupDef}
use Rattle.rule_model.specs.declared.program.BeginDef.{BeginDef}
use Rattle.rule_model.specs.declared.program.Program.{Program}
use Rattle.kmn_items.specs.declared.syntax.Where.TheVariants as section
use Rattle.kmn_items.specs.TokenTexts.{LineToken}
use Rattle.kmn_items.specs.Item.{unseen}
use Rattle.kmn_parser.specs.Line.{system_stores}
use Rattle.kmn_parser.specs.Printed.{sheet}
use Rattle.kmn_parser.specs.Texts.{arrow, word}
use Rattle.kmn_parser.specs.Items.{item_pieces, value_token, joined_items}
use Rattle.kmn_parser.specs.Statements.{system_name, store_name, item_char, content_pieces, store_pieces, begin_pieces, key_part, rule_pieces}
use Rattle.kmn_parser.specs.Programs.{rule_line, group_lines, program_lines}
use Rattle.kmn_parser.specs.Spelled.{IsSpelledVersion, IsSpelledStore, IsSpelledAsKey, IsSpelledKind, AreSpelledRules, AreSpelledGroups, AreSpelledBegins, AreSpelledStores, IsSpelled}
use Rattle.kmn_parser.proofs.Hex.{is_ascii_byte}
use Rattle.kmn_parser.proofs.Keys.{found}
use Rattle.kmn_parser.proofs.Stores.{chars-back}
use Rattle.kmn_parser.proofs.Utf8Texts.{ascii, AreTexts, texts-append, AreLines, lines-append, sheet-text, value-text, item-texts, joined-texts, spaced-texts}

ids-ascii : list_all (λ row. list_all is_ascii_byte (38 ∷ row.0)) system_stores ≡ true
unfolding system_stores
ids-ascii = refl

store-name-text : (store : StoreDef) → IsSpelledStore store → is_utf8 (store_name store) ≡ true
store-name-text store ok = elim (nat_eq store.system 0) as (λ b. nat_eq store.system 0 ≡ b → is_utf8 (if b then store.name else system_name store.system) ≡ true) [
  | true ↦ λ e. (ok.ordinary (eqb-true store.system 0 e)).named.utf8
  | false ↦ λ e.
      let here = found (λ (row : List ℕ × ℕ). nat_eq row.1 store.system) (λ row. list_all is_ascii_byte (38 ∷ row.0)) system_stores ids-ascii (ok.system (eqb-false store.system 0 e)).0 in
      ap (λ (o : Option (List ℕ × ℕ)). is_utf8 (38 ∷ unwrap_or (option_map (λ row. row.0) o) [])) here.is ∙ ascii (38 ∷ here.row.0) here.passes
] refl

version-text : (items : List SrcItem) → IsSpelledVersion items → is_utf8 (value_token (filter_map item_char items)).text ≡ true
version-text items ok =
    ap (λ (cs : List ℕ). is_utf8 (value_token cs).text) (ap (filter_map item_char) ok.1 ∙ chars-back ok.0) ∙ value-text ok.0 ok.2

content-texts : (store : StoreDef) → IsSpelledStore store → AreTexts (content_pieces store)
content-texts store ok = elim (nat_eq store.system 8) as (λ b. nat_eq store.system 8 ≡ b → AreTexts (if b then None ∷ Some (value_token (filter_map item_char store.items)) ∷ [] else joined_items store.items)) [
  | true ↦ λ e. (version-text store.items (ok.version (eqb-true store.system 8 e)), tt)
  | false ↦ λ e. joined-texts section.Store unseen store.items (ok.content (eqb-false store.system 8 e))
] refl

store-texts : (store : StoreDef) → IsSpelledStore store → AreTexts (store_pieces store)
store-texts store ok = (ascii (codes "store") refl, (ascii (40 ∷ []) refl, (store-name-text store ok, (ascii (41 ∷ []) refl, content-texts store ok))))

stores-lines : (line : ℕ) (stores : List StoreDef) → AreSpelledStores line stores → AreLines (map store_pieces stores)
stores-lines line [] ok = tt
stores-lines line (store ∷ stores) (at, ok, more) = (store-texts store ok, stores-lines (line + 1) stores more)

kind-text : (unicode : Bool) → is_utf8 (if unicode then codes "Unicode" else codes "ANSI") ≡ true
kind-text true = ascii (codes "Unicode") refl
kind-text false = ascii (codes "ANSI") refl

begins-lines : (line : ℕ) (begins : List BeginDef) → AreSpelledBegins line begins → AreLines (map begin_pieces begins)
begins-lines line [] ok = tt
begins-lines line (start ∷ begins) (at, ok, more) =
    ((ascii (codes "begin") refl, (kind-text start.unicode, (ascii (62 ∷ []) refl, (ascii (codes "use") refl, (ascii (40 ∷ []) refl, (ok.utf8, (ascii (41 ∷ []) refl, tt))))))), begins-lines (line + 1) begins more)

key-part-texts : (using_keys : Bool) (key : Option SrcItem) (more : List (Option LineToken)) → IsSpelledAsKey using_keys key → AreTexts more → AreTexts (key_part key more)
key-part-texts using_keys None more ok behind = behind
key-part-texts true (Some key) more ok behind = (ascii (43 ∷ []) refl, texts-append (item_pieces key) (None ∷ more) (item-texts section.Key key ok.0) behind)
key-part-texts false (Some key) more ok behind = absurd ok

rule-texts : (using_keys : Bool) (kind : RuleKind) (rule : RuleDef) → IsSpelledKind using_keys kind rule → AreTexts (joined_items rule.output) → AreTexts (rule_pieces kind rule)
rule-texts using_keys Plain rule ok output =
    spaced-texts section.Context unseen rule.context (key_part rule.key (Some arrow ∷ joined_items rule.output)) ok.0
    (key-part-texts using_keys rule.key (Some arrow ∷ joined_items rule.output) ok.1 (ascii (62 ∷ []) refl, output))
rule-texts using_keys OnMatch rule ok output = (ascii (codes "match") refl, (ascii (62 ∷ []) refl, output))
rule-texts using_keys OnNoMatch rule ok output = (ascii (codes "nomatch") refl, (ascii (62 ∷ []) refl, output))

rules-lines : (using_keys : Bool) (line : ℕ) (rules : List RuleDef) → AreSpelledRules using_keys line rules → AreLines (map rule_line rules)
rules-lines using_keys line [] ok = tt
rules-lines using_keys line (rule ∷ rules) (at, ok, more) =
    (rule-texts using_keys rule.kind rule ok.kind (joined-texts section.Output unseen rule.output ok.output), rules-lines using_keys (line + 1) rules more)

using-texts : (using_keys : Bool) → AreTexts (if using_keys then None ∷ Some (word (codes "using")) ∷ None ∷ Some (word (codes "keys")) ∷ [] else [])
using-texts true = (ascii (codes "using") refl, (ascii (codes "keys") refl, tt))
using-texts false = tt

groups-lines : (line : ℕ) (groups : List GroupDef) → AreSpelledGroups line groups → AreLines (flat_map group_lines groups)
groups-lines line [] ok = tt
groups-lines line (group ∷ groups) (at, named, rules, more) = (
  (ascii (codes "group") refl, (ascii (40 ∷ []) refl, (named.utf8, (ascii (41 ∷ []) refl, using-texts group.using_keys)))),
  lines-append (map rule_line group.rules) (flat_map group_lines groups) (rules-lines group.using_keys (line + 1) group.rules rules) (groups-lines (line + 1 + length group.rules) groups more),
)

pub program_utf8 : (p : Program) → IsSpelled p → is_utf8 (sheet (program_lines p)) ≡ true
program_utf8 p ok =
    sheet-text (program_lines p)
    (lines-append (map store_pieces p.stores) _ (stores-lines 1 p.stores ok.stores)
    (lines-append (map begin_pieces p.begins) _ (begins-lines (1 + length p.stores) p.begins ok.begins) (groups-lines (1 + length p.stores + length p.begins) p.groups ok.groups)))

unmarked : (stores : List StoreDef) (begins : List BeginDef) (groups : List GroupDef)
    → starts_with (λ a b. a == b) (sheet (map store_pieces stores ++ (map begin_pieces begins ++ flat_map group_lines groups))) (0xEF ∷ 0xBB ∷ 0xBF ∷ []) ≡ false
unmarked (store ∷ stores) begins groups = refl
unmarked [] (start ∷ begins) groups = refl
unmarked [] [] (group ∷ groups) = refl
unmarked [] [] [] = refl

pub program_unmarked : (p : Program) → starts_with (λ a b. a == b) (sheet (program_lines p)) (0xEF ∷ 0xBB ∷ 0xBF ∷ []) ≡ false
program_unmarked p = unmarked p.stores p.begins p.groups
