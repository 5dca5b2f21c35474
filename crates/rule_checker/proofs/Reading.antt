-- The properties of a program that was read, as the laws above state them.
use Rattle.std.proofs.Common.{◌≡◌, ℕ, suc, Bool, true, false, not, List, [], ◌∷◌, ◌++◌, length, Option, Some, None, refl, ap, ◌∙◌, arith, is_some, if◌then◌else◌}
use Rattle.std.specs.Prelude.{All, IfSome, nat_eq, nat_lt, flat_map, option_to_list, ◌&&◌, ◌||◌, ◌==◌}
use Rattle.std.specs.List.{list_all, list_any, prefix_len}
use Rattle.std.proofs.lemmas.Bool.{eqb-true, ne_eqb, or_parts}
use Rattle.std.proofs.lemmas.Bool.Decides.{nat_tests}
use Rattle.std.proofs.lemmas.Str.{is_utf8-from_IsUtf8, chars-nil}
use Rattle.std.proofs.lemmas.List.Elements.{All-nil, All-cons, All-head, All-tail, All-append, All-take, All-drop}
use Rattle.kmn_base.specs.Bytes.{is_blank}
use Rattle.kmn_base.specs.Names.{same_name}
use Rattle.kmn_lines.specs.Laws.{IsPlain}
use Rattle.rule_model.specs.declared.program.SrcItem.{SrcItem}
use Rattle.rule_model.specs.declared.program.SrcItem.TheVariants as source
use Rattle.rule_model.specs.declared.program.StoreDef.{StoreDef}
use Rattle.rule_model.specs.declared.program.RuleDef.{RuleDef}
use Rattle.rule_model.specs.declared.program.RuleKind.{RuleKind}
use Rattle.rule_model.specs.declared.program.RuleKind.TheVariants as kind
use Rattle.rule_model.specs.declared.program.GroupDef.{GroupDef}
use Rattle.rule_model.specs.declared.program.Program.{Program}
use Rattle.rule_model.specs.Naming.{names_of, rule_items, all_rules, store_items, stores_before, stores_after, items_from, source_items, key_names}
use Rattle.compile_laws.specs.WellNamed.{is_word}
use Rattle.compile_laws.specs.Numbers.{item_values}
use Rattle.kmn_parser.specs.ProgramLaws.{IsCharacter, IsName, IsOwnKey, IsReadItem, IsRuleKey, IsReadStore, IsReadRule, IsReadGroup, IsReadProgram}
use Rattle.rule_checker.proofs.Lists.{all_pass, none_passes, All-flat_map, All-distinct}

-- a match or nomatch statement has no context and no key; a rule has a key only in a group with keys
abbrev pub has_parts : Bool → RuleKind → RuleDef → Bool
has_parts using_keys kind.Plain rule = using_keys || not (is_some rule.key)
has_parts using_keys other rule = nat_eq (length rule.context) 0 && not (is_some rule.key)

or_not : (b : Bool) → (b || not b) ≡ true
or_not true = refl
or_not false = refl

pub parts_read : (using_keys : Bool) (rule : RuleDef) → IsReadRule using_keys rule → has_parts using_keys rule.kind rule ≡ true
parts_read using_keys rule read = by rule.kind refl
  where
    bare : (rule.context ≡ []) × (rule.key ≡ None) → (nat_eq (length rule.context) 0 && not (is_some rule.key)) ≡ true
    bare both = λ j. nat_eq (length (both.0 j)) 0 && not (is_some (both.1 j))

    by : (k : RuleKind) → rule.kind ≡ k → has_parts using_keys k rule ≡ true
    by kind.Plain is = (λ j. using_keys || not (read.keyed is j)) ∙ or_not using_keys
    by kind.OnMatch is = bare (read.bare (λ e. cc))
    by kind.OnNoMatch is = bare (read.bare (λ e. cc))

abbrev pub have_parts : GroupDef → Bool
have_parts group = list_all (λ (rule : RuleDef). has_parts group.using_keys rule.kind rule) group.rules

pub all_have_parts : (groups : List GroupDef) → All IsReadGroup groups → list_all have_parts groups ≡ true
all_have_parts groups read =
    all_pass IsReadGroup have_parts
    (λ (group : GroupDef) (g : IsReadGroup group). all_pass (IsReadRule group.using_keys) (λ (rule : RuleDef). has_parts group.using_keys rule.kind rule) (parts_read group.using_keys) group.rules g.rules)
    groups read

-- no store of a statement is a key dictionary
pub no_dictionary_read : (stores : List StoreDef) → All IsReadStore stores → list_any (λ (store : StoreDef). nat_eq store.system 34) stores ≡ false
no_dictionary_read stores read = none_passes IsReadStore (λ (store : StoreDef). nat_eq store.system 34) (λ store is. ne_eqb store.system 34 is.no_dictionary) stores read

-- the items of rules, and of all statements in the order of their lines
some_read : (o : Option SrcItem) → IfSome o (λ item. IsRuleKey item × IsReadItem item) → All IsReadItem (option_to_list o)
some_read None h = All-nil IsReadItem
some_read (Some item) h = All-cons IsReadItem item [] h.1 (All-nil IsReadItem)

pub rule_items_read : (using_keys : Bool) (rule : RuleDef) → IsReadRule using_keys rule → All IsReadItem (rule_items rule)
rule_items_read using_keys rule read =
    All-append IsReadItem rule.context (option_to_list rule.key ++ rule.output) read.context
    (All-append IsReadItem (option_to_list rule.key) rule.output (some_read rule.key read.key) read.output)

abbrev pub AreReadItems : RuleDef → Type 0
AreReadItems rule = All IsReadItem (rule_items rule)

pub all_rules_read : (groups : List GroupDef) → All IsReadGroup groups → All AreReadItems (flat_map (λ (group : GroupDef). group.rules) groups)
all_rules_read groups read =
    All-flat_map IsReadGroup AreReadItems (λ (group : GroupDef). group.rules)
    (λ (group : GroupDef) (g : IsReadGroup group). weaker group.using_keys group.rules g.rules) groups read
  where
    weaker : (using_keys : Bool) (rules : List RuleDef) → All (IsReadRule using_keys) rules → All AreReadItems rules
    weaker using_keys [] h = All-nil AreReadItems
    weaker using_keys (rule ∷ rules) h =
        All-cons AreReadItems rule rules (rule_items_read using_keys rule (All-head (IsReadRule using_keys) rule rules h))
        (weaker using_keys rules (All-tail (IsReadRule using_keys) rule rules h))

store_items_read : (stores : List StoreDef) → All IsReadStore stores → All IsReadItem (store_items stores)
store_items_read stores read = All-flat_map IsReadStore IsReadItem (λ (store : StoreDef). store.items) (λ store is. is.items) stores read

items_read : (stores : List StoreDef) (rules : List RuleDef) → All IsReadStore stores → All AreReadItems rules → All IsReadItem (items_from stores rules)
items_read stores [] read items = store_items_read stores read
items_read stores (rule ∷ rules) read items =
    let count = prefix_len (λ (store : StoreDef). nat_lt store.line rule.line) stores in
    All-append IsReadItem (store_items (stores_before rule.line stores)) (rule_items rule ++ items_from (stores_after rule.line stores) rules)
    (store_items_read (stores_before rule.line stores) (All-take IsReadStore count stores read))
    (All-append IsReadItem (rule_items rule) (items_from (stores_after rule.line stores) rules) (All-head AreReadItems rule rules items)
    (items_read (stores_after rule.line stores) rules (All-drop IsReadStore count stores read) (All-tail AreReadItems rule rules items)))

pub source_items_read : (program : Program) → IsReadProgram program → All IsReadItem (source_items program)
source_items_read program read = items_read program.stores (all_rules program) read.stores (all_rules_read program.groups read.groups)

-- the names of custom keys
key_named : (item : SrcItem) → IsReadItem item → All IsOwnKey (key_names item)
key_named (source.Key key) read = by (nat_eq key.code 0) refl
  where
    by : (b : Bool) → nat_eq key.code 0 ≡ b → All IsOwnKey (if b then key.name ∷ [] else [])
    by true is = All-cons IsOwnKey key.name [] (read.named (eqb-true key.code 0 is)) (All-nil IsOwnKey)
    by false is = All-nil IsOwnKey
key_named item read = All-nil IsOwnKey

pub own_keys_read : (program : Program) → IsReadProgram program → All IsOwnKey (names_of program).keys
unfolding names_of
own_keys_read program read =
    All-distinct IsOwnKey same_name [] (flat_map key_names (source_items program)) (All-nil IsOwnKey)
    (All-flat_map IsReadItem IsOwnKey key_names key_named (source_items program) (source_items_read program read))

no_space : (b : ℕ) → is_blank b ≡ false → nat_eq 32 b ≡ false
no_space b h = let parts = or_parts (b == 32) (b == 9) h in grind (arith, nat_tests, parts.0)

positive : (n : ℕ) → not (nat_eq (suc n) 0) ≡ true
positive n = grind (arith, nat_tests)

some_byte : (name : List ℕ) → IsName name → not (nat_eq (length name) 0) ≡ true
some_byte [] read = absurd (omega (arith, read.some, ap length chars-nil))
some_byte (b ∷ name) read = positive (length name)

pub word_read : (name : List ℕ) → IsOwnKey name → is_word name ≡ true
word_read name own =
    λ j. some_byte name own.word j
    && (not (none_passes IsPlain (nat_eq 32) (λ b plain. no_space b plain.blank) name own.plain j) && is_utf8-from_IsUtf8 name own.word.utf8 j)

pub words_read : (program : Program) → IsReadProgram program → list_all is_word (names_of program).keys ≡ true
words_read program read = all_pass IsOwnKey is_word word_read (names_of program).keys (own_keys_read program read)

-- the values of conditions and of `set`, also those of system options
value_of_read : (item : SrcItem) → IsReadItem item → All (All IsCharacter) (item_values item)
value_of_read (source.Equal store value) read = All-cons (All IsCharacter) value [] read (All-nil (All IsCharacter))
value_of_read (source.Unequal store value) read = All-cons (All IsCharacter) value [] read (All-nil (All IsCharacter))
value_of_read (source.Set store value) read = All-cons (All IsCharacter) value [] read (All-nil (All IsCharacter))
value_of_read (source.SystemEqual id value) read = All-cons (All IsCharacter) value [] read.1 (All-nil (All IsCharacter))
value_of_read (source.SystemUnequal id value) read = All-cons (All IsCharacter) value [] read.1 (All-nil (All IsCharacter))
value_of_read (source.SetSystem id value) read = All-cons (All IsCharacter) value [] read.1 (All-nil (All IsCharacter))
value_of_read item read = All-nil (All IsCharacter)

pub rule_values_read : (program : Program) → IsReadProgram program → All (All IsCharacter) (flat_map item_values (flat_map rule_items (all_rules program)))
rule_values_read program read =
    All-flat_map IsReadItem (All IsCharacter) item_values value_of_read (flat_map rule_items (all_rules program))
    (All-flat_map AreReadItems IsReadItem rule_items (λ rule items. items) (all_rules program) (all_rules_read program.groups read.groups))
