-- The numbers of a program's names: deadkeys and dictionary keys by first appearance, stores in their order.
use Rattle.std.specs.Prelude.{ℕ, ◌+◌, Bool, nat_eq, nat_lt, if◌then◌else◌, List, [], ◌∷◌, ◌++◌, flat_map, take, drop, position, find, option_to_list, unwrap_or}
use Rattle.std.specs.List.{prefix_len}
use Rattle.kmn_base.specs.declared.items.Element.{Element}
use Rattle.kmn_base.specs.declared.items.Element.TheVariants as element
use Rattle.kmn_base.specs.Names.{same_name}
use Rattle.virtual_keys.specs.Dictionary.{code_in}
use Rattle.rule_model.specs.declared.program.SrcItem.{SrcItem}
use Rattle.rule_model.specs.declared.program.SrcItem.TheVariants as source
use Rattle.rule_model.specs.declared.program.KeyName.{KeyName}
use Rattle.rule_model.specs.declared.program.StoreDef.{StoreDef}
use Rattle.rule_model.specs.declared.program.RuleDef.{RuleDef}
use Rattle.rule_model.specs.declared.program.GroupDef.{GroupDef}
use Rattle.rule_model.specs.declared.program.Program.{Program}
use Rattle.rule_model.specs.declared.tables.Store.{Store}
use Rattle.rule_model.specs.Tab.{distinct_onto, store_elements}
use Rattle.rule_model.specs.declared.system.TheConstants.{DROPPED}

-- the names of a program's deadkeys and of its dictionary keys, each in the order of first appearance
pub record SourceNames : Type 0 where
  pub marks : List (List ℕ)
  pub keys : List (List ℕ)

-- the items of a rule in the order of its line
abbrev pub rule_items : RuleDef → List SrcItem
rule_items rule = rule.context ++ (option_to_list rule.key ++ rule.output)

abbrev pub store_items : List StoreDef → List SrcItem
store_items stores = flat_map (λ (store : StoreDef). store.items) stores

-- the stores that precede a line, and the others
abbrev pub stores_before : ℕ → List StoreDef → List StoreDef
stores_before line stores = take (prefix_len (λ (store : StoreDef). nat_lt store.line line) stores) stores

abbrev pub stores_after : ℕ → List StoreDef → List StoreDef
stores_after line stores = drop (prefix_len (λ (store : StoreDef). nat_lt store.line line) stores) stores

-- the items of stores and rules together, in the order of their lines
abbrev pub items_from : List StoreDef → List RuleDef → List SrcItem
items_from stores [] = store_items stores
items_from stores (rule ∷ rules) =
    store_items (stores_before rule.line stores) ++ (rule_items rule ++ items_from (stores_after rule.line stores) rules)

abbrev pub all_rules : Program → List RuleDef
all_rules program = flat_map (λ (group : GroupDef). group.rules) program.groups

abbrev pub source_items : Program → List SrcItem
source_items program = items_from program.stores (all_rules program)

-- the deadkey and the dictionary key that an item names
abbrev pub mark_names : SrcItem → List (List ℕ)
mark_names (source.Dead name) = name ∷ []
mark_names item = []

abbrev pub key_names : SrcItem → List (List ℕ)
key_names (source.Key key) = if nat_eq key.code 0 then key.name ∷ [] else []
key_names item = []

-- the names of a program by first appearance, distinct without ASCII case
unfoldable pub names_of : Program → SourceNames
names_of program =
    record {
      marks = distinct_onto same_name [] (flat_map mark_names (source_items program));
      keys = distinct_onto same_name [] (flat_map key_names (source_items program));
    }

-- a deadkey's number, from 1
abbrev pub mark_number : SourceNames → List ℕ → ℕ
mark_number names name = 1 + unwrap_or (position (λ known. same_name known name) names.marks) 0

-- a key's code: its own code, or the code of its name in the dictionary
abbrev pub key_number : SourceNames → KeyName → ℕ
key_number names key = if nat_eq key.code 0 then unwrap_or (code_in names.keys key.name) 0 else key.code

-- the elements of the store with a name among stores
abbrev pub elements_named : List Store → List ℕ → List Element
elements_named stores name = store_elements (find (λ (store : Store). same_name store.name name) stores)

-- the elements that an item of a store statement denotes, after these stores
abbrev pub item_elements : SourceNames → List Store → SrcItem → List Element
item_elements names before (source.Char c) = element.Char c ∷ []
item_elements names before (source.Dead name) = element.Mark (mark_number names name) ∷ []
item_elements names before (source.Key key) = element.Key key.flags (key_number names key) ∷ []
item_elements names before (source.Outs name) = elements_named before name
item_elements names before item = []

-- whether a store statement is read and dropped; it is not a store
abbrev pub is_dropped : StoreDef → Bool
is_dropped store = nat_eq store.system DROPPED

abbrev pub store_of : SourceNames → List Store → StoreDef → Store
store_of names before store =
    record { system = store.system; name = store.name; elements = flat_map (item_elements names before) store.items }

abbrev pub stores_onto : SourceNames → List Store → List StoreDef → List Store
stores_onto names before [] = before
stores_onto names before (store ∷ stores) =
    stores_onto names (if is_dropped store then before else before ++ store_of names before store ∷ []) stores

-- the stores of a program in order, with `outs` and `$` replaced by the elements of earlier stores
unfoldable pub stores_of : Program → List Store
stores_of program = stores_onto (names_of program) [] program.stores
