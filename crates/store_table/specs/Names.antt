-- The refusals for a program's names: names that are defined twice, and names that are used and not defined.
use Rattle.std.specs.Prelude.{ℕ, Bool, false, not, ◌&&◌, nat_eq, if◌then◌else◌, List, [], ◌∷◌, ◌++◌, map, flat_map, is_some, Option}
use Rattle.std.specs.List.{list_any}
use Rattle.std.specs.Option.{option_or}
use Rattle.kmn_base.specs.declared.codes.Code.{Code}
use Rattle.kmn_base.specs.declared.codes.Code.TheVariants.{C02, C03, C04, C05, C06, C07, C15}
use Rattle.kmn_base.specs.declared.refusals.Refusal.{Refusal}
use Rattle.virtual_keys.specs.Dictionary.{place_in}
use Rattle.rule_model.specs.declared.program.SrcItem.{SrcItem}
use Rattle.rule_model.specs.declared.program.SrcItem.TheVariants as source
use Rattle.rule_model.specs.declared.program.StoreDef.{StoreDef}
use Rattle.rule_model.specs.declared.program.RuleKind.{RuleKind}
use Rattle.rule_model.specs.declared.program.RuleKind.TheVariants as kind
use Rattle.rule_model.specs.declared.program.RuleDef.{RuleDef}
use Rattle.rule_model.specs.declared.program.GroupDef.{GroupDef}
use Rattle.rule_model.specs.declared.program.BeginDef.{BeginDef}
use Rattle.rule_model.specs.declared.program.Program.{Program}
use Rattle.rule_model.specs.Naming.{is_dropped, rule_items}
use Rattle.rule_model.specs.Src.{is_unicode, is_on_match, is_on_nomatch}
use Rattle.store_table.specs.declared.stating.Stated.{Stated}
use Rattle.store_table.specs.First.{broken, first_code, at_line, earlier, first_of, all_of}

-- whether a name is among others
unfoldable pub is_named : List (List ℕ) → List ℕ → Bool
is_named names name = is_some (place_in names name)

-- the names of stores in order, without those that are read and dropped; the name of a system store is empty, which is not the name of
-- any item
abbrev pub kept_name : StoreDef → List (List ℕ)
kept_name store = if is_dropped store then [] else store.name ∷ []

abbrev pub store_names : List StoreDef → List (List ℕ)
store_names stores = flat_map kept_name stores

abbrev pub group_names : List GroupDef → List (List ℕ)
group_names groups = map (λ (group : GroupDef). group.name) groups

-- the names of all stores and groups that a program defines
abbrev pub stated : Program → Stated
stated program = record { stores = store_names program.stores; groups = group_names program.groups }

-- the store that an item names
abbrev pub store_named : SrcItem → List (List ℕ)
store_named (source.Any store) = store ∷ []
store_named (source.NotAny store) = store ∷ []
store_named (source.Index store offset) = store ∷ []
store_named (source.Equal store value) = store ∷ []
store_named (source.Unequal store value) = store ∷ []
store_named (source.Outs store) = store ∷ []
store_named (source.Set store value) = store ∷ []
store_named (source.Save store) = store ∷ []
store_named (source.Reset store) = store ∷ []
store_named item = []

-- the store that `outs` or `$` names
abbrev pub store_put : SrcItem → List (List ℕ)
store_put (source.Outs store) = store ∷ []
store_put item = []

-- the group that an item names
abbrev pub group_named : SrcItem → List (List ℕ)
group_named (source.Enter group) = group ∷ []
group_named item = []

-- whether one of some names is not among those that are defined
abbrev pub lacks : List (List ℕ) → List (List ℕ) → Bool
lacks stated [] = false
lacks stated (name ∷ names) = not (is_named stated name)

abbrev pub is_ansi : BeginDef → Bool
is_ansi start = not (is_unicode start)

-- C02: an earlier begin has the same kind
abbrev pub is_begun : List BeginDef → BeginDef → Bool
is_begun before start = if start.unicode then list_any is_unicode before else list_any is_ansi before

-- C03: the name of an ordinary store is among the names defined before
abbrev pub is_store_again : List (List ℕ) → StoreDef → Bool
is_store_again before store = nat_eq store.system 0 && is_named before store.name

-- C04: the name of a group is among those defined before
abbrev pub is_group_again : List (List ℕ) → GroupDef → Bool
is_group_again before group = is_named before group.name

-- C05: no statement defines a store name
abbrev pub names_no_store : Stated → SrcItem → Bool
names_no_store stated item = lacks stated.stores (store_named item)

-- C06: no statement defines a group name
abbrev pub names_no_group : Stated → SrcItem → Bool
names_no_group stated item = lacks stated.groups (group_named item)

abbrev pub begins_no_group : Stated → BeginDef → Bool
begins_no_group stated start = not (is_named stated.groups start.group)

-- C07: `outs` or `$` in a store statement names a store that no earlier statement defines
abbrev pub uses_later_store : List (List ℕ) → SrcItem → Bool
uses_later_store before item = lacks before (store_put item)

-- whether a statement is the second match or nomatch, given whether there is a match and whether there is a nomatch before it
abbrev pub is_second : Bool → Bool → RuleKind → Bool
is_second matched unmatched kind.Plain = false
is_second matched unmatched kind.OnMatch = matched
is_second matched unmatched kind.OnNoMatch = unmatched

-- C15: a second match or a second nomatch in a group
abbrev pub is_again : List RuleDef → RuleDef → Bool
is_again before rule = is_second (list_any is_on_match before) (list_any is_on_nomatch before) rule.kind

-- the code of a begin statement, which may be the second of its kind
abbrev pub begin_code : Stated → Bool → BeginDef → Option Code
begin_code stated again start = broken ((C02, again) ∷ (C06, begins_no_group stated start) ∷ [])

abbrev pub begin_refusal : Stated → List BeginDef → BeginDef → Option Refusal
begin_refusal stated before start = at_line start.line (begin_code stated (is_begun before start) start)

-- the code of a store statement after stores with these names: its name is checked first, then its items
abbrev pub store_item_code : Stated → List (List ℕ) → SrcItem → Option Code
store_item_code stated before item =
    broken ((C05, names_no_store stated item) ∷ (C07, uses_later_store before item) ∷ [])

abbrev pub store_code : Stated → List (List ℕ) → StoreDef → Option Code
store_code stated before store =
    option_or (broken ((C03, is_store_again before store) ∷ [])) (first_code (store_item_code stated before) store.items)

abbrev pub store_refusal : Stated → List StoreDef → StoreDef → Option Refusal
store_refusal stated before store = at_line store.line (store_code stated (store_names before) store)

-- the code of a group statement after groups with these names
abbrev pub group_code : List (List ℕ) → GroupDef → Option Code
group_code before group = broken ((C04, is_group_again before group) ∷ [])

abbrev pub group_refusal : List GroupDef → GroupDef → Option Refusal
group_refusal before group = at_line group.line (group_code (group_names before) group)

-- the code of a rule, match or nomatch statement, which may be the second of its kind in its group: its kind is checked first, then its
-- items
abbrev pub rule_item_code : Stated → SrcItem → Option Code
rule_item_code stated item = broken ((C05, names_no_store stated item) ∷ (C06, names_no_group stated item) ∷ [])

abbrev pub rule_code : Stated → Bool → RuleDef → Option Code
rule_code stated again rule =
    option_or (broken ((C15, again) ∷ [])) (first_code (rule_item_code stated) (rule_items rule))

abbrev pub rule_refusal : Stated → List RuleDef → RuleDef → Option Refusal
rule_refusal stated before rule =
    at_line rule.line (rule_code stated (is_again before rule) rule)

-- the first refusal of the statements of a group
abbrev pub rules_refusal : Stated → List GroupDef → GroupDef → Option Refusal
rules_refusal stated before group = first_of (rule_refusal stated) [] group.rules

-- the first refusal for names among all statements
unfoldable pub names_refusal : Program → Option Refusal
names_refusal program =
    earlier (first_of (begin_refusal (stated program)) [] program.begins)
    (earlier (first_of (store_refusal (stated program)) [] program.stores)
    (earlier (first_of group_refusal [] program.groups) (first_of (rules_refusal (stated program)) [] program.groups)))

-- all refusals of the statements of a group
abbrev pub rules_refusals : Stated → GroupDef → List Refusal
rules_refusals stated group = all_of (rule_refusal stated) [] group.rules

-- all refusals for names: of begin, store and group statements, then of the statements of each group
unfoldable pub names_refusals : Program → List Refusal
names_refusals program =
    all_of (begin_refusal (stated program)) [] program.begins
    ++ (all_of (store_refusal (stated program)) [] program.stores
    ++ (all_of group_refusal [] program.groups ++ flat_map (rules_refusals (stated program)) program.groups))
