-- All causes for which names refuse the statements of a program.
use Rattle.std.specs.Prelude.{ℕ, Bool, if◌then◌else◌, List, [], ◌∷◌, ◌++◌, slice_get, flat_map, Option, None, Some}
use Rattle.std.specs.Option.{option_or}
use Rattle.kmn_base.specs.declared.codes.Code.{Code}
use Rattle.kmn_base.specs.declared.codes.Code.TheVariants.{C02, C03, C04, C05, C06, C07, C15}
use Rattle.kmn_base.specs.declared.refusals.Refusal.{Refusal}
use Rattle.rule_model.specs.declared.program.SrcItem.{SrcItem}
use Rattle.rule_model.specs.declared.program.StoreDef.{StoreDef}
use Rattle.rule_model.specs.declared.program.RuleDef.{RuleDef}
use Rattle.rule_model.specs.declared.program.GroupDef.{GroupDef}
use Rattle.rule_model.specs.declared.program.BeginDef.{BeginDef}
use Rattle.rule_model.specs.declared.program.Program.{Program}
use Rattle.rule_model.specs.Naming.{rule_items}
use Rattle.store_table.specs.Names.{is_named, store_names, group_names, store_named, group_named, is_begun, is_store_again, is_group_again, uses_later_store, is_again}
use Rattle.source_names.specs.declared.causes.Cause.{Cause}
use Rattle.source_names.specs.declared.causes.Cause.TheVariants as because
use Rattle.source_names.specs.declared.causes.NameFault.{NameFault}

-- the code of a cause
abbrev pub code_of : Cause → Code
code_of (because.NoStore name) = C05
code_of (because.NoGroup name) = C06
code_of (because.Broken code) = code

-- the refusal of a line for a cause
abbrev pub cause_refusal : NameFault → Refusal
cause_refusal fault = record { line = fault.line; code = code_of fault.cause }

-- C05: a store that no statement defines
abbrev pub store_cause : List (List ℕ) → Option (List ℕ) → Option Cause
store_cause stores None = None
store_cause stores (Some name) = if is_named stores name then None else Some (because.NoStore name)

abbrev pub no_store : List (List ℕ) → SrcItem → Option Cause
no_store stores item = store_cause stores (slice_get (store_named item) 0)

-- C06: a group that no statement defines
abbrev pub group_cause : List (List ℕ) → Option (List ℕ) → Option Cause
group_cause groups None = None
group_cause groups (Some name) = if is_named groups name then None else Some (because.NoGroup name)

abbrev pub no_group : List (List ℕ) → SrcItem → Option Cause
no_group groups item = group_cause groups (slice_get (group_named item) 0)

-- another rule, if it is broken
abbrev pub broken_if : Bool → Code → Option Cause
broken_if broken code = if broken then Some (because.Broken code) else None

-- the cause of an item in a store statement, after stores with these names
abbrev pub store_item_cause : List (List ℕ) → List (List ℕ) → SrcItem → Option Cause
store_item_cause stores before item = option_or (no_store stores item) (broken_if (uses_later_store before item) C07)

-- the cause of an item in a rule, match or nomatch statement
abbrev pub rule_item_cause : List (List ℕ) → List (List ℕ) → SrcItem → Option Cause
rule_item_cause stores groups item = option_or (no_store stores item) (no_group groups item)

-- a cause at a line, and those of items at a line
abbrev pub caused : ℕ → Option Cause → List NameFault
caused line None = []
caused line (Some cause) = record { line = line; cause = cause } ∷ []

abbrev pub items_caused : ℕ → (SrcItem → Option Cause) → List SrcItem → List NameFault
items_caused line cause items = flat_map (λ (item : SrcItem). caused line (cause item)) items

-- the causes of one statement, in the order in which they are checked. A begin may be the second of its kind, and a match or nomatch the
-- second of its group
unfoldable pub begin_causes : List (List ℕ) → Bool → BeginDef → List NameFault
begin_causes groups again start = caused start.line (broken_if again C02) ++ caused start.line (group_cause groups (Some start.group))

unfoldable pub store_causes : List (List ℕ) → List (List ℕ) → StoreDef → List NameFault
store_causes stores before store =
    caused store.line (broken_if (is_store_again before store) C03) ++ items_caused store.line (store_item_cause stores before) store.items

unfoldable pub group_causes : List (List ℕ) → GroupDef → List NameFault
group_causes before group = caused group.line (broken_if (is_group_again before group) C04)

unfoldable pub rule_causes : List (List ℕ) → List (List ℕ) → Bool → RuleDef → List NameFault
rule_causes stores groups again rule =
    caused rule.line (broken_if again C15) ++ items_caused rule.line (rule_item_cause stores groups) (rule_items rule)

-- the causes of statements of one kind, each of which is checked with the statements of its kind that precede it
abbrev pub each_of : {X : Type 0} → (List X → X → List NameFault) → List X → List X → List NameFault
each_of causes before [] = []
each_of causes before (statement ∷ statements) = causes before statement ++ each_of causes (before ++ statement ∷ []) statements

abbrev pub begin_faults : List (List ℕ) → List BeginDef → BeginDef → List NameFault
begin_faults groups before start = begin_causes groups (is_begun before start) start

abbrev pub store_faults : List (List ℕ) → List StoreDef → StoreDef → List NameFault
store_faults stores before store = store_causes stores (store_names before) store

abbrev pub group_faults : List GroupDef → GroupDef → List NameFault
group_faults before group = group_causes (group_names before) group

abbrev pub rule_faults : List (List ℕ) → List (List ℕ) → List RuleDef → RuleDef → List NameFault
rule_faults stores groups before rule = rule_causes stores groups (is_again before rule) rule

-- the causes of the statements of a group
abbrev pub rules_faults : List (List ℕ) → List (List ℕ) → GroupDef → List NameFault
rules_faults stores groups group = each_of (rule_faults stores groups) [] group.rules

-- all causes of a program that defines these names: of begin, store and group statements, then of the statements of each group
abbrev pub causes_with : List (List ℕ) → List (List ℕ) → Program → List NameFault
causes_with stores groups program =
    each_of (begin_faults groups) [] program.begins
    ++ (each_of (store_faults stores) [] program.stores
    ++ (each_of group_faults [] program.groups ++ flat_map (rules_faults stores groups) program.groups))

unfoldable pub name_causes : Program → List NameFault
name_causes program = causes_with (store_names program.stores) (group_names program.groups) program
