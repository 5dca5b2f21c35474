-- The limits of a program, and the first statement at which one is passed.
use Rattle.std.specs.Prelude.{ℕ, ◌+◌, Bool, false, ◌&&◌, ◌||◌, if◌then◌else◌, nat_lt, List, [], ◌∷◌, ◌++◌, length, map, flat_map, filter, sum, Option, Some}
use Rattle.std.specs.List.{list_any}
use Rattle.std.specs.Str.{bytes_eq, chars}
use Rattle.kmn_base.specs.declared.codes.Code.{Code}
use Rattle.kmn_base.specs.declared.codes.Code.TheVariants.{C16, C17, C18, C19, C20, C21, C22}
use Rattle.kmn_base.specs.declared.limits.TheConstants.{CONTEXT_ITEMS, OUTPUT_ITEMS, STORE_ELEMENTS, ALL_ELEMENTS, STORES, GROUPS, RECORDS, DEADKEYS}
use Rattle.kmn_base.specs.declared.refusals.Refusal.{Refusal}
use Rattle.kmn_base.specs.Names.{same_name}
use Rattle.kmn_base.specs.declared.items.Element.{Element}
use Rattle.kmn_base.specs.declared.items.Element.TheVariants as element
use Rattle.rule_model.specs.declared.program.SrcItem.{SrcItem}
use Rattle.rule_model.specs.declared.program.SrcItem.TheVariants as source
use Rattle.rule_model.specs.declared.program.StoreDef.{StoreDef}
use Rattle.rule_model.specs.declared.program.RuleKind.{RuleKind}
use Rattle.rule_model.specs.declared.program.RuleKind.TheVariants as kind
use Rattle.rule_model.specs.declared.program.RuleDef.{RuleDef}
use Rattle.rule_model.specs.declared.program.GroupDef.{GroupDef}
use Rattle.rule_model.specs.declared.program.Program.{Program}
use Rattle.rule_model.specs.declared.tables.Store.{Store}
use Rattle.rule_model.specs.Tab.{distinct_onto}
use Rattle.rule_model.specs.Naming.{is_dropped, rule_items, stores_before, stores_after, all_rules, mark_names, key_names, elements_named}
use Rattle.rule_model.specs.Hold.{is_exchanged}
use Rattle.compile_laws.specs.Numbers.{item_values}
use Rattle.store_table.specs.First.{broken, at_line, earlier, first_of}
use Rattle.store_table.specs.Known.{Known, known, statement_elements}
use Rattle.virtual_keys.specs.declared.dictionary.TheConstants.{FIRST_OWN_CODE}

-- a statement that has items
pub data Statement : Type 0 where
  OfStore : (store : StoreDef) → Statement
  OfRule : (rule : RuleDef) → Statement

-- the statements that have items, in the order of their lines
abbrev pub in_line_order : List StoreDef → List RuleDef → List Statement
in_line_order stores [] = map OfStore stores
in_line_order stores (rule ∷ rules) =
    map OfStore (stores_before rule.line stores) ++ (OfRule rule ∷ in_line_order (stores_after rule.line stores) rules)

abbrev pub line_of : Statement → ℕ
line_of (OfStore store) = store.line
line_of (OfRule rule) = rule.line

abbrev pub items_of : Statement → List SrcItem
items_of (OfStore store) = store.items
items_of (OfRule rule) = rule_items rule

-- the values of conditions and of `set`, which only rules have
abbrev pub values_of_statement : Statement → List (List ℕ)
values_of_statement (OfStore store) = []
values_of_statement (OfRule rule) = flat_map item_values (rule_items rule)

-- the number of items that an item of an output expands to, after `outs` and `$`
abbrev pub item_size : List Store → SrcItem → ℕ
item_size stores (source.Outs store) = length (elements_named stores store)
item_size stores item = 1

abbrev pub output_size : List Store → List SrcItem → ℕ
output_size stores output = sum (map (item_size stores) output)

-- the codes of the cased keys: those of the key table, since others are refused before the limits
abbrev pub cased_codes : Known → List ℕ
cased_codes known = filter (λ code. nat_lt 0 code && nat_lt code FIRST_OWN_CODE) known.cased

-- the number of records of a key with these flags and this code: two if the key exchanges shift and caps lock
abbrev pub virtual_count : List ℕ → ℕ → ℕ → ℕ
virtual_count cased flags code = if is_exchanged cased flags code then 2 else 1

abbrev pub element_count : List ℕ → Element → ℕ
element_count cased (element.Key flags code) = virtual_count cased flags code
element_count cased other = 1

-- how many records a statement has: those of a rule's key, or of all elements of its key store
abbrev pub key_count : Known → Option SrcItem → ℕ
key_count known (Some (source.Key key)) = virtual_count (cased_codes known) key.flags key.code
key_count known (Some (source.Any store)) = sum (map (element_count (cased_codes known)) (elements_named known.stores store))
key_count known key = 1

abbrev pub record_count : Known → RuleKind → Option SrcItem → ℕ
record_count known kind.Plain key = key_count known key
record_count known other key = 0

abbrev pub records_of_statement : Known → Statement → ℕ
records_of_statement known (OfStore store) = 0
records_of_statement known (OfRule rule) = record_count known rule.kind rule.key

-- the number of elements that the store of a statement has in the file, if the statement is not dropped
abbrev pub store_size : Known → StoreDef → List ℕ
store_size known store = if is_dropped store then [] else length (statement_elements known store) ∷ []

abbrev pub statement_size : Known → Statement → List ℕ
statement_size known (OfStore store) = store_size known store
statement_size known (OfRule rule) = []

-- the key dictionary has the characters of the names, with a space between each two
abbrev pub names_size : List (List ℕ) → ℕ
names_size [] = 0
names_size (name ∷ names) = length (chars name) + names_size names

abbrev pub dictionary_size : List (List ℕ) → List ℕ
dictionary_size [] = []
dictionary_size (name ∷ names) = (names_size (name ∷ names) + length names) ∷ []

-- the number of elements of each store that these statements add to the file: the stated stores, the key dictionary, and one
-- store for each value
abbrev pub sizes : Known → List Statement → List ℕ
sizes known statements =
    flat_map (statement_size known) statements
    ++ (dictionary_size (distinct_onto same_name [] (flat_map key_names (flat_map items_of statements)))
    ++ map length (distinct_onto bytes_eq [] (flat_map values_of_statement statements)))

abbrev pub mark_count : List Statement → ℕ
mark_count statements = length (distinct_onto same_name [] (flat_map mark_names (flat_map items_of statements)))

abbrev pub all_records : Known → List Statement → ℕ
all_records known statements = sum (map (records_of_statement known) statements)

-- C16: too many items of a context
abbrev pub is_long_context : Statement → Bool
is_long_context (OfStore store) = false
is_long_context (OfRule rule) = nat_lt CONTEXT_ITEMS (length rule.context)

-- C17: too many items of an output
abbrev pub is_long_output : Known → Statement → Bool
is_long_output known (OfStore store) = false
is_long_output known (OfRule rule) = nat_lt OUTPUT_ITEMS (output_size known.stores rule.output)

-- C18: too many elements of one store, or of all stores
abbrev pub have_many_elements : List ℕ → Bool
have_many_elements sizes = list_any (nat_lt STORE_ELEMENTS) sizes || nat_lt ALL_ELEMENTS (sum sizes)

-- C19: too many stores
abbrev pub are_many_stores : List ℕ → Bool
are_many_stores sizes = nat_lt STORES (length sizes)

-- C21: too many deadkeys
abbrev pub have_many_marks : List Statement → Bool
have_many_marks statements = nat_lt DEADKEYS (mark_count statements)

-- C22: too many records
abbrev pub have_many_records : Known → List Statement → Bool
have_many_records known statements = nat_lt RECORDS (all_records known statements)

-- C20: too many groups
abbrev pub are_many_groups : List GroupDef → Bool
are_many_groups groups = nat_lt GROUPS (length groups)

-- the first limit that is passed at a statement, if any; `through` is the statements up to and including it
abbrev pub limit_code : Known → List Statement → Statement → Option Code
limit_code known through statement =
    broken ((C16, is_long_context statement) ∷ (C17, is_long_output known statement)
    ∷ (C18, have_many_elements (sizes known through)) ∷ (C19, are_many_stores (sizes known through))
    ∷ (C21, have_many_marks through) ∷ (C22, have_many_records known through) ∷ [])

abbrev pub statement_refusal : Known → List Statement → Statement → Option Refusal
statement_refusal known before statement =
    at_line (line_of statement) (limit_code known (before ++ statement ∷ []) statement)

abbrev pub group_refusal : List GroupDef → GroupDef → Option Refusal
group_refusal before group = at_line group.line (broken ((C20, are_many_groups (before ++ group ∷ [])) ∷ []))

-- the first refusal for limits, of all statements
unfoldable pub limits_refusal : Program → Option Refusal
limits_refusal program =
    earlier (first_of (statement_refusal (known program)) [] (in_line_order program.stores (all_rules program)))
    (first_of group_refusal [] program.groups)
