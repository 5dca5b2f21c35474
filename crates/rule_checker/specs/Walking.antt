-- What of the limits is counted statement by statement, in the order of lines.
use Rattle.std.specs.Prelude.{ℕ, ◌+◌, ◌-◌, min, Bool, false, ◌||◌, nat_lt, nat_eq, if◌then◌else◌, List, [], ◌∷◌, ◌++◌, length, Option, None, Some}
use Rattle.std.specs.List.{list_any}
use Rattle.std.specs.Str.{bytes_eq, chars}
use Rattle.kmn_base.specs.declared.codes.Code.{Code}
use Rattle.kmn_base.specs.declared.codes.Code.TheVariants.{C16, C17, C18, C19, C21, C22}
use Rattle.kmn_base.specs.declared.limits.TheConstants.{CONTEXT_ITEMS, OUTPUT_ITEMS, STORE_ELEMENTS, ALL_ELEMENTS, STORES, RECORDS, DEADKEYS}
use Rattle.virtual_keys.specs.Dictionary.{with_name}
use Rattle.rule_model.specs.declared.program.SrcItem.{SrcItem}
use Rattle.rule_model.specs.declared.program.SrcItem.TheVariants as source
use Rattle.rule_model.specs.declared.program.StoreDef.{StoreDef}
use Rattle.rule_model.specs.declared.program.RuleDef.{RuleDef}
use Rattle.rule_model.specs.declared.program.RuleKind.{RuleKind}
use Rattle.rule_model.specs.declared.program.RuleKind.TheVariants as kind
use Rattle.rule_model.specs.Naming.{is_dropped, rule_items}
use Rattle.store_table.specs.First.{broken, at_line, earlier}
use Rattle.store_table.specs.Names.{is_named}
use Rattle.rule_checker.specs.declared.counting.StoreCounts.{StoreCounts}
use Rattle.rule_checker.specs.declared.totals.Totals.{Totals}
use Rattle.rule_checker.specs.declared.walking.Walk.{Walk}
use Rattle.rule_checker.specs.Counting.{capped, total, count_of, output_count_of, records_named, virtual_count_of}
use Rattle.rule_checker.specs.Limits.{Statement, OfStore, OfRule}

-- totals with a mark, a dictionary key or a value, each counted only if it is new
abbrev pub with_mark : Totals → List ℕ → Totals
with_mark totals name = record totals { marks = with_name totals.marks name }

abbrev pub with_key : Totals → List ℕ → Totals
with_key totals name =
    if is_named totals.keys name then totals
    else record totals { keys = totals.keys ++ name ∷ []; key_characters = capped (totals.key_characters + capped (length (chars name))) }

-- whether a value is among values
abbrev pub is_value : List (List ℕ) → List ℕ → Bool
is_value values value = list_any (λ known. bytes_eq known value) values

abbrev pub with_value : Totals → List ℕ → Totals
with_value totals value =
    if is_value totals.values value then totals
    else record totals {
      values = totals.values ++ value ∷ [];
      value_elements = capped (totals.value_elements + capped (length value));
      has_large_value = totals.has_large_value || nat_lt STORE_ELEMENTS (length value);
    }

-- totals with the mark or dictionary key that an item names
abbrev pub with_names_of : Totals → SrcItem → Totals
with_names_of totals (source.Dead name) = with_mark totals name
with_names_of totals (source.Key key) = if nat_eq key.code 0 then with_key totals key.name else totals
with_names_of totals item = totals

abbrev pub with_names : Totals → List SrcItem → Totals
with_names totals [] = totals
with_names totals (item ∷ items) = with_names (with_names_of totals item) items

-- totals with the value of an item of a rule
abbrev pub with_value_of : Totals → SrcItem → Totals
with_value_of totals (source.Equal store value) = with_value totals value
with_value_of totals (source.Unequal store value) = with_value totals value
with_value_of totals (source.SystemEqual id value) = with_value totals value
with_value_of totals (source.SystemUnequal id value) = with_value totals value
with_value_of totals (source.Set store value) = with_value totals value
with_value_of totals (source.SetSystem id value) = with_value totals value
with_value_of totals item = totals

abbrev pub with_values : Totals → List SrcItem → Totals
with_values totals [] = totals
with_values totals (item ∷ items) = with_values (with_value_of totals item) items

-- totals with a further store of this number of elements
abbrev pub with_size : Totals → ℕ → Totals
with_size totals size =
    record totals {
      stores = capped (totals.stores + 1);
      elements = capped (totals.elements + size);
      has_large_store = totals.has_large_store || nat_lt STORE_ELEMENTS size;
    }

abbrev pub with_store_size : StoreCounts → Totals → StoreDef → Totals
with_store_size counted totals store =
    if is_dropped store then totals else with_size totals (total (count_of counted) 0 store.items)

-- the number of records of a plain rule with this key
abbrev pub key_count_of : StoreCounts → Option SrcItem → ℕ
key_count_of counted (Some (source.Key key)) = virtual_count_of counted key
key_count_of counted (Some (source.Any store)) = records_named counted store
key_count_of counted key = 1

abbrev pub record_count_of : StoreCounts → RuleKind → Option SrcItem → ℕ
record_count_of counted kind.Plain key = key_count_of counted key
record_count_of counted other key = 0

abbrev pub with_records : StoreCounts → Totals → RuleDef → Totals
with_records counted totals rule =
    record totals { records = capped (totals.records + record_count_of counted rule.kind rule.key) }

-- totals after a further statement
abbrev pub after_store : StoreCounts → Totals → StoreDef → Totals
after_store counted totals store = with_names (with_store_size counted totals store) store.items

abbrev pub after_rule : StoreCounts → Totals → RuleDef → Totals
after_rule counted totals rule =
    with_records counted (with_values (with_names totals (rule_items rule)) (rule_items rule)) rule

-- the number of elements of the key dictionary: the characters of the names, and a space between each two names
abbrev pub dictionary_count : Totals → ℕ
dictionary_count totals = totals.key_characters + capped (length totals.keys - 1)

abbrev pub store_count : Totals → ℕ
store_count totals = totals.stores + min 1 (length totals.keys) + capped (length totals.values)

abbrev pub passes_elements : Totals → Bool
passes_elements totals =
    totals.has_large_store
    || (totals.has_large_value
    || (nat_lt STORE_ELEMENTS (dictionary_count totals)
    || nat_lt ALL_ELEMENTS (totals.elements + dictionary_count totals + totals.value_elements)))

-- the first limit that the context or the output of the last statement passes, or that totals pass
abbrev pub totals_code : Totals → Bool → Bool → Option Code
totals_code totals context output =
    broken ((C16, context) ∷ (C17, output) ∷ (C18, passes_elements totals) ∷ (C19, nat_lt STORES (store_count totals))
    ∷ (C21, nat_lt DEADKEYS (length totals.marks)) ∷ (C22, nat_lt RECORDS totals.records) ∷ [])

abbrev pub after_store_walk : StoreCounts → Walk → StoreDef → Walk
after_store_walk counted walk store =
    let totals = after_store counted walk.totals store in
    record { totals = totals; first = earlier walk.first (at_line store.line (totals_code totals false false)) }

abbrev pub after_rule_walk : StoreCounts → Walk → RuleDef → Walk
after_rule_walk counted walk rule =
    let totals = after_rule counted walk.totals rule in
    let context = nat_lt CONTEXT_ITEMS (length rule.context) in
    let output = nat_lt OUTPUT_ITEMS (total (output_count_of counted) 0 rule.output) in
    record { totals = totals; first = earlier walk.first (at_line rule.line (totals_code totals context output)) }

abbrev pub after_statement : StoreCounts → Walk → Statement → Walk
after_statement counted walk (OfStore store) = after_store_walk counted walk store
after_statement counted walk (OfRule rule) = after_rule_walk counted walk rule

abbrev pub walked : StoreCounts → Walk → List Statement → Walk
walked counted walk [] = walk
walked counted walk (statement ∷ statements) = walked counted (after_statement counted walk statement) statements

-- the totals of no statements
abbrev pub no_totals : Totals
no_totals =
    record {
      marks = [];
      keys = [];
      values = [];
      stores = 0;
      elements = 0;
      key_characters = 0;
      value_elements = 0;
      has_large_store = false;
      has_large_value = false;
      records = 0;
    }

abbrev pub no_walk : Walk
no_walk = record { totals = no_totals; first = None }
