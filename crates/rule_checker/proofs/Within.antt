-- The limits that an accepted program keeps.
use Rattle.std.proofs.Common.{◌≡◌, ℕ, suc, ◌+◌, ◌≤◌, false, List, [], ◌∷◌, ◌++◌, length, map, Option, None, refl, sym, ap, subst, arith, append-nil, append_assoc, take_all}
use Rattle.std.specs.Prelude.{nat_lt, flat_map, sum, All}
use Rattle.std.specs.List.{list_any, join_with_byte, AllByRecursion}
use Rattle.std.specs.Str.{chars}
use Rattle.std.proofs.lemmas.List.{length-map}
use Rattle.std.proofs.lemmas.List.Concat.{length-flat_map}
use Rattle.std.proofs.lemmas.List.Elements.{All-nil, All-cons, All-head, All-tail}
use Rattle.std.proofs.lemmas.List.Sums.{sum-map}
use Rattle.std.proofs.lemmas.Bool.{or_parts, ltb-false}
use Rattle.kmn_base.specs.declared.codes.Code.TheVariants.{C16, C17, C18, C19, C20, C21, C22}
use Rattle.kmn_base.specs.declared.items.Element.TheVariants as element
use Rattle.kmn_base.specs.declared.limits.TheConstants.{CONTEXT_ITEMS, OUTPUT_ITEMS, STORE_ELEMENTS, ALL_ELEMENTS, STORES, GROUPS, RECORDS, DEADKEYS, KEY_NAMES}
use Rattle.kmn_base.specs.declared.refusals.Refusal.{Refusal}
use Rattle.kmn_base.specs.Names.{same_name}
use Rattle.kmn_base.proofs.Elements.{All-append_parts}
use Rattle.rule_model.specs.declared.program.SrcItem.{SrcItem}
use Rattle.rule_model.specs.declared.program.StoreDef.{StoreDef}
use Rattle.rule_model.specs.declared.program.RuleDef.{RuleDef}
use Rattle.rule_model.specs.declared.program.GroupDef.{GroupDef}
use Rattle.rule_model.specs.declared.program.Program.{Program}
use Rattle.rule_model.specs.declared.tables.Store.{Store}
use Rattle.rule_model.specs.Src.{src}
use Rattle.rule_model.specs.Tab.{distinct_onto}
use Rattle.rule_model.specs.Naming.{names_of, stores_of, all_rules, stores_before, stores_after, mark_names, source_items}
use Rattle.compile_laws.specs.Numbers.{compiled_stores, dictionary_stores, value_store, values_of}
use Rattle.kmn_parser.specs.ProgramLaws.{IsOwnKey}
use Rattle.store_table.specs.First.{broken, first_of}
use Rattle.store_table.specs.Numbering.{lists_of}
use Rattle.store_table.specs.Known.{Known, known}
use Rattle.rule_checker.specs.Limits.{Statement, OfStore, OfRule, in_line_order, line_of, items_of, output_size, names_size, sizes, mark_count, all_records, is_long_context, is_long_output, have_many_elements, are_many_stores, have_many_marks, have_many_records, are_many_groups, limit_code, statement_refusal, group_refusal, limits_refusal}
use Rattle.rule_checker.specs.Refused.{IsRead, refused}
use Rattle.rule_checker.specs.Laws.{statements_of}
use Rattle.rule_checker.proofs.Unrefused.{none_earlier, none_at_line, none_broken, none_first, Stands}
use Rattle.rule_checker.proofs.Lists.{all_parts}
use Rattle.rule_checker.proofs.Accepted.{IsUnrefused, unrefused}
use Rattle.rule_checker.proofs.Reading.{own_keys_read}
use Rattle.rule_checker.proofs.Sizes.{element_count, items_in_order, joined_size, sizes_counted}

-- if a property is true for the empty list, and each statement that isn't refused keeps it, it is true for all statements
holds_of_all : {X : Type 0} (refusal : List X → X → Option Refusal) (P : List X → Type 0) → ((before : List X) (x : X) → refusal before x ≡ None → P (before ++ x ∷ []))
    → (before xs : List X) → P before → first_of refusal before xs ≡ None → P (before ++ xs)
holds_of_all refusal P step before [] start h = subst P (sym (append-nil before)) start
holds_of_all refusal P step before (x ∷ xs) start h =
    let both : (refusal before x ≡ None) × (first_of refusal (before ++ x ∷ []) xs ≡ None) = none_earlier (refusal before x) (first_of refusal (before ++ x ∷ []) xs) h in
    subst P (append_assoc before (x ∷ []) xs) (holds_of_all refusal P step (before ++ x ∷ []) xs (step before x both.0) both.1)

-- the limits that the statements up to a statement keep, if it isn't refused
record Within (facts : Known) (through : List Statement) : Type 0 where
  elements : have_many_elements (sizes facts through) ≡ false
  stores : length (sizes facts through) ≤ STORES
  marks : mark_count through ≤ DEADKEYS
  records : all_records facts through ≤ RECORDS

module _ (facts : Known) (before : List Statement) (statement : Statement) (h : statement_refusal facts before statement ≡ None) where
  abbrev through : List Statement
  through = before ++ statement ∷ []

  here : (is_long_context statement ≡ false) × (is_long_output facts statement ≡ false) × Within facts through
  here =
      let r22 = (C22, have_many_records facts through) ∷ [] in
      let r21 = (C21, have_many_marks through) ∷ r22 in
      let r19 = (C19, are_many_stores (sizes facts through)) ∷ r21 in
      let r18 = (C18, have_many_elements (sizes facts through)) ∷ r19 in
      let r17 = (C17, is_long_output facts statement) ∷ r18 in
      let a = none_broken C16 (is_long_context statement) r17 (none_at_line (line_of statement) (limit_code facts through statement) h) in
      let b = none_broken C17 (is_long_output facts statement) r18 a.1 in
      let c = none_broken C18 (have_many_elements (sizes facts through)) r19 b.1 in
      let d = none_broken C19 (are_many_stores (sizes facts through)) r21 c.1 in
      let e = none_broken C21 (have_many_marks through) r22 d.1 in
      let f = none_broken C22 (have_many_records facts through) [] e.1 in (
        a.0,
        b.0,
        record {
          elements = c.0;
          stores = ltb-false STORES (length (sizes facts through)) d.0;
          marks = ltb-false DEADKEYS (mark_count through) e.0;
          records = ltb-false RECORDS (all_records facts through) f.0;
        },
      )

none_within : (facts : Known) → Within facts []
none_within facts = record { elements = refl; stores = omega arith; marks = omega arith; records = omega arith }

limits_parts : (program : Program) → limits_refusal program ≡ None
    → (first_of (statement_refusal (known program)) [] (statements_of program) ≡ None) × (first_of group_refusal [] program.groups ≡ None)
unfolding limits_refusal
limits_parts program h = none_earlier (first_of (statement_refusal (known program)) [] (statements_of program)) (first_of group_refusal [] program.groups) h

all_within : (program : Program) → limits_refusal program ≡ None → Within (known program) (statements_of program)
all_within program h =
    holds_of_all (statement_refusal (known program)) (Within (known program)) (λ before statement g. (here (known program) before statement g).2) [] (statements_of program)
    (none_within (known program)) (limits_parts program h).0

-- the rules among statements in the order of their lines
rules_among : (P : Statement → Type 0) (stores : List StoreDef) (rules : List RuleDef) → AllByRecursion P (in_line_order stores rules) → AllByRecursion (λ (rule : RuleDef). P (OfRule rule)) rules
rules_among P stores [] h = tt
rules_among P stores (rule ∷ rules) h =
    let rest = (all_parts P (map OfStore (stores_before rule.line stores)) (OfRule rule ∷ in_line_order (stores_after rule.line stores) rules) h).1 in
    (rest.0, rules_among P (stores_after rule.line stores) rules rest.1)

-- no rule has too many items
pub record IsShortRule (stores : List Store) (rule : RuleDef) : Type 0 where
  pub context : length rule.context ≤ CONTEXT_ITEMS
  pub output : output_size stores rule.output ≤ OUTPUT_ITEMS

short_rules : (facts : Known) (rules : List RuleDef) → AllByRecursion (λ (rule : RuleDef). Stands (statement_refusal facts) (OfRule rule)) rules → All (IsShortRule facts.stores) rules
short_rules facts [] h = All-nil (IsShortRule facts.stores)
short_rules facts (rule ∷ rules) h =
    let parts = here facts h.0.0 (OfRule rule) h.0.1 in
    All-cons (IsShortRule facts.stores) rule rules
    (record { context = ltb-false CONTEXT_ITEMS (length rule.context) parts.0; output = ltb-false OUTPUT_ITEMS (output_size facts.stores rule.output) parts.1 })
    (short_rules facts rules h.1)

pub rules_are_short : (program : Program) → IsUnrefused program → All (IsShortRule (stores_of program)) (all_rules program)
unfolding known
rules_are_short program whole =
    short_rules (known program) (all_rules program)
    (rules_among (Stands (statement_refusal (known program))) program.stores (all_rules program)
    (none_first (statement_refusal (known program)) [] (statements_of program) (limits_parts program whole.limits).0))

-- an accepted program has at most `GROUPS` groups
pub few_groups : (program : Program) → IsUnrefused program → length program.groups ≤ GROUPS
few_groups program whole =
    holds_of_all group_refusal (λ (groups : List GroupDef). length groups ≤ GROUPS)
    (λ before group g. ltb-false GROUPS (length (before ++ group ∷ [])) (none_broken C20 (are_many_groups (before ++ group ∷ [])) [] (none_at_line group.line (broken ((C20, are_many_groups (before ++ group ∷ [])) ∷ [])) g)).0)
    [] program.groups (omega arith) (limits_parts program whole.limits).1

-- an accepted program has at most `DEADKEYS` deadkeys
pub few_marks : (program : Program) → IsUnrefused program → length (names_of program).marks ≤ DEADKEYS
unfolding names_of
few_marks program whole =
    let items : flat_map items_of (statements_of program) ≡ source_items program = items_in_order program.stores (all_rules program) in
    subst (λ (xs : List SrcItem). length (distinct_onto same_name [] (flat_map mark_names xs)) ≤ DEADKEYS) items (all_within program whole.limits).marks

-- an accepted program has at most `RECORDS` records
pub few_records : (program : Program) → IsUnrefused program → all_records (known program) (statements_of program) ≤ RECORDS
few_records program whole = (all_within program whole.limits).records

none_large : (sizes : List Store) → list_any (nat_lt STORE_ELEMENTS) (map element_count sizes) ≡ false → All (λ (s : Store). length s.elements ≤ STORE_ELEMENTS) sizes
none_large [] h = All-nil (λ (s : Store). length s.elements ≤ STORE_ELEMENTS)
none_large (s ∷ stores) h =
    let both = or_parts (nat_lt STORE_ELEMENTS (length s.elements)) (list_any (nat_lt STORE_ELEMENTS) (map element_count stores)) h in
    All-cons (λ (t : Store). length t.elements ≤ STORE_ELEMENTS) s stores (ltb-false STORE_ELEMENTS (length s.elements) both.0) (none_large stores both.1)

module _ (program : Program) (read : IsRead program) (whole : IsUnrefused program) where
  abbrev counted : sizes (known program) (statements_of program) ≡ map element_count (compiled_stores program)
  counted = sizes_counted program read whole

  -- the file has at most `STORES` stores, each with at most `STORE_ELEMENTS` elements, and at most `ALL_ELEMENTS` together
  pub few_stores : length (compiled_stores program) ≤ STORES
  few_stores = omega (arith, (all_within program whole.limits).stores, ap length counted, length-map (compiled_stores program) element_count)

  elements_within : (list_any (nat_lt STORE_ELEMENTS) (map element_count (compiled_stores program)) ≡ false) × (nat_lt ALL_ELEMENTS (sum (map element_count (compiled_stores program))) ≡ false)
  elements_within =
      or_parts (list_any (nat_lt STORE_ELEMENTS) (map element_count (compiled_stores program))) (nat_lt ALL_ELEMENTS (sum (map element_count (compiled_stores program))))
      (subst (λ (ns : List ℕ). have_many_elements ns ≡ false) counted (all_within program whole.limits).elements)

  pub few_elements : All (λ (s : Store). length s.elements ≤ STORE_ELEMENTS) (compiled_stores program)
  few_elements = none_large (compiled_stores program) elements_within.0

  pub few_in_all : length (flat_map (λ (s : Store). s.elements) (compiled_stores program)) ≤ ALL_ELEMENTS
  few_in_all =
      let all = ltb-false ALL_ELEMENTS (sum (map element_count (compiled_stores program))) elements_within.1 in
      omega (arith, all, sum-map element_count (compiled_stores program), length-flat_map (λ (s : Store). s.elements) (compiled_stores program))

-- each name has a character, so a dictionary that keeps the limit of a store has few names
name_each : (names : List (List ℕ)) → All IsOwnKey names → length names ≤ names_size names
name_each [] own = omega arith
name_each (name ∷ names) own =
    let here = All-head IsOwnKey name names own in
    omega (arith, here.word.some, name_each names (All-tail IsOwnKey name names own))

half_of : (n m : ℕ) → n + n ≤ suc m → m ≤ STORE_ELEMENTS → n ≤ KEY_NAMES
half_of n m h g = omega arith

few_names : (keys : List (List ℕ)) → All IsOwnKey keys → All (λ (s : Store). length s.elements ≤ STORE_ELEMENTS) (dictionary_stores keys) → length keys ≤ KEY_NAMES
few_names [] own few = omega arith
few_names (name ∷ names) own few =
    let dictionary : Store = record { system = 34; name = []; elements = map element.Char (chars (join_with_byte 32 (name ∷ names))) } in
    let size : length dictionary.elements ≤ STORE_ELEMENTS = All-head (λ (s : Store). length s.elements ≤ STORE_ELEMENTS) dictionary [] few in
    half_of (suc (length names)) (length dictionary.elements)
    (omega (arith, length-map (chars (join_with_byte 32 (name ∷ names))) element.Char, joined_size name names own, name_each (name ∷ names) own)) size

-- so each custom key of the keyboard has a code
pub few_keys : (program : Program) → IsRead program → IsUnrefused program → length (names_of program).keys ≤ KEY_NAMES
few_keys program read whole =
    let few = few_elements program read whole in
    let behind = All-append_parts (λ (s : Store). length s.elements ≤ STORE_ELEMENTS) (stores_of program) (dictionary_stores (names_of program).keys ++ map value_store (values_of program)) few in
    let dictionary = All-append_parts (λ (s : Store). length s.elements ≤ STORE_ELEMENTS) (dictionary_stores (names_of program).keys) (map value_store (values_of program)) behind.1 in
    few_names (names_of program).keys (own_keys_read program read.statements) dictionary.0

-- and their names are the words of its dictionary
pub keys_are_coded : (program : Program) → IsRead program → refused program ≡ None → (lists_of program).keys ≡ (src program).dictionary
unfolding lists_of src
keys_are_coded program read accepted = take_all KEY_NAMES (names_of program).keys (few_keys program read (unrefused program accepted))
