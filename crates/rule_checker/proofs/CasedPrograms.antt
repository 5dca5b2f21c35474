-- The cased keys of an accepted program are keys of the key table.
use Rattle.std.proofs.Common.{◌≡◌, ℕ, ◌<◌, ◌≤◌, ◌⊎◌, inl, inr, Bool, true, false, not, List, [], ◌∷◌, filter, Some, None, refl, sym, ap, subst, ◌∙◌, arith, if◌then◌else◌}
use Rattle.std.specs.Prelude.{All, flat_map, find, nat_eq, nat_lt, ◌&&◌, ◌||◌}
use Rattle.std.specs.List.{list_any, filter_map, AllByRecursion}
use Rattle.std.proofs.lemmas.Bool.{and_parts, or_parts, not-false, ltb-true}
use Rattle.std.proofs.lemmas.Bool.Decides.{nat_tests}
use Rattle.std.proofs.lemmas.List.Elements.{All-nil, All-cons, All-head, All-tail, All-append}
use Rattle.std.proofs.lemmas.List.Folds.{list_any-append}
use Rattle.kmn_base.specs.declared.codes.Code.TheVariants.{C13, C14, C25}
use Rattle.kmn_base.specs.declared.items.Element.{Element}
use Rattle.kmn_base.specs.declared.items.Element.TheVariants as element
use Rattle.kmn_base.proofs.Options.{option_or-none}
use Rattle.rule_model.specs.declared.program.SrcItem.{SrcItem}
use Rattle.rule_model.specs.declared.program.StoreDef.{StoreDef}
use Rattle.rule_model.specs.declared.program.Program.{Program}
use Rattle.rule_model.specs.declared.tables.Store.{Store}
use Rattle.rule_model.specs.Tab.{store_elements}
use Rattle.rule_model.specs.Naming.{stores_of, is_dropped}
use Rattle.rule_model.specs.Src.{code_of_element, is_cased_keys, cased_keys}
use Rattle.store_table.specs.First.{first_code}
use Rattle.store_table.specs.Known.{Known, known, brought, statement_elements}
use Rattle.item_checker.specs.Items.{is_no_plain_key, uses_option, needs_characters, brings_no_character, needs_plain_keys, brings_no_plain_key, store_item_code, store_head_code, store_code, store_refusal}
use Rattle.rule_checker.specs.Limits.{cased_codes}
use Rattle.rule_checker.specs.Refused.{IsRead}
use Rattle.rule_checker.proofs.Unrefused.{none_at_line, none_broken, none_first, Stands}
use Rattle.rule_checker.proofs.Lists.{none_passes}
use Rattle.rule_checker.proofs.Accepted.{IsUnrefused}
use Rattle.rule_checker.proofs.Sizes.{store_with, kept_store, program_stores}
use Rattle.rule_checker.proofs.Elements.{IsSoundElement, IsSoundStore, stated_sound}

-- the code of a key of the key table
abbrev pub IsTableCode : ℕ → Type 0
IsTableCode code = (0 < code) × (code < 256)

-- a `&casedkeys` has only keys of the key table without modifiers
abbrev HasPlainKeys : Store → Type 0
HasPlainKeys store = is_cased_keys store ≡ true → list_any is_no_plain_key store.elements ≡ false

items_plain : (facts : Known) (characters : Bool) (items : List SrcItem) → first_code (store_item_code facts characters true) items ≡ None → list_any is_no_plain_key (flat_map (brought facts) items) ≡ false
items_plain facts characters [] h = refl
items_plain facts characters (item ∷ items) h =
    let plain = (C25, brings_no_plain_key facts item) ∷ [] in
    let both = option_or-none (store_item_code facts characters true item) (first_code (store_item_code facts characters true) items) h in
    let one = none_broken C13 (uses_option facts item) ((C14, characters && brings_no_character facts item) ∷ plain) both.0 in
    let two = none_broken C14 (characters && brings_no_character facts item) plain one.1 in
    let three = none_broken C25 (brings_no_plain_key facts item) [] two.1 in
    list_any-append is_no_plain_key (brought facts item) (flat_map (brought facts) items)
    ∙ (λ j. three.0 j || items_plain facts characters items both.1 j)

statement_plain : (facts : Known) (store : StoreDef) → store_code facts store ≡ None → needs_plain_keys store ≡ true → list_any is_no_plain_key (statement_elements facts store) ≡ false
statement_plain facts store h wanted =
    let codes = option_or-none (store_head_code facts store) (first_code (store_item_code facts (needs_characters facts store) (needs_plain_keys store)) store.items) h in
    items_plain facts (needs_characters facts store) store.items
    (subst (λ (keys : Bool). first_code (store_item_code facts (needs_characters facts store) keys) store.items ≡ None) wanted codes.1)

kept_plain : (facts : Known) (stores : List StoreDef) → AllByRecursion (Stands (store_refusal facts)) stores → All HasPlainKeys (flat_map (kept_store facts) stores)
kept_plain facts [] h = All-nil HasPlainKeys
kept_plain facts (store ∷ stores) h =
    All-append HasPlainKeys (kept_store facts store) (flat_map (kept_store facts) stores) (by (is_dropped store)) (kept_plain facts stores h.1)
  where
    by : (b : Bool) → All HasPlainKeys (if b then [] else store_with store (statement_elements facts store) ∷ [])
    by true = All-nil HasPlainKeys
    by false = All-cons HasPlainKeys (store_with store (statement_elements facts store)) [] (statement_plain facts store (none_at_line store.line (store_code facts store) h.0.1)) (All-nil HasPlainKeys)

-- the codes of such keys
codes_plain : (elements : List Element) → All IsSoundElement elements → list_any is_no_plain_key elements ≡ false → All IsTableCode (filter_map code_of_element elements)
codes_plain [] sound plain = All-nil IsTableCode
codes_plain (element.Char c ∷ elements) sound plain = absurd (cc)
codes_plain (element.Mark m ∷ elements) sound plain = absurd (cc)
codes_plain (element.Key flags code ∷ elements) sound plain =
    let both = or_parts (not (nat_eq flags 0x4000 && nat_lt code 256)) (list_any is_no_plain_key elements) plain in
    let small = and_parts (nat_eq flags 0x4000) (nat_lt code 256) (not-false (nat_eq flags 0x4000 && nat_lt code 256) both.0) in
    All-cons IsTableCode code (filter_map code_of_element elements) ((All-head IsSoundElement (element.Key flags code) elements sound).some, ltb-true code 256 small.1)
    (codes_plain elements (All-tail IsSoundElement (element.Key flags code) elements sound) both.1)

first_plain : (stores : List Store) → All IsSoundStore stores → All HasPlainKeys stores → All IsTableCode (filter_map code_of_element (store_elements (find is_cased_keys stores)))
first_plain [] sound plain = All-nil IsTableCode
first_plain (store ∷ stores) sound plain = by (is_cased_keys store) refl (first_plain stores (All-tail IsSoundStore store stores sound) (All-tail HasPlainKeys store stores plain))
  where
    by : (b : Bool) → is_cased_keys store ≡ b → All IsTableCode (filter_map code_of_element (store_elements (find is_cased_keys stores)))
        → All IsTableCode (filter_map code_of_element (store_elements (if b then Some store else find is_cased_keys stores)))
    by true is rest = codes_plain store.elements (All-head IsSoundStore store stores sound).elements (All-head HasPlainKeys store stores plain is)
    by false is rest = rest

pub cased_in_table : (program : Program) → IsRead program → IsUnrefused program → All IsTableCode (cased_keys program)
unfolding cased_keys
cased_in_table program read whole =
    first_plain (stores_of program) (stated_sound program read whole)
    (subst (All HasPlainKeys) (sym (program_stores program whole))
    (kept_plain (known program) program.stores (none_first (store_refusal (known program)) [] program.stores whole.store_items)))

-- so the limits look at all of them
all_kept : (codes : List ℕ) → All IsTableCode codes → filter (λ code. nat_lt 0 code && nat_lt code 256) codes ≡ codes
all_kept [] h = refl
all_kept (code ∷ codes) h = by (nat_lt 0 code && nat_lt code 256) (passes code (All-head IsTableCode code codes h)) (all_kept codes (All-tail IsTableCode code codes h))
  where
    passes : (code : ℕ) → IsTableCode code → (nat_lt 0 code && nat_lt code 256) ≡ true
    passes code is = grind (arith, nat_tests, is.0, is.1)

    by : (b : Bool) → b ≡ true → filter (λ code. nat_lt 0 code && nat_lt code 256) codes ≡ codes
        → (if b then code ∷ filter (λ code. nat_lt 0 code && nat_lt code 256) codes else filter (λ code. nat_lt 0 code && nat_lt code 256) codes) ≡ code ∷ codes
    by true is rest = ap (λ cs. code ∷ cs) rest
    by false is rest = absurd (cc)

pub cased_counted : (program : Program) → IsRead program → IsUnrefused program → cased_codes (known program) ≡ cased_keys program
unfolding known
cased_counted program read whole = all_kept (cased_keys program) (cased_in_table program read whole)

-- if a code is not in the key table, it is not the code of a cased key
pub not_cased : (code : ℕ) → (code ≡ 0) ⊎ (256 ≤ code) → (codes : List ℕ) → All IsTableCode codes → list_any (nat_eq code) codes ≡ false
not_cased code other codes h = none_passes IsTableCode (nat_eq code) differs codes h
  where
    differs : (known : ℕ) → IsTableCode known → nat_eq code known ≡ false
    differs known is = elim other [
      | inl first ↦ grind (arith, nat_tests, is.0, first)
      | inr past ↦ grind (arith, nat_tests, is.1, past)
    ]
