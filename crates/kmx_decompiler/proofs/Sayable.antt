-- If there is no reason against a file's text, the file has no cause and nothing is too large.
use Rattle.std.proofs.Common.{◌≡◌, ℕ, zero, suc, ◌+◌, ◌≤◌, Bool, true, false, List, [], ◌∷◌, ◌++◌, length, Option, None, Some, refl, sym, subst, arith, if◌then◌else◌}
use Rattle.std.specs.Prelude.{All, nat_lt, nat_le, option_map, slice_get}
use Rattle.std.specs.List.{list_any, AllByRecursion}
use Rattle.std.specs.Option.{option_or}
use Rattle.std.proofs.lemmas.Bool.{and_from, ltb-false}
use Rattle.std.proofs.lemmas.Bool.Decides.{nat_tests}
use Rattle.std.proofs.lemmas.List.Elements.{All-nil, All-cons}
use Rattle.std.proofs.lemmas.Option.{none-some, same_Some}
use Rattle.kmn_base.specs.declared.limits.TheConstants.{TEXT_BYTES, STORES, ALL_ELEMENTS}
use Rattle.kmn_base.proofs.Options.{option_or-none}
use Rattle.kmn_base.proofs.Elements.{append_empty}
use Rattle.rule_model.specs.declared.program.Program.{Program}
use Rattle.rule_model.specs.declared.tables.Rule.{Rule}
use Rattle.rule_model.specs.declared.tables.Store.{Store}
use Rattle.rule_model.specs.declared.tables.Group.{Group}
use Rattle.rule_model.specs.declared.tables.Tables.{Tables}
use Rattle.rule_model.specs.Tab.{tab_options}
use Rattle.kmx_format.specs.declared.sizes.TheConstants.{STORE_BYTES, GROUP_BYTES, RULE_BYTES}
use Rattle.kmx_format.specs.TablesOf.{word_at, tables_of}
use Rattle.kmn_parser.proofs.ReadStatements.{mapped-none}
use Rattle.decompile_program.specs.Items.{Names}
use Rattle.decompile_program.specs.Back.{names_for, back}
use Rattle.decompile_program.specs.WrittenOut.{fall_from, has_falling_contexts}
use Rattle.kmx_decompiler.specs.declared.no_spelling.NoSpelling.{NoSpelling}
use Rattle.kmx_decompiler.specs.declared.no_spelling.NoSpelling.TheVariants.{Order, Unspelled, TooLarge, TooManyStores, TooManyElements}
use Rattle.kmx_decompiler.specs.Causes.{is_unspelled_key, is_unspelled_output, is_unspelled_context, is_unspelled_store}
use Rattle.kmx_decompiler.specs.Places.{at_cause, store_causes, rule_causes, group_causes, cause_places, least}
use Rattle.kmx_decompiler.specs.Excess.{text_size, store_count, element_count, excess}
use Rattle.kmx_decompiler.specs.Unspelled.{longer_behind, first_longer, disorder, unspelled}

none-least : (places : List ℕ) → least places ≡ None → places ≡ []
none-least [] h = refl
none-least (p ∷ places) h = absurd (cc)

no-cause : (place : ℕ) (cause : Bool) → at_cause place cause ≡ [] → cause ≡ false
no-cause place true h = absurd (cc)
no-cause place false h = refl

some-if : {A : Type 0} (b : Bool) (x : A) (o : Option A) → (if b then Some x else o) ≡ None → (b ≡ false) × (o ≡ None)
some-if true x o h = absurd (cc)
some-if false x o h = (refl, h)

at-most : (a b : ℕ) → nat_lt a b ≡ false → nat_le b a ≡ true
at-most a b h = grind (arith, nat_tests, h)

-- the contexts of a group do not grow
abbrev pub Falls : Group → Type 0
Falls group = has_falling_contexts group.rules ≡ true

falls : (n before : ℕ) (rules : List Rule) → longer_behind n before rules ≡ None → fall_from before rules ≡ true
falls n before [] h = refl
falls n before (rule ∷ rules) h =
    let parts = some-if (nat_lt before (length rule.context)) n (longer_behind (n + 1) (length rule.context) rules) h in
    and_from (nat_le (length rule.context) before) (fall_from (length rule.context) rules)
    (at-most before (length rule.context) parts.0) (falls (n + 1) (length rule.context) rules parts.1)

group-falls : (rules : List Rule) → first_longer rules ≡ None → has_falling_contexts rules ≡ true
group-falls [] h = refl
group-falls (rule ∷ rules) h = falls 1 (length rule.context) rules h

all-fall : (g : ℕ) (groups : List Group) → disorder g groups ≡ None → All Falls groups
all-fall g [] h = All-nil Falls
all-fall g (group ∷ groups) h =
    let parts = option_or-none (option_map (λ (rule : ℕ). Order g rule) (first_longer group.rules)) (disorder (g + 1) groups) h in
    All-cons Falls group groups (group-falls group.rules (mapped-none (λ (rule : ℕ). Order g rule) (first_longer group.rules) parts.0)) (all-fall (g + 1) groups parts.1)

-- a record, a group, and the stores that are numbered from `n` on have no cause
pub record IsSayableRule (names : Names) (rule : Rule) : Type 0 where
  pub key : is_unspelled_key names rule.key ≡ false
  pub output : list_any (is_unspelled_output names) rule.output ≡ false
  pub context : is_unspelled_context names rule.context ≡ false

pub record IsSayableGroup (names : Names) (group : Group) : Type 0 where
  pub on_match : list_any (is_unspelled_output names) group.on_match ≡ false
  pub on_nomatch : list_any (is_unspelled_output names) group.on_nomatch ≡ false
  pub rules : AllByRecursion (IsSayableRule names) group.rules

abbrev pub AreSayable : Names → List ℕ → ℕ → List Store → Type 0
AreSayable names options n [] = Unit {0}
AreSayable names options n (store ∷ stores) = (is_unspelled_store names options n store ≡ false) × AreSayable names options (n + 1) stores

sayable-rules : (names : Names) (place : ℕ) (rules : List Rule) → rule_causes names place rules ≡ [] → AllByRecursion (IsSayableRule names) rules
sayable-rules names place [] h = tt
sayable-rules names place (rule ∷ rules) h =
    let rest : List ℕ = rule_causes names (place + RULE_BYTES) rules in
    let context : List ℕ = at_cause (place + 16) (is_unspelled_context names rule.context) in
    let output : List ℕ = at_cause (place + 12) (list_any (is_unspelled_output names) rule.output) in
    let one = append_empty (at_cause place (is_unspelled_key names rule.key)) (output ++ (context ++ rest)) h in
    let two = append_empty output (context ++ rest) one.1 in
    let three = append_empty context rest two.1 in (
      record {
        key = no-cause place (is_unspelled_key names rule.key) one.0;
        output = no-cause (place + 12) (list_any (is_unspelled_output names) rule.output) two.0;
        context = no-cause (place + 16) (is_unspelled_context names rule.context) three.0;
      },
      sayable-rules names (place + RULE_BYTES) rules three.1,
    )

sayable-groups : (bytes : List ℕ) (names : Names) (place : ℕ) (groups : List Group) → group_causes bytes names place groups ≡ [] → AllByRecursion (IsSayableGroup names) groups
sayable-groups bytes names place [] h = tt
sayable-groups bytes names place (group ∷ groups) h =
    let rest : List ℕ = group_causes bytes names (place + GROUP_BYTES) groups in
    let rules : List ℕ = rule_causes names (word_at bytes (place + 4)) group.rules in
    let unmatched : List ℕ = at_cause (place + 12) (list_any (is_unspelled_output names) group.on_nomatch) in
    let one = append_empty (at_cause (place + 8) (list_any (is_unspelled_output names) group.on_match)) (unmatched ++ (rules ++ rest)) h in
    let two = append_empty unmatched (rules ++ rest) one.1 in
    let three = append_empty rules rest two.1 in (
      record {
        on_match = no-cause (place + 8) (list_any (is_unspelled_output names) group.on_match) one.0;
        on_nomatch = no-cause (place + 12) (list_any (is_unspelled_output names) group.on_nomatch) two.0;
        rules = sayable-rules names (word_at bytes (place + 4)) group.rules three.0;
      },
      sayable-groups bytes names (place + GROUP_BYTES) groups three.1,
    )

sayable-stores : (names : Names) (options : List ℕ) (place n : ℕ) (stores : List Store) → store_causes names options place n stores ≡ [] → AreSayable names options n stores
sayable-stores names options place n [] h = tt
sayable-stores names options place n (store ∷ stores) h =
    let parts = append_empty (at_cause (place + 8) (is_unspelled_store names options n store)) (store_causes names options (place + STORE_BYTES) (n + 1) stores) h in
    (no-cause (place + 8) (is_unspelled_store names options n store) parts.0, sayable-stores names options (place + STORE_BYTES) (n + 1) stores parts.1)

-- if stores have no cause, the store of a number has a spelling
pub sayable-at : (names : Names) (options : List ℕ) (k : ℕ) (stores : List Store) → AreSayable names options k stores
    → (i n : ℕ) (store : Store) → n ≡ k + i → slice_get stores i ≡ Some store → is_unspelled_store names options n store ≡ false
sayable-at names options k [] h i n store e at = absurd (none-some store at)
sayable-at names options k (x ∷ stores) h zero n store e at =
    let same : n ≡ k = omega (arith, e) in
    subst (λ (s : Store). is_unspelled_store names options n s ≡ false) (same_Some x store at)
    (subst (λ (m : ℕ). is_unspelled_store names options m x ≡ false) (sym same) h.0)
sayable-at names options k (x ∷ stores) h (suc i) n store e at = sayable-at names options (k + 1) stores h.1 i n store (omega (arith, e)) at

-- the text of a program and what it compiles to are within the limits
pub record IsSmall (program : Program) : Type 0 where
  pub text : text_size program ≤ TEXT_BYTES
  pub stores : store_count program ≤ STORES
  pub elements : element_count program ≤ ALL_ELEMENTS

small : (program : Program) → excess program ≡ None → IsSmall program
small program h =
    let last : Option NoSpelling = if nat_lt ALL_ELEMENTS (element_count program) then Some (TooManyElements (element_count program)) else None in
    let later : Option NoSpelling = if nat_lt STORES (store_count program) then Some (TooManyStores (store_count program)) else last in
    let one = some-if (nat_lt TEXT_BYTES (text_size program)) (TooLarge (text_size program)) later h in
    let two = some-if (nat_lt STORES (store_count program)) (TooManyStores (store_count program)) last one.1 in
    let three = some-if (nat_lt ALL_ELEMENTS (element_count program)) (TooManyElements (element_count program)) None two.1 in
    record {
      text = ltb-false TEXT_BYTES (text_size program) one.0;
      stores = ltb-false STORES (store_count program) two.0;
      elements = ltb-false ALL_ELEMENTS (element_count program) three.0;
    }

-- tables that have no cause
pub record HasNoCause (tables : Tables) : Type 0 where
  pub order : All Falls tables.groups
  pub stores : AreSayable (names_for tables) (tab_options tables) 0 tables.stores
  pub groups : AllByRecursion (IsSayableGroup (names_for tables)) tables.groups

pub no_cause_holds : (bytes : List ℕ) → disorder 0 (tables_of bytes).groups ≡ None → least (cause_places bytes) ≡ None → HasNoCause (tables_of bytes)
unfolding cause_places
no_cause_holds bytes order places =
    let tables : Tables = tables_of bytes in
    let of_stores : List ℕ = store_causes (names_for tables) (tab_options tables) (word_at bytes 32) 0 tables.stores in
    let of_groups : List ℕ = group_causes bytes (names_for tables) (word_at bytes 36) tables.groups in
    let parts = append_empty of_stores of_groups (none-least (cause_places bytes) places) in
    record {
      order = all-fall 0 tables.groups order;
      stores = sayable-stores (names_for tables) (tab_options tables) (word_at bytes 32) 0 tables.stores parts.0;
      groups = sayable-groups bytes (names_for tables) (word_at bytes 36) tables.groups parts.1;
    }

-- tables that have no cause and whose text is not too large
pub record IsSayable (tables : Tables) : Type 0 where
  pub order : All Falls tables.groups
  pub stores : AreSayable (names_for tables) (tab_options tables) 0 tables.stores
  pub groups : AllByRecursion (IsSayableGroup (names_for tables)) tables.groups
  pub small : IsSmall (back tables)

pub without_cause : (tables : Tables) → IsSayable tables → HasNoCause tables
without_cause tables said = record { order = said.order; stores = said.stores; groups = said.groups }

pub sayable : (bytes : List ℕ) → unspelled bytes ≡ None → IsSayable (tables_of bytes)
unfolding unspelled
sayable bytes h =
    let tables : Tables = tables_of bytes in
    let one = option_or-none (disorder 0 tables.groups) (option_or (option_map Unspelled (least (cause_places bytes))) (excess (back tables))) h in
    let two = option_or-none (option_map Unspelled (least (cause_places bytes))) (excess (back tables)) one.1 in
    let none = no_cause_holds bytes one.0 (mapped-none Unspelled (least (cause_places bytes)) two.0) in
    record { order = none.order; stores = none.stores; groups = none.groups; small = small (back tables) two.1 }
