-- The numbers that the names of an accepted program have in its file.
use Rattle.std.proofs.Common.{◌≡◌, ℕ, suc, ◌+◌, ◌^◌, ◌<◌, ◌≤◌, Bool, true, false, List, [], ◌∷◌, ◌++◌, length, map, cond, Option, Some, None, is_some, unwrap_or, option_map, refl, sym, ap, ◌∙◌, arith, length-append}
use Rattle.std.specs.Prelude.{flat_map, position}
use Rattle.std.specs.List.{list_all, list_any}
use Rattle.std.specs.Str.{bytes_eq}
use Rattle.std.proofs.lemmas.Bool.{and_parts, and_from}
use Rattle.std.proofs.lemmas.List.{length-map}
use Rattle.std.proofs.lemmas.List.Concat.{flat_map-append}
use Rattle.std.proofs.lemmas.List.Folds.{list_all-append}
use Rattle.std.proofs.lemmas.List.Quantifiers.{position-Some}
use Rattle.kmn_base.specs.declared.limits.TheConstants.{DEADKEYS, KEY_NAMES}
use Rattle.kmn_base.specs.Names.{same_name}
use Rattle.virtual_keys.specs.Dictionary.{place_in, code_in}
use Rattle.rule_model.specs.declared.program.SrcItem.{SrcItem}
use Rattle.rule_model.specs.declared.program.StoreDef.{StoreDef}
use Rattle.rule_model.specs.declared.program.RuleDef.{RuleDef}
use Rattle.rule_model.specs.declared.program.GroupDef.{GroupDef}
use Rattle.rule_model.specs.declared.program.Program.{Program}
use Rattle.rule_model.specs.declared.tables.Store.{Store}
use Rattle.rule_model.specs.Naming.{names_of, stores_of, rule_items, all_rules, store_items, items_from, source_items, stores_before, stores_after, mark_names, key_names, mark_number}
use Rattle.compile_laws.specs.Numbers.{numbers_of, number_of_store, number_of_group, number_of_value, compiled_stores, dictionary_stores, value_store, values_of}
use Rattle.compile_laws.specs.WellNamed.{is_store, is_group}
use Rattle.compile_laws.proofs.Linked.{is_value}
use Rattle.virtual_keys.proofs.PositionLemmas.{position-map}
use Rattle.compile_laws.proofs.Values.{list_all-flat_map}
use Rattle.virtual_keys.proofs.NamePlaces.{position_cons, some_place, same_either_way}
use Rattle.rule_checker.specs.Refused.{IsRead}
use Rattle.item_checker.proofs.FoundKeys.{all_seen}
use Rattle.rule_checker.proofs.Accepted.{IsUnrefused}
use Rattle.rule_checker.proofs.Sizes.{parted}
use Rattle.rule_checker.proofs.Within.{few_marks, few_keys}

-- the place of what is found is below the length
pub place_below : {X : Type 0} (p : X → Bool) (xs : List X) → is_some (position p xs) ≡ true → unwrap_or (position p xs) 0 < length xs
place_below p [] h = absurd (cc)
place_below p (x ∷ xs) h = by (position p (x ∷ xs)) refl h
  where
    by : (o : Option ℕ) → position p (x ∷ xs) ≡ o → is_some o ≡ true → unwrap_or o 0 < length (x ∷ xs)
    by None is g = absurd (cc)
    by (Some n) is g = (position-Some p (x ∷ xs) n x is).0

-- without one the place is taken as 0
pub place_at_most : {X : Type 0} (p : X → Bool) (xs : List X) → unwrap_or (position p xs) 0 ≤ length xs
place_at_most p xs = by (is_some (position p xs)) refl
  where
    none : (o : Option ℕ) → is_some o ≡ false → unwrap_or o 0 ≡ 0
    none None h = refl
    none (Some n) h = absurd (cc)

    by : (b : Bool) → is_some (position p xs) ≡ b → unwrap_or (position p xs) 0 ≤ length xs
    by true is = let lower = place_below p xs is in omega arith
    by false is = let zero_place = none (position p xs) is in omega arith

pub place_either_way : (name : List ℕ) (names : List (List ℕ)) → position (same_name name) names ≡ position (λ known. same_name known name) names
place_either_way name [] = refl
place_either_way name (known ∷ names) =
    position_cons (same_name name) known names
    ∙ (λ j. cond (same_either_way name known j) (Some 0) (option_map suc (place_either_way name names j)))
    ∙ sym (position_cons (λ k. same_name k name) known names)

-- the items of a program's stores and rules are those of its statements in the order of their lines
module _ (test : SrcItem → Bool) where
  of_statements : (stores : List StoreDef) (rules : List RuleDef) → list_all test (items_from stores rules) ≡ true
      → (list_all test (store_items stores) ≡ true) × (list_all test (flat_map rule_items rules) ≡ true)
  of_statements stores [] h = (h, refl)
  of_statements stores (rule ∷ rules) h =
      let before = stores_before rule.line stores in
      let after = stores_after rule.line stores in
      let one = and_parts (list_all test (store_items before)) (list_all test (rule_items rule ++ items_from after rules))
      (sym (list_all-append test (store_items before) (rule_items rule ++ items_from after rules)) ∙ h) in
      let two = and_parts (list_all test (rule_items rule)) (list_all test (items_from after rules)) (sym (list_all-append test (rule_items rule) (items_from after rules)) ∙ one.1) in
      let rest = of_statements after rules two.1 in
      let whole : store_items before ++ store_items after ≡ store_items stores =
      sym (flat_map-append (λ (store : StoreDef). store.items) before after) ∙ ap store_items (parted rule.line stores) in (
        ap (list_all test) (sym whole) ∙ (list_all-append test (store_items before) (store_items after) ∙ and_from (list_all test (store_items before)) (list_all test (store_items after)) one.0 rest.0),
        list_all-append test (rule_items rule) (flat_map rule_items rules) ∙ and_from (list_all test (rule_items rule)) (list_all test (flat_map rule_items rules)) two.0 rest.1,
      )

  pub store_items_pass : (program : Program) → list_all test (source_items program) ≡ true → list_all (λ (store : StoreDef). list_all test store.items) program.stores ≡ true
  store_items_pass program h = sym (list_all-flat_map test (λ (store : StoreDef). store.items) program.stores) ∙ (of_statements program.stores (all_rules program) h).0

  pub rule_items_pass : (program : Program) → list_all test (source_items program) ≡ true → list_all (λ (rule : RuleDef). list_all test (rule_items rule)) (all_rules program) ≡ true
  rule_items_pass program h = sym (list_all-flat_map test rule_items (all_rules program)) ∙ (of_statements program.stores (all_rules program) h).1

-- the names of an item are among those of the program
abbrev pub are_among : List (List ℕ) → List (List ℕ) → Bool
are_among known names = list_all (λ name. list_any (λ k. same_name k name) known) names

abbrev pub has_keys : Program → SrcItem → Bool
has_keys program item = are_among (names_of program).keys (key_names item)

abbrev pub has_marks : Program → SrcItem → Bool
has_marks program item = are_among (names_of program).marks (mark_names item)

pub keys_appear : (program : Program) → list_all (has_keys program) (source_items program) ≡ true
unfolding names_of
keys_appear program =
    sym (list_all-flat_map (λ name. list_any (λ k. same_name k name) (names_of program).keys) key_names (source_items program))
    ∙ all_seen [] (flat_map key_names (source_items program))

pub marks_appear : (program : Program) → list_all (has_marks program) (source_items program) ≡ true
unfolding names_of
marks_appear program =
    sym (list_all-flat_map (λ name. list_any (λ k. same_name k name) (names_of program).marks) mark_names (source_items program))
    ∙ all_seen [] (flat_map mark_names (source_items program))

module _ (program : Program) where
  -- the numbers of what is stated are below the counts
  pub store_number : (name : List ℕ) → is_store program name ≡ true → number_of_store (numbers_of program) name < length (stores_of program)
  store_number name h = place_below (λ (store : Store). same_name store.name name) (stores_of program) h

  pub group_is_place : (name : List ℕ) → number_of_group (numbers_of program) name ≡ unwrap_or (position (λ (group : GroupDef). same_name group.name name) program.groups) 0
  group_is_place name = ap (λ (o : Option ℕ). unwrap_or o 0) (position-map (λ (group : GroupDef). group.name) (λ known. same_name known name) program.groups)

  pub group_number : (name : List ℕ) → is_group program name ≡ true → number_of_group (numbers_of program) name < length program.groups
  group_number name h =
      let lower = place_below (λ (group : GroupDef). same_name group.name name) program.groups h in
      omega (arith, lower, group_is_place name)

  pub stores_end : length (stores_of program) ≤ length (compiled_stores program)
  stores_end = omega (arith, length-append (stores_of program) (dictionary_stores (names_of program).keys ++ map value_store (values_of program)))

  pub value_number : (value : List ℕ) → is_value program value ≡ true → number_of_value (numbers_of program) value < length (compiled_stores program)
  value_number value h =
      let lower = place_below (λ known. bytes_eq known value) (values_of program) h in
      omega (
        arith,
        lower,
        length-append (stores_of program) (dictionary_stores (names_of program).keys ++ map value_store (values_of program)),
        length-append (dictionary_stores (names_of program).keys) (map value_store (values_of program)),
        length-map (values_of program) value_store,
      )

  module _ (read : IsRead program) (whole : IsUnrefused program) where
    -- a mark has a number from 1 to the greatest count of deadkeys
    pub mark_small : (name : List ℕ) → mark_number (names_of program) name ≤ 1 + DEADKEYS
    mark_small name =
        let few = few_marks program whole in
        let place = place_at_most (λ known. same_name known name) (names_of program).marks in
        omega arith

    key_place : (name : List ℕ) → list_any (λ known. same_name known name) (names_of program).keys ≡ true → is_some (place_in (names_of program).keys name) ≡ true
    key_place name h = ap is_some (place_either_way name (names_of program).keys) ∙ some_place (λ known. same_name known name) (names_of program).keys ∙ h

    code_below : (o : Option ℕ) (count : ℕ) → is_some o ≡ true → unwrap_or o 0 < count → count ≤ KEY_NAMES
        → (0 < unwrap_or (option_map (λ place. 256 + place) o) 0) × (unwrap_or (option_map (λ place. 256 + place) o) 0 < 2 ^ 16)
    code_below None count h small few = absurd (cc)
    code_below (Some n) count h small few = (omega arith, omega arith)

    -- the code of a custom key is positive and has 16 bits
    pub own_code : (name : List ℕ) → list_any (λ known. same_name known name) (names_of program).keys ≡ true
        → (0 < unwrap_or (code_in (names_of program).keys name) 0) × (unwrap_or (code_in (names_of program).keys name) 0 < 2 ^ 16)
    unfolding code_in
    own_code name h =
        code_below (place_in (names_of program).keys name) (length (names_of program).keys) (key_place name h)
        (place_below (same_name name) (names_of program).keys (key_place name h)) (few_keys program read whole)
