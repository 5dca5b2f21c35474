-- The custom keys that a program's stores name are among its names.
use Rattle.std.proofs.Common.{◌≡◌, ℕ, zero, suc, ◌+◌, ◌<◌, Bool, true, false, List, [], ◌∷◌, ◌++◌, length, get_or, Option, Some, None, is_some, option_map, refl, sym, ap, ◌∙◌, arith, if◌then◌else◌}
use Rattle.std.specs.Prelude.{flat_map, nat_eq, nat_lt, ◌||◌, ◌&&◌, not, unwrap_or}
use Rattle.std.specs.List.{list_all, list_any}
use Rattle.std.proofs.lemmas.Bool.{and_parts, and_from, or_left, or_right}
use Rattle.std.proofs.Math.Bool.{or-false}
use Rattle.std.proofs.lemmas.Bool.Decides.{nat_tests}
use Rattle.std.proofs.lemmas.List.{take-append-drop}
use Rattle.std.proofs.lemmas.List.Concat.{flat_map-append}
use Rattle.std.proofs.lemmas.List.Folds.{list_all-append, list_any-append, list_all_at}
use Rattle.std.specs.List.{prefix_len}
use Rattle.kmn_base.specs.Names.{same_name}
use Rattle.kmn_base.specs.declared.items.Element.TheVariants as element
use Rattle.virtual_keys.specs.Dictionary.{place_in, code_in}
use Rattle.rule_model.specs.declared.program.SrcItem.{SrcItem}
use Rattle.rule_model.specs.declared.program.SrcItem.TheVariants as source
use Rattle.rule_model.specs.declared.program.KeyName.{KeyName}
use Rattle.rule_model.specs.declared.program.StoreDef.{StoreDef}
use Rattle.rule_model.specs.declared.program.RuleDef.{RuleDef}
use Rattle.rule_model.specs.declared.program.Program.{Program}
use Rattle.rule_model.specs.Tab.{distinct_onto}
use Rattle.rule_model.specs.Naming.{SourceNames, names_of, rule_items, all_rules, store_items, items_from, source_items, stores_before, stores_after, key_names, key_number}
use Rattle.virtual_keys.proofs.NamePlaces.{some_place, same_either_way, same_name-self}
use Rattle.compile_laws.proofs.Values.{list_all-flat_map}
use Rattle.item_checker.specs.Items.{is_no_plain_key}
use Rattle.item_checker.specs.Summaries.{are_found_keys, is_found_key, is_other_key}

-- one of several items that all pass
pub passes_at : {X : Type 0} (p : X → Bool) (xs : List X) (i : ℕ) (x : X) → list_all p xs ≡ true → i < length xs → x ≡ get_or xs i x → p x ≡ true
passes_at p xs i x all h e = ap p e ∙ by (p (get_or xs i x)) refl
  where
    by : (b : Bool) → p (get_or xs i x) ≡ b → p (get_or xs i x) ≡ true
    by true is = is
    by false is = let none = list_all_at p xs i x h is in absurd (cc)

pub found_item : (names : SourceNames) (items : List SrcItem) (i : ℕ) (item : SrcItem) → are_found_keys names items ≡ true → i < length items → item ≡ get_or items i item
    → is_found_key names item ≡ true
found_item names items i item all h e = passes_at (is_found_key names) items i item all h e

pub found_store : (names : SourceNames) (stores : List StoreDef) (i : ℕ) (store : StoreDef) → list_all (λ (s : StoreDef). are_found_keys names s.items) stores ≡ true
    → i < length stores → store ≡ get_or stores i store → are_found_keys names store.items ≡ true
found_store names stores i store all h e = passes_at (λ (s : StoreDef). are_found_keys names s.items) stores i store all h e

own_code : (n : ℕ) → nat_lt (256 + n) 256 ≡ false
own_code n = grind (arith, nat_tests)

above : (n : ℕ) → nat_lt 0 (suc n) ≡ true
above n = grind (arith, nat_tests)

no_zero : (n : ℕ) → nat_eq (suc n) 0 ≡ false
no_zero n = grind (arith, nat_tests)

some_more : (o : Option ℕ) → is_some o ≡ true → is_some (option_map (λ place. 256 + place) o) ≡ true
some_more None h = h
some_more (Some n) h = refl

-- a key of a source is a plain key exactly where its element is one
pub other_key : (names : SourceNames) (key : KeyName) → is_found_key names (source.Key key) ≡ true
    → is_other_key key ≡ is_no_plain_key (element.Key key.flags (key_number names key))
unfolding code_in
other_key names key found = by key.code (place_in names.keys key.name) found
  where
    by : (code : ℕ) (place : Option ℕ) → (nat_lt 0 code || is_some (option_map (λ place. 256 + place) place)) ≡ true
        → not (nat_eq key.flags 0x4000 && (nat_lt 0 code && nat_lt code 256))
        ≡ not (nat_eq key.flags 0x4000 && nat_lt (if nat_eq code 0 then unwrap_or (option_map (λ place. 256 + place) place) 0 else code) 256)
    by zero None h = absurd (cc)
    by zero (Some n) h = ap (λ b. not (nat_eq key.flags 0x4000 && b)) (sym (own_code n))
    by (suc code) place h = ap (λ b. not (nat_eq key.flags 0x4000 && (b && nat_lt (suc code) 256))) (above code) ∙ ap (λ b. not (nat_eq key.flags 0x4000 && nat_lt (if b then unwrap_or (option_map (λ place. 256 + place) place) 0 else suc code) 256)) (sym (no_zero code))

-- the elements of such a key
pub other_brought : (names : SourceNames) (key : KeyName) → is_found_key names (source.Key key) ≡ true
    → is_other_key key ≡ (is_no_plain_key (element.Key key.flags (key_number names key)) || false)
other_brought names key found = other_key names key found ∙ sym (or-false (is_no_plain_key (element.Key key.flags (key_number names key))))

-- the names that are collected are all found
seen_stays : (seen xs : List (List ℕ)) (name : List ℕ) → list_any (λ known. same_name known name) seen ≡ true → list_any (λ known. same_name known name) (distinct_onto same_name seen xs) ≡ true
seen_stays seen [] name h = h
seen_stays seen (x ∷ xs) name h = seen_stays (if list_any (λ known. same_name known x) seen then seen else seen ++ x ∷ []) xs name (by (list_any (λ known. same_name known x) seen))
  where
    by : (b : Bool) → list_any (λ known. same_name known name) (if b then seen else seen ++ x ∷ []) ≡ true
    by true = h
    by false = list_any-append (λ known. same_name known name) seen (x ∷ []) ∙ or_left (list_any (λ known. same_name known name) seen) (list_any (λ known. same_name known name) (x ∷ [])) h

abbrev pub is_among : List (List ℕ) → List ℕ → Bool
is_among names name = list_any (λ known. same_name known name) names

pub all_seen : (seen xs : List (List ℕ)) → list_all (is_among (distinct_onto same_name seen xs)) xs ≡ true
all_seen seen [] = refl
all_seen seen (x ∷ xs) =
    let next = if list_any (λ known. same_name known x) seen then seen else seen ++ x ∷ [] in
    and_from _ _ (seen_stays next xs x (by (list_any (λ known. same_name known x) seen) refl)) (all_seen next xs)
  where
    by : (b : Bool) → list_any (λ known. same_name known x) seen ≡ b → list_any (λ known. same_name known x) (if b then seen else seen ++ x ∷ []) ≡ true
    by true e = e
    by false e = list_any-append (λ known. same_name known x) seen (x ∷ [])
        ∙ or_right (list_any (λ known. same_name known x) seen) (same_name x x || false) (or_left (same_name x x) false (same_name-self x))

any_way : (name : List ℕ) (names : List (List ℕ)) → list_any (same_name name) names ≡ is_among names name
any_way name [] = refl
any_way name (known ∷ names) = λ j. same_either_way name known j || any_way name names j

-- a name among others has an index
has_place : (names : List (List ℕ)) (name : List ℕ) → is_among names name ≡ true → is_some (place_in names name) ≡ true
has_place names name h = some_place (same_name name) names ∙ any_way name names ∙ h

-- the keys in the items of a program are found, and so are the keys in the items of its stores
key_found : (names : SourceNames) (item : SrcItem) → list_all (is_among names.keys) (key_names item) ≡ true → is_found_key names item ≡ true
unfolding code_in
key_found names (source.Key key) h = by key.code h
  where
    by : (code : ℕ) → list_all (is_among names.keys) (if nat_eq code 0 then key.name ∷ [] else []) ≡ true → (nat_lt 0 code || is_some (option_map (λ place. 256 + place) (place_in names.keys key.name))) ≡ true
    by zero g = some_more (place_in names.keys key.name) (has_place names.keys key.name (and_parts (is_among names.keys key.name) true g).0)
    by (suc code) g = ap (λ b. b || is_some (option_map (λ place. 256 + place) (place_in names.keys key.name))) (above code)
key_found names item h = refl

list_each : {X : Type 0} (p q : X → Bool) → ((x : X) → p x ≡ true → q x ≡ true) → (xs : List X) → list_all p xs ≡ true → list_all q xs ≡ true
list_each p q each [] h = refl
list_each p q each (x ∷ xs) h =
    let parts = and_parts (p x) (list_all p xs) h in and_from (q x) (list_all q xs) (each x parts.0) (list_each p q each xs parts.1)

of_stores : (test : SrcItem → Bool) (stores : List StoreDef) (rules : List RuleDef) → list_all test (items_from stores rules) ≡ true → list_all test (store_items stores) ≡ true
of_stores test stores [] h = h
of_stores test stores (rule ∷ rules) h =
    let before = stores_before rule.line stores in
    let after = stores_after rule.line stores in
    let one = and_parts (list_all test (store_items before)) (list_all test (rule_items rule ++ items_from after rules))
    (sym (list_all-append test (store_items before) (rule_items rule ++ items_from after rules)) ∙ h) in
    let two = and_parts (list_all test (rule_items rule)) (list_all test (items_from after rules)) (sym (list_all-append test (rule_items rule) (items_from after rules)) ∙ one.1) in
    let whole : store_items before ++ store_items after ≡ store_items stores =
    sym (flat_map-append (λ (store : StoreDef). store.items) before after)
    ∙ ap store_items (take-append-drop (prefix_len (λ (store : StoreDef). nat_lt store.line rule.line) stores) stores) in
    ap (list_all test) (sym whole)
    ∙ list_all-append test (store_items before) (store_items after)
    ∙ and_from (list_all test (store_items before)) (list_all test (store_items after)) one.0 (of_stores test after rules two.1)

pub stores_found : (program : Program) → list_all (λ (store : StoreDef). are_found_keys (names_of program) store.items) program.stores ≡ true
unfolding names_of
stores_found program =
    let items : list_all (is_found_key (names_of program)) (source_items program) ≡ true =
    list_each (λ item. list_all (is_among (names_of program).keys) (key_names item)) (is_found_key (names_of program)) (key_found (names_of program)) (source_items program)
    (sym (list_all-flat_map (is_among (names_of program).keys) key_names (source_items program)) ∙ all_seen [] (flat_map key_names (source_items program))) in
    sym (list_all-flat_map (is_found_key (names_of program)) (λ (store : StoreDef). store.items) program.stores) ∙ of_stores (is_found_key (names_of program)) program.stores (all_rules program) items
