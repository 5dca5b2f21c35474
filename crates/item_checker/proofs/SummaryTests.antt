-- The summary of elements decides the tests of the elements.
use Rattle.std.proofs.Common.{◌≡◌, ℕ, zero, suc, ◌≤◌, Bool, true, false, not, nat_eq, List, [], ◌∷◌, length, take, Option, Some, None, refl, sym, ap, ◌∙◌, arith, if◌then◌else◌}
use Rattle.std.specs.Prelude.{◌||◌, ◌&&◌, nat_le, flat_map, find, option_map}
use Rattle.std.specs.List.{list_any, list_all}
use Rattle.std.specs.Str.{bytes_eq}
use Rattle.std.proofs.lemmas.Bool.Decides.{nat_tests}
use Rattle.std.proofs.lemmas.Bool.{and_parts}
use Rattle.kmn_base.specs.declared.items.Element.{Element}
use Rattle.kmn_base.specs.declared.items.Element.TheVariants as element
use Rattle.kmn_base.specs.Names.{same_name}
use Rattle.rule_model.specs.declared.program.StoreDef.{StoreDef}
use Rattle.rule_model.specs.declared.tables.Store.{Store}
use Rattle.rule_model.specs.Match.{same_value}
use Rattle.rule_model.specs.Tab.{store_elements}
use Rattle.rule_model.specs.Src.{value_elements}
use Rattle.kmx_format.specs.Versions.{file_versions}
use Rattle.item_checker.specs.declared.summaries.Summary.{Summary}
use Rattle.item_checker.specs.declared.summaries.Summaries.{Summaries}
use Rattle.store_table.specs.Known.{Known, statement_elements}
use Rattle.item_checker.specs.Items.{are_unfit_keys, is_key_element, is_layout_text, is_no_character, is_no_plain_key, is_other_text, is_system_text, is_unfit_key, is_unfit_store, is_version_text, has_virtual_key}
use Rattle.item_checker.specs.Summaries.{AreFacts, are_found_keys, element_characters, found_lacks_characters, found_summary, front_of, has_key, has_other, is_far_element, is_layout_front, is_mark_element, is_nothing, is_system_front, is_unfit_summary, is_version_front, lacks_characters, summary, with_items}
use Rattle.item_checker.proofs.Summed.{found_is, items_are}

either_way : (a b c d : Bool) → ((a || b) || (c || d)) ≡ ((a || c) || (b || d))
either_way true b c d = refl
either_way false true true d = refl
either_way false true false d = refl
either_way false false c d = refl

-- some element passes one of two tests
any_either : {X : Type 0} (p q r : X → Bool) → ((x : X) → r x ≡ (p x || q x)) → (xs : List X) → list_any r xs ≡ (list_any p xs || list_any q xs)
any_either p q r each [] = refl
any_either p q r each (x ∷ xs) =
    (λ j. each x j || any_either p q r each xs j) ∙ either_way (p x) (q x) (list_any p xs) (list_any q xs)

unfit : (e : Element) → is_unfit_key e ≡ (is_mark_element e || is_far_element e)
unfit (element.Char c) = refl
unfit (element.Mark mark) = refl
unfit (element.Key flags code) = refl

no_character : (e : Element) → is_no_character e ≡ (is_mark_element e || is_key_element e)
no_character (element.Char c) = refl
no_character (element.Mark mark) = refl
no_character (element.Key flags code) = refl

unfit_elements : (elements : List Element) → are_unfit_keys elements ≡ (is_nothing elements || (list_any is_mark_element elements || list_any is_far_element elements))
unfit_elements [] = refl
unfit_elements (e ∷ elements) = any_either is_mark_element is_far_element is_unfit_key unfit (e ∷ elements)

unfit_found : (store : Option Store) → is_unfit_summary (option_map (λ (s : Store). summary s.elements) store) ≡ are_unfit_keys (store_elements store)
unfolding summary
unfit_found None = refl
unfit_found (Some store) = sym (unfit_elements store.elements)

key_found : (store : Option Store) → has_key (option_map (λ (s : Store). summary s.elements) store) ≡ list_any is_key_element (store_elements store)
unfolding summary
key_found None = refl
key_found (Some store) = refl

pub no_characters : (elements : List Element) → lacks_characters (summary elements) ≡ list_any is_no_character elements
unfolding summary
no_characters elements = sym (any_either is_mark_element is_key_element is_no_character no_character elements)

no_characters_found : (store : Option Store) → found_lacks_characters (option_map (λ (s : Store). summary s.elements) store) ≡ list_any is_no_character (store_elements store)
no_characters_found None = refl
no_characters_found (Some store) = no_characters store.elements

other_found : (store : Option Store) → has_other (option_map (λ (s : Store). summary s.elements) store) ≡ list_any is_no_plain_key (store_elements store)
unfolding summary
other_found None = refl
other_found (Some store) = refl

-- the tests of the store with a name
pub unfit_named : (known : Known) (found : Summaries) (options : List (List ℕ)) (name : List ℕ) → AreFacts known found options
    → is_unfit_summary (found_summary found name) ≡ is_unfit_store known name
unfit_named known found options name are =
    ap is_unfit_summary (found_is found known.stores name are.stores) ∙ unfit_found (find (λ (s : Store). same_name s.name name) known.stores)

pub key_named : (known : Known) (found : Summaries) (options : List (List ℕ)) (name : List ℕ) → AreFacts known found options
    → has_key (found_summary found name) ≡ has_virtual_key known name
key_named known found options name are =
    ap has_key (found_is found known.stores name are.stores) ∙ key_found (find (λ (s : Store). same_name s.name name) known.stores)

pub other_named : (known : Known) (found : Summaries) (options : List (List ℕ)) (name : List ℕ) → AreFacts known found options
    → has_other (found_summary found name) ≡ list_any is_no_plain_key (store_elements (find (λ (s : Store). same_name s.name name) known.stores))
other_named known found options name are =
    ap has_other (found_is found known.stores name are.stores) ∙ other_found (find (λ (s : Store). same_name s.name name) known.stores)

-- whether the store with a name has elements that are not characters
pub no_characters_named : (known : Known) (found : Summaries) (options : List (List ℕ)) (name : List ℕ) → AreFacts known found options
    → found_lacks_characters (found_summary found name) ≡ list_any is_no_character (store_elements (find (λ (s : Store). same_name s.name name) known.stores))
no_characters_named known found options name are =
    ap found_lacks_characters (found_is found known.stores name are.stores) ∙ no_characters_found (find (λ (s : Store). same_name s.name name) known.stores)

-- a short text is determined by a longer front
front_text : (n : ℕ) (text : List ℕ) (elements : List Element) → length text ≤ n → list_any is_no_character elements ≡ false
    → same_value (value_elements text) elements ≡ bytes_eq text (take (suc n) (flat_map element_characters elements))
front_text n [] [] short all = refl
front_text n [] (element.Char c ∷ elements) short all = refl
front_text n [] (element.Mark mark ∷ elements) short all = grind (arith, all)
front_text n [] (element.Key flags code ∷ elements) short all = grind (arith, all)
front_text n (a ∷ text) [] short all = refl
front_text zero (a ∷ text) (element.Char c ∷ elements) short all = grind (arith, short)
front_text (suc n) (a ∷ text) (element.Char c ∷ elements) short all =
    ap (λ rest. nat_eq a c && rest) (front_text n text elements (omega (arith, short)) all)
front_text n (a ∷ text) (element.Mark mark ∷ elements) short all = grind (arith, all)
front_text n (a ∷ text) (element.Key flags code ∷ elements) short all = grind (arith, all)

abbrev is_short : List ℕ × ℕ → Bool
is_short row = nat_le (length row.0) 4

short_text : (text : List ℕ) (elements : List Element) → nat_le (length text) 4 ≡ true → list_any is_no_character elements ≡ false
    → same_value (value_elements text) elements ≡ bytes_eq text (front_of elements)
short_text text elements short all = front_text 4 text elements (grind (arith, nat_tests, short)) all

texts : (rows : List (List ℕ × ℕ)) (elements : List Element) → list_any is_no_character elements ≡ false → list_all is_short rows ≡ true
    → list_any (λ row. same_value (value_elements row.0) elements) rows ≡ list_any (λ row. bytes_eq row.0 (front_of elements)) rows
texts [] elements all short = refl
texts (row ∷ rows) elements all short =
    let both = and_parts (is_short row) (list_all is_short rows) short in
    let first = short_text row.0 elements both.0 all in
    let others = texts rows elements all both.1 in
    λ j. first j || others j

system_text : (system : ℕ) (elements : List Element) → list_any is_no_character elements ≡ false → is_system_text system elements ≡ is_system_front system (front_of elements)
system_text system elements all =
    let version : is_version_text elements ≡ is_version_front (front_of elements) = texts file_versions elements all refl in
    let layout : is_layout_text elements ≡ is_layout_front (front_of elements) = short_text (48 ∷ []) elements refl all in
    λ j. if nat_eq system 8 then version j else (if nat_eq system 17 then layout j else true)

other_text : (system : ℕ) (elements : List Element) (lacks : Bool) → list_any is_no_character elements ≡ lacks
    → (not (list_any is_no_character elements) && not (is_system_text system elements)) ≡ (not lacks && not (is_system_front system (front_of elements)))
other_text system elements true is = λ j. not (is j) && not (is_system_text system elements)
other_text system elements false is = (λ j. not (is j) && not (is_system_text system elements)) ∙ ap not (system_text system elements is)

front_is : (elements : List Element) → (summary elements).front ≡ front_of elements
unfolding summary
front_is elements = refl

-- whether a system store has another text is decided by the summary of its statement
pub other_text_is : (known : Known) (found : Summaries) (options : List (List ℕ)) (store : StoreDef) (sum : Summary) → AreFacts known found options
    → are_found_keys known.names store.items ≡ true → sum ≡ with_items found (summary []) store.items
    → (not (lacks_characters sum) && not (is_system_front store.system sum.front)) ≡ is_other_text known store
other_text_is known found options store sum are keys is =
    let elements = statement_elements known store in
    let same : sum ≡ summary elements = is ∙ items_are known.names found known.stores are.stores store.items keys in
    (λ j. not (lacks_characters (same j)) && not (is_system_front store.system (same j).front))
    ∙ (λ j. not (no_characters elements j) && not (is_system_front store.system (front_is elements j)))
    ∙ sym (other_text store.system elements (list_any is_no_character elements) refl)
