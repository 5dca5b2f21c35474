-- What the code computes for elements is their summary.
use Rattle.std.proofs.Common.{◌≡◌, ℕ, zero, suc, ◌<◌, ◌≤◌, Bool, true, false, cond, nat_lt, List, [], ◌∷◌, ◌++◌, length, map, take, Option, Some, None, refl, sym, ap, subst, ◌∙◌, arith, if◌then◌else◌, append-nil, append_assoc, length-append, inl, inr}
use Rattle.std.specs.Prelude.{◌||◌, ◌&&◌, flat_map, find, option_map}
use Rattle.std.proofs.Math.Bool.{and-false, or-false, or-true}
use Rattle.std.proofs.lemmas.Bool.Decides.{nat_tests}
use Rattle.std.specs.List.{list_all}
use Rattle.std.proofs.lemmas.Bool.{cases_lt, and_parts}
use Rattle.std.proofs.lemmas.List.{length-take-le, take-append-le, take-take, take_all, map-append}
use Rattle.std.proofs.lemmas.List.Concat.{flat_map-append}
use Rattle.std.proofs.lemmas.List.Folds.{list_any-append}
use Rattle.kmn_base.specs.declared.items.Element.{Element}
use Rattle.kmn_base.specs.declared.items.Element.TheVariants as element
use Rattle.kmn_base.specs.Names.{same_name}
use Rattle.virtual_keys.specs.Dictionary.{place_in}
use Rattle.rule_model.specs.declared.program.SrcItem.{SrcItem}
use Rattle.rule_model.specs.declared.program.SrcItem.TheVariants as source
use Rattle.rule_model.specs.declared.program.StoreDef.{StoreDef}
use Rattle.rule_model.specs.declared.program.Program.{Program}
use Rattle.rule_model.specs.declared.tables.Store.{Store}
use Rattle.rule_model.specs.Tab.{store_elements}
use Rattle.rule_model.specs.Naming.{SourceNames, names_of, stores_of, stores_onto, store_of, is_dropped, item_elements, all_rules, key_number, mark_number}
use Rattle.virtual_keys.proofs.NamePlaces.{position_cons, same_either_way}
use Rattle.item_checker.proofs.FoundKeys.{other_key, stores_found}
use Rattle.item_checker.specs.declared.summaries.Summary.{Summary}
use Rattle.item_checker.specs.declared.summaries.Summaries.{Summaries}
use Rattle.item_checker.specs.declared.summaries.TheConstants.{FRONT_CHARACTERS}
use Rattle.store_table.specs.Known.{known, rule_options}
use Rattle.item_checker.specs.Items.{is_key_element, is_no_plain_key}
use Rattle.item_checker.specs.Summaries.{AreFacts, AreSummaries, are_found_keys, element_characters, found_summary, front_of, is_far_element, is_found_key, is_mark_element, is_other_key, is_nothing, joined, joined_found, no_summaries, summary, summary_at, with_character, with_characters, with_item, with_items, with_store, with_stores}

-- a front with another character, while the front is short enough, and after that
room : (n : ℕ) (xs : List ℕ) (c : ℕ) → length xs < n → (if nat_lt (length xs) n then xs ++ c ∷ [] else xs) ≡ xs ++ c ∷ []
room n xs c h = grind (arith, nat_tests, h)

full : (n : ℕ) (xs : List ℕ) (c : ℕ) → length xs ≡ n → (if nat_lt (length xs) n then xs ++ c ∷ [] else xs) ≡ xs
full n xs c h = grind (arith, nat_tests, h)

longer : (n : ℕ) (xs : List ℕ) (c : ℕ) → length xs < n → length (xs ++ c ∷ []) ≤ n
longer n xs c h = omega (arith, length-append xs (c ∷ []), h)

front_more : (n : ℕ) (xs : List ℕ) (c : ℕ) → (if nat_lt (length (take n xs)) n then take n xs ++ c ∷ [] else take n xs) ≡ take n (xs ++ c ∷ [])
front_more n xs c = elim (cases_lt (length xs) n) [
  | inl h ↦ ap (λ ys. if nat_lt (length ys) n then ys ++ c ∷ [] else ys) (take_all n xs (omega (arith, h))) ∙ room n xs c h ∙ sym (take_all n (xs ++ c ∷ []) (longer n xs c h))
  | inr h ↦ full n (take n xs) c (length-take-le n xs h) ∙ sym (take-append-le n xs (c ∷ []) h)
]

front_and : (xs cs : List ℕ) → with_characters (take FRONT_CHARACTERS xs) cs ≡ take FRONT_CHARACTERS (xs ++ cs)
front_and xs [] = ap (take FRONT_CHARACTERS) (sym (append-nil xs))
front_and xs (c ∷ cs) =
    ap (λ front. with_characters front cs) (front_more FRONT_CHARACTERS xs c)
    ∙ front_and (xs ++ c ∷ []) cs
    ∙ ap (take FRONT_CHARACTERS) (append_assoc xs (c ∷ []) cs)

take_behind : (n m : ℕ) (xs ys : List ℕ) → n ≤ m → take n (xs ++ take m ys) ≡ take n (xs ++ ys)
take_behind n m [] ys h = take-take n m ys h
take_behind zero m (x ∷ xs) ys h = refl
take_behind (suc n) m (x ∷ xs) ys h = ap (λ rest. x ∷ rest) (take_behind n m xs ys (omega (arith, h)))

nothing_both : (a b : List Element) → (is_nothing a && is_nothing b) ≡ is_nothing (a ++ b)
nothing_both [] b = refl
nothing_both (e ∷ a) b = refl

fronts : (a b : List Element) → with_characters (front_of a) (front_of b) ≡ front_of (a ++ b)
fronts a b =
    front_and (flat_map element_characters a) (front_of b)
    ∙ take_behind FRONT_CHARACTERS FRONT_CHARACTERS (flat_map element_characters a) (flat_map element_characters b) (omega arith)
    ∙ ap (take FRONT_CHARACTERS) (sym (flat_map-append element_characters a b))

-- elements followed by others
pub joined_is : (a b : List Element) → joined (summary a) (summary b) ≡ summary (a ++ b)
unfolding summary
joined_is a b =
    let empty = nothing_both a b in
    let mark = sym (list_any-append is_mark_element a b) in
    let key = sym (list_any-append is_key_element a b) in
    let far = sym (list_any-append is_far_element a b) in
    let other = sym (list_any-append is_no_plain_key a b) in
    let front = fronts a b in
    λ j. record { is_empty = empty j; has_mark = mark j; has_key = key j; has_far = far j; has_other = other j; front = front j }

-- one element
one_character : (sum : Summary) (c : ℕ) → record sum { is_empty = false; has_far = sum.has_far || nat_lt 0xFFFF c; has_other = true; front = with_character sum.front c } ≡ joined sum (summary (element.Char c ∷ []))
unfolding summary
one_character sum c =
    let empty = sym (and-false sum.is_empty) in
    let mark = sym (or-false sum.has_mark) in
    let key = sym (or-false sum.has_key) in
    let far = ap (λ b. sum.has_far || b) (sym (or-false (nat_lt 0xFFFF c))) in
    let other = sym (or-true sum.has_other) in
    λ j. record { is_empty = empty j; has_mark = mark j; has_key = key j; has_far = far j; has_other = other j; front = with_character sum.front c }

one_mark : (sum : Summary) (mark : ℕ) → record sum { is_empty = false; has_mark = true; has_other = true } ≡ joined sum (summary (element.Mark mark ∷ []))
unfolding summary
one_mark sum mark =
    let empty = sym (and-false sum.is_empty) in
    let marks = sym (or-true sum.has_mark) in
    let key = sym (or-false sum.has_key) in
    let far = sym (or-false sum.has_far) in
    let other = sym (or-true sum.has_other) in
    λ j. record { is_empty = empty j; has_mark = marks j; has_key = key j; has_far = far j; has_other = other j; front = sum.front }

one_key : (sum : Summary) (flags code : ℕ) (is_other : Bool) → is_other ≡ is_no_plain_key (element.Key flags code)
    → record sum { is_empty = false; has_key = true; has_other = sum.has_other || is_other } ≡ joined sum (summary (element.Key flags code ∷ []))
unfolding summary
one_key sum flags code is_other is =
    let empty = sym (and-false sum.is_empty) in
    let mark = sym (or-false sum.has_mark) in
    let key = sym (or-true sum.has_key) in
    let far = sym (or-false sum.has_far) in
    let other = ap (λ b. sum.has_other || b) (is ∙ sym (or-false (is_no_plain_key (element.Key flags code)))) in
    λ j. record { is_empty = empty j; has_mark = mark j; has_key = key j; has_far = far j; has_other = other j; front = sum.front }

-- the store with a name

here_or_later : (here : Bool) (store : Store) (summaries : List Summary) (place : Option ℕ) (found : Option Store)
    → summary_at summaries place ≡ option_map (λ (s : Store). summary s.elements) found
    → summary_at (summary store.elements ∷ summaries) (cond here (Some 0) (option_map suc place)) ≡ option_map (λ (s : Store). summary s.elements) (cond here (Some store) found)
here_or_later true store summaries place found h = refl
here_or_later false store summaries None found h = h
here_or_later false store summaries (Some n) found h = h

found_among : (stores : List Store) (name : List ℕ)
    → summary_at (map (λ (s : Store). summary s.elements) stores) (place_in (map (λ (s : Store). s.name) stores) name)
    ≡ option_map (λ (s : Store). summary s.elements) (find (λ (s : Store). same_name s.name name) stores)
found_among [] name = refl
found_among (store ∷ stores) name =
    ap (summary_at (map (λ (s : Store). summary s.elements) (store ∷ stores)))
    (position_cons (same_name name) store.name (map (λ (s : Store). s.name) stores)
    ∙ ap (λ here. cond here (Some 0) (option_map suc (place_in (map (λ (s : Store). s.name) stores) name))) (same_either_way name store.name))
    ∙ here_or_later (same_name store.name name) store (map (λ (s : Store). summary s.elements) stores)
    (place_in (map (λ (s : Store). s.name) stores) name) (find (λ (s : Store). same_name s.name name) stores) (found_among stores name)

pub found_is : (found : Summaries) (stores : List Store) (name : List ℕ) → AreSummaries found stores
    → found_summary found name ≡ option_map (λ (s : Store). summary s.elements) (find (λ (s : Store). same_name s.name name) stores)
found_is found stores name are = (λ j. summary_at (are.summaries j) (place_in (are.names j) name)) ∙ found_among stores name

joined_store : (before : List Element) (store : Option Store) → joined_found (summary before) (option_map (λ (s : Store). summary s.elements) store) ≡ summary (before ++ store_elements store)
joined_store before None = ap summary (sym (append-nil before))
joined_store before (Some store) = joined_is before store.elements

-- an item, and items, of a store
pub item_is : (names : SourceNames) (found : Summaries) (stores : List Store) → AreSummaries found stores → (before : List Element) (item : SrcItem)
    → is_found_key names item ≡ true → with_item found (summary before) item ≡ summary (before ++ item_elements names stores item)
item_is names found stores are before (source.Char c) h = one_character (summary before) c ∙ joined_is before (element.Char c ∷ [])
item_is names found stores are before (source.Dead name) h = one_mark (summary before) (mark_number names name) ∙ joined_is before (element.Mark (mark_number names name) ∷ [])
item_is names found stores are before (source.Key key) h =
    one_key (summary before) key.flags (key_number names key) (is_other_key key) (other_key names key h)
    ∙ joined_is before (element.Key key.flags (key_number names key) ∷ [])
item_is names found stores are before (source.Outs name) h =
    ap (joined_found (summary before)) (found_is found stores name are)
    ∙ joined_store before (find (λ (s : Store). same_name s.name name) stores)
item_is names found stores are before item h = ap summary (sym (append-nil before))

items_behind : (names : SourceNames) (found : Summaries) (stores : List Store) → AreSummaries found stores → (before : List Element) (items : List SrcItem)
    → are_found_keys names items ≡ true → with_items found (summary before) items ≡ summary (before ++ flat_map (item_elements names stores) items)
items_behind names found stores are before [] h = ap summary (sym (append-nil before))
items_behind names found stores are before (item ∷ items) h =
    let parts = and_parts (is_found_key names item) (are_found_keys names items) h in
    ap (λ sum. with_items found sum items) (item_is names found stores are before item parts.0)
    ∙ items_behind names found stores are (before ++ item_elements names stores item) items parts.1
    ∙ ap summary (append_assoc before (item_elements names stores item) (flat_map (item_elements names stores) items))

pub items_are : (names : SourceNames) (found : Summaries) (stores : List Store) → AreSummaries found stores → (items : List SrcItem)
    → are_found_keys names items ≡ true → with_items found (summary []) items ≡ summary (flat_map (item_elements names stores) items)
items_are names found stores are items h = items_behind names found stores are [] items h

-- the stores of a program
next_store : (names : SourceNames) (found : Summaries) (before : List Store) (store : StoreDef) → AreSummaries found before
    → are_found_keys names store.items ≡ true → AreSummaries (with_store found store) (if is_dropped store then before else before ++ store_of names before store ∷ [])
next_store names found before store are h = by (is_dropped store)
  where
    by : (dropped : Bool) → AreSummaries (if dropped then found else record { names = found.names ++ store.name ∷ []; summaries = found.summaries ++ with_items found (summary []) store.items ∷ [] })
        (if dropped then before else before ++ store_of names before store ∷ [])
    by true = are
    by false = record {
      names = (λ j. are.names j ++ store.name ∷ []) ∙ sym (map-append (λ (s : Store). s.name) before (store_of names before store ∷ []));
      summaries = (λ j. are.summaries j ++ items_are names found before are store.items h j ∷ []) ∙ sym (map-append (λ (s : Store). summary s.elements) before (store_of names before store ∷ []));
    }

stores_behind : (names : SourceNames) (found : Summaries) (before : List Store) (stores : List StoreDef) → AreSummaries found before
    → list_all (λ (store : StoreDef). are_found_keys names store.items) stores ≡ true → AreSummaries (with_stores found stores) (stores_onto names before stores)
stores_behind names found before [] are h = are
stores_behind names found before (store ∷ stores) are h =
    let parts = and_parts (are_found_keys names store.items) (list_all (λ (s : StoreDef). are_found_keys names s.items) stores) h in
    stores_behind names (with_store found store) (if is_dropped store then before else before ++ store_of names before store ∷ []) stores (next_store names found before store are parts.0) parts.1

pub stores_are : (program : Program) → AreSummaries (with_stores no_summaries program.stores) (stores_of program)
unfolding stores_of
stores_are program = stores_behind (names_of program) no_summaries [] program.stores (record { names = refl; summaries = refl }) (stores_found program)

-- what the code computes for a program
pub facts_are : (program : Program) (found : Summaries) (options : List (List ℕ)) → found ≡ with_stores no_summaries program.stores
    → options ≡ flat_map rule_options (all_rules program) → AreFacts (known program) found options
unfolding known
facts_are program found options stores named = record {
  stores = subst (λ (s : Summaries). AreSummaries s (stores_of program)) (sym stores) (stores_are program);
  named = named;
}
