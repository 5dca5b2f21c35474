-- A look-up in the tables of names and layers has the same result as a search of their lists.
use Rattle.std.proofs.Common.{◌≡◌, ℕ, ◌+◌, ◌<◌, Bool, true, false, not, List, [], ◌∷◌, ◌++◌, length, map, take, drop, get_or, Option, Some, None, refl, sym, ap, ◌∙◌, arith, if◌then◌else◌}
use Rattle.std.specs.Prelude.{◌||◌, ◌&&◌, nat_eq, nat_lt, option_to_list, bytes_eq}
use Rattle.std.specs.Option.{option_map_or, option_or}
use Rattle.std.specs.List.{list_any}
use Rattle.std.specs.Str.{str_to_ascii_lowercase}
use Rattle.std.specs.Cmp.Lexicographic.{nat_list_eq_equiv}
use Rattle.std.proofs.lemmas.Bool.{and_parts, eqb-true}
use Rattle.std.proofs.lemmas.Bool.Decides.{nat_tests}
use Rattle.std.proofs.lemmas.Grind.{common_steps}
use Rattle.std.proofs.lemmas.List.{drop_more, get_or_default, map-append}
use Rattle.std.proofs.lemmas.List.Folds.{list_any-append}
use Rattle.std.proofs.lemmas.Slice.Eq.{bytes_eq-Decides}
use Rattle.std.proofs.Math.Bool.{or-false}
use Rattle.indexmap.specs.IndexSet.{insert_key}
use Rattle.kmn_base.specs.declared.codes.Code.TheVariants.{T3, T4, T5, T6}
use Rattle.kmn_base.specs.declared.keys.RuleKey.{RuleKey}
use Rattle.kmn_base.specs.declared.keys.RuleKey.TheVariants.{Any, Char, Virtual}
use Rattle.kmn_base.specs.Names.{same_name}
use Rattle.kmn_base.proofs.Elements.{any_flat_map}
use Rattle.virtual_keys.specs.Dictionary.{name_in}
use Rattle.rule_model.specs.declared.tables.Rule.{Rule}
use Rattle.rule_model.specs.declared.tables.Group.{Group}
use Rattle.store_table.specs.Names.{is_named}
use Rattle.store_table.specs.Numbering.{with_marks}
use Rattle.touch_layout.proofs.RecordedNames.{named_once, or_true}
use Rattle.touch_layout.specs.declared.layers.TouchLayer.{TouchLayer}
use Rattle.touch_layout.specs.Faults.{fault, whole_layout}
use Rattle.touch_layout.specs.Ids.{is_key_of, is_record_of, has_record_of, has_record, recorded_name, rule_names, recorded_names}
use Rattle.touch_layout.specs.Keys.{Key}
use Rattle.touch_layout.specs.Layers.{Layer, layer_view, layers_view}
use Rattle.touch_layout.specs.LayerIds.{folded, is_equal_layer, FindsSame}
use Rattle.touch_layout.specs.Layout.{is_next_layer, has_strange_id, does_nothing, key_code, keys_fault, is_same_layer, layers_fault}

any_same : {X : Type 0} (p q : X → Bool) → ((x : X) → p x ≡ q x) → (xs : List X) → list_any p xs ≡ list_any q xs
any_same p q same [] = refl
any_same p q same (x ∷ xs) = λ j. same x j || any_same p q same xs j

-- an id is in the list of an optional name if and only if the name is present and is the same
name_found : (id : List ℕ) (name : Option (List ℕ)) → list_any (same_name id) (option_to_list name) ≡ option_map_or (same_name id) name false
name_found id None = refl
name_found id (Some name) = or-false (same_name id name)

key_found : (dictionary : List (List ℕ)) (id : List ℕ) (key : RuleKey) → list_any (same_name id) (recorded_name dictionary key) ≡ is_key_of dictionary id key
key_found dictionary id Any = refl
key_found dictionary id (Char c) = refl
key_found dictionary id (Virtual flags code) = name_found id (name_in dictionary code)

rules_found : (dictionary : List (List ℕ)) (id : List ℕ) (rules : List Rule) → list_any (same_name id) (rule_names dictionary rules) ≡ list_any (is_record_of dictionary id) rules
rules_found dictionary id rules =
    any_flat_map (same_name id) (λ (rule : Rule). recorded_name dictionary rule.key) rules
    ∙ any_same (λ (rule : Rule). list_any (same_name id) (recorded_name dictionary rule.key)) (is_record_of dictionary id) (λ rule. key_found dictionary id rule.key) rules

recorded : (dictionary : List (List ℕ)) (groups : List Group) (id : List ℕ) → list_any (same_name id) (recorded_names dictionary groups) ≡ has_record dictionary groups id
recorded dictionary groups id =
    any_flat_map (same_name id) (λ (group : Group). rule_names dictionary group.rules) groups
    ∙ any_same (λ (group : Group). list_any (same_name id) (rule_names dictionary group.rules)) (has_record_of dictionary id) (λ group. rules_found dictionary id group.rules) groups

-- if keys find the same layers in two lists, they break the same rules with both
same_code : (has : List ℕ → Bool) (ids layers : List Layer) → FindsSame ids layers → (key : Key) → key_code has ids key ≡ key_code has layers key
same_code has ids layers finds key =
    ap (λ found. if has_strange_id key then Some T3 else (if nat_lt 0 (length key.next_layer) && not found then Some T4 else (if does_nothing has key then Some T5 else None))) (finds key)

same_faults : (has : List ℕ → Bool) (ids layers : List Layer) → FindsSame ids layers → (keys : List Key) → keys_fault has ids keys ≡ keys_fault has layers keys
same_faults has ids layers finds [] = refl
same_faults has ids layers finds (key ∷ keys) =
    λ j. option_or (Rattle.std.specs.Prelude.option_map (λ code. fault code key.place) (same_code has ids layers finds key j)) (same_faults has ids layers finds keys j)

pub same_keys_fault : (dictionary : List (List ℕ)) (groups : List Group) (names : List (List ℕ)) (ids layers : List Layer) (keys : List Key) → names ≡ with_marks [] (recorded_names dictionary groups) → FindsSame ids layers
    → keys_fault (is_named names) ids keys ≡ keys_fault (has_record dictionary groups) layers keys
same_keys_fault dictionary groups names ids layers keys named finds =
    ap (λ ns. keys_fault (is_named ns) ids keys) named
    ∙ (λ j. keys_fault (λ id. (named_once (recorded_names dictionary groups) id ∙ recorded dictionary groups id) j) ids keys)
    ∙ same_faults (has_record dictionary groups) ids layers finds keys

-- if two layers are equal, the same keys lead to them
found_equal : (key : Key) (a b : Layer) → is_equal_layer a b ≡ true → is_next_layer key a ≡ is_next_layer key b
found_equal key a b h =
    let both = and_parts (nat_eq a.place.platform b.place.platform) (bytes_eq a.id b.id) h in
    (λ j. nat_eq (eqb-true a.place.platform b.place.platform both.0 j) key.place.platform && bytes_eq ((bytes_eq-Decides a.id b.id).0 both.1 j) key.next_layer)

pub any_mapped : {X Y : Type 0} (test : Y → Bool) (f : X → Y) (xs : List X) → list_any test (map f xs) ≡ list_any (λ x. test (f x)) xs
any_mapped test f [] = refl
any_mapped test f (x ∷ xs) = ap (λ b. test (f x) || b) (any_mapped test f xs)

found_here : (key : Key) (layer other : Layer) (layers : List Layer) (equal : Bool) → is_equal_layer layer other ≡ equal → is_next_layer key layer ≡ true
    → (equal || list_any (is_equal_layer layer) layers) ≡ true → (list_any (is_equal_layer layer) layers ≡ true → list_any (is_next_layer key) layers ≡ true)
    → (is_next_layer key other || list_any (is_next_layer key) layers) ≡ true
found_here key layer other layers true is next among rest =
    ap (λ b. b || list_any (is_next_layer key) layers) (sym (found_equal key layer other is) ∙ next)
found_here key layer other layers false is next among rest =
    ap (λ b. is_next_layer key other || b) (rest among) ∙ or_true (is_next_layer key other)

found_among : (key : Key) (layer : Layer) (layers : List Layer) → is_next_layer key layer ≡ true → list_any (is_equal_layer layer) layers ≡ true → list_any (is_next_layer key) layers ≡ true
found_among key layer [] next among = absurd (cc)
found_among key layer (other ∷ layers) next among =
    found_here key layer other layers (is_equal_layer layer other) refl next among (found_among key layer layers next)

-- if a layer is added to layers unless it is among them, a key finds its layer among the old layers or finds the added one
put_finds : (key : Key) (layer : Layer) (layers : List Layer) (among : Bool) → list_any (is_equal_layer layer) layers ≡ among
    → list_any (is_next_layer key) (if among then layers else layers ++ layer ∷ []) ≡ (list_any (is_next_layer key) layers || is_next_layer key layer)
put_finds key layer layers false is =
    list_any-append (is_next_layer key) layers (layer ∷ []) ∙ ap (λ b. list_any (is_next_layer key) layers || b) (or-false (is_next_layer key layer))
put_finds key layer layers true is = by (is_next_layer key layer) refl
  where
    by : (b : Bool) → is_next_layer key layer ≡ b → list_any (is_next_layer key) layers ≡ (list_any (is_next_layer key) layers || is_next_layer key layer)
    by false next = sym (or-false (list_any (is_next_layer key) layers)) ∙ ap (λ b. list_any (is_next_layer key) layers || b) (sym next)
    by true next = found_among key layer layers next is ∙ sym (or_true (list_any (is_next_layer key) layers)) ∙ ap (λ b. list_any (is_next_layer key) layers || b) (sym next)

pick : {X Y : Type 0} (f : X → Y) (b : Bool) (xs ys : List X) → map f (if b then xs else ys) ≡ (if b then map f xs else map f ys)
pick f true xs ys = refl
pick f false xs ys = refl

module _ {X : Type 0} (layer_in : X → Layer) (eq : X → X → Bool) (same : (x y : X) → eq x y ≡ is_equal_layer (layer_in x) (layer_in y)) where
  among_mapped : (x : X) (xs : List X) → list_any (eq x) xs ≡ list_any (is_equal_layer (layer_in x)) (map layer_in xs)
  among_mapped x xs = any_same (eq x) (λ y. is_equal_layer (layer_in x) (layer_in y)) (same x) xs ∙ sym (any_mapped (is_equal_layer (layer_in x)) layer_in xs)

  inserted : (x : X) (xs : List X) → map layer_in (insert_key eq xs x) ≡ (if list_any (is_equal_layer (layer_in x)) (map layer_in xs) then map layer_in xs else map layer_in xs ++ layer_in x ∷ [])
  inserted x xs =
      pick layer_in (list_any (eq x) xs) xs (xs ++ x ∷ [])
      ∙ (λ j. if among_mapped x xs j then map layer_in xs else map-append layer_in xs (x ∷ []) j)

  pub finds_next : (xs now : List X) (x : X) (others : List Layer) (layer : Layer) → FindsSame (map layer_in xs) others → now ≡ insert_key eq xs x
      → ((key : Key) → is_next_layer key (layer_in x) ≡ is_next_layer key layer) → FindsSame (map layer_in now) (others ++ layer ∷ [])
  finds_next xs now x others layer finds put alike key =
      ap (λ ys. list_any (is_next_layer key) (map layer_in ys)) put
      ∙ ap (list_any (is_next_layer key)) (inserted x xs)
      ∙ put_finds key (layer_in x) (map layer_in xs) (list_any (is_equal_layer (layer_in x)) (map layer_in xs)) refl
      ∙ (λ j. finds key j || alike key j)
      ∙ sym (list_any-append (is_next_layer key) others (layer ∷ []) ∙ ap (λ b. list_any (is_next_layer key) others || b) (or-false (is_next_layer key layer)))

  pub is_new : (xs : List X) (x : X) (new : Bool) → new ≡ not (list_any (eq x) xs) → new ≡ not (list_any (is_equal_layer (layer_in x)) (map layer_in xs))
  is_new xs x new is = is ∙ ap not (among_mapped x xs)

same_either_way : (a b : ℕ) → nat_eq a b ≡ nat_eq b a
same_either_way a b = grind (arith, nat_tests)

-- a key finds its layer in a table if and only if it finds it among the layers
next_either_way : (p q : ℕ) (a b : List ℕ) → (nat_eq p q && bytes_eq a b) ≡ (nat_eq q p && bytes_eq b a)
next_either_way p q a b = λ j. same_either_way p q j && nat_list_eq_equiv.symm a b j

pub found_next : {X : Type 0} (layer_in : X → Layer) (key : Key) (xs : List X)
    → list_any (λ x. nat_eq key.place.platform (layer_in x).place.platform && bytes_eq key.next_layer (layer_in x).id) xs ≡ list_any (is_next_layer key) (map layer_in xs)
found_next layer_in key xs =
    any_same (λ x. nat_eq key.place.platform (layer_in x).place.platform && bytes_eq key.next_layer (layer_in x).id) (λ x. is_next_layer key (layer_in x))
    (λ x. next_either_way key.place.platform (layer_in x).place.platform key.next_layer (layer_in x).id) xs
    ∙ sym (any_mapped (is_next_layer key) layer_in xs)

repeated : (layer other : Layer) → is_equal_layer (folded layer) (folded other) ≡ is_same_layer layer other
unfolding same_name
repeated layer other =
    λ j. same_either_way layer.place.platform other.place.platform j && nat_list_eq_equiv.symm (str_to_ascii_lowercase layer.id) (str_to_ascii_lowercase other.id) j

-- a layer in lower case is equal to an earlier one if and only if an earlier layer of its platform has the same id
pub repeated_among : (layer : Layer) (before : List Layer) → list_any (is_equal_layer (folded layer)) (map folded before) ≡ list_any (is_same_layer layer) before
repeated_among layer before =
    any_mapped (is_equal_layer (folded layer)) folded before ∙ any_same (λ other. is_equal_layer (folded layer) (folded other)) (is_same_layer layer) (repeated layer) before

-- the result of a look-up past the last layer
abbrev pub no_layer : TouchLayer
no_layer = record { place = whole_layout; id = record { ref_ptr = (0, 0); now = [] } }

-- the layer at a position does not depend on the default of the look-up
pub held : (xs : List TouchLayer) (i : ℕ) → i < length xs → get_or xs i no_layer ≡ get_or xs i (get_or xs i no_layer)
held xs i h = get_or_default xs i no_layer (get_or xs i no_layer) h

take_next : (xs : List TouchLayer) (i : ℕ) (x : TouchLayer) → i < length xs → x ≡ get_or xs i x → take (i + 1) xs ≡ take i xs ++ x ∷ []
take_next xs i x h e = grind (arith, common_steps)

pub view_next : (xs : List TouchLayer) (i : ℕ) (x : TouchLayer) → i < length xs → x ≡ get_or xs i x → layers_view (take (i + 1) xs) ≡ layers_view (take i xs) ++ layer_view x ∷ []
view_next xs i x h e = ap layers_view (take_next xs i x h e) ∙ map-append layer_view (take i xs) (x ∷ [])

pub rest_next : (xs : List TouchLayer) (i : ℕ) (x : TouchLayer) → i < length xs → x ≡ get_or xs i x → layers_view (drop i xs) ≡ layer_view x ∷ layers_view (drop (i + 1) xs)
rest_next xs i x h e = ap layers_view (drop_more xs i x h ∙ ap (λ y. y ∷ drop (i + 1) xs) (sym e))

not_true : (b : Bool) → false ≡ not b → b ≡ true
not_true true h = refl
not_true false h = absurd (cc)

not_false : (b : Bool) → true ≡ not b → b ≡ false
not_false true h = absurd (cc)
not_false false h = refl

at_repeated : (before rest : List Layer) (layer : Layer) → list_any (is_same_layer layer) before ≡ true → layers_fault before (layer ∷ rest) ≡ Some (fault T6 layer.place)
at_repeated before rest layer is = ap (λ b. option_or (if b then Some (fault T6 layer.place) else None) (layers_fault (before ++ layer ∷ []) rest)) is

at_new : (before rest : List Layer) (layer : Layer) → list_any (is_same_layer layer) before ≡ false → layers_fault before (layer ∷ rest) ≡ layers_fault (before ++ layer ∷ []) rest
at_new before rest layer is = ap (λ b. option_or (if b then Some (fault T6 layer.place) else None) (layers_fault (before ++ layer ∷ []) rest)) is

among_before : (xs : List TouchLayer) (i : ℕ) (x : TouchLayer) (ids : List Layer) → ids ≡ map folded (layers_view (take i xs))
    → list_any (is_equal_layer (folded (layer_view x))) ids ≡ list_any (is_same_layer (layer_view x)) (layers_view (take i xs))
among_before xs i x ids are = ap (list_any (is_equal_layer (folded (layer_view x)))) are ∙ repeated_among (layer_view x) (layers_view (take i xs))

-- if an earlier layer has the id of a layer, the fault is at this layer; if none has it, the fault is in the layers after it
pub fault_here : (xs : List TouchLayer) (i : ℕ) (x : TouchLayer) (ids : List Layer) (new : Bool) → ids ≡ map folded (layers_view (take i xs))
    → new ≡ not (list_any (is_equal_layer (folded (layer_view x))) ids) → new ≡ false → i < length xs → x ≡ get_or xs i x
    → layers_fault (layers_view (take i xs)) (layers_view (drop i xs)) ≡ Some (fault T6 x.place)
fault_here xs i x ids new are is repeats h e =
    ap (layers_fault (layers_view (take i xs))) (rest_next xs i x h e)
    ∙ at_repeated (layers_view (take i xs)) (layers_view (drop (i + 1) xs)) (layer_view x)
    (sym (among_before xs i x ids are) ∙ not_true (list_any (is_equal_layer (folded (layer_view x))) ids) (sym repeats ∙ is))

pub fault_behind : (xs : List TouchLayer) (i : ℕ) (x : TouchLayer) (ids : List Layer) (new : Bool) → ids ≡ map folded (layers_view (take i xs))
    → new ≡ not (list_any (is_equal_layer (folded (layer_view x))) ids) → new ≡ true → i < length xs → x ≡ get_or xs i x
    → layers_fault (layers_view (take (i + 1) xs)) (layers_view (drop (i + 1) xs)) ≡ layers_fault (layers_view (take i xs)) (layers_view (drop i xs))
fault_behind xs i x ids new are is news h e = sym (
    ap (layers_fault (layers_view (take i xs))) (rest_next xs i x h e)
    ∙ at_new (layers_view (take i xs)) (layers_view (drop (i + 1) xs)) (layer_view x)
    (sym (among_before xs i x ids are) ∙ not_false (list_any (is_equal_layer (folded (layer_view x))) ids) (sym news ∙ is))
    ∙ ap (λ before. layers_fault before (layers_view (drop (i + 1) xs))) (sym (view_next xs i x h e)))

-- if the id of a layer is added to the ids of the layers before it, the result is the ids of the layers up to it
pub ids_next : (xs : List TouchLayer) (i : ℕ) (x : TouchLayer) (ids now : List Layer) → ids ≡ map folded (layers_view (take i xs))
    → now ≡ ids ++ folded (layer_view x) ∷ [] → i < length xs → x ≡ get_or xs i x → now ≡ map folded (layers_view (take (i + 1) xs))
ids_next xs i x ids now are put h e =
    put ∙ ap (λ ls. ls ++ folded (layer_view x) ∷ []) are
    ∙ sym (ap (map folded) (view_next xs i x h e) ∙ map-append folded (layers_view (take i xs)) (layer_view x ∷ []))

-- if keys find the layers before a layer and this layer, they find the layers up to it
pub finds_more : (xs : List TouchLayer) (i : ℕ) (x : TouchLayer) (now : List Layer) → FindsSame now (layers_view (take i xs) ++ layer_view x ∷ [])
    → i < length xs → x ≡ get_or xs i x → FindsSame now (layers_view (take (i + 1) xs))
finds_more xs i x now finds h e key = finds key ∙ ap (list_any (is_next_layer key)) (sym (view_next xs i x h e))
