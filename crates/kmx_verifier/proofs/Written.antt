-- If the strings of writable tables are in the file, they have no fault.
use Rattle.std.proofs.Common.{◌≡◌, ℕ, zero, suc, ◌+◌, ◌<◌, Bool, true, false, ◌&&◌, ◌||◌, nat_eq, nat_lt, List, [], ◌∷◌, ◌++◌, length, map, take, drop, Option, Some, None, refl, sym, ap, ap₂, subst, ◌∙◌, append_assoc, append-nil, arith, not}
use Rattle.std.specs.Prelude.{Ok, slice_get, slice_index_or, IsSomeAnd}
use Rattle.std.specs.List.{All, flat_map, list_any}
use Rattle.std.specs.Str.{chars}
use Rattle.std.proofs.lemmas.Bool.{or_right, le-ltb}
use Rattle.std.proofs.lemmas.List.{length-map}
use Rattle.std.proofs.lemmas.List.Elements.{All-nil, All-head, All-tail, All-map}
use Rattle.kmn_base.specs.declared.codes.Code.TheVariants.{V10, V15}
use Rattle.kmn_base.specs.declared.items.Element.{Element}
use Rattle.kmn_base.specs.declared.items.Element.TheVariants as element
use Rattle.kmn_base.specs.declared.limits.TheConstants.{FILE_NAME_UNITS, CONTEXT_ITEMS}
use Rattle.kmn_base.specs.declared.units.UnitItem.{UnitItem}
use Rattle.kmn_base.specs.Spelling.{char_units, IsSpellable, unit_bytes, whole_units}
use Rattle.kmn_base.proofs.UnitBytes.{whole_units-unit_bytes}
use Rattle.kmn_base.proofs.Elements.{All-append_parts}
use Rattle.item_codec.specs.Walk.{results_of}
use Rattle.item_codec.proofs.Results.{spelled_gives_its_items}
use Rattle.rule_model.specs.declared.tables.Pat.{Pat}
use Rattle.rule_model.specs.declared.tables.Pat.TheVariants as pattern
use Rattle.rule_model.specs.declared.tables.Out.{Out}
use Rattle.rule_model.specs.declared.tables.Out.TheVariants as output
use Rattle.kmx_format.specs.FileUnits.{unit_item_of_element, unit_item_of_pattern, unit_item_of_output, item_units, pattern_units, name_units}
use Rattle.kmx_format.specs.File.{string, offset_of}
use Rattle.kmx_format.specs.TablesOf.{word_at, string_at, items_of}
use Rattle.kmx_format.specs.Writable.{stores_of_pattern, stores_of_output, groups_of_output, has_system_id, sets_system_id, needs_context, PointsBack, PointsInto, PointsTo, is_any, IsWritableName, IsWritableContext}
use Rattle.rule_model.specs.Patterns.{is_matched}
use Rattle.kmx_format.proofs.FileContents.{units-nonzero}
use Rattle.kmx_format.proofs.FileStands.{StandsAt}
use Rattle.kmx_format.proofs.FileStrings.{string_at-stands}
use Rattle.kmx_format.proofs.FileItems.{item_units-nonzero, items_of-item_units}
use Rattle.kmx_view.specs.View.{has_zero, is_ended, store_count, group_count}
use Rattle.kmx_verifier.specs.declared.faults.StringKind.{StringKind}
use Rattle.kmx_verifier.specs.declared.faults.StringKind.TheVariants as of
use Rattle.kmx_verifier.specs.declared.faults.Target.{Target}
use Rattle.kmx_verifier.specs.Items as target
use Rattle.kmx_verifier.specs.Items.{target_at, stores_named, groups_named, target_of, points_right}
use Rattle.kmx_verifier.specs.FaultOf.{walk_fault, context_fault, read_at, item_count, string_fault, context_string_fault, name_fault}
use Rattle.kmx_verifier.proofs.Sound.{ItemStands, ItemsStand, ContextStands}
use Rattle.kmx_verifier.proofs.Clean.{both, unbroken, unbroken_not, walk_clean, context_clean}
use Rattle.kmx_verifier.proofs.Contents.{targets_of, targets_more, output_stands, stands_alone, pattern_stands}

-- ---- strings that end

has_zero-behind : (units rest : List ℕ) → has_zero (units ++ 0 ∷ rest) ≡ true
has_zero-behind [] rest = refl
has_zero-behind (unit ∷ units) rest = or_right (nat_eq unit 0) (has_zero (units ++ 0 ∷ rest)) (has_zero-behind units rest)

pub is_ended-stands : (bytes : List ℕ) (place : ℕ) (units : List ℕ) → StandsAt bytes place (string units) → is_ended bytes (offset_of units place) ≡ true
unfolding string
is_ended-stands bytes place [] h = refl
is_ended-stands bytes place (unit ∷ units) h =
    let parts : drop place bytes ≡ unit_bytes (unit ∷ units) ++ (unit_bytes (0 ∷ []) ++ h.rest) =
    h.is ∙ append_assoc (unit_bytes (unit ∷ units)) (unit_bytes (0 ∷ [])) h.rest in
    or_right (nat_eq place 0) (has_zero (whole_units (drop place bytes)))
    (ap (λ bs. has_zero (whole_units bs)) parts ∙ ap has_zero (whole_units-unit_bytes (unit ∷ units) (unit_bytes (0 ∷ []) ++ h.rest))
    ∙ has_zero-behind (unit ∷ units) (whole_units h.rest))

-- ---- names

pub name_clean : (bytes : List ℕ) (word place : ℕ) (name : List ℕ) → 0 < place → IsWritableName name → word_at bytes word ≡ offset_of (name_units name) place
    → StandsAt bytes place (string (name_units name)) → name_fault bytes word ≡ None
unfolding name_units
name_clean bytes word place name positive writable word_is h =
    let read : string_at bytes (word_at bytes word) ≡ flat_map char_units (chars name) =
    ap (string_at bytes) word_is ∙ string_at-stands bytes place (flat_map char_units (chars name)) positive (units-nonzero (chars name) writable.characters) h in
    both _ _ (unbroken_not V10 word _ (ap (is_ended bytes) word_is ∙ is_ended-stands bytes place (flat_map char_units (chars name)) h))
    (both _ _ (unbroken V15 word _ (ap (λ (us : List ℕ). nat_lt FILE_NAME_UNITS (length us)) read ∙ le-ltb FILE_NAME_UNITS (length (flat_map char_units (chars name))) writable.units)) refl)

-- ---- items

-- what is read of a written string of items
record Written {X : Type 0} (there : X → UnitItem) (bytes : List ℕ) (offset : ℕ) (xs : List X) : Type 0 where
  ended : is_ended bytes offset ≡ true
  read : read_at bytes offset ≡ map Ok (map there xs)
  count : item_count bytes offset ≡ length xs

written : {X : Type 0} (there : X → UnitItem) (bytes : List ℕ) (place : ℕ) (xs : List X) → 0 < place → All (λ x. IsSpellable (there x)) xs
    → StandsAt bytes place (string (item_units (map there xs))) → Written there bytes (offset_of (item_units (map there xs)) place) xs
unfolding item_units
written there bytes place xs positive spellable h =
    let items : List UnitItem = map there xs in
    let each : All IsSpellable items = All-map IsSpellable there xs spellable in
    let is : string_at bytes (offset_of (item_units items) place) ≡ item_units items = string_at-stands bytes place (item_units items) positive (item_units-nonzero items each) h in
    record {
      ended = is_ended-stands bytes place (item_units items) h;
      read = ap (λ us. results_of (unit_bytes us)) is ∙ spelled_gives_its_items items each;
      count = ap (λ us. length (items_of us)) is ∙ ap length (items_of-item_units items each) ∙ length-map xs there;
    }

pub string_clean : {X : Type 0} (there : X → UnitItem) (bytes : List ℕ) (kind : StringKind) (targets : List Target) (word place : ℕ) (too_many : ℕ → Bool) (xs : List X)
    → 0 < place → All (λ x. IsSpellable (there x)) xs → ItemsStand bytes kind targets (map there xs) → too_many (length xs) ≡ false
    → word_at bytes word ≡ offset_of (item_units (map there xs)) place → StandsAt bytes place (string (item_units (map there xs)))
    → string_fault bytes kind targets word too_many ≡ None
string_clean there bytes kind targets word place too_many xs positive spellable stand few word_is h =
    let w = written there bytes place xs positive spellable h in
    both _ _
    (both _ _ (unbroken_not V10 word _ (ap (is_ended bytes) word_is ∙ w.ended))
    (ap (walk_fault bytes kind targets (word_at bytes word)) (ap (read_at bytes) word_is ∙ w.read) ∙ walk_clean bytes kind targets (word_at bytes word) (map there xs) stand))
    (unbroken V15 word _ (ap (λ o. too_many (item_count bytes o)) word_is ∙ ap too_many w.count ∙ few))

-- if a string of items is in the file, the same number of items is read
pub count_written : {X : Type 0} (there : X → UnitItem) (bytes : List ℕ) (word place : ℕ) (xs : List X)
    → 0 < place → All (λ x. IsSpellable (there x)) xs → word_at bytes word ≡ offset_of (item_units (map there xs)) place → StandsAt bytes place (string (item_units (map there xs)))
    → item_count bytes (word_at bytes word) ≡ length xs
count_written there bytes word place xs positive spellable word_is h = ap (item_count bytes) word_is ∙ (written there bytes place xs positive spellable h).count

-- if a string of items is in the file, the same items are read
pub items_written : {X : Type 0} (there : X → UnitItem) (bytes : List ℕ) (word place : ℕ) (xs : List X)
    → 0 < place → All (λ x. IsSpellable (there x)) xs → word_at bytes word ≡ offset_of (item_units (map there xs)) place → StandsAt bytes place (string (item_units (map there xs)))
    → items_of (string_at bytes (word_at bytes word)) ≡ map there xs
items_written there bytes word place xs positive spellable word_is h =
    let items : List UnitItem = map there xs in
    let each : All IsSpellable items = All-map IsSpellable there xs spellable in
    ap (λ o. items_of (string_at bytes o)) word_is ∙ ap items_of (string_at-stands bytes place (item_units items) positive (item_units-nonzero items each) h)
    ∙ items_of-item_units items each

-- ---- what items name

none_past : (n : ℕ) (numbers : List ℕ) → All (λ number. number < n) numbers → list_any (nat_lt n) (map (λ number. number + 1) numbers) ≡ false
none_past n [] h = refl
none_past n (number ∷ numbers) h = none_past_one n number (list_any (nat_lt n) (map (λ m. m + 1) numbers)) (All-head (λ m. m < n) number numbers h) (none_past n numbers (All-tail (λ m. m < n) number numbers h))
  where
    none_past_one : (n number : ℕ) (b : Bool) → number < n → b ≡ false → (nat_lt n (number + 1) || b) ≡ false
    none_past_one n number b h is = grind (arith, h, is)

named_within : (n g : ℕ) (stores groups : List ℕ) → All (λ store. store < n) stores → All (λ group. group < g) groups
    → (list_any (nat_lt n) (map (λ store. store + 1) stores) || list_any (nat_lt g) (map (λ group. group + 1) groups)) ≡ false
named_within n g stores groups s h = ap (λ b. b || list_any (nat_lt g) (map (λ group. group + 1) groups)) (none_past n stores s) ∙ none_past g groups h

abbrev names_past : ℕ → ℕ → UnitItem → Bool
names_past n g item = list_any (nat_lt n) (stores_named item) || list_any (nat_lt g) (groups_named item)

no_group : (g : ℕ) → All (λ group. group < g) []
no_group g = All-nil (λ group. group < g)

pattern_names : (n g : ℕ) (p : Pat) → All (λ store. store < n) (stores_of_pattern p) → names_past n g (unit_item_of_pattern p) ≡ false
pattern_names n g (pattern.Any store) h = named_within n g (store ∷ []) [] h (no_group g)
pattern_names n g (pattern.NotAny store) h = named_within n g (store ∷ []) [] h (no_group g)
pattern_names n g (pattern.Index store offset) h = named_within n g (store ∷ []) [] h (no_group g)
pattern_names n g (pattern.Equal store value) h = named_within n g (store ∷ value ∷ []) [] h (no_group g)
pattern_names n g (pattern.Unequal store value) h = named_within n g (store ∷ value ∷ []) [] h (no_group g)
pattern_names n g (pattern.SystemEqual id value) h = named_within n g (value ∷ []) [] h (no_group g)
pattern_names n g (pattern.SystemUnequal id value) h = named_within n g (value ∷ []) [] h (no_group g)
pattern_names n g (pattern.Char c) h = refl
pattern_names n g (pattern.Mark mark) h = refl
pattern_names n g (pattern.ContextAt offset) h = refl
pattern_names n g pattern.Nul h = refl

output_names : (n g : ℕ) (o : Out) → All (λ store. store < n) (stores_of_output o) → All (λ group. group < g) (groups_of_output o) → names_past n g (unit_item_of_output o) ≡ false
output_names n g (output.Index store offset) h k = named_within n g (store ∷ []) [] h k
output_names n g (output.Set store value) h k = named_within n g (store ∷ value ∷ []) [] h k
output_names n g (output.SetSystem id value) h k = named_within n g (value ∷ []) [] h k
output_names n g (output.Save store) h k = named_within n g (store ∷ []) [] h k
output_names n g (output.Reset store) h k = named_within n g (store ∷ []) [] h k
output_names n g (output.Enter group) h k = named_within n g [] (group ∷ []) h k
output_names n g (output.Char c) h k = refl
output_names n g (output.Mark mark) h k = refl
output_names n g output.Context h k = refl
output_names n g (output.ContextAt offset) h k = refl
output_names n g output.Nul h k = refl
output_names n g output.Beep h k = refl
output_names n g output.Stop h k = refl

-- ---- what items point at

any_back : (p : Pat) → is_any p ≡ true → target.is_any (Some (target_of (unit_item_of_pattern p))) ≡ true
any_back (pattern.Any store) h = refl
any_back (pattern.NotAny store) h = absurd (cc)
any_back (pattern.Index store offset) h = absurd (cc)
any_back (pattern.Equal store value) h = absurd (cc)
any_back (pattern.Unequal store value) h = absurd (cc)
any_back (pattern.SystemEqual id value) h = absurd (cc)
any_back (pattern.SystemUnequal id value) h = absurd (cc)
any_back (pattern.Char c) h = absurd (cc)
any_back (pattern.Mark mark) h = absurd (cc)
any_back (pattern.ContextAt offset) h = absurd (cc)
any_back pattern.Nul h = absurd (cc)

matched_back : (p : Pat) → is_matched p ≡ true → target.is_pattern (Some (target_of (unit_item_of_pattern p))) ≡ true
matched_back (pattern.Any store) h = refl
matched_back (pattern.NotAny store) h = refl
matched_back (pattern.Index store offset) h = refl
matched_back (pattern.Char c) h = refl
matched_back (pattern.Mark mark) h = refl
matched_back (pattern.ContextAt offset) h = refl
matched_back (pattern.Equal store value) h = absurd (cc)
matched_back (pattern.Unequal store value) h = absurd (cc)
matched_back (pattern.SystemEqual id value) h = absurd (cc)
matched_back (pattern.SystemUnequal id value) h = absurd (cc)
matched_back pattern.Nul h = absurd (cc)

-- if an offset points at an item that passes a test, the target that it finds passes the test for targets
finds : (test : Pat → Bool) (wanted : Option Target → Bool) → ((p : Pat) → test p ≡ true → wanted (Some (target_of (unit_item_of_pattern p))) ≡ true)
    → (context : List Pat) (place : ℕ) → IsSomeAnd (slice_get context place) (λ p. test p ≡ true) → wanted (slice_get (targets_of context) place) ≡ true
finds test wanted one [] place h = absurd h
finds test wanted one (p ∷ context) zero h = one p h
finds test wanted one (p ∷ context) (suc place) h = finds test wanted one context place h

finds_any : (context : List Pat) (offset : ℕ) → PointsTo is_any context offset → target.is_any (target_at (targets_of context) offset) ≡ true
finds_any context zero h = absurd h
finds_any context (suc place) h = finds is_any target.is_any any_back context place h

finds_matched : (context : List Pat) (offset : ℕ) → PointsTo is_matched context offset → target.is_pattern (target_at (targets_of context) offset) ≡ true
finds_matched context zero h = absurd h
finds_matched context (suc place) h = finds is_matched target.is_pattern matched_back context place h

pattern_points : (before : List Pat) (p : Pat) → PointsBack before p → points_right (targets_of before) (unit_item_of_pattern p) ≡ true
pattern_points before (pattern.Index store offset) h = finds_any before offset h
pattern_points before (pattern.ContextAt offset) h = finds_matched before offset h
pattern_points before (pattern.Any store) h = refl
pattern_points before (pattern.NotAny store) h = refl
pattern_points before (pattern.Equal store value) h = refl
pattern_points before (pattern.Unequal store value) h = refl
pattern_points before (pattern.SystemEqual id value) h = refl
pattern_points before (pattern.SystemUnequal id value) h = refl
pattern_points before (pattern.Char c) h = refl
pattern_points before (pattern.Mark mark) h = refl
pattern_points before pattern.Nul h = refl

output_points : (context : List Pat) (o : Out) → PointsInto context o → points_right (targets_of context) (unit_item_of_output o) ≡ true
output_points context (output.Index store offset) h = finds_any context offset h
output_points context (output.ContextAt offset) h = finds_matched context offset h
output_points context (output.Char c) h = refl
output_points context (output.Mark mark) h = refl
output_points context output.Context h = refl
output_points context (output.Enter group) h = refl
output_points context (output.Set store value) h = refl
output_points context (output.SetSystem id value) h = refl
output_points context (output.Save store) h = refl
output_points context (output.Reset store) h = refl
output_points context output.Nul h = refl
output_points context output.Beep h = refl
output_points context output.Stop h = refl

match_points : (o : Out) → needs_context o ≡ false → points_right [] (unit_item_of_output o) ≡ true
match_points (output.Char c) h = refl
match_points (output.Mark mark) h = refl
match_points (output.Index store offset) h = absurd (cc)
match_points output.Context h = refl
match_points (output.ContextAt offset) h = absurd (cc)
match_points (output.Enter group) h = refl
match_points (output.Set store value) h = refl
match_points (output.SetSystem id value) h = refl
match_points (output.Save store) h = refl
match_points (output.Reset store) h = refl
match_points output.Nul h = refl
match_points output.Beep h = refl
match_points output.Stop h = refl

element_stands : (bytes : List ℕ) (e : Element) → ItemStands bytes of.Store [] (unit_item_of_element e)
element_stands bytes (element.Char c) = record { stands = refl; named = refl; points = refl }
element_stands bytes (element.Mark mark) = record { stands = refl; named = refl; points = refl }
element_stands bytes (element.Key flags code) = record { stands = refl; named = refl; points = refl }

-- ---- whole contents

pub elements_stand : (bytes : List ℕ) (elements : List Element) → ItemsStand bytes of.Store [] (map unit_item_of_element elements)
elements_stand bytes [] = tt
elements_stand bytes (e ∷ elements) = (element_stands bytes e, elements_stand bytes elements)

pub outputs_stand : (bytes : List ℕ) (context : List Pat) (outputs : List Out) → All (λ store. store < store_count bytes) (flat_map stores_of_output outputs)
    → All (λ group. group < group_count bytes) (flat_map groups_of_output outputs) → All (λ o. sets_system_id o ≡ true) outputs → All (PointsInto context) outputs
    → ItemsStand bytes of.Output (targets_of context) (map unit_item_of_output outputs)
outputs_stand bytes context [] s g y h = tt
outputs_stand bytes context (o ∷ outputs) s g y h =
    let stores = All-append_parts (λ store. store < store_count bytes) (stores_of_output o) (flat_map stores_of_output outputs) s in
    let groups = All-append_parts (λ group. group < group_count bytes) (groups_of_output o) (flat_map groups_of_output outputs) g in (
      record {
        stands = output_stands o ∙ All-head (λ q. sets_system_id q ≡ true) o outputs y;
        named = output_names (store_count bytes) (group_count bytes) o stores.0 groups.0;
        points = output_points context o (All-head (PointsInto context) o outputs h);
      },
      outputs_stand bytes context outputs stores.1 groups.1 (All-tail (λ q. sets_system_id q ≡ true) o outputs y) (All-tail (PointsInto context) o outputs h),
    )

pub match_stands : (bytes : List ℕ) (outputs : List Out) → All (λ store. store < store_count bytes) (flat_map stores_of_output outputs)
    → All (λ group. group < group_count bytes) (flat_map groups_of_output outputs) → All (λ o. sets_system_id o ≡ true) outputs → All (λ o. needs_context o ≡ false) outputs
    → ItemsStand bytes of.Match [] (map unit_item_of_output outputs)
match_stands bytes [] s g y h = tt
match_stands bytes (o ∷ outputs) s g y h =
    let stores = All-append_parts (λ store. store < store_count bytes) (stores_of_output o) (flat_map stores_of_output outputs) s in
    let groups = All-append_parts (λ group. group < group_count bytes) (groups_of_output o) (flat_map groups_of_output outputs) g in
    let alone : needs_context o ≡ false = All-head (λ q. needs_context q ≡ false) o outputs h in (
      record {
        stands = stands_alone o ∙ ap₂ (λ needs sets. not needs && sets) alone (All-head (λ q. sets_system_id q ≡ true) o outputs y);
        named = output_names (store_count bytes) (group_count bytes) o stores.0 groups.0;
        points = match_points o alone;
      },
      match_stands bytes outputs stores.1 groups.1 (All-tail (λ q. sets_system_id q ≡ true) o outputs y) (All-tail (λ q. needs_context q ≡ false) o outputs h),
    )

context_stands_behind : (bytes : List ℕ) (before context : List Pat) → ((place : ℕ) (d : Pat) → place < length context → PointsBack (before ++ take place context) (slice_index_or context place d))
    → All (λ store. store < store_count bytes) (flat_map stores_of_pattern context) → All (λ p. has_system_id p ≡ true) context
    → ContextStands bytes (targets_of before) (map unit_item_of_pattern context)
context_stands_behind bytes before [] h s y = tt
context_stands_behind bytes before (p ∷ context) h s y =
    let stores = All-append_parts (λ store. store < store_count bytes) (stores_of_pattern p) (flat_map stores_of_pattern context) s in
    let back : PointsBack before p = subst (λ (b : List Pat). PointsBack b p) (append-nil before) (h 0 p (omega arith)) in
    let behind : (place : ℕ) (d : Pat) → place < length context → PointsBack ((before ++ p ∷ []) ++ take place context) (slice_index_or context place d) =
    λ place d below. subst (λ (b : List Pat). PointsBack b (slice_index_or context place d)) (sym (append_assoc before (p ∷ []) (take place context))) (h (suc place) d (omega (arith, below))) in (
      record {
        stands = pattern_stands p ∙ All-head (λ q. has_system_id q ≡ true) p context y;
        named = pattern_names (store_count bytes) (group_count bytes) p stores.0;
        points = pattern_points before p back;
      },
      subst (λ (ts : List Target). ContextStands bytes ts (map unit_item_of_pattern context)) (sym (targets_more before p))
          (context_stands_behind bytes (before ++ p ∷ []) context behind stores.1 (All-tail (λ q. has_system_id q ≡ true) p context y)),
    )

pub context_string_clean : (bytes : List ℕ) (word place : ℕ) (context : List Pat) → 0 < place → IsWritableContext (store_count bytes) context
    → word_at bytes word ≡ offset_of (pattern_units context) place → StandsAt bytes place (string (pattern_units context)) → context_string_fault bytes word ≡ None
context_string_clean bytes word place context positive h word_is stands =
    let w = written unit_item_of_pattern bytes place context positive h.items stands in
    both _ _
    (both _ _ (unbroken_not V10 word _ (ap (is_ended bytes) word_is ∙ w.ended))
    (ap (context_fault bytes [] (word_at bytes word)) (ap (read_at bytes) word_is ∙ w.read)
    ∙ context_clean bytes [] (word_at bytes word) (map unit_item_of_pattern context) (context_stands_behind bytes [] context h.offsets h.stores h.systems)))
    (unbroken V15 word _ (ap (λ o. nat_lt CONTEXT_ITEMS (item_count bytes o)) word_is ∙ ap (nat_lt CONTEXT_ITEMS) w.count ∙ le-ltb CONTEXT_ITEMS (length context) h.item_count))
