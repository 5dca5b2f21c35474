-- The elements of a store in the source denote the elements of the store.
use Rattle.std.proofs.Common.{◌≡◌, ℕ, zero, suc, Bool, true, false, cond, List, [], ◌∷◌, ◌++◌, map, Option, Some, None, refl, sym, ap, ◌∙◌, if◌then◌else◌}
use Rattle.std.specs.Prelude.{flat_map, find, option_map, slice_get, unwrap_or}
use Rattle.std.proofs.lemmas.List.{map-append}
use Rattle.kmn_base.specs.declared.items.Element.{Element}
use Rattle.kmn_base.specs.Names.{same_name}
use Rattle.virtual_keys.specs.Dictionary.{place_in}
use Rattle.virtual_keys.proofs.NamePlaces.{position_cons, same_either_way}
use Rattle.rule_model.specs.declared.program.SrcItem.{SrcItem}
use Rattle.rule_model.specs.declared.program.SrcItem.TheVariants as source
use Rattle.rule_model.specs.declared.program.StoreDef.{StoreDef}
use Rattle.rule_model.specs.declared.tables.Store.{Store}
use Rattle.rule_model.specs.Tab.{store_elements}
use Rattle.rule_model.specs.Naming.{SourceNames, names_of, stores_of, stores_onto, store_of, is_dropped, item_elements}
use Rattle.source_uses.specs.declared.contents.StoreElement.{StoreElement}
use Rattle.source_uses.specs.declared.contents.Contents.{Contents}
use Rattle.source_uses.specs.Elements.{brought, contents_of, elements_at, elements_named, no_contents, with_store, with_stores}
use Rattle.source_uses.specs.Laws.{ContentsAreElements, denotes}

-- contents have the names of stores, and elements that denote theirs
record AreContents (names : SourceNames) (contents : Contents) (stores : List Store) : Type 0 where
  named : contents.names ≡ map (λ (s : Store). s.name) stores
  denoted : map (map (denotes names)) contents.elements ≡ map (λ (s : Store). s.elements) stores

-- the list at a place
abbrev list_at : List (List Element) → Option ℕ → List Element
list_at lists None = []
list_at lists (Some place) = unwrap_or (slice_get lists place) []

map_place : (d : StoreElement → Element) (lists : List (List StoreElement)) (place : ℕ)
    → map d (unwrap_or (slice_get lists place) []) ≡ unwrap_or (slice_get (map (map d) lists) place) []
map_place d [] place = refl
map_place d (list ∷ lists) zero = refl
map_place d (list ∷ lists) (suc place) = map_place d lists place

map_at : (d : StoreElement → Element) (lists : List (List StoreElement)) (place : Option ℕ)
    → map d (elements_at lists place) ≡ list_at (map (map d) lists) place
map_at d lists None = refl
map_at d lists (Some place) = map_place d lists place

-- the store with a name
here_or_later : (here : Bool) (store : Store) (lists : List (List Element)) (place : Option ℕ) (found : Option Store)
    → list_at lists place ≡ store_elements found
    → list_at (store.elements ∷ lists) (cond here (Some 0) (option_map suc place)) ≡ store_elements (cond here (Some store) found)
here_or_later true store lists place found h = refl
here_or_later false store lists None found h = h
here_or_later false store lists (Some n) found h = h

found_among : (stores : List Store) (name : List ℕ)
    → list_at (map (λ (s : Store). s.elements) stores) (place_in (map (λ (s : Store). s.name) stores) name)
    ≡ store_elements (find (λ (s : Store). same_name s.name name) stores)
found_among [] name = refl
found_among (store ∷ stores) name =
    ap (list_at (map (λ (s : Store). s.elements) (store ∷ stores)))
    (position_cons (same_name name) store.name (map (λ (s : Store). s.name) stores)
    ∙ ap (λ here. cond here (Some 0) (option_map suc (place_in (map (λ (s : Store). s.name) stores) name))) (same_either_way name store.name))
    ∙ here_or_later (same_name store.name name) store (map (λ (s : Store). s.elements) stores)
    (place_in (map (λ (s : Store). s.name) stores) name) (find (λ (s : Store). same_name s.name name) stores) (found_among stores name)

named_is : (names : SourceNames) (contents : Contents) (stores : List Store) (name : List ℕ) → AreContents names contents stores
    → map (denotes names) (elements_named contents name) ≡ store_elements (find (λ (s : Store). same_name s.name name) stores)
named_is names contents stores name are =
    map_at (denotes names) contents.elements (place_in contents.names name)
    ∙ (λ j. list_at (are.denoted j) (place_in (are.named j) name))
    ∙ found_among stores name

-- an item, and items, of a store
item_is : (names : SourceNames) (contents : Contents) (stores : List Store) → AreContents names contents stores → (item : SrcItem)
    → map (denotes names) (brought contents item) ≡ item_elements names stores item
item_is names contents stores are (source.Char c) = refl
item_is names contents stores are (source.Dead name) = refl
item_is names contents stores are (source.Key key) = refl
item_is names contents stores are (source.Outs name) = named_is names contents stores name are
item_is names contents stores are item = refl

items_are : (names : SourceNames) (contents : Contents) (stores : List Store) → AreContents names contents stores → (items : List SrcItem)
    → map (denotes names) (flat_map (brought contents) items) ≡ flat_map (item_elements names stores) items
items_are names contents stores are [] = refl
items_are names contents stores are (item ∷ items) =
    map-append (denotes names) (brought contents item) (flat_map (brought contents) items)
    ∙ (λ j. item_is names contents stores are item j ++ items_are names contents stores are items j)

-- the stores of a program
next_store : (names : SourceNames) (contents : Contents) (before : List Store) (store : StoreDef) → AreContents names contents before
    → AreContents names (with_store contents store) (if is_dropped store then before else before ++ store_of names before store ∷ [])
next_store names contents before store are = by (is_dropped store)
  where
    by : (dropped : Bool) → AreContents names (if dropped then contents else record { names = contents.names ++ store.name ∷ []; elements = contents.elements ++ flat_map (brought contents) store.items ∷ [] })
        (if dropped then before else before ++ store_of names before store ∷ [])
    by true = are
    by false = record {
      named = (λ j. are.named j ++ store.name ∷ []) ∙ sym (map-append (λ (s : Store). s.name) before (store_of names before store ∷ []));
      denoted =
          map-append (map (denotes names)) contents.elements (flat_map (brought contents) store.items ∷ [])
          ∙ (λ j. are.denoted j ++ items_are names contents before are store.items j ∷ [])
          ∙ sym (map-append (λ (s : Store). s.elements) before (store_of names before store ∷ []));
    }

stores_behind : (names : SourceNames) (contents : Contents) (before : List Store) (stores : List StoreDef) → AreContents names contents before
    → AreContents names (with_stores contents stores) (stores_onto names before stores)
stores_behind names contents before [] are = are
stores_behind names contents before (store ∷ stores) are =
    stores_behind names (with_store contents store) (if is_dropped store then before else before ++ store_of names before store ∷ []) stores (next_store names contents before store are)

pub contents_are : ContentsAreElements
unfolding contents_of stores_of
contents_are program name =
    named_is (names_of program) (contents_of program) (stores_of program) name
    (stores_behind (names_of program) no_contents [] program.stores (record { named = refl; denoted = refl }))
