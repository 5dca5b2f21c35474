-- What is found of a store is found among its elements.
use Rattle.std.proofs.Common.{◌≡◌, ℕ, zero, suc, Bool, List, [], ◌∷◌, ◌++◌, ◌+◌, ◌<◌, ◌≤◌, length, map, take, get_or, slice_get, Some, None, refl, sym, ◌∙◌, ap, subst, append_assoc, arith}
use Rattle.std.specs.Prelude.{slice_set}
use Rattle.std.specs.List.{All}
use Rattle.std.proofs.lemmas.List.{length-map, map_more, take_more_set}
use Rattle.std.proofs.lemmas.List.Elements.{All-append, All-map}
use Rattle.kmn_base.specs.declared.limits.TheConstants.{STORES, STORE_ELEMENTS}
use Rattle.kmn_base.specs.declared.items.Element.{Element}
use Rattle.kmn_base.specs.declared.items.Item.{Item}
use Rattle.rule_model.specs.declared.tables.Store.{Store}
use Rattle.rule_model.specs.declared.tables.Tables.{Tables}
use Rattle.rule_model.specs.Content.{elements_at}
use Rattle.rule_model.specs.Keyboard.{StoreMeaning, stated}
use Rattle.rule_model.specs.System.{system_options}
use Rattle.rule_model.specs.Tab.{tab, tab_options}
use Rattle.rule_model.proofs.SystemOptions.{all_elements, length-all_stores}
use Rattle.rule_index.specs.declared.holding.Holding.{Holding}
use Rattle.rule_index.specs.Holdings.{content_at, AreHoldersOf}
use Rattle.rule_index.specs.Stores.{store_contents, HaveFewElements}

-- the elements that are listed at a store's number are the elements of the store
pub contents_found : (stores : List StoreMeaning) (n : ℕ) (elements : List Element) → slice_get (stated stores) n ≡ Some elements → elements_at stores (Some n) ≡ elements
contents_found [] zero elements at = absurd (cc)
contents_found [] (suc n) elements at = absurd (cc)
contents_found (store ∷ stores) zero elements at = cc
contents_found (store ∷ stores) (suc n) elements at = contents_found stores n elements at

-- if no elements are listed at a number, the store of this number has no elements
pub contents_absent : (stores : List StoreMeaning) (n : ℕ) → slice_get (stated stores) n ≡ None → elements_at stores (Some n) ≡ []
contents_absent [] zero at = refl
contents_absent [] (suc n) at = refl
contents_absent (store ∷ stores) zero at = absurd (cc)
contents_absent (store ∷ stores) (suc n) at = contents_absent stores n at

-- the elements that are listed at a number are the elements of the store of this number
pub content_is : (stores : List StoreMeaning) (n : ℕ) → content_at (stated stores) n ≡ elements_at stores (Some n)
content_is [] zero = refl
content_is [] (suc n) = refl
content_is (store ∷ stores) zero = refl
content_is (store ∷ stores) (suc n) = content_is stores n

-- so the holders of an item among the listed elements are its holders among the stores
pub holders_in_stores : (stores : List StoreMeaning) (x : Item) (rows : List Holding) → AreHoldersOf x (content_at (stated stores)) rows
    → AreHoldersOf x (λ store. elements_at stores (Some store)) rows
holders_in_stores stores x rows = subst (λ contents. AreHoldersOf x contents rows) (λ i n. content_is stores n i)

-- each listed store is short
few_listed : (stores : List Store) → HaveFewElements stores → All (λ (elements : List Element). length elements ≤ STORE_ELEMENTS) (store_contents stores)
few_listed stores few = All-map (λ (elements : List Element). length elements ≤ STORE_ELEMENTS) (λ (store : Store). store.elements) stores few

-- so each store of a keyboard is short, since the system options are short
pub few_of_all : (tables : Tables) → HaveFewElements tables.stores → All (λ (elements : List Element). length elements ≤ STORE_ELEMENTS) (stated (tab tables).stores)
unfolding tab
few_of_all tables few =
    subst (All (λ (elements : List Element). length elements ≤ STORE_ELEMENTS)) (sym (all_elements (tab_options tables) 0 tables.stores))
    (All-append (λ (elements : List Element). length elements ≤ STORE_ELEMENTS) (store_contents tables.stores) (stated system_options)
    (few_listed tables.stores few) system_few)
  where
    system_few : All (λ (elements : List Element). length elements ≤ STORE_ELEMENTS) (stated system_options)
    system_few zero d below = omega arith
    system_few (suc zero) d below = omega arith
    system_few (suc (suc k)) d below = absurd (omega arith)

-- a keyboard has two stores more than the file
pub count_of_all : (tables : Tables) → length (tab tables).stores ≡ length tables.stores + 2
unfolding tab
count_of_all tables = length-all_stores (tab_options tables) tables.stores

-- the stores of the file and then the two system options are all that are listed
pub all_listed : (tables : Tables) (own more all : List (List Element)) (layer platform : List Element)
    → own ≡ store_contents tables.stores → layer ≡ elements_at system_options (Some 0) → platform ≡ elements_at system_options (Some 1)
    → more ≡ own ++ layer ∷ [] → all ≡ more ++ platform ∷ [] → all ≡ stated (tab tables).stores
unfolding tab
all_listed tables own more all layer platform are first second one both =
    both
    ∙ ap (λ (made : List (List Element)). made ++ platform ∷ []) one
    ∙ append_assoc own (layer ∷ []) (platform ∷ [])
    ∙ (λ i. are i ++ first i ∷ second i ∷ [])
    ∙ sym (all_elements (tab_options tables) 0 tables.stores)

-- so as many are listed as the keyboard has stores, at most two more than a file may have
pub counted_all : (tables : Tables) (contents : List (List Element)) → contents ≡ stated (tab tables).stores → length contents ≡ length (tab tables).stores
counted_all tables contents are = ap length are ∙ length-map (tab tables).stores (λ (store : StoreMeaning). store.elements)

pub few_in_all : (tables : Tables) (contents : List (List Element)) → contents ≡ stated (tab tables).stores → length tables.stores ≤ STORES → length contents ≤ STORES + 2
few_in_all tables contents are few = omega (arith, counted_all tables contents are, count_of_all tables, few)

-- one more store is listed
pub one_listed : (all left rest : List Store) (store : Store) (listed more : List (List Element)) (elements : List Element)
    → left ≡ store ∷ rest → elements ≡ store.elements → more ≡ listed ++ elements ∷ []
    → listed ++ store_contents left ≡ store_contents all → more ++ store_contents rest ≡ store_contents all
one_listed all left rest store listed more elements is same grown before =
    ap (λ (made : List (List Element)). made ++ store_contents rest) grown
    ∙ append_assoc listed (elements ∷ []) (store_contents rest)
    ∙ ap (λ (first : List Element). listed ++ first ∷ store_contents rest) same
    ∙ ap (λ (stores : List Store). listed ++ store_contents stores) (sym is)
    ∙ before

-- one more store is tested by its elements
elements_within : (stores : List StoreMeaning) (n : ℕ) (d : StoreMeaning) → n < length stores → elements_at stores (Some n) ≡ (get_or stores n d).elements
elements_within [] n d below = absurd (omega arith)
elements_within (store ∷ stores) zero d below = refl
elements_within (store ∷ stores) (suc n) d below = elements_within stores n d (omega arith)

pub one_told : (tell : List Element → Bool) (stores : List StoreMeaning) (told : List Bool) (n : ℕ) → length told ≡ length stores → n < length stores
    → take n told ≡ map (λ (s : StoreMeaning). tell s.elements) (take n stores)
    → take (n + 1) (slice_set told n (tell (elements_at stores (Some n)))) ≡ map (λ (s : StoreMeaning). tell s.elements) (take (n + 1) stores)
one_told tell [] told n count below before = absurd (omega arith)
one_told tell (store ∷ stores) told n count below before =
    let all : List StoreMeaning = store ∷ stores in
    let tells : StoreMeaning → Bool = λ (s : StoreMeaning). tell s.elements in
    take_more_set told n (tell (elements_at all (Some n))) (omega (arith, count, below))
    ∙ ap (λ (front : List Bool). front ++ tell (elements_at all (Some n)) ∷ []) before
    ∙ ap (λ (elements : List Element). map tells (take n all) ++ tell elements ∷ []) (elements_within all n store below)
    ∙ sym (map_more tells all n store below)
