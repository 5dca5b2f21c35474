-- The stores of a keyboard, from the stores of its file: the layer and the platform come after them.
use Rattle.std.proofs.Common.{◌≡◌, ◌≢◌, ℕ, zero, suc, ◌+◌, ◌-◌, ◌<◌, ◌≤◌, List, [], ◌∷◌, ◌++◌, length, Some, sym, ◌∙◌, ap, arith}
use Rattle.std.specs.Prelude.{codes, slice_get}
use Rattle.std.proofs.lemmas.Option.{slice_get_past}
use Rattle.rule_model.specs.declared.tables.Store.{Store}
use Rattle.rule_model.specs.declared.tables.Tables.{Tables}
use Rattle.rule_model.specs.Keyboard.{StoreMeaning}
use Rattle.rule_model.specs.System.{system_options}
use Rattle.rule_model.specs.Tab.{tab, tab_options, with_options}
use Rattle.rule_model.proofs.PlainOptions.{length-with_options}
use Rattle.rule_model.proofs.SystemOptions.{at_behind}
use Rattle.rule_index.proofs.StoreIndexes.{count_of_all}
use Rattle.rule_engine.specs.Engine.{name_in, name_of}

-- if a store is in the file, it is not the last store, which is the platform
pub behind_own : (tables : Tables) (n : ℕ) → n < length tables.stores → n + 1 < length (tab tables).stores
behind_own tables n own = omega (arith, own, count_of_all tables)

-- the layer is not the last store
pub layer_before : (tables : Tables) (n : ℕ) → n ≡ length (tab tables).stores - 2 → n + 1 < length (tab tables).stores
layer_before tables n is = omega (arith, is, count_of_all tables)

-- ---- names

named_own : (options : List ℕ) (k n : ℕ) (stores : List Store) (store : Store) → slice_get stores n ≡ Some store
    → store.name ≡ name_in (slice_get (with_options options k stores ++ system_options) n)
named_own options k n [] store is = absurd (cc)
named_own options k zero (s ∷ ss) store is = let same : store ≡ s = cc in ap (λ (one : Store). one.name) same
named_own options k (suc n) (s ∷ ss) store is = named_own options (k + 1) n ss store is

pub own_name : (tables : Tables) (n : ℕ) (store : Store) → slice_get tables.stores n ≡ Some store → store.name ≡ name_of tables n
unfolding tab
own_name tables n store is = named_own (tab_options tables) 0 n tables.stores store is

named_behind : (tables : Tables) (n k : ℕ) → n ≡ length tables.stores + k → name_in (slice_get system_options k) ≡ name_of tables n
unfolding tab
named_behind tables n k is =
    let own : List StoreMeaning = with_options (tab_options tables) 0 tables.stores in
    let place : length own + k ≡ n = omega (arith, is, length-with_options (tab_options tables) 0 tables.stores) in
    sym (ap name_in (at_behind own system_options k)) ∙ ap (λ m. name_in (slice_get (own ++ system_options) m)) place

pub layer_name : (tables : Tables) (n : ℕ) → n ≡ length (tab tables).stores - 2 → codes "&layer" ≡ name_of tables n
layer_name tables n is = named_behind tables n 0 (omega (arith, is, count_of_all tables))

pub platform_name : (tables : Tables) (n : ℕ) → n ≡ length (tab tables).stores - 1 → codes "&platform" ≡ name_of tables n
platform_name tables n is = named_behind tables n 1 (omega (arith, is, count_of_all tables))

pub no_name : (tables : Tables) (n : ℕ) → length tables.stores ≤ n → n ≢ length (tab tables).stores - 2 → n ≢ length (tab tables).stores - 1 → [] ≡ name_of tables n
no_name tables n behind layer platform =
    let past : length (tab tables).stores ≤ n = omega (arith, behind, layer, platform, count_of_all tables) in
    sym (ap name_in (slice_get_past (tab tables).stores n past))
