-- The codes of the cased keys, found without building the elements of stores.
use Rattle.std.specs.Prelude.{ℕ, if◌then◌else◌, List, [], ◌∷◌, ◌++◌, Option, Some, None, slice_get, unwrap_or}
use Rattle.std.specs.List.{list_any}
use Rattle.virtual_keys.specs.Dictionary.{place_in}
use Rattle.rule_model.specs.declared.program.SrcItem.{SrcItem}
use Rattle.rule_model.specs.declared.program.SrcItem.TheVariants as source
use Rattle.rule_model.specs.declared.program.StoreDef.{StoreDef}
use Rattle.rule_model.specs.Naming.{is_dropped}
use Rattle.item_checker.specs.Items.{needs_plain_keys}
use Rattle.rule_checker.specs.declared.key_codes.KeyCodes.{KeyCodes}
use Rattle.rule_checker.specs.declared.cased.StoreCodes.{StoreCodes}
use Rattle.rule_checker.specs.KeyCodes.{no_codes, with_code, joined}

abbrev pub codes_at : List KeyCodes → Option ℕ → KeyCodes
codes_at codes None = no_codes
codes_at codes (Some place) = unwrap_or (slice_get codes place) no_codes

-- the codes of the keys that the store of a name has
abbrev pub codes_named : StoreCodes → List ℕ → KeyCodes
codes_named before name = codes_at before.codes (place_in before.names name)

-- codes with the codes that an item adds to a store
abbrev pub with_item_codes : StoreCodes → KeyCodes → SrcItem → KeyCodes
with_item_codes before codes (source.Key key) = with_code codes key.code
with_item_codes before codes (source.Outs name) = joined codes (codes_named before name)
with_item_codes before codes item = codes

abbrev pub with_items_codes : StoreCodes → KeyCodes → List SrcItem → KeyCodes
with_items_codes before codes [] = codes
with_items_codes before codes (item ∷ items) = with_items_codes before (with_item_codes before codes item) items

-- the codes of stores with the store of a further statement, unless the statement is dropped
abbrev pub with_store_codes : StoreCodes → StoreDef → StoreCodes
with_store_codes before store =
    if is_dropped store then before
    else record { names = before.names ++ store.name ∷ []; codes = before.codes ++ with_items_codes before no_codes store.items ∷ [] }

-- the codes of the first `&casedkeys` among these stores, given the codes of the stores before them
abbrev pub codes_from : StoreCodes → List StoreDef → KeyCodes
codes_from before [] = no_codes
codes_from before (store ∷ stores) =
    if needs_plain_keys store then with_items_codes before no_codes store.items else codes_from (with_store_codes before store) stores

abbrev pub no_stores : StoreCodes
no_stores = record { names = []; codes = [] }

-- the codes of the cased keys of these stores
abbrev pub codes_of_cased : List StoreDef → KeyCodes
codes_of_cased stores = if list_any needs_plain_keys stores then codes_from no_stores stores else no_codes
