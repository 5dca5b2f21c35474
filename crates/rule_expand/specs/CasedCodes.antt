-- The codes of cased keys, as they are found.
use Rattle.std.specs.Prelude.{◌≡◌, ℕ, nat_eq, List, find}
use Rattle.std.specs.List.{list_any}
use Rattle.indexmap.specs.IndexSet.{insert_key}
use Rattle.kmn_base.specs.declared.items.Element.{Element}
use Rattle.kmn_base.specs.declared.items.Element.TheVariants as element
use Rattle.rule_model.specs.declared.tables.Store.{Store}
use Rattle.rule_model.specs.Tab.{store_elements}
use Rattle.rule_model.specs.Src.{is_cased_keys, codes_among}

-- the codes of the first `&casedkeys` of stores
abbrev pub cased_codes : List Store → List ℕ
cased_codes stores = codes_among (store_elements (find is_cased_keys stores))

-- known codes with the code of a further element, if the element is a key
abbrev pub with_code : List ℕ → Element → List ℕ
with_code known (element.Key flags code) = insert_key nat_eq known code
with_code known e = known

-- whether known codes are the codes of a list, which may contain a code more than once
pub record HasCodes (known codes : List ℕ) : Type 0 where
  pub each : (code : ℕ) → list_any (nat_eq code) known ≡ list_any (nat_eq code) codes
