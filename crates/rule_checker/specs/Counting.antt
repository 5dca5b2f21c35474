-- Counts the elements of stores, the items of outputs, and the records of a rule whose key is one of a store, without building
-- the elements. Counts saturate at the maximum of their type.
use Rattle.std.specs.Prelude.{ℕ, ◌+◌, ◌-◌, min, ◌&&◌, not, nat_eq, if◌then◌else◌, List, [], ◌∷◌, ◌++◌, Option, Some, None, slice_get, unwrap_or}
use Rattle.std.specs.Str.{continuation_len}
use Rattle.virtual_keys.specs.Dictionary.{place_in}
use Rattle.virtual_keys.specs.Fits.{has, caps, no_caps}
use Rattle.rule_model.specs.declared.program.KeyName.{KeyName}
use Rattle.rule_model.specs.declared.program.SrcItem.{SrcItem}
use Rattle.rule_model.specs.declared.program.SrcItem.TheVariants as source
use Rattle.rule_model.specs.declared.program.StoreDef.{StoreDef}
use Rattle.rule_model.specs.Naming.{is_dropped}
use Rattle.rule_checker.specs.declared.counting.StoreCounts.{StoreCounts}
use Rattle.rule_checker.specs.declared.key_codes.KeyCodes.{KeyCodes}
use Rattle.rule_checker.specs.KeyCodes.{has_code}

-- a count, or the maximum of its type if the count is larger
abbrev pub capped : ℕ → ℕ
capped count = min count 0xFFFF_FFFF

abbrev pub count_at : List ℕ → Option ℕ → ℕ
count_at counts None = 0
count_at counts (Some place) = unwrap_or (slice_get counts place) 0

-- the count at the position of a name, 0 if the name has none
abbrev pub count_in : List (List ℕ) → List ℕ → List ℕ → ℕ
count_in names counts name = count_at counts (place_in names name)

-- the number of elements of the store of a name, and the number of records of a rule whose key is one of them
abbrev pub count_named : StoreCounts → List ℕ → ℕ
count_named counted name = count_in counted.names counted.counts name

abbrev pub records_named : StoreCounts → List ℕ → ℕ
records_named counted name = count_in counted.names counted.records name

-- the number of records of a rule with this key: two if the key exchanges shift and caps lock
abbrev pub virtual_count_of : StoreCounts → KeyName → ℕ
virtual_count_of counted key =
    if has_code counted.cased key.code && (not (has key.flags caps) && not (has key.flags no_caps)) then 2 else 1

-- the number of elements that an item adds to a store
abbrev pub count_of : StoreCounts → SrcItem → ℕ
count_of counted (source.Char c) = 1
count_of counted (source.Dead name) = 1
count_of counted (source.Key key) = 1
count_of counted (source.Outs name) = count_named counted name
count_of counted item = 0

-- the number of records of a rule for the elements that an item adds to a store
abbrev pub records_of : StoreCounts → SrcItem → ℕ
records_of counted (source.Char c) = 1
records_of counted (source.Dead name) = 1
records_of counted (source.Key key) = virtual_count_of counted key
records_of counted (source.Outs name) = records_named counted name
records_of counted item = 0

-- the number of items that an item of an output expands to
abbrev pub output_count_of : StoreCounts → SrcItem → ℕ
output_count_of counted (source.Outs name) = count_named counted name
output_count_of counted item = 1

-- the sum of the counts of items, from a sum on
abbrev pub total : (SrcItem → ℕ) → ℕ → List SrcItem → ℕ
total count sum [] = sum
total count sum (item ∷ items) = total count (capped (sum + count item)) items

-- the counts of stores with the store of a further statement, unless the statement is dropped
abbrev pub with_store : StoreCounts → StoreDef → StoreCounts
with_store counted store =
    if is_dropped store then counted
    else record {
      cased = counted.cased;
      names = counted.names ++ store.name ∷ [];
      counts = counted.counts ++ total (count_of counted) 0 store.items ∷ [];
      records = counted.records ++ total (records_of counted) 0 store.items ∷ [];
    }

abbrev pub with_stores : StoreCounts → List StoreDef → StoreCounts
with_stores counted [] = counted
with_stores counted (store ∷ stores) = with_stores (with_store counted store) stores

-- the counts of no stores, with these cased keys
abbrev pub no_counts : KeyCodes → StoreCounts
no_counts cased = record { cased = cased; names = []; counts = []; records = [] }

-- the number of bytes of a character that follow a byte, if `coming` bytes were expected before it
abbrev pub to_come : ℕ → ℕ → ℕ
to_come coming byte = if nat_eq coming 0 then continuation_len byte else coming - 1

abbrev pub character_ends : ℕ → ℕ
character_ends coming = if nat_eq coming 0 then 1 else 0
