-- Records that follow one another, by number; units that are read again.
use Rattle.std.proofs.Common.{◌≡◌, ℕ, zero, suc, ◌+◌, ◌-◌, ◌*◌, ◌<◌, ◌≤◌, Bool, List, [], ◌∷◌, length, refl, sym, ap, ◌∙◌, append-nil, arith}
use Rattle.std.specs.Prelude.{Some, None, slice_get}
use Rattle.std.proofs.lemmas.Option.{slice_get_past}
use Rattle.kmn_base.specs.Spelling.{unit_bytes, whole_units}
use Rattle.kmn_base.proofs.UnitBytes.{whole_units-unit_bytes}
use Rattle.kmx_format.specs.declared.sizes.TheConstants.{GROUP_BYTES, RULE_BYTES, STORE_BYTES}
use Rattle.kmx_format.specs.TablesOf.{store_at, stores_from, rule_at, rules_from, group_at, groups_from}

-- the units of the bytes of units
pub units_again : (units : List ℕ) → whole_units (unit_bytes units) ≡ units
units_again units = ap whole_units (sym (append-nil (unit_bytes units))) ∙ whole_units-unit_bytes units [] ∙ append-nil units

-- records of one size that follow one another
module _ {X : Type 0} (record_at : ℕ → X) (size : ℕ) (records_from : ℕ → ℕ → List X)
    (none : (place : ℕ) → records_from place zero ≡ [])
    (more : (place count : ℕ) → records_from place (suc count) ≡ record_at place ∷ records_from (place + size) count) where
  record_count : (place count : ℕ) → count ≡ length (records_from place count)
  record_count place zero = sym (ap length (none place))
  record_count place (suc count) = ap suc (record_count (place + size) count) ∙ sym (ap length (more place count))

  record_there : (place count i : ℕ) → i < count → Some (record_at (place + size * i)) ≡ slice_get (records_from place count) i
  record_there place zero i below = absurd (omega arith)
  record_there place (suc count) zero below =
      let here : place + size * zero ≡ place = omega arith in
      ap (λ p. Some (record_at p)) here ∙ sym (ap (λ (xs : List X). slice_get xs zero) (more place count))
  record_there place (suc count) (suc i) below =
      let behind : place + size * suc i ≡ place + size + size * i = omega arith in
      ap (λ p. Some (record_at p)) behind ∙ record_there (place + size) count i (omega arith)
      ∙ sym (ap (λ (xs : List X). slice_get xs (suc i)) (more place count))

  records_ended : (place left : ℕ) → left ≡ 0 → records_from place left ≡ []
  records_ended place left e = ap (records_from place) e ∙ none place

  records_more : (place left : ℕ) → 0 < left → records_from place left ≡ record_at place ∷ records_from (place + size) (left - 1)
  records_more place zero positive = absurd (omega arith)
  records_more place (suc left) positive =
      let less : left ≡ suc left - 1 = omega arith in
      more place left ∙ ap (λ k. record_at place ∷ records_from (place + size) k) less

  record_past : (place count i : ℕ) → count ≤ i → None ≡ slice_get (records_from place count) i
  record_past place count i past = sym (slice_get_past (records_from place count) i (omega (arith, record_count place count)))

-- there are exactly `count` stores, each at its position
pub store_count : (bytes : List ℕ) (place count : ℕ) → count ≡ length (stores_from bytes place count)
store_count bytes = record_count (store_at bytes) STORE_BYTES (stores_from bytes) (λ _. refl) (λ _ _. refl)

pub store_there : (bytes : List ℕ) (place count i : ℕ) → i < count → Some (store_at bytes (place + STORE_BYTES * i)) ≡ slice_get (stores_from bytes place count) i
store_there bytes = record_there (store_at bytes) STORE_BYTES (stores_from bytes) (λ _. refl) (λ _ _. refl)

pub store_past : (bytes : List ℕ) (place count i : ℕ) → count ≤ i → None ≡ slice_get (stores_from bytes place count) i
store_past bytes = record_past (store_at bytes) STORE_BYTES (stores_from bytes) (λ _. refl) (λ _ _. refl)

-- the same for groups
pub group_count : (bytes : List ℕ) (place count : ℕ) → count ≡ length (groups_from bytes place count)
group_count bytes = record_count (group_at bytes) GROUP_BYTES (groups_from bytes) (λ _. refl) (λ _ _. refl)

pub group_there : (bytes : List ℕ) (place count i : ℕ) → i < count → Some (group_at bytes (place + GROUP_BYTES * i)) ≡ slice_get (groups_from bytes place count) i
group_there bytes = record_there (group_at bytes) GROUP_BYTES (groups_from bytes) (λ _. refl) (λ _ _. refl)

pub group_past : (bytes : List ℕ) (place count i : ℕ) → count ≤ i → None ≡ slice_get (groups_from bytes place count) i
group_past bytes = record_past (group_at bytes) GROUP_BYTES (groups_from bytes) (λ _. refl) (λ _ _. refl)

-- the same for the key records of a group
pub rule_count : (bytes : List ℕ) (using_keys : Bool) (place count : ℕ) → count ≡ length (rules_from bytes using_keys place count)
rule_count bytes using_keys = record_count (rule_at bytes using_keys) RULE_BYTES (rules_from bytes using_keys) (λ _. refl) (λ _ _. refl)

pub rule_there : (bytes : List ℕ) (using_keys : Bool) (place count i : ℕ) → i < count
    → Some (rule_at bytes using_keys (place + RULE_BYTES * i)) ≡ slice_get (rules_from bytes using_keys place count) i
rule_there bytes using_keys = record_there (rule_at bytes using_keys) RULE_BYTES (rules_from bytes using_keys) (λ _. refl) (λ _ _. refl)

pub rule_past : (bytes : List ℕ) (using_keys : Bool) (place count i : ℕ) → count ≤ i → None ≡ slice_get (rules_from bytes using_keys place count) i
rule_past bytes using_keys = record_past (rule_at bytes using_keys) RULE_BYTES (rules_from bytes using_keys) (λ _. refl) (λ _ _. refl)

-- the stores one by one
pub stores_ended : (bytes : List ℕ) (place left : ℕ) → left ≡ 0 → stores_from bytes place left ≡ []
stores_ended bytes = records_ended (store_at bytes) STORE_BYTES (stores_from bytes) (λ _. refl) (λ _ _. refl)

pub stores_more : (bytes : List ℕ) (place left : ℕ) → 0 < left
    → stores_from bytes place left ≡ store_at bytes place ∷ stores_from bytes (place + STORE_BYTES) (left - 1)
stores_more bytes = records_more (store_at bytes) STORE_BYTES (stores_from bytes) (λ _. refl) (λ _ _. refl)

-- the groups one by one
pub groups_ended : (bytes : List ℕ) (place left : ℕ) → left ≡ 0 → groups_from bytes place left ≡ []
groups_ended bytes = records_ended (group_at bytes) GROUP_BYTES (groups_from bytes) (λ _. refl) (λ _ _. refl)

pub groups_more : (bytes : List ℕ) (place left : ℕ) → 0 < left
    → groups_from bytes place left ≡ group_at bytes place ∷ groups_from bytes (place + GROUP_BYTES) (left - 1)
groups_more bytes = records_more (group_at bytes) GROUP_BYTES (groups_from bytes) (λ _. refl) (λ _ _. refl)

-- the rules one by one
pub rules_ended : (bytes : List ℕ) (using_keys : Bool) (place left : ℕ) → left ≡ 0 → rules_from bytes using_keys place left ≡ []
rules_ended bytes using_keys = records_ended (rule_at bytes using_keys) RULE_BYTES (rules_from bytes using_keys) (λ _. refl) (λ _ _. refl)

pub rules_more : (bytes : List ℕ) (using_keys : Bool) (place left : ℕ) → 0 < left
    → rules_from bytes using_keys place left ≡ rule_at bytes using_keys place ∷ rules_from bytes using_keys (place + RULE_BYTES) (left - 1)
rules_more bytes using_keys = records_more (rule_at bytes using_keys) RULE_BYTES (rules_from bytes using_keys) (λ _. refl) (λ _ _. refl)
