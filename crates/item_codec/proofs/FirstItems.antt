-- If units begin with the spelling of an item, this item is read first.
use Rattle.std.proofs.Common.{◌≡◌, ℕ, Some, List, [], ◌++◌, length, ◌∙◌, ap, arith}
use Rattle.std.proofs.lemmas.List.{append-nil}
use Rattle.kmn_base.specs.declared.units.UnitItem.{UnitItem}
use Rattle.kmn_base.specs.FirstItem.{first_item}
use Rattle.kmn_base.specs.Spelling.{spelling, IsSpellable, unit_bytes, whole_units}
use Rattle.kmn_base.proofs.Spelling.{first_item-spelling}
use Rattle.kmn_base.proofs.UnitBytes.{whole_units-unit_bytes, length-unit_bytes}
use Rattle.item_codec.specs.Walk.{spelled_size}

pub first_item-bytes : (item : UnitItem) (rest : List ℕ) → IsSpellable item → first_item (whole_units (unit_bytes (spelling item) ++ rest)) ≡ Some item
first_item-bytes item rest h = ap first_item (whole_units-unit_bytes (spelling item) rest) ∙ first_item-spelling item (whole_units rest) h

pub length-spelled : (item : UnitItem) → length (unit_bytes (spelling item)) ≡ spelled_size item
length-spelled item = omega (arith, length-unit_bytes (spelling item) [], ap length (append-nil (unit_bytes (spelling item))))
