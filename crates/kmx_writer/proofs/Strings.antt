-- The bytes of a string, and how many there are.
use Rattle.std.proofs.Common.{◌≡◌, ℕ, suc, ◌+◌, ◌*◌, ◌<◌, ◌≤◌, false, cond, eqb, List, [], ◌∷◌, ◌++◌, length, map, refl, ◌∙◌, length-append, arith, ne_eqb}
use Rattle.std.proofs.lemmas.List.{length-map}
use Rattle.kmn_base.specs.declared.units.UnitItem.{UnitItem}
use Rattle.kmn_base.specs.Spelling.{unit_bytes}
use Rattle.kmx_format.specs.File.{string, offset_of}
use Rattle.kmx_format.specs.FileUnits.{item_units}
use Rattle.kmx_format.proofs.FileItems.{length-item_units}
use Rattle.kmx_format.proofs.FileSize.{length-unit_bytes}
use Rattle.kmx_writer.specs.Sizes.{string_size}

pub length_string : (units : List ℕ) → length (string units) ≡ string_size (length units)
unfolding string
length_string [] = refl
length_string (unit ∷ units) =
    let test : eqb (suc (length units)) 0 ≡ false = ne_eqb (suc (length units)) 0 (omega arith) in
    rw test (omega (arith, length-append (unit_bytes (unit ∷ units)) (unit_bytes (0 ∷ [])), length-unit_bytes units))

-- a string has at least as many bytes as units
pub units_within : (units : List ℕ) → (length (string units) ≡ length (string units)) × (length units ≤ length (string units))
units_within [] = (refl, omega arith)
units_within (unit ∷ units) =
    let test : eqb (suc (length units)) 0 ≡ false = ne_eqb (suc (length units)) 0 (omega arith) in
    let bytes : length (string (unit ∷ units)) ≡ 2 * suc (length units) + 2 = length_string (unit ∷ units) ∙ rw test refl in
    (refl, omega (arith, bytes))

-- a string that isn't empty is its units and a zero unit
pub string_units : (units : List ℕ) → 0 < length units → string units ≡ unit_bytes units ++ unit_bytes (0 ∷ [])
unfolding string
string_units [] h = absurd (omega arith)
string_units (unit ∷ units) h = refl

-- if there are items, they have units
pub has_units : {X : Type 0} (spelled : X → UnitItem) (items : List X) → 0 < length items → 0 < length (item_units (map spelled items))
has_units spelled items h = omega (arith, length-item_units (map spelled items), length-map items spelled)

pub no_units : {X : Type 0} (spelled : X → UnitItem) (items : List X) → length items ≡ 0 → string (item_units (map spelled items)) ≡ []
unfolding string item_units
no_units spelled [] h = refl
no_units spelled (item ∷ items) h = absurd (omega arith)

-- the offset of a string is 0 if the string has no bytes, and otherwise its place
pub offset_of_string : (units : List ℕ) (place : ℕ) → offset_of units place ≡ cond (eqb (length (string units)) 0) 0 place
offset_of_string [] place = rw (length_string []) refl
offset_of_string (unit ∷ units) place =
    let some : eqb (length (string (unit ∷ units))) 0 ≡ false = ne_eqb (length (string (unit ∷ units))) 0 (omega (arith, (units_within (unit ∷ units)).1)) in
    rw some refl

-- the offset of a list is 0 if the list has no items, and otherwise its place
pub offset_of_list : {X : Type 0} (xs : List X) (place : ℕ) → offset_of xs place ≡ cond (eqb (length xs) 0) 0 place
offset_of_list [] place = refl
offset_of_list (x ∷ xs) place =
    let some : eqb (suc (length xs)) 0 ≡ false = ne_eqb (suc (length xs)) 0 (omega arith) in
    rw some refl
