-- The item at the beginning of units, read from the front.
use Rattle.std.specs.Prelude.{ℕ, nat_eq, if◌then◌else◌, List, [], ◌∷◌, Option, Some, None}
use Rattle.std.specs.Char.Utf16.{surrogate_pair_char}
use Rattle.kmn_base.specs.declared.units.UnitItem.{UnitItem}
use Rattle.kmn_base.specs.declared.units.UnitItem.TheVariants.{Char, Any, Index, Context, Nul, Enter, Stop, Beep, Dead, Key, ContextAt, NotAny, Set, Test, Save, Reset, SystemTest, SetSystem}
use Rattle.kmn_base.specs.declared.units.TheConstants.{SENTINEL}
use Rattle.kmn_base.specs.Spelling.{is_high_surrogate}

-- an item with one, two or three operands, which are the first units
abbrev pub with_one : (ℕ → UnitItem) → List ℕ → Option UnitItem
with_one item [] = None
with_one item (a ∷ units) = Some (item a)

abbrev pub with_two : (ℕ → ℕ → UnitItem) → List ℕ → Option UnitItem
with_two item [] = None
with_two item (a ∷ []) = None
with_two item (a ∷ b ∷ units) = Some (item a b)

abbrev pub with_three : (ℕ → ℕ → ℕ → UnitItem) → List ℕ → Option UnitItem
with_three item [] = None
with_three item (a ∷ []) = None
with_three item (a ∷ b ∷ []) = None
with_three item (a ∷ b ∷ c ∷ units) = Some (item a b c)

-- the item of a code, whose operands are the first units
abbrev pub coded_item : ℕ → List ℕ → Option UnitItem
coded_item code units =
    if nat_eq code 0x01 then with_one Any units
    else if nat_eq code 0x02 then with_two Index units
    else if nat_eq code 0x03 then Some Context
    else if nat_eq code 0x04 then Some Nul
    else if nat_eq code 0x05 then with_one Enter units
    else if nat_eq code 0x06 then Some Stop
    else if nat_eq code 0x07 then Some Beep
    else if nat_eq code 0x08 then with_one Dead units
    else if nat_eq code 0x0A then with_two Key units
    else if nat_eq code 0x11 then with_one ContextAt units
    else if nat_eq code 0x12 then with_one NotAny units
    else if nat_eq code 0x13 then with_two Set units
    else if nat_eq code 0x14 then with_three Test units
    else if nat_eq code 0x15 then with_one Save units
    else if nat_eq code 0x16 then with_one Reset units
    else if nat_eq code 0x17 then with_three SystemTest units
    else if nat_eq code 0x18 then with_two SetSystem units
    else None

-- the item after a sentinel
abbrev pub item_behind_sentinel : List ℕ → Option UnitItem
item_behind_sentinel [] = None
item_behind_sentinel (code ∷ units) = coded_item code units

-- the character of a surrogate pair
abbrev pub paired_item : ℕ → List ℕ → Option UnitItem
paired_item high [] = None
paired_item high (low ∷ units) = Some (Char (surrogate_pair_char high low))

-- the item at the beginning of units, if there is no fault at them
abbrev pub first_item : List ℕ → Option UnitItem
first_item [] = None
first_item (unit ∷ units) =
    if nat_eq unit SENTINEL then item_behind_sentinel units
    else if is_high_surrogate unit then paired_item unit units
    else Some (Char unit)
