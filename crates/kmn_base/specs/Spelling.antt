-- The spelling of each item of a compiled string, in UTF-16 units, and the first position at which no item is spelled.
use Rattle.std.specs.Prelude.{◌≡◌, ◌≢◌, ℕ, ◌+◌, ◌-◌, ◌*◌, ◌/◌, ◌%◌, ◌^◌, ◌<◌, ◌⊎◌, Bool, ◌&&◌, ◌||◌, not, nat_eq, nat_lt, nat_le, if◌then◌else◌, List, [], ◌∷◌, ◌++◌, length, take, slice_index, flat_map, Option, Some, None, All}
use Rattle.std.specs.List.{list_any}
use Rattle.std.specs.Char.{IsScalar}
use Rattle.kmn_base.specs.declared.units.UnitItem.{UnitItem}
use Rattle.kmn_base.specs.declared.units.UnitItem.TheVariants.{Char, Any, Index, Context, Nul, Enter, Stop, Beep, Dead, Key, ContextAt, NotAny, Set, Test, Save, Reset, SystemTest, SetSystem}
use Rattle.kmn_base.specs.declared.units.TheConstants.{SENTINEL}
use Rattle.kmn_base.specs.declared.units.BadKind.{BadKind}
use Rattle.kmn_base.specs.declared.units.BadKind.TheVariants.{U1, U2, U3, U4, U5, U6}
use Rattle.kmn_base.specs.declared.units.BadUnits.{BadUnits}

-- the units of a character: one unit, or a surrogate pair if the character is above U+FFFF
abbrev pub char_units : ℕ → List ℕ
char_units c = if nat_lt c 0x1_0000 then c ∷ [] else (0xD800 + (c - 0x1_0000) / 0x400) ∷ (0xDC00 + (c - 0x1_0000) % 0x400) ∷ []

-- the units of an item: the units of a character, else the sentinel, the code and the operands
abbrev pub spelling : UnitItem → List ℕ
spelling (Char c) = char_units c
spelling (Any store) = SENTINEL ∷ 0x01 ∷ store ∷ []
spelling (Index store offset) = SENTINEL ∷ 0x02 ∷ store ∷ offset ∷ []
spelling Context = SENTINEL ∷ 0x03 ∷ []
spelling Nul = SENTINEL ∷ 0x04 ∷ []
spelling (Enter group) = SENTINEL ∷ 0x05 ∷ group ∷ []
spelling Stop = SENTINEL ∷ 0x06 ∷ []
spelling Beep = SENTINEL ∷ 0x07 ∷ []
spelling (Dead mark) = SENTINEL ∷ 0x08 ∷ mark ∷ []
spelling (Key flags code) = SENTINEL ∷ 0x0A ∷ flags ∷ code ∷ 0x10 ∷ []
spelling (ContextAt offset) = SENTINEL ∷ 0x11 ∷ offset ∷ []
spelling (NotAny store) = SENTINEL ∷ 0x12 ∷ store ∷ []
spelling (Set store value) = SENTINEL ∷ 0x13 ∷ store ∷ value ∷ []
spelling (Test store comparison value) = SENTINEL ∷ 0x14 ∷ store ∷ comparison ∷ value ∷ []
spelling (Save store) = SENTINEL ∷ 0x15 ∷ store ∷ []
spelling (Reset store) = SENTINEL ∷ 0x16 ∷ store ∷ []
spelling (SystemTest system comparison value) = SENTINEL ∷ 0x17 ∷ system ∷ comparison ∷ value ∷ []
spelling (SetSystem system value) = SENTINEL ∷ 0x18 ∷ system ∷ value ∷ []

-- whether a code is not a character of a keyboard: U+0000 ends a compiled string, and U+FFFF is its sentinel
abbrev pub is_forbidden : ℕ → Bool
is_forbidden c = nat_eq c 0 || nat_eq c SENTINEL

-- an operand is a unit that isn't 0, since 0 ends a string
abbrev pub IsOperand : ℕ → Type 0
IsOperand n = (0 < n) × (n < 2 ^ 16)

-- the items that have a spelling
abbrev pub IsSpellable : UnitItem → Type 0
IsSpellable (Char c) = IsScalar c × (c ≢ 0) × (c ≢ SENTINEL)
IsSpellable (Any store) = IsOperand store
IsSpellable (Index store offset) = IsOperand store × IsOperand offset
IsSpellable Context = Unit {0}
IsSpellable Nul = Unit {0}
IsSpellable (Enter group) = IsOperand group
IsSpellable Stop = Unit {0}
IsSpellable Beep = Unit {0}
IsSpellable (Dead mark) = IsOperand mark
IsSpellable (Key flags code) = IsOperand flags × IsOperand code
IsSpellable (ContextAt offset) = IsOperand offset
IsSpellable (NotAny store) = IsOperand store
IsSpellable (Set store value) = IsOperand store × IsOperand value
IsSpellable (Test store comparison value) = IsOperand store × ((comparison ≡ 1) ⊎ (comparison ≡ 2)) × IsOperand value
IsSpellable (Save store) = IsOperand store
IsSpellable (Reset store) = IsOperand store
IsSpellable (SystemTest system comparison value) = IsOperand system × ((comparison ≡ 1) ⊎ (comparison ≡ 2)) × IsOperand value
IsSpellable (SetSystem system value) = IsOperand system × IsOperand value

-- the units are the spellings of the items one after the other
pub record Spells (units : List ℕ) (items : List UnitItem) : Type 0 where
  pub spellable : All IsSpellable items
  pub spelled : units ≡ flat_map spelling items

-- units as bytes, the lower byte first
abbrev pub unit_bytes : List ℕ → List ℕ
unit_bytes = flat_map (λ unit. (unit % 256) ∷ (unit / 256) ∷ [])

-- bytes begin with the spelling of an item
pub record BeginsWithItem (bytes : List ℕ) : Type 0 where
  pub item : UnitItem
  pub rest : List ℕ
  pub spellable : IsSpellable item
  pub parts : bytes ≡ unit_bytes (spelling item) ++ rest

-- the whole units of bytes, without a last single byte
abbrev pub whole_units : List ℕ → List ℕ
whole_units [] = []
whole_units (low ∷ []) = []
whole_units (low ∷ high ∷ bytes) = (low + 256 * high) ∷ whole_units bytes

abbrev pub is_high_surrogate : ℕ → Bool
is_high_surrogate unit = nat_le 0xD800 unit && nat_lt unit 0xDC00

abbrev pub is_low_surrogate : ℕ → Bool
is_low_surrogate unit = nat_le 0xDC00 unit && nat_lt unit 0xE000

-- the number of operands of a code's item; None if no item has the code
abbrev pub operand_count : ℕ → Option ℕ
operand_count code =
    if list_any (nat_eq code) (0x03 ∷ 0x04 ∷ 0x06 ∷ 0x07 ∷ []) then Some 0
    else if list_any (nat_eq code) (0x01 ∷ 0x05 ∷ 0x08 ∷ 0x11 ∷ 0x12 ∷ 0x15 ∷ 0x16 ∷ []) then Some 1
    else if list_any (nat_eq code) (0x02 ∷ 0x13 ∷ 0x18 ∷ []) then Some 2
    else if list_any (nat_eq code) (0x0A ∷ 0x14 ∷ 0x17 ∷ []) then Some 3
    else None

-- whether a code belongs to an item that compares
abbrev pub is_comparing : ℕ → Bool
is_comparing code = nat_eq code 0x14 || nat_eq code 0x17

-- why the operands of an item do not have the form that its code requires; None if they have it
abbrev pub operand_fault : ℕ → List ℕ → Option BadKind
operand_fault code operands =
    if list_any (nat_eq 0) operands then Some U3
    else if nat_eq code 0x0A && not (nat_eq (slice_index operands 2) 0x10) then Some U4
    else if is_comparing code && not (nat_eq (slice_index operands 1) 1 || nat_eq (slice_index operands 1) 2) then Some U5
    else None

-- the fault of bytes that end inside an item: after whole units, or after the first byte of a unit
abbrev pub end_fault : List ℕ → BadKind
end_fault bytes = if nat_eq (length bytes % 2) 0 then U3 else U6

-- the fault of the operands at the beginning of the bytes
abbrev pub operands_fault : ℕ → ℕ → List ℕ → Option BadKind
operands_fault code count bytes =
    if nat_lt (length bytes) (2 * count) then Some (end_fault bytes)
    else operand_fault code (take count (whole_units bytes))

-- a fault with the code that it names; 0 for each fault but an unlisted code
abbrev pub without_code : Option BadKind → Option (BadKind × ℕ)
without_code None = None
without_code (Some kind) = Some (kind, 0)

abbrev pub code_fault : ℕ → List ℕ → Option ℕ → Option (BadKind × ℕ)
code_fault code bytes None = Some (U2, code)
code_fault code bytes (Some count) = without_code (operands_fault code count bytes)

-- the fault after a sentinel
abbrev pub sentinel_fault : List ℕ → Option (BadKind × ℕ)
sentinel_fault (low ∷ high ∷ bytes) = code_fault (low + 256 * high) bytes (operand_count (low + 256 * high))
sentinel_fault bytes = Some (end_fault bytes, 0)

-- the fault after a high surrogate, which a low surrogate must follow
abbrev pub pair_fault : List ℕ → Option (BadKind × ℕ)
pair_fault [] = Some (U1, 0)
pair_fault (low ∷ []) = Some (U6, 0)
pair_fault (low ∷ high ∷ bytes) = if is_low_surrogate (low + 256 * high) then None else Some (U1, 0)

abbrev pub unit_fault : ℕ → List ℕ → Option (BadKind × ℕ)
unit_fault unit bytes =
    if nat_eq unit SENTINEL then sentinel_fault bytes
    else if nat_eq unit 0 then Some (U3, 0)
    else if is_high_surrogate unit then pair_fault bytes
    else if is_low_surrogate unit then Some (U1, 0)
    else None

-- why bytes do not begin with an item, with the unlisted code or 0; None at the end and if there is an item
abbrev pub fault_at : List ℕ → Option (BadKind × ℕ)
fault_at [] = None
fault_at (low ∷ []) = Some (U6, 0)
fault_at (low ∷ high ∷ bytes) = unit_fault (low + 256 * high) bytes

-- the first position at which no item is spelled: spelled items precede it, and there is a fault at it
pub record IsBadAt (bytes : List ℕ) (bad : BadUnits) : Type 0 where
  pub items : List UnitItem
  pub rest : List ℕ
  pub spellable : All IsSpellable items
  pub parts : bytes ≡ unit_bytes (flat_map spelling items) ++ rest
  pub place : bad.at ≡ length (unit_bytes (flat_map spelling items))
  pub fault : fault_at rest ≡ Some (bad.kind, bad.code)

-- items are spelled one after the other up to the end of the bytes
pub record IsSpelledThrough (bytes : List ℕ) : Type 0 where
  pub items : List UnitItem
  pub spellable : All IsSpellable items
  pub spelled : bytes ≡ unit_bytes (flat_map spelling items)
