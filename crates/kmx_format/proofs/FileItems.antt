-- Spelled items are read as the same items.
use Rattle.std.proofs.Common.{◌≡◌, ◌≢◌, ℕ, ◌+◌, ◌-◌, ◌/◌, ◌%◌, ◌<◌, ◌≤◌, List, [], ◌∷◌, length, length-append, arith, lt-ltb, le-ltb, inl, inr, ⊎_elim}
use Rattle.std.specs.List.{All}
use Rattle.std.proofs.lemmas.List.Elements.{All-head, All-tail, All-nil, All-cons, All-append, All-from_recursion}
use Rattle.std.proofs.lemmas.Bool.{cases_lt}
use Rattle.kmn_base.specs.declared.units.UnitItem.{UnitItem}
use Rattle.kmn_base.specs.declared.units.UnitItem.TheVariants.{Char, Any, Index, Context, Nul, Enter, Stop, Beep, Dead, Key, ContextAt, NotAny, Set, Test, Save, Reset, SystemTest, SetSystem}
use Rattle.kmn_base.specs.Spelling.{char_units, spelling, IsSpellable}
use Rattle.kmx_format.specs.FileUnits.{item_units}
use Rattle.item_codec.proofs.Results.{items_given_again}
use Rattle.kmx_format.specs.TablesOf.{items_of}

-- ---- characters

pub char_units_low : (c : ℕ) → c < 0x1_0000 → char_units c ≡ c ∷ []
char_units_low c h = rw (lt-ltb c 0x1_0000 h)

pub char_units_high : (c : ℕ) → 0x1_0000 ≤ c → char_units c ≡ (0xD800 + (c - 0x1_0000) / 0x400) ∷ (0xDC00 + (c - 0x1_0000) % 0x400) ∷ []
char_units_high c h = rw (le-ltb c 0x1_0000 h)

pub char_units-nonzero : (c : ℕ) → c ≢ 0 → All (λ unit. unit ≢ 0) (char_units c)
char_units-nonzero c h =
    elim (cases_lt c 0x1_0000) [
      | inl low ↦ rw (char_units_low c low) (All-cons (λ unit. unit ≢ 0) c [] h (All-nil (λ unit. unit ≢ 0)))
      | inr high ↦ rw (char_units_high c high) (All-from_recursion (λ unit. unit ≢ 0) ((0xD800 + (c - 0x1_0000) / 0x400) ∷ (0xDC00 + (c - 0x1_0000) % 0x400) ∷ []) (omega arith, (omega arith, tt)))
    ]

-- ---- items

-- the units of an item that has a spelling are not 0
spelling-nonzero : (item : UnitItem) → IsSpellable item → All (λ unit. unit ≢ 0) (spelling item)
spelling-nonzero (Char c) h = char_units-nonzero c h.1
spelling-nonzero (Any store) h = All-from_recursion (λ unit. unit ≢ 0) (spelling (Any store)) (omega arith, (omega arith, (omega arith, tt)))
spelling-nonzero (Index store offset) h = All-from_recursion (λ unit. unit ≢ 0) (spelling (Index store offset)) (omega arith, (omega arith, (omega arith, (omega arith, tt))))
spelling-nonzero Context h = All-from_recursion (λ unit. unit ≢ 0) (spelling Context) (omega arith, (omega arith, tt))
spelling-nonzero Nul h = All-from_recursion (λ unit. unit ≢ 0) (spelling Nul) (omega arith, (omega arith, tt))
spelling-nonzero (Enter group) h = All-from_recursion (λ unit. unit ≢ 0) (spelling (Enter group)) (omega arith, (omega arith, (omega arith, tt)))
spelling-nonzero Stop h = All-from_recursion (λ unit. unit ≢ 0) (spelling Stop) (omega arith, (omega arith, tt))
spelling-nonzero Beep h = All-from_recursion (λ unit. unit ≢ 0) (spelling Beep) (omega arith, (omega arith, tt))
spelling-nonzero (Dead mark) h = All-from_recursion (λ unit. unit ≢ 0) (spelling (Dead mark)) (omega arith, (omega arith, (omega arith, tt)))
spelling-nonzero (Key flags code) h = All-from_recursion (λ unit. unit ≢ 0) (spelling (Key flags code)) (omega arith, (omega arith, (omega arith, (omega arith, (omega arith, tt)))))
spelling-nonzero (ContextAt offset) h = All-from_recursion (λ unit. unit ≢ 0) (spelling (ContextAt offset)) (omega arith, (omega arith, (omega arith, tt)))
spelling-nonzero (NotAny store) h = All-from_recursion (λ unit. unit ≢ 0) (spelling (NotAny store)) (omega arith, (omega arith, (omega arith, tt)))
spelling-nonzero (Set store value) h = All-from_recursion (λ unit. unit ≢ 0) (spelling (Set store value)) (omega arith, (omega arith, (omega arith, (omega arith, tt))))
spelling-nonzero (Test store comparison value) h =
    let positive : comparison ≢ 0 = ⊎_elim (λ e. omega arith) (λ e. omega arith) h.1 in
    All-from_recursion (λ unit. unit ≢ 0) (spelling (Test store comparison value)) (omega arith, (omega arith, (omega arith, (positive, (omega arith, tt)))))
spelling-nonzero (Save store) h = All-from_recursion (λ unit. unit ≢ 0) (spelling (Save store)) (omega arith, (omega arith, (omega arith, tt)))
spelling-nonzero (Reset store) h = All-from_recursion (λ unit. unit ≢ 0) (spelling (Reset store)) (omega arith, (omega arith, (omega arith, tt)))
spelling-nonzero (SystemTest system comparison value) h =
    let positive : comparison ≢ 0 = ⊎_elim (λ e. omega arith) (λ e. omega arith) h.1 in
    All-from_recursion (λ unit. unit ≢ 0) (spelling (SystemTest system comparison value)) (omega arith, (omega arith, (omega arith, (positive, (omega arith, tt)))))
spelling-nonzero (SetSystem system value) h = All-from_recursion (λ unit. unit ≢ 0) (spelling (SetSystem system value)) (omega arith, (omega arith, (omega arith, (omega arith, tt))))

pub item_units-nonzero : (items : List UnitItem) → All IsSpellable items → All (λ unit. unit ≢ 0) (item_units items)
unfolding item_units
item_units-nonzero [] h = All-nil (λ unit. unit ≢ 0)
item_units-nonzero (item ∷ items) h =
    All-append (λ unit. unit ≢ 0) (spelling item) (item_units items) (spelling-nonzero item (All-head IsSpellable item items h)) (item_units-nonzero items (All-tail IsSpellable item items h))

-- an item has at least one unit
spelling-length : (item : UnitItem) → 1 ≤ length (spelling item)
spelling-length (Char c) =
    elim (cases_lt c 0x1_0000) [
      | inl low ↦ rw (char_units_low c low) (omega arith)
      | inr high ↦ rw (char_units_high c high) (omega arith)
    ]
spelling-length (Any store) = omega arith
spelling-length (Index store offset) = omega arith
spelling-length Context = omega arith
spelling-length Nul = omega arith
spelling-length (Enter group) = omega arith
spelling-length Stop = omega arith
spelling-length Beep = omega arith
spelling-length (Dead mark) = omega arith
spelling-length (Key flags code) = omega arith
spelling-length (ContextAt offset) = omega arith
spelling-length (NotAny store) = omega arith
spelling-length (Set store value) = omega arith
spelling-length (Test store comparison value) = omega arith
spelling-length (Save store) = omega arith
spelling-length (Reset store) = omega arith
spelling-length (SystemTest system comparison value) = omega arith
spelling-length (SetSystem system value) = omega arith

pub length-item_units : (items : List UnitItem) → length items ≤ length (item_units items)
unfolding item_units
length-item_units [] = omega arith
length-item_units (item ∷ items) = omega (arith, length-append (spelling item) (item_units items), spelling-length item, length-item_units items)

-- the law of spelling: items that have a spelling are read again
pub items_of-item_units : (items : List UnitItem) → All IsSpellable items → items_of (item_units items) ≡ items
unfolding items_of item_units
items_of-item_units items h = items_given_again items h
