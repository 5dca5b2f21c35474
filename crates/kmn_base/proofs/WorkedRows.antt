-- The definitions applied to examples that were worked out by hand.
use Rattle.std.proofs.Common.{◌≡◌, ℕ, Some, List, [], ◌∷◌, ◌++◌, map, replicate, refl, arith}
use Rattle.std.proofs.lemmas.List.Elements.{All-from_recursion}
use Rattle.kmn_base.specs.declared.items.Item.{Item}
use Rattle.kmn_base.specs.declared.items.Item.TheVariants.{Char, Mark}
use Rattle.kmn_base.specs.declared.units.UnitItem.TheVariants as unit
use Rattle.kmn_base.specs.declared.units.BadKind.TheVariants.{U1, U2, U3, U4, U5, U6}
use Rattle.kmn_base.specs.Lists.{put, read_again}
use Rattle.kmn_base.specs.Spelling.{spelling, IsSpellable, unit_bytes, fault_at, IsBadAt}

-- U+1F600 and U+10FFFF in the bytes of their pairs
wide_characters : unit_bytes (spelling (unit.Char 0x1_F600) ++ spelling (unit.Char 0x10_FFFF)) ≡ 0x3D ∷ 0xD8 ∷ 0x00 ∷ 0xDE ∷ 0xFF ∷ 0xDB ∷ 0xFF ∷ 0xDF ∷ []
wide_characters = refl

-- a virtual key that doesn't end as one
no_end_of_key : fault_at (unit_bytes (0xFFFF ∷ 0x0A ∷ 0x4000 ∷ 0x41 ∷ 0x11 ∷ [])) ≡ Some (U4, 0)
no_end_of_key = refl

-- a character, followed by a code that no item has
unlisted_code : IsBadAt (unit_bytes (0x61 ∷ 0xFFFF ∷ 0x09 ∷ [])) (record { kind = U2; at = 2; code = 9 })
unlisted_code = record {
  items = unit.Char 0x61 ∷ [];
  rest = unit_bytes (0xFFFF ∷ 0x09 ∷ []);
  spellable = All-from_recursion IsSpellable (unit.Char 0x61 ∷ []) ((refl, λ e. omega (arith, e), λ e. omega (arith, e)), tt);
  parts = refl;
  place = refl;
  fault = refl;
}

-- each kind of fault at its own position
no_partner : fault_at (unit_bytes (0xD83D ∷ 0x61 ∷ [])) ≡ Some (U1, 0)
no_partner = refl

half_a_pair : fault_at (0x3D ∷ 0xD8 ∷ 0x00 ∷ []) ≡ Some (U6, 0)
half_a_pair = refl

code_zero : fault_at (unit_bytes (0xFFFF ∷ 0x00 ∷ [])) ≡ Some (U2, 0)
code_zero = refl

zero_operand : fault_at (unit_bytes (0xFFFF ∷ 0x01 ∷ 0x00 ∷ [])) ≡ Some (U3, 0)
zero_operand = refl

ends_in_an_item : fault_at (unit_bytes (0xFFFF ∷ 0x14 ∷ 0x01 ∷ 0x07 ∷ [])) ≡ Some (U3, 0)
ends_in_an_item = refl

ends_in_a_unit : fault_at (unit_bytes (0xFFFF ∷ 0x14 ∷ 0x01 ∷ 0x07 ∷ []) ++ 0x01 ∷ []) ≡ Some (U6, 0)
ends_in_a_unit = refl

neither_equal_nor_unequal : fault_at (unit_bytes (0xFFFF ∷ 0x14 ∷ 0x01 ∷ 0x07 ∷ 0x01 ∷ [])) ≡ Some (U5, 0)
neither_equal_nor_unequal = refl

-- a mark before 63 letters is kept, and a mark before 64 letters is forgotten
letters : ℕ → List Item
letters n = replicate n (Char 0x61)

full_window : put (Mark 1 ∷ letters 62) (Char 0x61) ≡ Mark 1 ∷ letters 63
unfolding letters
full_window = refl

forgotten_mark : put (Mark 1 ∷ letters 63) (Char 0x61) ≡ letters 64
unfolding letters
forgotten_mark = refl

-- the caret moves to the start and back after the letter: the mark is gone
caret_away : read_again (Char 0x78 ∷ Mark 1 ∷ []) [] ≡ []
caret_away = refl

caret_back : read_again [] (0x78 ∷ []) ≡ Char 0x78 ∷ []
caret_back = refl

-- three letters before a short text: the mark is gone
before_a_short_context : read_again (Char 0x78 ∷ Mark 1 ∷ []) (replicate 3 0x79 ++ 0x78 ∷ []) ≡ map Char (replicate 3 0x79 ++ 0x78 ∷ [])
before_a_short_context = refl

-- a hundred letters before a full window: the mark is kept
before_a_full_window : read_again (replicate 70 (Char 0x78) ++ Mark 1 ∷ []) (replicate 100 0x79 ++ replicate 70 0x78)
    ≡ replicate 100 (Char 0x79) ++ replicate 70 (Char 0x78) ++ Mark 1 ∷ []
before_a_full_window = refl
