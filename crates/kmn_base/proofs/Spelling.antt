-- Lemmas on the spelling of items.
use Rattle.std.proofs.Common.{◌≡◌, ℕ, ◌+◌, ◌-◌, ◌/◌, ◌%◌, ◌^◌, ◌<◌, ◌≤◌, true, false, ◌⊎◌, Some, List, [], ◌∷◌, ◌++◌, length, refl, ap, inl, inr, lit<, lit≤, arith}
use Rattle.std.specs.Prelude.{nat_eq, nat_lt}
use Rattle.std.specs.List.{All, AllByRecursion}
use Rattle.std.proofs.lemmas.List.Elements.{All-same, All-from_recursion}
use Rattle.std.specs.Char.{IsScalar}
use Rattle.std.specs.Char.Utf16.{surrogate_pair_char}
use Rattle.std.proofs.Math.Utf8.{scalar_cases}
use Rattle.std.proofs.lemmas.Bool.{cases_lt, cond-true, cond-false, lt-ltb, le-ltb, ne_eqb, cond_both}
use Rattle.std.proofs.lemmas.Bool.Decides.{nat_tests}
use Rattle.kmn_base.specs.declared.units.UnitItem.{UnitItem}
use Rattle.kmn_base.specs.declared.units.UnitItem.TheVariants.{Char, Any, Index, Context, Nul, Enter, Stop, Beep, Dead, Key, ContextAt, NotAny, Set, Test, Save, Reset, SystemTest, SetSystem}
use Rattle.kmn_base.specs.FirstItem.{first_item}
use Rattle.kmn_base.specs.Laws.{SpellingsArePrefixFree, SpellingsAreShort, SpellingsAreUnits}
use Rattle.kmn_base.specs.Spelling.{char_units, spelling, IsOperand, IsSpellable, is_high_surrogate, is_low_surrogate}

-- a character of one unit
pub record IsNarrow (c : ℕ) : Type 0 where
  pub units : char_units c ≡ c ∷ []
  pub above : 0 < c
  pub below : c < 2 ^ 16
  pub no_sentinel : nat_eq c 0xFFFF ≡ false
  pub no_zero : nat_eq c 0 ≡ false
  pub no_high : is_high_surrogate c ≡ false
  pub no_low : is_low_surrogate c ≡ false

-- a character of two units
pub record IsWide (c : ℕ) : Type 0 where
  pub high : ℕ
  pub low : ℕ
  pub units : char_units c ≡ high ∷ low ∷ []
  pub high_from : 0xD800 ≤ high
  pub high_to : high < 0xDC00
  pub low_from : 0xDC00 ≤ low
  pub low_to : low < 0xE000
  pub joined : surrogate_pair_char high low ≡ c

pub no_surrogate : (c : ℕ) → (c < 0xD800) ⊎ (0xE000 ≤ c) → (is_high_surrogate c ≡ false) × (is_low_surrogate c ≡ false)
no_surrogate c (inl h) = (grind (arith, nat_tests), grind (arith, nat_tests))
no_surrogate c (inr h) = (grind (arith, nat_tests), grind (arith, nat_tests))

scalar_below : (c : ℕ) → IsScalar c → c < 0x11_0000
scalar_below c h = elim (scalar_cases c h) [ inl few ↦ omega arith | inr many ↦ many.1 ]

scalar_apart : (c : ℕ) → IsScalar c → (c < 0xD800) ⊎ (0xE000 ≤ c)
scalar_apart c h = elim (scalar_cases c h) [ inl few ↦ inl few | inr many ↦ inr many.0 ]

is_narrow : (c : ℕ) → IsSpellable (Char c) → c < 0x1_0000 → IsNarrow c
is_narrow c h l = record {
  units = cond-true (nat_lt c 0x1_0000) _ _ (lt-ltb c 0x1_0000 l);
  above = omega (arith, h.1);
  below = l;
  no_sentinel = ne_eqb c 0xFFFF h.2;
  no_zero = ne_eqb c 0 h.1;
  no_high = (no_surrogate c (scalar_apart c h.0)).0;
  no_low = (no_surrogate c (scalar_apart c h.0)).1;
}

is_wide : (c : ℕ) → IsSpellable (Char c) → 0x1_0000 ≤ c → IsWide c
is_wide c h l =
    let small : c < 0x11_0000 = scalar_below c h.0 in
    let d : ℕ = c - 0x1_0000 in
    record {
      high = 0xD800 + d / 0x400;
      low = 0xDC00 + d % 0x400;
      units = cond-false (nat_lt c 0x1_0000) _ _ (le-ltb c 0x1_0000 l);
      high_from = omega arith;
      high_to = omega arith;
      low_from = omega arith;
      low_to = omega arith;
      joined = omega arith;
    }

pub character_cases : (c : ℕ) → IsSpellable (Char c) → IsNarrow c ⊎ IsWide c
character_cases c h = elim (cases_lt c 0x1_0000) [ inl l ↦ inl (is_narrow c h l) | inr l ↦ inr (is_wide c h l) ]

first_item-char : (c : ℕ) (units : List ℕ) → IsSpellable (Char c) → first_item (char_units c ++ units) ≡ Some (Char c)
first_item-char c units h = elim (character_cases c h) [
  | inl narrow ↦
      rw (narrow.units, narrow.no_sentinel, narrow.no_high) refl
  | inr wide ↦
      let no_sentinel : nat_eq wide.high 0xFFFF ≡ false = grind (arith, nat_tests, wide.high_from, wide.high_to) in
      let is_high : is_high_surrogate wide.high ≡ true = grind (arith, nat_tests, wide.high_from, wide.high_to) in
      rw (wide.units, no_sentinel, is_high) (ap (λ code. Some (Char code)) wide.joined)
]

pub first_item-spelling : (item : UnitItem) (units : List ℕ) → IsSpellable item → first_item (spelling item ++ units) ≡ Some item
first_item-spelling (Char c) units h = first_item-char c units h
first_item-spelling (Any store) units h = refl
first_item-spelling (Index store offset) units h = refl
first_item-spelling Context units h = refl
first_item-spelling Nul units h = refl
first_item-spelling (Enter group) units h = refl
first_item-spelling Stop units h = refl
first_item-spelling Beep units h = refl
first_item-spelling (Dead mark) units h = refl
first_item-spelling (Key flags code) units h = refl
first_item-spelling (ContextAt offset) units h = refl
first_item-spelling (NotAny store) units h = refl
first_item-spelling (Set store value) units h = refl
first_item-spelling (Test store comparison value) units h = refl
first_item-spelling (Save store) units h = refl
first_item-spelling (Reset store) units h = refl
first_item-spelling (SystemTest system comparison value) units h = refl
first_item-spelling (SetSystem system value) units h = refl

pub spellings_are_prefix_free : SpellingsArePrefixFree
spellings_are_prefix_free i j a b h k e =
    let first : first_item (spelling i ++ a) ≡ Some i = first_item-spelling i a h in
    let second : first_item (spelling j ++ b) ≡ Some j = first_item-spelling j b k in
    let same : first_item (spelling i ++ a) ≡ first_item (spelling j ++ b) = ap first_item e in
    cc

pub spellings_are_short : SpellingsAreShort
spellings_are_short (Char c) = cond_both (nat_lt c 0x1_0000) _ _ (λ units. (0 < length units) × (length units ≤ 5)) (λ e. (lit< tt, lit≤ tt)) (λ e. (lit< tt, lit≤ tt))
spellings_are_short (Any store) = (lit< tt, lit≤ tt)
spellings_are_short (Index store offset) = (lit< tt, lit≤ tt)
spellings_are_short Context = (lit< tt, lit≤ tt)
spellings_are_short Nul = (lit< tt, lit≤ tt)
spellings_are_short (Enter group) = (lit< tt, lit≤ tt)
spellings_are_short Stop = (lit< tt, lit≤ tt)
spellings_are_short Beep = (lit< tt, lit≤ tt)
spellings_are_short (Dead mark) = (lit< tt, lit≤ tt)
spellings_are_short (Key flags code) = (lit< tt, lit≤ tt)
spellings_are_short (ContextAt offset) = (lit< tt, lit≤ tt)
spellings_are_short (NotAny store) = (lit< tt, lit≤ tt)
spellings_are_short (Set store value) = (lit< tt, lit≤ tt)
spellings_are_short (Test store comparison value) = (lit< tt, lit≤ tt)
spellings_are_short (Save store) = (lit< tt, lit≤ tt)
spellings_are_short (Reset store) = (lit< tt, lit≤ tt)
spellings_are_short (SystemTest system comparison value) = (lit< tt, lit≤ tt)
spellings_are_short (SetSystem system value) = (lit< tt, lit≤ tt)

units_of_code : (code : ℕ) (operands : List ℕ) → IsOperand code → AllByRecursion IsOperand operands → All IsOperand (0xFFFF ∷ code ∷ operands)
units_of_code code operands c h = All-from_recursion IsOperand (0xFFFF ∷ code ∷ operands) ((lit< tt, lit< tt), (c, h))

units_of_char : (c : ℕ) → IsSpellable (Char c) → All IsOperand (char_units c)
units_of_char c h = elim (character_cases c h) [
  | inl narrow ↦ All-same IsOperand _ (c ∷ []) narrow.units (All-from_recursion IsOperand (c ∷ []) ((narrow.above, narrow.below), tt))
  | inr wide ↦
      let pair : List ℕ = wide.high ∷ wide.low ∷ [] in
      All-same IsOperand _ pair wide.units (All-from_recursion IsOperand pair
      ((omega (arith, wide.high_from), omega (arith, wide.high_to)), ((omega (arith, wide.low_from), omega (arith, wide.low_to)), tt)))
]

pub comparison_is_operand : (n : ℕ) → (n ≡ 1) ⊎ (n ≡ 2) → IsOperand n
comparison_is_operand n (inl e) = (omega arith, omega arith)
comparison_is_operand n (inr e) = (omega arith, omega arith)

pub spellings_are_units : SpellingsAreUnits
spellings_are_units (Char c) h = units_of_char c h
spellings_are_units (Any store) h = units_of_code 0x01 (store ∷ []) (lit< tt, lit< tt) (h, tt)
spellings_are_units (Index store offset) h = units_of_code 0x02 (store ∷ offset ∷ []) (lit< tt, lit< tt) (h.0, (h.1, tt))
spellings_are_units Context h = units_of_code 0x03 [] (lit< tt, lit< tt) tt
spellings_are_units Nul h = units_of_code 0x04 [] (lit< tt, lit< tt) tt
spellings_are_units (Enter group) h = units_of_code 0x05 (group ∷ []) (lit< tt, lit< tt) (h, tt)
spellings_are_units Stop h = units_of_code 0x06 [] (lit< tt, lit< tt) tt
spellings_are_units Beep h = units_of_code 0x07 [] (lit< tt, lit< tt) tt
spellings_are_units (Dead mark) h = units_of_code 0x08 (mark ∷ []) (lit< tt, lit< tt) (h, tt)
spellings_are_units (Key flags code) h = units_of_code 0x0A (flags ∷ code ∷ 0x10 ∷ []) (lit< tt, lit< tt) (h.0, (h.1, ((lit< tt, lit< tt), tt)))
spellings_are_units (ContextAt offset) h = units_of_code 0x11 (offset ∷ []) (lit< tt, lit< tt) (h, tt)
spellings_are_units (NotAny store) h = units_of_code 0x12 (store ∷ []) (lit< tt, lit< tt) (h, tt)
spellings_are_units (Set store value) h = units_of_code 0x13 (store ∷ value ∷ []) (lit< tt, lit< tt) (h.0, (h.1, tt))
spellings_are_units (Test store comparison value) h = units_of_code 0x14 (store ∷ comparison ∷ value ∷ []) (lit< tt, lit< tt) (h.0, (comparison_is_operand comparison h.1, (h.2, tt)))
spellings_are_units (Save store) h = units_of_code 0x15 (store ∷ []) (lit< tt, lit< tt) (h, tt)
spellings_are_units (Reset store) h = units_of_code 0x16 (store ∷ []) (lit< tt, lit< tt) (h, tt)
spellings_are_units (SystemTest system comparison value) h = units_of_code 0x17 (system ∷ comparison ∷ value ∷ []) (lit< tt, lit< tt) (h.0, (comparison_is_operand comparison h.1, (h.2, tt)))
spellings_are_units (SetSystem system value) h = units_of_code 0x18 (system ∷ value ∷ []) (lit< tt, lit< tt) (h.0, (h.1, tt))
