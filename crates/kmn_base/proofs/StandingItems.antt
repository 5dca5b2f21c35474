-- If bytes have no fault, they end or begin with an item.
use Rattle.std.proofs.Common.{◌≡◌, ℕ, ◌+◌, ◌-◌, ◌*◌, ◌/◌, ◌%◌, ◌^◌, ◌<◌, ◌≤◌, Bool, true, false, cond, not, ◌||◌, ◌⊎◌, Option, Some, None, List, [], ◌∷◌, ◌++◌, length, take, refl, sym, ◌∙◌, ap, subst, inl, inr, arith}
use Rattle.std.specs.Prelude.{nat_eq, nat_lt, nat_le, if◌then◌else◌}
use Rattle.std.specs.List.{All, AllByRecursion, list_any}
use Rattle.std.specs.Char.Utf16.{surrogate_pair_char}
use Rattle.std.proofs.lemmas.Bool.{cases_Bool, cond-true, cond-false, lt-ltb, le-ltb, ltb-true, ltb-false, leb-true, eqb-true, eqb-false, and_parts, or_parts, or_cases, not-false}
use Rattle.std.proofs.lemmas.Bool.Decides.{nat_tests}
use Rattle.std.proofs.lemmas.List.Elements.{All-head, All-tail, recursion_from_All}
use Rattle.kmn_base.specs.declared.units.UnitItem.{UnitItem}
use Rattle.kmn_base.specs.declared.units.UnitItem.TheVariants.{Char, Any, Index, Context, Nul, Enter, Stop, Beep, Dead, Key, ContextAt, NotAny, Set, Test, Save, Reset, SystemTest, SetSystem}
use Rattle.kmn_base.specs.declared.units.BadKind.{BadKind}
use Rattle.kmn_base.specs.declared.units.BadKind.TheVariants.{U1, U3, U4, U5}
use Rattle.kmn_base.specs.Laws.{NoFaultIsEndOrItem}
use Rattle.kmn_base.specs.Spelling.{spelling, IsOperand, IsSpellable, unit_bytes, whole_units, BeginsWithItem, is_high_surrogate, is_low_surrogate, operand_count, operand_fault, end_fault, operands_fault, without_code, code_fault, sentinel_fault, pair_fault, unit_fault}
use Rattle.kmn_base.proofs.UnitBytes.{unit_bytes_joined, BeginsWithUnits, begins_with_units}

-- whether some item has this spelling
record IsSpelled (units : List ℕ) : Type 0 where
  item : UnitItem
  spellable : IsSpellable item
  spelled : spelling item ≡ units

-- the codes, grouped by the number of their operands
abbrev none_codes : List ℕ
none_codes = 0x03 ∷ 0x04 ∷ 0x06 ∷ 0x07 ∷ []

abbrev one_codes : List ℕ
one_codes = 0x01 ∷ 0x05 ∷ 0x08 ∷ 0x11 ∷ 0x12 ∷ 0x15 ∷ 0x16 ∷ []

abbrev two_codes : List ℕ
two_codes = 0x02 ∷ 0x13 ∷ 0x18 ∷ []

abbrev three_codes : List ℕ
three_codes = 0x0A ∷ 0x14 ∷ 0x17 ∷ []

-- if a property is true for each number of a list, it is true for a number that the test finds in the list
pub listed : (P : ℕ → Type 0) (codes : List ℕ) (code : ℕ) → AllByRecursion P codes → list_any (nat_eq code) codes ≡ true → P code
listed P [] code h e = absurd (cc)
listed P (c ∷ codes) code h e = elim (cases_Bool (nat_eq code c)) [
  | inl same ↦ subst P (sym (eqb-true code c same)) h.0
  | inr other ↦ listed P codes code h.1 (rw other at e)
]

no_operand : (code : ℕ) (operands : List ℕ) → list_any (nat_eq code) none_codes ≡ true → length operands ≡ 0 → IsSpelled (0xFFFF ∷ code ∷ operands)
no_operand code [] e l = listed (λ n. IsSpelled (0xFFFF ∷ n ∷ [])) none_codes code (
  record { item = Context; spellable = tt; spelled = refl },
  (
    record { item = Nul; spellable = tt; spelled = refl },
    (
      record { item = Stop; spellable = tt; spelled = refl },
      (record { item = Beep; spellable = tt; spelled = refl }, tt),
    ),
  ),
) e
no_operand code (a ∷ operands) e l = absurd (omega arith)

one_operand : (code : ℕ) (operands : List ℕ) → list_any (nat_eq code) one_codes ≡ true → length operands ≡ 1
    → AllByRecursion IsOperand operands → IsSpelled (0xFFFF ∷ code ∷ operands)
one_operand code [] e l h = absurd (omega arith)
one_operand code (a ∷ []) e l h = listed (λ n. IsSpelled (0xFFFF ∷ n ∷ a ∷ [])) one_codes code (
  record { item = Any a; spellable = h.0; spelled = refl },
  (
    record { item = Enter a; spellable = h.0; spelled = refl },
    (
      record { item = Dead a; spellable = h.0; spelled = refl },
      (
        record { item = ContextAt a; spellable = h.0; spelled = refl },
        (
          record { item = NotAny a; spellable = h.0; spelled = refl },
          (
            record { item = Save a; spellable = h.0; spelled = refl },
            (record { item = Reset a; spellable = h.0; spelled = refl }, tt),
          ),
        ),
      ),
    ),
  ),
) e
one_operand code (a ∷ b ∷ operands) e l h = absurd (omega arith)

two_operands : (code : ℕ) (operands : List ℕ) → list_any (nat_eq code) two_codes ≡ true → length operands ≡ 2
    → AllByRecursion IsOperand operands → IsSpelled (0xFFFF ∷ code ∷ operands)
two_operands code [] e l h = absurd (omega arith)
two_operands code (a ∷ []) e l h = absurd (omega arith)
two_operands code (a ∷ b ∷ []) e l h = listed (λ n. IsSpelled (0xFFFF ∷ n ∷ a ∷ b ∷ [])) two_codes code (
  record { item = Index a b; spellable = (h.0, h.1.0); spelled = refl },
  (
    record { item = Set a b; spellable = (h.0, h.1.0); spelled = refl },
    (record { item = SetSystem a b; spellable = (h.0, h.1.0); spelled = refl }, tt),
  ),
) e
two_operands code (a ∷ b ∷ c ∷ operands) e l h = absurd (omega arith)

-- which of two counts was returned
some_if : (b : Bool) (k : ℕ) (o : Option ℕ) (n : ℕ) → cond b (Some k) o ≡ Some n → ((b ≡ true) × (k ≡ n)) ⊎ (o ≡ Some n)
some_if true k o n e = inl (refl, (cc))
some_if false k o n e = inr e

-- if a test that returns a value when it succeeds returns None, it failed, and so did the rest
none_if : {X : Type 0} (b : Bool) (x : X) (o : Option X) → cond b (Some x) o ≡ None → (b ≡ false) × (o ≡ None)
none_if true x o e = absurd (cc)
none_if false x o e = (refl, e)

key_operands : (operands : List ℕ) → length operands ≡ 3 → AllByRecursion IsOperand operands → operand_fault 0x0A operands ≡ None → IsSpelled (0xFFFF ∷ 0x0A ∷ operands)
key_operands [] l h e = absurd (omega arith)
key_operands (a ∷ []) l h e = absurd (omega arith)
key_operands (a ∷ b ∷ []) l h e = absurd (omega arith)
key_operands (a ∷ b ∷ c ∷ []) l h e =
    let behind_zero = none_if (list_any (nat_eq 0) (a ∷ b ∷ c ∷ [])) U3 (if not (nat_eq c 0x10) then Some U4 else None) e in
    let ends : c ≡ 0x10 = eqb-true c 0x10 (not-false (nat_eq c 0x10) (none_if (not (nat_eq c 0x10)) U4 None behind_zero.1).0) in
    record { item = Key a b; spellable = (h.0, h.1.0); spelled = ap (λ last. 0xFFFF ∷ 0x0A ∷ a ∷ b ∷ last ∷ []) (sym ends) }
key_operands (a ∷ b ∷ c ∷ d ∷ operands) l h e = absurd (omega arith)

test_operands : (operands : List ℕ) → length operands ≡ 3 → AllByRecursion IsOperand operands → operand_fault 0x14 operands ≡ None → IsSpelled (0xFFFF ∷ 0x14 ∷ operands)
test_operands [] l h e = absurd (omega arith)
test_operands (a ∷ []) l h e = absurd (omega arith)
test_operands (a ∷ b ∷ []) l h e = absurd (omega arith)
test_operands (a ∷ b ∷ c ∷ []) l h e =
    let behind_zero = none_if (list_any (nat_eq 0) (a ∷ b ∷ c ∷ [])) U3 (if not (nat_eq b 1 || nat_eq b 2) then Some U5 else None) e in
    let compares : (nat_eq b 1 || nat_eq b 2) ≡ true = not-false _ (none_if (not (nat_eq b 1 || nat_eq b 2)) U5 None behind_zero.1).0 in
    let comparison : (b ≡ 1) ⊎ (b ≡ 2) = elim (or_cases (nat_eq b 1) (nat_eq b 2) compares) [ inl one ↦ inl (eqb-true b 1 one) | inr two ↦ inr (eqb-true b 2 two) ] in
    record { item = Test a b c; spellable = (h.0, comparison, h.1.1.0); spelled = refl }
test_operands (a ∷ b ∷ c ∷ d ∷ operands) l h e = absurd (omega arith)

system_operands : (operands : List ℕ) → length operands ≡ 3 → AllByRecursion IsOperand operands → operand_fault 0x17 operands ≡ None → IsSpelled (0xFFFF ∷ 0x17 ∷ operands)
system_operands [] l h e = absurd (omega arith)
system_operands (a ∷ []) l h e = absurd (omega arith)
system_operands (a ∷ b ∷ []) l h e = absurd (omega arith)
system_operands (a ∷ b ∷ c ∷ []) l h e =
    let behind_zero = none_if (list_any (nat_eq 0) (a ∷ b ∷ c ∷ [])) U3 (if not (nat_eq b 1 || nat_eq b 2) then Some U5 else None) e in
    let compares : (nat_eq b 1 || nat_eq b 2) ≡ true = not-false _ (none_if (not (nat_eq b 1 || nat_eq b 2)) U5 None behind_zero.1).0 in
    let comparison : (b ≡ 1) ⊎ (b ≡ 2) = elim (or_cases (nat_eq b 1) (nat_eq b 2) compares) [ inl one ↦ inl (eqb-true b 1 one) | inr two ↦ inr (eqb-true b 2 two) ] in
    record { item = SystemTest a b c; spellable = (h.0, comparison, h.1.1.0); spelled = refl }
system_operands (a ∷ b ∷ c ∷ d ∷ operands) l h e = absurd (omega arith)

three_operands : (code : ℕ) (operands : List ℕ) → list_any (nat_eq code) three_codes ≡ true → length operands ≡ 3
    → AllByRecursion IsOperand operands → operand_fault code operands ≡ None → IsSpelled (0xFFFF ∷ code ∷ operands)
three_operands code operands e l h form = listed (λ n. operand_fault n operands ≡ None → IsSpelled (0xFFFF ∷ n ∷ operands)) three_codes code
    (key_operands operands l h, (test_operands operands l h, (system_operands operands l h, tt))) e form

-- operands are units of 16 bits and not 0
operands_of : (operands : List ℕ) → AllByRecursion (λ unit. unit < 2 ^ 16) operands → list_any (nat_eq 0) operands ≡ false → AllByRecursion IsOperand operands
operands_of [] h e = tt
operands_of (a ∷ operands) h e =
    let parts = or_parts (nat_eq 0 a) (list_any (nat_eq 0) operands) e in
    ((omega (arith, eqb-false 0 a parts.0), h.0), operands_of operands h.1 parts.1)

-- operands of a code form an item if their number and their form are those that the code requires
item_of_operands : (code n : ℕ) (operands : List ℕ) → operand_count code ≡ Some n → length operands ≡ n → AllByRecursion (λ unit. unit < 2 ^ 16) operands
    → operand_fault code operands ≡ None → IsSpelled (0xFFFF ∷ code ∷ operands)
item_of_operands code n operands count l small form =
    let no_zero : list_any (nat_eq 0) operands ≡ false = (none_if (list_any (nat_eq 0) operands) U3 _ form).0 in
    let h : AllByRecursion IsOperand operands = operands_of operands small no_zero in
    elim (some_if (list_any (nat_eq code) none_codes) 0 _ n count) [
      | inl none ↦ no_operand code operands none.0 (l ∙ sym none.1)
      | inr more ↦ elim (some_if (list_any (nat_eq code) one_codes) 1 _ n more) [
        | inl one ↦ one_operand code operands one.0 (l ∙ sym one.1) h
        | inr more ↦ elim (some_if (list_any (nat_eq code) two_codes) 2 _ n more) [
          | inl two ↦ two_operands code operands two.0 (l ∙ sym two.1) h
          | inr more ↦ elim (some_if (list_any (nat_eq code) three_codes) 3 _ n more) [
            | inl three ↦ three_operands code operands three.0 (l ∙ sym three.1) h form
            | inr unlisted ↦ absurd (cc)
          ]
        ]
      ]
    ]

without_code-none : (o : Option BadKind) → without_code o ≡ None → o ≡ None
without_code-none None e = refl
without_code-none (Some kind) e = absurd (cc)

-- if units are the beginning of the bytes, the bytes begin with their item
standing : (units bytes rest : List ℕ) → bytes ≡ unit_bytes units ++ rest → IsSpelled units → BeginsWithItem bytes
standing units bytes rest e found = record {
  item = found.item;
  rest = rest;
  spellable = found.spellable;
  parts = e ∙ ap (λ us. unit_bytes us ++ rest) (sym found.spelled);
}

counted_item : (code : ℕ) (bytes : List ℕ) (count : Option ℕ) → operand_count code ≡ count → All (λ byte. byte < 256) bytes → code_fault code bytes count ≡ None
    → BeginsWithItem (unit_bytes (0xFFFF ∷ code ∷ []) ++ bytes)
counted_item code bytes None is h e = absurd (cc)
counted_item code bytes (Some n) is h e =
    let parts = none_if (nat_lt (length bytes) (2 * n)) (end_fault bytes) (operand_fault code (take n (whole_units bytes)))
    (without_code-none (operands_fault code n bytes) e) in
    let front : BeginsWithUnits n bytes = begins_with_units n bytes h (ltb-false (length bytes) (2 * n) parts.0) in
    let operands : List ℕ = take n (whole_units bytes) in
    let found : IsSpelled (0xFFFF ∷ code ∷ operands)
    = item_of_operands code n operands is front.count (recursion_from_All (λ unit. unit < 2 ^ 16) operands front.small) parts.1 in
    standing (0xFFFF ∷ code ∷ operands) _ front.rest (ap (λ bs. unit_bytes (0xFFFF ∷ code ∷ []) ++ bs) front.parts) found

sentinel_item : (bytes : List ℕ) → All (λ byte. byte < 256) bytes → sentinel_fault bytes ≡ None → BeginsWithItem (unit_bytes (0xFFFF ∷ []) ++ bytes)
sentinel_item [] h e = absurd (cc)
sentinel_item (low ∷ []) h e = absurd (cc)
sentinel_item (low ∷ high ∷ bytes) h e =
    let is_byte : ℕ → Type 0 = λ byte. byte < 256 in
    let low_byte : low < 256 = All-head is_byte low (high ∷ bytes) h in
    let others : All is_byte bytes = All-tail is_byte high bytes (All-tail is_byte low (high ∷ bytes) h) in
    let code : ℕ = low + 256 * high in
    subst BeginsWithItem (ap (λ bs. 255 ∷ 255 ∷ bs ++ bytes) (unit_bytes_joined low high [] low_byte))
    (counted_item code bytes (operand_count code) refl others e)

pair_char : (high low : ℕ) → 0xD800 ≤ high → high < 0xDC00 → 0xDC00 ≤ low → low < 0xE000 → IsSpelled (high ∷ low ∷ [])
pair_char high low a b c d =
    let code : ℕ = surrogate_pair_char high low in
    let above : 0x1_0000 ≤ code = omega arith in
    let below : code < 0x11_0000 = omega arith in
    let first : 0xD800 + (code - 0x1_0000) / 0x400 ≡ high = omega arith in
    let second : 0xDC00 + (code - 0x1_0000) % 0x400 ≡ low = omega arith in
    record {
      item = Char code;
      spellable = (grind (arith, nat_tests, above, below), λ e. omega (arith, e, above), λ e. omega (arith, e, above));
      spelled = cond-false (nat_lt code 0x1_0000) _ _ (le-ltb code 0x1_0000 above) ∙ cc (first, second);
    }

-- if a test that continues only when it succeeds returns None, it succeeded, and the rest is None
none_unless : {X : Type 0} (b : Bool) (o : Option X) (x : X) → cond b o (Some x) ≡ None → (b ≡ true) × (o ≡ None)
none_unless true o x e = (refl, e)
none_unless false o x e = absurd (cc)

pair_item : (high : ℕ) (bytes : List ℕ) → is_high_surrogate high ≡ true → All (λ byte. byte < 256) bytes → pair_fault bytes ≡ None
    → BeginsWithItem (unit_bytes (high ∷ []) ++ bytes)
pair_item unit [] s h e = absurd (cc)
pair_item unit (low ∷ []) s h e = absurd (cc)
pair_item unit (low ∷ high ∷ bytes) s h e =
    let is_byte : ℕ → Type 0 = λ byte. byte < 256 in
    let second : ℕ = low + 256 * high in
    let low_byte : low < 256 = All-head is_byte low (high ∷ bytes) h in
    let first_range = and_parts (nat_le 0xD800 unit) (nat_lt unit 0xDC00) s in
    let second_range = and_parts (nat_le 0xDC00 second) (nat_lt second 0xE000) (none_unless (is_low_surrogate second) None (U1, 0) e).0 in
    let found : IsSpelled (unit ∷ second ∷ [])
    = pair_char unit second (leb-true 0xD800 unit first_range.0) (ltb-true unit 0xDC00 first_range.1)
    (leb-true 0xDC00 second second_range.0) (ltb-true second 0xE000 second_range.1) in
    standing (unit ∷ second ∷ []) _ bytes (ap (λ bs. unit_bytes (unit ∷ []) ++ bs ++ bytes) (sym (unit_bytes_joined low high [] low_byte))) found

lone_char : (unit : ℕ) → unit < 2 ^ 16 → nat_eq unit 0xFFFF ≡ false → nat_eq unit 0 ≡ false → is_high_surrogate unit ≡ false → is_low_surrogate unit ≡ false
    → IsSpelled (unit ∷ [])
lone_char unit below no_sentinel no_zero no_high no_low = record {
  item = Char unit;
  spellable = (grind (arith, nat_tests), eqb-false unit 0 no_zero, eqb-false unit 0xFFFF no_sentinel);
  spelled = cond-true (nat_lt unit 0x1_0000) _ _ (lt-ltb unit 0x1_0000 below);
}

-- the fault of a unit that is not a sentinel
abbrev low_fault : ℕ → Option (BadKind × ℕ)
low_fault unit = if is_low_surrogate unit then Some (U1, 0) else None

abbrev surrogate_fault : ℕ → List ℕ → Option (BadKind × ℕ)
surrogate_fault unit bytes = if is_high_surrogate unit then pair_fault bytes else low_fault unit

abbrev plain_fault : ℕ → List ℕ → Option (BadKind × ℕ)
plain_fault unit bytes = if nat_eq unit 0 then Some (U3, 0) else surrogate_fault unit bytes

unsurrogate_item : (unit : ℕ) (bytes : List ℕ) → unit < 2 ^ 16 → nat_eq unit 0xFFFF ≡ false → nat_eq unit 0 ≡ false → is_high_surrogate unit ≡ false
    → low_fault unit ≡ None → BeginsWithItem (unit_bytes (unit ∷ []) ++ bytes)
unsurrogate_item unit bytes below no_sentinel no_zero no_high e =
    standing (unit ∷ []) _ bytes refl (lone_char unit below no_sentinel no_zero no_high (none_if (is_low_surrogate unit) (U1, 0) None e).0)

without_sentinel : (unit : ℕ) (bytes : List ℕ) → unit < 2 ^ 16 → All (λ byte. byte < 256) bytes → nat_eq unit 0xFFFF ≡ false
    → plain_fault unit bytes ≡ None
    → BeginsWithItem (unit_bytes (unit ∷ []) ++ bytes)
without_sentinel unit bytes below h no_sentinel e =
    let behind = none_if (nat_eq unit 0) (U3, 0) (surrogate_fault unit bytes) e in
    elim (cases_Bool (is_high_surrogate unit)) [
      | inl high ↦ pair_item unit bytes high h (rw high at behind.1)
      | inr no_high ↦ unsurrogate_item unit bytes below no_sentinel behind.0 no_high (rw no_high at behind.1)
    ]

unit_item : (unit : ℕ) (bytes : List ℕ) → unit < 2 ^ 16 → All (λ byte. byte < 256) bytes → unit_fault unit bytes ≡ None
    → BeginsWithItem (unit_bytes (unit ∷ []) ++ bytes)
unit_item unit bytes below h e = elim (cases_Bool (nat_eq unit 0xFFFF)) [
  | inl sentinel ↦
      subst (λ u. BeginsWithItem (unit_bytes (u ∷ []) ++ bytes)) (sym (eqb-true unit 0xFFFF sentinel)) (sentinel_item bytes h (rw sentinel at e))
  | inr no_sentinel ↦ without_sentinel unit bytes below h no_sentinel (rw no_sentinel at e)
]

pub no_fault_is_end_or_item : NoFaultIsEndOrItem
no_fault_is_end_or_item [] h e = inl refl
no_fault_is_end_or_item (low ∷ []) h e = absurd (cc)
no_fault_is_end_or_item (low ∷ high ∷ bytes) h e =
    let is_byte : ℕ → Type 0 = λ byte. byte < 256 in
    let low_byte : low < 256 = All-head is_byte low (high ∷ bytes) h in
    let high_byte : high < 256 = All-head is_byte high bytes (All-tail is_byte low (high ∷ bytes) h) in
    let others : All is_byte bytes = All-tail is_byte high bytes (All-tail is_byte low (high ∷ bytes) h) in
    inr (subst BeginsWithItem (ap (λ bs. bs ++ bytes) (unit_bytes_joined low high [] low_byte))
    (unit_item (low + 256 * high) bytes (omega arith) others e))
