-- If a key covers another, it fits each press that the other fits.
use Rattle.std.proofs.Common.{◌≡◌, ◌≢◌, ℕ, zero, suc, ◌+◌, ◌≤◌, ◌<◌, Bool, true, false, not, ◌&&◌, ◌||◌, List, [], ◌∷◌, map, Option, Some, None, refl, sym, ap, ◌∙◌, subst, arith, inl, inr, if◌then◌else◌}
use Rattle.std.specs.Prelude.{find, nat_eq, option_map}
use Rattle.std.specs.Bool.{beq}
use Rattle.std.specs.List.{list_all, list_any, range_with_len}
use Rattle.std.specs.Option.{option_map_or}
use Rattle.std.proofs.lemmas.Bool.{and_parts, cases_Bool, cond-true, cond-false, eqb-true}
use Rattle.std.proofs.lemmas.Bool.Decides.{nat_tests}
use Rattle.std.proofs.lemmas.List.Folds.{list_all-append, list_all-map}
use Rattle.kmn_base.specs.declared.keys.RuleKey.{RuleKey}
use Rattle.kmn_base.specs.declared.keys.RuleKey.TheVariants as key
use Rattle.kmn_base.specs.declared.keys.KeyPress.{KeyPress}
use Rattle.virtual_keys.specs.Fits.{has, is_letter, us_character, character_in, is_plain, char_of_press, key_fits, flags_fit}
use Rattle.virtual_keys.specs.Keys.{us_characters, key_codes}
use Rattle.rule_shadow.specs.Keys.{sums_of, all_modifiers, all_codes, codes_to_try, tried_with, covers_key}

-- the sum of the numbers that have `true` in `marks`
abbrev sum_of : List ℕ → List Bool → ℕ
sum_of [] marks = 0
sum_of (bit ∷ bits) [] = sum_of bits []
sum_of (bit ∷ bits) (true ∷ marks) = bit + sum_of bits marks
sum_of (bit ∷ bits) (false ∷ marks) = sum_of bits marks

-- if all sums pass a test, the sum of each subset passes it
each_sum : (p : ℕ → Bool) (bits : List ℕ) (marks : List Bool) → list_all p (sums_of bits) ≡ true → p (sum_of bits marks) ≡ true
each_sum p [] marks h = (and_parts (p 0) true h).0
each_sum p (bit ∷ bits) [] h = each_sum p bits [] (and_parts _ _ (sym (list_all-append p (sums_of bits) (map (λ sum. bit + sum) (sums_of bits))) ∙ h)).0
each_sum p (bit ∷ bits) (true ∷ marks) h =
    each_sum (λ sum. p (bit + sum)) bits marks
    (sym (list_all-map p (λ sum. bit + sum) (sums_of bits)) ∙ (and_parts _ _ (sym (list_all-append p (sums_of bits) (map (λ sum. bit + sum) (sums_of bits))) ∙ h)).1)
each_sum p (bit ∷ bits) (false ∷ marks) h = each_sum p bits marks (and_parts _ _ (sym (list_all-append p (sums_of bits) (map (λ sum. bit + sum) (sums_of bits))) ∙ h)).0

abbrev six : List ℕ
six = 0x0001 ∷ 0x0002 ∷ 0x0004 ∷ 0x0008 ∷ 0x0010 ∷ 0x0100 ∷ []

abbrev held : Bool → Bool → Bool → Bool → Bool → Bool → ℕ
held a b c d e f = sum_of six (a ∷ b ∷ c ∷ d ∷ e ∷ f ∷ [])

-- the six bits of the held modifiers
record Bits (a b c d e f : Bool) : Type 0 where
  is_a : has (held a b c d e f) 0x0001 ≡ a
  is_b : has (held a b c d e f) 0x0002 ≡ b
  is_c : has (held a b c d e f) 0x0004 ≡ c
  is_d : has (held a b c d e f) 0x0008 ≡ d
  is_e : has (held a b c d e f) 0x0010 ≡ e
  is_f : has (held a b c d e f) 0x0100 ≡ f

bits_held : (a b c d e f : Bool) → Bits a b c d e f
bits_held true true true true true true = record { is_a = refl; is_b = refl; is_c = refl; is_d = refl; is_e = refl; is_f = refl }
bits_held true true true true true false = record { is_a = refl; is_b = refl; is_c = refl; is_d = refl; is_e = refl; is_f = refl }
bits_held true true true true false true = record { is_a = refl; is_b = refl; is_c = refl; is_d = refl; is_e = refl; is_f = refl }
bits_held true true true true false false = record { is_a = refl; is_b = refl; is_c = refl; is_d = refl; is_e = refl; is_f = refl }
bits_held true true true false true true = record { is_a = refl; is_b = refl; is_c = refl; is_d = refl; is_e = refl; is_f = refl }
bits_held true true true false true false = record { is_a = refl; is_b = refl; is_c = refl; is_d = refl; is_e = refl; is_f = refl }
bits_held true true true false false true = record { is_a = refl; is_b = refl; is_c = refl; is_d = refl; is_e = refl; is_f = refl }
bits_held true true true false false false = record { is_a = refl; is_b = refl; is_c = refl; is_d = refl; is_e = refl; is_f = refl }
bits_held true true false true true true = record { is_a = refl; is_b = refl; is_c = refl; is_d = refl; is_e = refl; is_f = refl }
bits_held true true false true true false = record { is_a = refl; is_b = refl; is_c = refl; is_d = refl; is_e = refl; is_f = refl }
bits_held true true false true false true = record { is_a = refl; is_b = refl; is_c = refl; is_d = refl; is_e = refl; is_f = refl }
bits_held true true false true false false = record { is_a = refl; is_b = refl; is_c = refl; is_d = refl; is_e = refl; is_f = refl }
bits_held true true false false true true = record { is_a = refl; is_b = refl; is_c = refl; is_d = refl; is_e = refl; is_f = refl }
bits_held true true false false true false = record { is_a = refl; is_b = refl; is_c = refl; is_d = refl; is_e = refl; is_f = refl }
bits_held true true false false false true = record { is_a = refl; is_b = refl; is_c = refl; is_d = refl; is_e = refl; is_f = refl }
bits_held true true false false false false = record { is_a = refl; is_b = refl; is_c = refl; is_d = refl; is_e = refl; is_f = refl }
bits_held true false true true true true = record { is_a = refl; is_b = refl; is_c = refl; is_d = refl; is_e = refl; is_f = refl }
bits_held true false true true true false = record { is_a = refl; is_b = refl; is_c = refl; is_d = refl; is_e = refl; is_f = refl }
bits_held true false true true false true = record { is_a = refl; is_b = refl; is_c = refl; is_d = refl; is_e = refl; is_f = refl }
bits_held true false true true false false = record { is_a = refl; is_b = refl; is_c = refl; is_d = refl; is_e = refl; is_f = refl }
bits_held true false true false true true = record { is_a = refl; is_b = refl; is_c = refl; is_d = refl; is_e = refl; is_f = refl }
bits_held true false true false true false = record { is_a = refl; is_b = refl; is_c = refl; is_d = refl; is_e = refl; is_f = refl }
bits_held true false true false false true = record { is_a = refl; is_b = refl; is_c = refl; is_d = refl; is_e = refl; is_f = refl }
bits_held true false true false false false = record { is_a = refl; is_b = refl; is_c = refl; is_d = refl; is_e = refl; is_f = refl }
bits_held true false false true true true = record { is_a = refl; is_b = refl; is_c = refl; is_d = refl; is_e = refl; is_f = refl }
bits_held true false false true true false = record { is_a = refl; is_b = refl; is_c = refl; is_d = refl; is_e = refl; is_f = refl }
bits_held true false false true false true = record { is_a = refl; is_b = refl; is_c = refl; is_d = refl; is_e = refl; is_f = refl }
bits_held true false false true false false = record { is_a = refl; is_b = refl; is_c = refl; is_d = refl; is_e = refl; is_f = refl }
bits_held true false false false true true = record { is_a = refl; is_b = refl; is_c = refl; is_d = refl; is_e = refl; is_f = refl }
bits_held true false false false true false = record { is_a = refl; is_b = refl; is_c = refl; is_d = refl; is_e = refl; is_f = refl }
bits_held true false false false false true = record { is_a = refl; is_b = refl; is_c = refl; is_d = refl; is_e = refl; is_f = refl }
bits_held true false false false false false = record { is_a = refl; is_b = refl; is_c = refl; is_d = refl; is_e = refl; is_f = refl }
bits_held false true true true true true = record { is_a = refl; is_b = refl; is_c = refl; is_d = refl; is_e = refl; is_f = refl }
bits_held false true true true true false = record { is_a = refl; is_b = refl; is_c = refl; is_d = refl; is_e = refl; is_f = refl }
bits_held false true true true false true = record { is_a = refl; is_b = refl; is_c = refl; is_d = refl; is_e = refl; is_f = refl }
bits_held false true true true false false = record { is_a = refl; is_b = refl; is_c = refl; is_d = refl; is_e = refl; is_f = refl }
bits_held false true true false true true = record { is_a = refl; is_b = refl; is_c = refl; is_d = refl; is_e = refl; is_f = refl }
bits_held false true true false true false = record { is_a = refl; is_b = refl; is_c = refl; is_d = refl; is_e = refl; is_f = refl }
bits_held false true true false false true = record { is_a = refl; is_b = refl; is_c = refl; is_d = refl; is_e = refl; is_f = refl }
bits_held false true true false false false = record { is_a = refl; is_b = refl; is_c = refl; is_d = refl; is_e = refl; is_f = refl }
bits_held false true false true true true = record { is_a = refl; is_b = refl; is_c = refl; is_d = refl; is_e = refl; is_f = refl }
bits_held false true false true true false = record { is_a = refl; is_b = refl; is_c = refl; is_d = refl; is_e = refl; is_f = refl }
bits_held false true false true false true = record { is_a = refl; is_b = refl; is_c = refl; is_d = refl; is_e = refl; is_f = refl }
bits_held false true false true false false = record { is_a = refl; is_b = refl; is_c = refl; is_d = refl; is_e = refl; is_f = refl }
bits_held false true false false true true = record { is_a = refl; is_b = refl; is_c = refl; is_d = refl; is_e = refl; is_f = refl }
bits_held false true false false true false = record { is_a = refl; is_b = refl; is_c = refl; is_d = refl; is_e = refl; is_f = refl }
bits_held false true false false false true = record { is_a = refl; is_b = refl; is_c = refl; is_d = refl; is_e = refl; is_f = refl }
bits_held false true false false false false = record { is_a = refl; is_b = refl; is_c = refl; is_d = refl; is_e = refl; is_f = refl }
bits_held false false true true true true = record { is_a = refl; is_b = refl; is_c = refl; is_d = refl; is_e = refl; is_f = refl }
bits_held false false true true true false = record { is_a = refl; is_b = refl; is_c = refl; is_d = refl; is_e = refl; is_f = refl }
bits_held false false true true false true = record { is_a = refl; is_b = refl; is_c = refl; is_d = refl; is_e = refl; is_f = refl }
bits_held false false true true false false = record { is_a = refl; is_b = refl; is_c = refl; is_d = refl; is_e = refl; is_f = refl }
bits_held false false true false true true = record { is_a = refl; is_b = refl; is_c = refl; is_d = refl; is_e = refl; is_f = refl }
bits_held false false true false true false = record { is_a = refl; is_b = refl; is_c = refl; is_d = refl; is_e = refl; is_f = refl }
bits_held false false true false false true = record { is_a = refl; is_b = refl; is_c = refl; is_d = refl; is_e = refl; is_f = refl }
bits_held false false true false false false = record { is_a = refl; is_b = refl; is_c = refl; is_d = refl; is_e = refl; is_f = refl }
bits_held false false false true true true = record { is_a = refl; is_b = refl; is_c = refl; is_d = refl; is_e = refl; is_f = refl }
bits_held false false false true true false = record { is_a = refl; is_b = refl; is_c = refl; is_d = refl; is_e = refl; is_f = refl }
bits_held false false false true false true = record { is_a = refl; is_b = refl; is_c = refl; is_d = refl; is_e = refl; is_f = refl }
bits_held false false false true false false = record { is_a = refl; is_b = refl; is_c = refl; is_d = refl; is_e = refl; is_f = refl }
bits_held false false false false true true = record { is_a = refl; is_b = refl; is_c = refl; is_d = refl; is_e = refl; is_f = refl }
bits_held false false false false true false = record { is_a = refl; is_b = refl; is_c = refl; is_d = refl; is_e = refl; is_f = refl }
bits_held false false false false false true = record { is_a = refl; is_b = refl; is_c = refl; is_d = refl; is_e = refl; is_f = refl }
bits_held false false false false false false = record { is_a = refl; is_b = refl; is_c = refl; is_d = refl; is_e = refl; is_f = refl }

-- the modifiers to test that have the same six bits
abbrev like : ℕ → ℕ
like mods = held (has mods 0x0001) (has mods 0x0002) (has mods 0x0004) (has mods 0x0008) (has mods 0x0010) (has mods 0x0100)

abbrev bits_like : (mods : ℕ) → Bits (has mods 0x0001) (has mods 0x0002) (has mods 0x0004) (has mods 0x0008) (has mods 0x0010) (has mods 0x0100)
bits_like mods = bits_held (has mods 0x0001) (has mods 0x0002) (has mods 0x0004) (has mods 0x0008) (has mods 0x0010) (has mods 0x0100)

abbrev sides : ℕ → ℕ → ℕ → ℕ → Bool → Bool → Bool
sides either left right flags a b = if has flags either then (a || b) else (beq (has flags left) a && beq (has flags right) b)

-- whether the flags of a key fit depends only on the six bits
flags_like : (flags mods : ℕ) → flags_fit flags (like mods) ≡ flags_fit flags mods
flags_like flags mods = let h = bits_like mods in
    λ i. beq (has flags 0x0010) (h.is_e i) && ((not (has flags 0x0100) || h.is_f i) && (not (has flags 0x0200) || not (h.is_f i)))
    && sides 0x0020 0x0001 0x0002 flags (h.is_a i) (h.is_b i) && sides 0x0040 0x0004 0x0008 flags (h.is_c i) (h.is_d i)

-- the character of a press depends only on its code and the six bits
char_like : (code mods : ℕ) → char_of_press (record { code = code; mods = like mods }) ≡ char_of_press (record { code = code; mods = mods })
unfolding char_of_press
char_like code mods = let h = bits_like mods in
    λ i. if not ((h.is_a i || h.is_b i) || (h.is_c i || h.is_d i)) then us_character code (h.is_e i) (h.is_f i) else None

fits_like : (k : RuleKey) (code mods : ℕ) → key_fits k (record { code = code; mods = like mods }) ≡ key_fits k (record { code = code; mods = mods })
unfolding key_fits
fits_like key.Any code mods = refl
fits_like (key.Char c) code mods = ap (λ o. option_map_or (nat_eq c) o false) (char_like code mods)
fits_like (key.Virtual flags wanted) code mods = ap (λ b. nat_eq wanted code && b) (flags_like flags mods)

-- if all members of a list pass a test, each member passes it
member_passes : (p : ℕ → Bool) (c : ℕ) (xs : List ℕ) → list_all p xs ≡ true → list_any (nat_eq c) xs ≡ true → p c ≡ true
member_passes p c [] h m = cc
member_passes p c (x ∷ xs) h m =
    let parts = and_parts (p x) (list_all p xs) h in
    elim (cases_Bool (nat_eq c x)) [
      | inl same ↦ ap p (eqb-true c x same) ∙ parts.0
      | inr other ↦ member_passes p c xs parts.1 (sym (ap (λ b. b || list_any (nat_eq c) xs) other) ∙ m)
    ]

-- if all codes of a table are in a list, each code of the table is in the list
within : {R : Type 0} (code_of : R → ℕ) (code : ℕ) (codes : List ℕ) (table : List R) → list_all (λ row. list_any (nat_eq (code_of row)) codes) table ≡ true
    → list_any (λ row. nat_eq (code_of row) code) table ≡ true → list_any (nat_eq code) codes ≡ true
within code_of code codes [] h m = cc
within code_of code codes (row ∷ table) h m =
    let parts = and_parts (list_any (nat_eq (code_of row)) codes) _ h in
    elim (cases_Bool (nat_eq (code_of row) code)) [
      | inl same ↦ subst (λ (n : ℕ). list_any (nat_eq n) codes ≡ true) (eqb-true (code_of row) code same) parts.0
      | inr other ↦ within code_of code codes table parts.1 (sym (ap (λ b. b || list_any (λ row. nat_eq (code_of row) code) table) other) ∙ m)
    ]

found_in : {R C : Type 0} (test : R → Bool) (f : R → C) (c : C) (table : List R) → option_map f (find test table) ≡ Some c → list_any test table ≡ true
found_in test f c [] e = cc
found_in test f c (row ∷ table) e = elim (cases_Bool (test row)) [
  | inl yes_row ↦ ap (λ b. b || list_any test table) yes_row
  | inr no_row ↦ ap (λ b. b || list_any test table) no_row ∙ found_in test f c table (ap (option_map f) (sym (cond-false (test row) (Some row) (find test table) no_row)) ∙ e)
]

in_run : (code from n : ℕ) → from ≤ code → code < from + n → list_any (λ row. nat_eq row code) (range_with_len from n) ≡ true
in_run code from zero a b = absurd (omega (arith, a, b))
in_run code from (suc n) a b = elim (cases_Bool (nat_eq from code)) [
  | inl same ↦ ap (λ t. t || list_any (λ row. nat_eq row code) (range_with_len (from + 1) n)) same
  | inr other ↦ ap (λ t. t || list_any (λ row. nat_eq row code) (range_with_len (from + 1) n)) other ∙ in_run code (from + 1) n (grind (arith, nat_tests)) (omega (arith, b))
]

letters_known : list_all (λ row. list_any (nat_eq row) all_codes) (range_with_len 65 26) ≡ true
unfolding all_codes key_codes
letters_known = refl

rows_known : list_all (λ row. list_any (nat_eq row.0) all_codes) us_characters ≡ true
unfolding all_codes key_codes us_characters
rows_known = refl

letter_known : (code : ℕ) → is_letter code ≡ true → list_any (nat_eq code) all_codes ≡ true
letter_known code h = within (λ row. row) code all_codes (range_with_len 65 26) letters_known (in_run code 65 26 (grind (arith, nat_tests)) (grind (arith, nat_tests)))

-- if a press produces a character, it has the code of a key with a name
given_known : (code : ℕ) (shifted locked : Bool) (c : ℕ) → us_character code shifted locked ≡ Some c → list_any (nat_eq code) all_codes ≡ true
given_known code shifted locked c e = elim (cases_Bool (is_letter code)) [
  | inl is ↦ letter_known code is
  | inr other ↦ within (λ row. row.0) code all_codes us_characters rows_known
      (found_in (λ row. nat_eq row.0 code) (λ row. if shifted then row.2 else row.1) c us_characters (sym (cond-false (is_letter code) _ (character_in us_characters code shifted) other) ∙ e))
]

char_known : (press : KeyPress) (c : ℕ) → char_of_press press ≡ Some c → list_any (nat_eq press.code) all_codes ≡ true
unfolding char_of_press
char_known press c e = elim (cases_Bool (is_plain press)) [
  | inl plain ↦ given_known press.code (has press.mods 0x0010) (has press.mods 0x0100) c (sym (cond-true (is_plain press) (us_character press.code (has press.mods 0x0010) (has press.mods 0x0100)) None plain) ∙ e)
  | inr other ↦ let none : None ≡ Some c = sym (cond-false (is_plain press) (us_character press.code (has press.mods 0x0010) (has press.mods 0x0100)) None other) ∙ e in cc
]

given_char : (c : ℕ) (o : Option ℕ) → option_map_or (nat_eq c) o false ≡ true → (d : ℕ) × (o ≡ Some d)
given_char c None e = let absurd_case : false ≡ true = e in cc
given_char c (Some d) e = (d, refl)

-- if a press fits a key, its code is one of the codes to test
code_known : (b : RuleKey) (press : KeyPress) → b ≢ key.Any → key_fits b press ≡ true → list_any (nat_eq press.code) (codes_to_try b) ≡ true
unfolding key_fits
code_known key.Any press other e = absurd (other refl)
code_known (key.Char c) press other e = let given = given_char c (char_of_press press) e in char_known press given.0 given.1
code_known (key.Virtual flags code) press other e =
    let same = eqb-true code press.code (and_parts (nat_eq code press.code) (flags_fit flags press.mods) e).0 in
    grind (arith, nat_tests, same)

-- if `not a || b` and `a` are true, `b` is true
other_true : (a b : Bool) → (not a || b) ≡ true → a ≡ true → b ≡ true
other_true true b h e = h
other_true false b h e = let absurd_case : false ≡ true = e in cc

-- if a key covers another, it fits each press that the other fits
pub covering_fits : (a b : RuleKey) → covers_key a b ≡ true → b ≢ key.Any → (press : KeyPress) → key_fits b press ≡ true → key_fits a press ≡ true
unfolding all_modifiers
covering_fits a b covered other press e =
    let passes = λ (press : KeyPress). not (key_fits b press) || key_fits a press in
    let at_code = member_passes (tried_with a b) press.code (codes_to_try b) covered (code_known b press other e) in
    let at_mods = each_sum (λ mods. passes (record { code = press.code; mods = mods })) six
    (has press.mods 0x0001 ∷ has press.mods 0x0002 ∷ has press.mods 0x0004 ∷ has press.mods 0x0008 ∷ has press.mods 0x0010 ∷ has press.mods 0x0100 ∷ [])
    (sym (list_all-map passes (λ mods. record { code = press.code; mods = mods }) (sums_of six)) ∙ at_code) in
    sym (fits_like a press.code press.mods) ∙ other_true _ _ at_mods (fits_like b press.code press.mods ∙ e)
