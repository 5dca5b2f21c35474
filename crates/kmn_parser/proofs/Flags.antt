-- The modifier words of shift flags are read as the same flags.
use Rattle.std.proofs.Common.{◌≡◌, ℕ, zero, suc, ◌+◌, ◌<◌, ◌≤◌, inl, inr, Bool, true, false, not, ◌||◌, map, refl, subst, arith}
use Rattle.std.specs.Prelude.{nat_eq, bit_and}
use Rattle.std.specs.List.{list_all, range_with_len}
use Rattle.std.proofs.lemmas.Bool.{and_parts, eqb-true, eq-eqb, cases_lt}
use Rattle.std.proofs.lemmas.Nat.{and_le_l, and_le_r}
use Rattle.kmn_base.specs.Names.{same_name}
use Rattle.kmn_base.specs.declared.keys.TheConstants.{SHIFT_FLAGS}
use Rattle.virtual_keys.specs.Keys.{shift_flags}
use Rattle.kmn_items.specs.Brackets.{flags_of}
use Rattle.kmn_parser.specs.Texts.{word}
use Rattle.kmn_parser.specs.Items.{flag_words}

gives_back : ℕ → Bool
gives_back flags = nat_eq (flags_of (map word (flag_words flags))) flags || not (nat_eq (bit_and flags SHIFT_FLAGS) flags)

-- all flags are tested, one range at a time
first : list_all gives_back (range_with_len 0x4000 128) ≡ true
unfolding gives_back shift_flags same_name
first = refl

second : list_all gives_back (range_with_len 0x4080 128) ≡ true
unfolding gives_back shift_flags same_name
second = refl

third : list_all gives_back (range_with_len 0x4100 128) ≡ true
unfolding gives_back shift_flags same_name
third = refl

fourth : list_all gives_back (range_with_len 0x4180 128) ≡ true
unfolding gives_back shift_flags same_name
fourth = refl

fifth : list_all gives_back (range_with_len 0x4200 128) ≡ true
unfolding gives_back shift_flags same_name
fifth = refl

sixth : list_all gives_back (range_with_len 0x4280 128) ≡ true
unfolding gives_back shift_flags same_name
sixth = refl

seventh : list_all gives_back (range_with_len 0x4300 128) ≡ true
unfolding gives_back shift_flags same_name
seventh = refl

in-range : (P : ℕ → Bool) (a n x : ℕ) → list_all P (range_with_len a n) ≡ true → a ≤ x → x < a + n → P x ≡ true
in-range P a zero x all low high = absurd (omega arith)
in-range P a (suc n) x all low high =
    let two = and_parts (P a) (list_all P (range_with_len (a + 1) n)) all in
    elim (cases_lt a x) [
      | inl less ↦ in-range P (a + 1) n x two.1 (omega arith) (omega arith)
      | inr more ↦ (let same : a ≡ x = omega arith in subst (λ (k : ℕ). P k ≡ true) same two.0)
    ]

part : (flags : ℕ) → 0x4000 ≤ flags → flags < 0x4380 → gives_back flags ≡ true
part flags low high = elim (cases_lt flags 0x4080) [
  | inl a ↦ in-range gives_back 0x4000 128 flags first low a
  | inr b ↦ elim (cases_lt flags 0x4100) [
    | inl c ↦ in-range gives_back 0x4080 128 flags second b c
    | inr d ↦ elim (cases_lt flags 0x4180) [
      | inl e ↦ in-range gives_back 0x4100 128 flags third d e
      | inr f ↦ elim (cases_lt flags 0x4200) [
        | inl g ↦ in-range gives_back 0x4180 128 flags fourth f g
        | inr h ↦ elim (cases_lt flags 0x4280) [
          | inl i ↦ in-range gives_back 0x4200 128 flags fifth h i
          | inr j ↦ elim (cases_lt flags 0x4300) [
            | inl k ↦ in-range gives_back 0x4280 128 flags sixth j k
            | inr l ↦ in-range gives_back 0x4300 128 flags seventh l high
          ]
        ]
      ]
    ]
  ]
]

either-true : (a b : Bool) → (a || not b) ≡ true → b ≡ true → a ≡ true
either-true true b e f = refl
either-true false true e f = absurd cc
either-true false false e f = absurd cc

pub flags_back : (flags : ℕ) → bit_and flags 0x4000 ≡ 0x4000 → bit_and flags SHIFT_FLAGS ≡ flags → flags_of (map word (flag_words flags)) ≡ flags
unfolding gives_back
flags_back flags virtual known =
    let low : bit_and flags 0x4000 ≤ flags = and_le_l flags 0x4000 in
    let high : bit_and flags SHIFT_FLAGS ≤ 0x437F = and_le_r flags SHIFT_FLAGS in
    let is : gives_back flags ≡ true = part flags (omega (arith, low, virtual)) (omega (arith, high, known)) in
    eqb-true (flags_of (map word (flag_words flags))) flags
    (either-true (nat_eq (flags_of (map word (flag_words flags))) flags) (nat_eq (bit_and flags SHIFT_FLAGS) flags) is (eq-eqb (bit_and flags SHIFT_FLAGS) flags known))
