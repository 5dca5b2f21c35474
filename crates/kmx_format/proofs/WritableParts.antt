-- The simplest parts of tables that a file can have: ASCII names, contexts without items, and outputs of characters.
use Rattle.std.proofs.Common.{true, ◌≡◌, ◌≢◌, ℕ, zero, suc, ◌<◌, ◌≤◌, List, [], ◌∷◌, length, map, refl, ap, ◌∙◌, arith, lit≤}
use Rattle.std.specs.List.{All, flat_map}
use Rattle.std.specs.Str.{IsAscii, chars}
use Rattle.std.proofs.lemmas.List.{length-map}
use Rattle.std.proofs.lemmas.List.Elements.{All-nil, All-cons, All-head, All-tail, All-map, All-weaker, All-same}
use Rattle.std.proofs.lemmas.Str.{IsUtf8-from_ascii, chars-IsAscii}
use Rattle.kmn_base.specs.declared.limits.TheConstants.{FILE_NAME_UNITS, OUTPUT_ITEMS}
use Rattle.kmn_base.specs.declared.units.UnitItem.TheVariants as spelled
use Rattle.kmn_base.specs.Spelling.{char_units, IsSpellable}
use Rattle.rule_model.specs.declared.tables.Out.TheVariants as output
use Rattle.kmx_format.specs.FileUnits.{unit_item_of_output, name_units}
use Rattle.kmx_format.specs.Writable.{sets_system_id, IsWritableName, stores_of_output, groups_of_output, IsWritableContext, IsWritableOutput, IsWritableMatchOutput}
use Rattle.kmx_format.proofs.FileItems.{char_units_low}

ascii_units : (cs : List ℕ) → All (λ c. (c ≢ 0) × (c < 128)) cs → flat_map char_units cs ≡ cs
ascii_units [] h = refl
ascii_units (c ∷ cs) h =
    let small = All-head (λ d. (d ≢ 0) × (d < 128)) c cs h in
    rw (char_units_low c (omega (arith, small.1))) (ap (λ us. c ∷ us) (ascii_units cs (All-tail (λ d. (d ≢ 0) × (d < 128)) c cs h)))

ascii-IsAscii : (cs : List ℕ) → All (λ c. (c ≢ 0) × (c < 128)) cs → IsAscii cs
ascii-IsAscii [] h i = omega arith
ascii-IsAscii (c ∷ cs) h zero = (All-head (λ d. (d ≢ 0) × (d < 128)) c cs h).1
ascii-IsAscii (c ∷ cs) h (suc i) = ascii-IsAscii cs (All-tail (λ d. (d ≢ 0) × (d < 128)) c cs h) i

pub writable_name : (name : List ℕ) → All (λ c. (c ≢ 0) × (c < 128)) name → length name ≤ FILE_NAME_UNITS → IsWritableName name
unfolding name_units
writable_name name h short =
    let ascii : IsAscii name = ascii-IsAscii name h in
    let same : chars name ≡ name = chars-IsAscii name ascii in
    let units : flat_map char_units (chars name) ≡ name = ap (flat_map char_units) same ∙ ascii_units name h in
    record {
      utf8 = IsUtf8-from_ascii name ascii;
      characters = All-same (λ c. (c ≢ 0) × (c ≢ 0xFFFF)) (chars name) name same
          (All-weaker (λ c. (c ≢ 0) × (c < 128)) (λ c. (c ≢ 0) × (c ≢ 0xFFFF)) (λ c both. (both.0, omega (arith, both.1))) name h);
      units = omega (arith, ap length units);
    }

-- characters do not name stores or groups
no_stores : (cs : List ℕ) → flat_map stores_of_output (map output.Char cs) ≡ []
no_stores [] = refl
no_stores (c ∷ cs) = no_stores cs

no_groups : (cs : List ℕ) → flat_map groups_of_output (map output.Char cs) ≡ []
no_groups [] = refl
no_groups (c ∷ cs) = no_groups cs

no_systems : (cs : List ℕ) → All (λ c. sets_system_id (output.Char c) ≡ true) cs
no_systems [] = All-nil (λ c. sets_system_id (output.Char c) ≡ true)
no_systems (c ∷ cs) = All-cons (λ c. sets_system_id (output.Char c) ≡ true) c cs refl (no_systems cs)

module _ (store_count group_count : ℕ) where
  pub no_context : IsWritableContext store_count []
  no_context = record {
    items = λ place d below. absurd (omega arith);
    stores = All-nil (λ store. store < store_count);
    systems = λ place d below. absurd (omega arith);
    offsets = λ place d below. absurd (omega arith);
    item_count = lit≤ tt;
  }

  pub characters_output : (cs : List ℕ) → All (λ c. IsSpellable (spelled.Char c)) cs → length cs ≤ OUTPUT_ITEMS → IsWritableOutput store_count group_count (map output.Char cs)
  characters_output cs h short = record {
    items = All-map (λ item. IsSpellable (unit_item_of_output item)) output.Char cs h;
    stores = All-same (λ store. store < store_count) (flat_map stores_of_output (map output.Char cs)) [] (no_stores cs) (All-nil (λ store. store < store_count));
    systems = All-map (λ item. sets_system_id item ≡ true) output.Char cs (no_systems cs);
    groups = All-same (λ group. group < group_count) (flat_map groups_of_output (map output.Char cs)) [] (no_groups cs) (All-nil (λ group. group < group_count));
    item_count = omega (arith, length-map cs output.Char);
  }

  pub no_output : IsWritableMatchOutput store_count group_count []
  no_output = record {
    itself = characters_output [] (All-nil (λ c. IsSpellable (spelled.Char c))) (lit≤ tt);
    no_context = λ place d below. absurd (omega arith);
  }
