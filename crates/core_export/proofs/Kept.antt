-- If the offsets 0 of a file are pointed to a zero unit and all its strings come after the replaced words, it keeps its fault and
-- its tables.
use Rattle.std.proofs.Common.{◌≡◌, ◌≢◌, ℕ, zero, suc, ◌+◌, ◌*◌, ◌^◌, ◌<◌, ◌≤◌, ◌⊎◌, Bool, true, not, ◌&&◌, ◌||◌, nat_eq, nat_lt, List, [], ◌∷◌, length, map, drop, bit_and, None, refl, sym, ap, ap₂, ◌∙◌, inl, inr, arith, ne_eqb}
use Rattle.std.specs.Prelude.{nat_le, if◌then◌else◌}
use Rattle.std.specs.List.{filter_map}
use Rattle.std.specs.Str.{encode_utf8_all}
use Rattle.std.specs.Char.Utf16.{utf16_lossy_chars}
use Rattle.std.specs.Option.{option_or}
use Rattle.kmn_base.specs.Spelling.{unit_bytes, whole_units}
use Rattle.kmn_base.specs.declared.codes.Code.TheVariants.{V09, V10, V15}
use Rattle.kmn_base.specs.declared.keys.TheConstants.{SHIFT_FLAGS}
use Rattle.kmn_base.specs.declared.limits.TheConstants.{FILE_NAME_UNITS, CONTEXT_ITEMS, OUTPUT_ITEMS, RECORDS}
use Rattle.kmn_base.specs.declared.units.UnitItem.{UnitItem}
use Rattle.item_codec.specs.Walk.{results_of}
use Rattle.rule_model.specs.declared.tables.Store.{Store}
use Rattle.rule_model.specs.declared.tables.Rule.{Rule}
use Rattle.rule_model.specs.declared.tables.Group.{Group}
use Rattle.kmx_format.specs.TablesOf.{word_at, before_zero, string_at, items_of, name_at, element_of_unit_item, pattern_of_unit_item, output_of_unit_item, stores_from, store_at, key_of, rule_at, rules_from, uses_keys_at, group_at, groups_from}
use Rattle.kmx_view.specs.View.{has_zero, is_ended, store_count, group_count}
use Rattle.kmx_verifier.specs.declared.faults.StringKind.{StringKind}
use Rattle.kmx_verifier.specs.declared.faults.StringKind.TheVariants as of
use Rattle.kmx_verifier.specs.declared.faults.Target.{Target}
use Rattle.kmx_verifier.specs.Items.{target_of}
use Rattle.kmx_verifier.specs.FaultOf.{broken, broken_by, walk_fault, context_fault, read_at, item_count, string_fault, context_string_fault, name_fault, too_many_elements, store_fault, elements_in, stores_fault, context_targets, flags_fault, record_fault, records_fault, records_place_fault, group_strings_fault, group_fault, groups_fault}
use Rattle.kmx_verifier.proofs.Looking.{walk_same, context_same}
use Rattle.core_export.specs.Readable.{are_contents_pointed, are_records_pointed, are_groups_pointed}
use Rattle.core_export.proofs.Outside.{later, Refilled, StoresKept, RecordsKept, GroupsKept}

-- a string is the empty one of offset 0, or starts at or after a place
abbrev pub IsClear : ℕ → ℕ → Type 0
IsClear high offset = (offset ≡ 0) ⊎ (high ≤ offset)

-- all strings of a number of records are the empty one of offset 0, or start at or after a place
module _ (bytes : List ℕ) (high : ℕ) where
  abbrev pub StoresClear : ℕ → ℕ → Type 0
  StoresClear place zero = Unit {0}
  StoresClear place (suc count) = IsClear high (word_at bytes (place + 4)) × IsClear high (word_at bytes (place + 8)) × StoresClear (place + 12) count

  abbrev pub RecordsClear : ℕ → ℕ → Type 0
  RecordsClear place zero = Unit {0}
  RecordsClear place (suc count) = IsClear high (word_at bytes (place + 12)) × IsClear high (word_at bytes (place + 16)) × RecordsClear (place + 20) count

  abbrev pub GroupsClear : ℕ → ℕ → Type 0
  GroupsClear place zero = Unit {0}
  GroupsClear place (suc count) =
      IsClear high (word_at bytes place) × IsClear high (word_at bytes (place + 8)) × IsClear high (word_at bytes (place + 12))
      × RecordsClear (word_at bytes (place + 4)) (word_at bytes (place + 16)) × GroupsClear (place + 24) count

none_read : results_of (unit_bytes []) ≡ []
unfolding results_of
none_read = refl

name_same : (bytes fin : List ℕ) (o p : ℕ) → string_at bytes o ≡ string_at fin p → name_at bytes o ≡ name_at fin p
unfolding name_at
name_same bytes fin o p h = ap (λ (units : List ℕ). encode_utf8_all (utf16_lossy_chars units)) h

tail_string : (bytes fin : List ℕ) (offset : ℕ) → drop offset bytes ≡ drop offset fin → (string_at bytes offset ≡ string_at fin offset) × (is_ended bytes offset ≡ is_ended fin offset)
unfolding string_at
tail_string bytes fin offset same = (
  ap (λ (xs : List ℕ). if nat_eq offset 0 then [] else before_zero (whole_units xs)) same,
  ap (λ (xs : List ℕ). nat_eq offset 0 || has_zero (whole_units xs)) same,
)

first_string : (bytes : List ℕ) (offset : ℕ) → offset ≡ 0 → (string_at bytes offset ≡ []) × (is_ended bytes offset ≡ true)
unfolding string_at
first_string bytes offset none = (
  ap (λ n. if nat_eq n 0 then [] else before_zero (whole_units (drop n bytes))) none,
  ap (λ n. nat_eq n 0 || has_zero (whole_units (drop n bytes))) none,
)

some : (n : ℕ) → n ≢ 0 → not (nat_eq n 0) ≡ true
some n h = ap not (ne_eqb n 0 h)

module _ (bytes fin : List ℕ) (unit high : ℕ) (sizes : length bytes ≡ length fin) (small : unit < 2 ^ 32) (tail : drop high bytes ≡ drop high fin) (positive : 0 < unit) (behind : high ≤ unit) (blank : string_at bytes unit ≡ []) (ends : is_ended bytes unit ≡ true) (stores : store_count bytes ≡ store_count fin) (groups : group_count bytes ≡ group_count fin) where
  -- ---- strings

  -- the string whose offset is at a place is the same, and is empty if the offset differs
  record StringKept (place : ℕ) : Type 0 where
    same : string_at bytes (word_at bytes place) ≡ string_at fin (word_at fin place)
    ended : is_ended bytes (word_at bytes place) ≡ is_ended fin (word_at fin place)
    walked : (word_at bytes place ≡ word_at fin place) ⊎ (string_at bytes (word_at bytes place) ≡ [])

  clear_string : (offset : ℕ) → IsClear high offset → (string_at bytes offset ≡ string_at fin offset) × (is_ended bytes offset ≡ is_ended fin offset)
  clear_string offset (inl none) =
      let one = first_string bytes offset none in
      let two = first_string fin offset none in
      (one.0 ∙ sym two.0, one.1 ∙ sym two.1)
  clear_string offset (inr there) = tail_string bytes fin offset (later high offset bytes fin there tail)

  stays_kept : (place : ℕ) → word_at fin place ≡ word_at bytes place → IsClear high (word_at bytes place) → StringKept place
  stays_kept place is clear =
      let string = clear_string (word_at bytes place) clear in
      record {
        same = string.0 ∙ ap (string_at fin) (sym is);
        ended = string.1 ∙ ap (is_ended fin) (sym is);
        walked = inl (sym is);
      }

  refilled_kept : (place : ℕ) → Refilled bytes unit fin small place → IsClear high (word_at bytes place) → StringKept place
  refilled_kept place (inl kept) clear = stays_kept place kept.1 clear
  refilled_kept place (inr filled) clear =
      let zero_string = first_string bytes (word_at bytes place) filled.0 in
      let pointed = tail_string bytes fin unit (later high unit bytes fin behind tail) in
      record {
        same = zero_string.0 ∙ sym (ap (string_at fin) filled.1 ∙ sym pointed.0 ∙ blank);
        ended = zero_string.1 ∙ sym (ap (is_ended fin) filled.1 ∙ sym pointed.1 ∙ ends);
        walked = inr zero_string.0;
      }

  module _ (place : ℕ) (kept : StringKept place) where
    at_bytes : ℕ
    at_bytes = word_at bytes place

    walk_kept : (kind : StringKind) (targets : List Target)
        → walk_fault bytes kind targets (word_at bytes place) (read_at bytes (word_at bytes place)) ≡ walk_fault fin kind targets (word_at fin place) (read_at fin (word_at fin place))
    walk_kept kind targets = by_place kept.walked
      where
        by_place : (word_at bytes place ≡ word_at fin place) ⊎ (string_at bytes (word_at bytes place) ≡ [])
            → walk_fault bytes kind targets (word_at bytes place) (read_at bytes (word_at bytes place)) ≡ walk_fault fin kind targets (word_at fin place) (read_at fin (word_at fin place))
        by_place (inl is) =
            walk_same bytes fin stores groups kind targets (word_at bytes place) (read_at bytes (word_at bytes place))
            ∙ ap₂ (λ at (s : List ℕ). walk_fault fin kind targets at (results_of (unit_bytes s))) is kept.same
        by_place (inr none) =
            ap (λ (s : List ℕ). walk_fault bytes kind targets (word_at bytes place) (results_of (unit_bytes s))) none
            ∙ ap (walk_fault bytes kind targets (word_at bytes place)) none_read
            ∙ sym (ap (λ (s : List ℕ). walk_fault fin kind targets (word_at fin place) (results_of (unit_bytes s))) (sym kept.same ∙ none)
            ∙ ap (walk_fault fin kind targets (word_at fin place)) none_read)

    context_kept : context_fault bytes [] (word_at bytes place) (read_at bytes (word_at bytes place)) ≡ context_fault fin [] (word_at fin place) (read_at fin (word_at fin place))
    context_kept = by_place kept.walked
      where
        by_place : (word_at bytes place ≡ word_at fin place) ⊎ (string_at bytes (word_at bytes place) ≡ [])
            → context_fault bytes [] (word_at bytes place) (read_at bytes (word_at bytes place)) ≡ context_fault fin [] (word_at fin place) (read_at fin (word_at fin place))
        by_place (inl is) =
            context_same bytes fin stores groups [] (word_at bytes place) (read_at bytes (word_at bytes place))
            ∙ ap₂ (λ at (s : List ℕ). context_fault fin [] at (results_of (unit_bytes s))) is kept.same
        by_place (inr none) =
            ap (λ (s : List ℕ). context_fault bytes [] (word_at bytes place) (results_of (unit_bytes s))) none
            ∙ ap (context_fault bytes [] (word_at bytes place)) none_read
            ∙ sym (ap (λ (s : List ℕ). context_fault fin [] (word_at fin place) (results_of (unit_bytes s))) (sym kept.same ∙ none)
            ∙ ap (context_fault fin [] (word_at fin place)) none_read)

    items_same : items_of (string_at bytes (word_at bytes place)) ≡ items_of (string_at fin (word_at fin place))
    items_same = ap items_of kept.same

    count_same : item_count bytes (word_at bytes place) ≡ item_count fin (word_at fin place)
    count_same = ap length items_same

    name_kept : name_fault bytes place ≡ name_fault fin place
    name_kept = ap₂ (λ e (s : List ℕ). option_or (broken V10 place (not e)) (option_or (broken V15 place (nat_lt FILE_NAME_UNITS (length s))) None)) kept.ended kept.same

    string_kept : (kind : StringKind) (targets : List Target) (too_many : ℕ → Bool) → string_fault bytes kind targets place too_many ≡ string_fault fin kind targets place too_many
    string_kept kind targets too_many =
        ap₂ option_or (ap₂ option_or (ap (λ e. broken V10 place (not e)) kept.ended) (walk_kept kind targets)) (ap (λ n. broken V15 place (too_many n)) count_same)

    context_string_kept : context_string_fault bytes place ≡ context_string_fault fin place
    context_string_kept =
        ap₂ option_or (ap₂ option_or (ap (λ e. broken V10 place (not e)) kept.ended) context_kept) (ap (λ n. broken V15 place (nat_lt CONTEXT_ITEMS n)) count_same)

  -- ---- records

  refilled_some : (at : ℕ) → Refilled bytes unit fin small at → word_at fin at ≢ 0
  refilled_some at (inl stays) none = stays.0 (sym stays.1 ∙ none)
  refilled_some at (inr filled) none = let is : unit ≡ 0 = sym filled.1 ∙ none in omega (arith, is, positive)

  pub stores_same : (before place count : ℕ) → StoresKept bytes unit fin small place count → StoresClear bytes high place count
      → (stores_fault bytes before place count ≡ stores_fault fin before place count) × (stores_from bytes place count ≡ stores_from fin place count) × (are_contents_pointed fin place count ≡ true)
  stores_same before place zero kept clear = (refl, refl, refl)
  stores_same before place (suc count) kept clear =
      let name : StringKept (place + 4) = stays_kept (place + 4) kept.1 clear.0 in
      let content : StringKept (place + 8) = refilled_kept (place + 8) kept.2 clear.1 in
      let rest = stores_same (before + elements_in bytes place) (place + 12) count kept.3 clear.2 in
      let fault : store_fault bytes before place ≡ store_fault fin before place =
      ap₂ option_or (name_kept (place + 4) name) (ap (λ f. option_or f None) (string_kept (place + 8) content of.Store [] (too_many_elements before))) in
      let store : store_at bytes place ≡ store_at fin place =
      λ i. record {
        system = sym kept.0 i;
        name = name_same bytes fin (word_at bytes (place + 4)) (word_at fin (place + 4)) name.same i;
        elements = ap (filter_map element_of_unit_item) (items_same (place + 8) content) i;
      } in (
        ap₂ option_or fault (rest.0 ∙ ap (λ n. stores_fault fin (before + n) (place + 12) count) (count_same (place + 8) content)),
        ap₂ (λ (s : Store) (ss : List Store). s ∷ ss) store rest.1,
        ap₂ (λ a b. a && b) (some (word_at fin (place + 8)) (refilled_some (place + 8) kept.2)) rest.2,
      )

  flags_same : (using_keys : Bool) (place : ℕ) → word_at bytes place ≡ word_at fin place → flags_fault bytes using_keys place ≡ flags_fault fin using_keys place
  flags_same using_keys place is = ap (λ n. broken_by 0x0A place (using_keys && not (nat_eq (bit_and n SHIFT_FLAGS) n))) is

  pub records_same : (using_keys : Bool) (place count : ℕ) → RecordsKept bytes unit fin small place count → RecordsClear bytes high place count
      → (records_fault bytes using_keys place count ≡ records_fault fin using_keys place count) × (rules_from bytes using_keys place count ≡ rules_from fin using_keys place count)
      × (are_records_pointed fin place count ≡ true)
  records_same using_keys place zero kept clear = (refl, refl, refl)
  records_same using_keys place (suc count) kept clear =
      let output : StringKept (place + 12) = refilled_kept (place + 12) kept.3 clear.0 in
      let context : StringKept (place + 16) = refilled_kept (place + 16) kept.4 clear.1 in
      let rest = records_same using_keys (place + 20) count kept.5 clear.2 in
      let fault : record_fault bytes using_keys place ≡ record_fault fin using_keys place =
      ap₂ option_or (flags_same using_keys (place + 8) (sym kept.2))
      (ap₂ option_or (context_string_kept (place + 16) context)
      (ap (λ f. option_or f None)
      (ap (λ (items : List UnitItem). string_fault bytes of.Output (map target_of items) (place + 12) (nat_lt OUTPUT_ITEMS)) (items_same (place + 16) context)
      ∙ string_kept (place + 12) output of.Output (context_targets fin (word_at fin (place + 16))) (nat_lt OUTPUT_ITEMS)))) in
      let rule : rule_at bytes using_keys place ≡ rule_at fin using_keys place =
      λ i. record {
        line = sym kept.1 i;
        place = 0;
        key = key_of using_keys (sym kept.0 i) (sym kept.2 i);
        context = ap (filter_map pattern_of_unit_item) (items_same (place + 16) context) i;
        output = ap (filter_map output_of_unit_item) (items_same (place + 12) output) i;
      } in (
        ap₂ option_or fault rest.0,
        ap₂ (λ (r : Rule) (rs : List Rule). r ∷ rs) rule rest.1,
        ap₂ (λ a b. a && b) (ap₂ (λ a b. a && b) (some (word_at fin (place + 12)) (refilled_some (place + 12) kept.3)) (some (word_at fin (place + 16)) (refilled_some (place + 16) kept.4))) rest.2,
      )

  pub groups_same : (before place count : ℕ) → GroupsKept bytes unit fin small place count → GroupsClear bytes high place count
      → (groups_fault bytes before place count ≡ groups_fault fin before place count) × (groups_from bytes place count ≡ groups_from fin place count) × (are_groups_pointed fin place count ≡ true)
  groups_same before place zero kept clear = (refl, refl, refl)
  groups_same before place (suc count) kept clear =
      let name : StringKept place = stays_kept place kept.0 clear.0 in
      let on_match : StringKept (place + 8) = stays_kept (place + 8) kept.2 clear.1 in
      let on_nomatch : StringKept (place + 12) = stays_kept (place + 12) kept.3 clear.2 in
      let keys_are : word_at bytes (place + 4) ≡ word_at fin (place + 4) = sym kept.1 in
      let count_is : word_at bytes (place + 16) ≡ word_at fin (place + 16) = sym kept.4 in
      let using_is : word_at bytes (place + 20) ≡ word_at fin (place + 20) = sym kept.5 in
      let records = records_same (uses_keys_at bytes place) (word_at bytes (place + 4)) (word_at bytes (place + 16)) kept.6 clear.3 in
      let rest = groups_same (before + word_at bytes (place + 16)) (place + 24) count kept.7 clear.4 in
      let in_place : records_place_fault bytes before place ≡ records_place_fault fin before place =
      λ i. option_or (broken V15 (place + 16) (nat_lt RECORDS (before + count_is i)))
      (option_or (broken V09 (place + 4) (nat_lt 0 (count_is i) && not (nat_le (keys_are i + 20 * count_is i) (sizes i)))) None) in
      let strings : group_strings_fault bytes place ≡ group_strings_fault fin place =
      ap₂ option_or (name_kept place name)
      (ap₂ option_or (string_kept (place + 8) on_match of.Match [] (nat_lt OUTPUT_ITEMS)) (ap (λ f. option_or f None) (string_kept (place + 12) on_nomatch of.Match [] (nat_lt OUTPUT_ITEMS)))) in
      let all_records : records_fault bytes (uses_keys_at bytes place) (word_at bytes (place + 4)) (word_at bytes (place + 16))
      ≡ records_fault fin (uses_keys_at fin place) (word_at fin (place + 4)) (word_at fin (place + 16)) =
      records.0 ∙ (λ i. records_fault fin (not (nat_eq (using_is i) 0)) (keys_are i) (count_is i)) in
      let all_rules : rules_from bytes (uses_keys_at bytes place) (word_at bytes (place + 4)) (word_at bytes (place + 16))
      ≡ rules_from fin (uses_keys_at fin place) (word_at fin (place + 4)) (word_at fin (place + 16)) =
      records.1 ∙ (λ i. rules_from fin (not (nat_eq (using_is i) 0)) (keys_are i) (count_is i)) in
      let fault : group_fault bytes before place ≡ group_fault fin before place = ap₂ option_or in_place (ap₂ option_or strings (ap (λ f. option_or f None) all_records)) in
      let group : group_at bytes place ≡ group_at fin place =
      λ i. record {
        name = name_same bytes fin (word_at bytes place) (word_at fin place) name.same i;
        using_keys = not (nat_eq (using_is i) 0);
        rules = all_rules i;
        on_match = ap (filter_map output_of_unit_item) (items_same (place + 8) on_match) i;
        on_nomatch = ap (filter_map output_of_unit_item) (items_same (place + 12) on_nomatch) i;
      } in (
        ap₂ option_or fault (rest.0 ∙ ap (λ n. groups_fault fin (before + n) (place + 24) count) count_is),
        ap₂ (λ (g : Group) (gs : List Group). g ∷ gs) group rest.1,
        ap₂ (λ a b. a && b) (ap₂ (are_records_pointed fin) kept.1 kept.4 ∙ records.2) rest.2,
      )
