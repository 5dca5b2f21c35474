-- The tables of a valid file can be played.
use Rattle.std.proofs.Common.{◌≡◌, ◌≢◌, ℕ, zero, suc, ◌+◌, ◌^◌, ◌<◌, ◌≤◌, ◌⊎◌, Bool, true, false, not, ◌&&◌, nat_eq, nat_lt, List, [], length, map, None, refl, sym, ap, subst, ◌∙◌, arith, length-append, lit≤, bit_and}
use Rattle.std.specs.Prelude.{if◌then◌else◌}
use Rattle.std.specs.List.{All, flat_map}
use Rattle.std.proofs.lemmas.Bool.{eqb-true, not-false, ltb-false}
use Rattle.std.proofs.lemmas.List.Elements.{All-nil, All-cons, All-weaker}
use Rattle.kmn_base.specs.declared.keys.RuleKey.TheVariants as key
use Rattle.kmn_base.specs.declared.keys.TheConstants.{SHIFT_FLAGS}
use Rattle.kmn_base.specs.declared.limits.TheConstants.{STORE_ELEMENTS, OUTPUT_ITEMS, CONTEXT_ITEMS, STORES, GROUPS, RECORDS, ALL_ELEMENTS}
use Rattle.rule_model.specs.declared.tables.Pat.{Pat}
use Rattle.rule_model.specs.declared.tables.Out.{Out}
use Rattle.kmx_format.specs.FileUnits.{unit_item_of_output}
use Rattle.kmx_format.specs.File.{rules_of}
use Rattle.kmx_format.specs.TablesOf.{half_at, word_at, string_at, patterns_at, outputs_at, store_at, stores_from, key_of, rule_at, rules_from, uses_keys_at, group_at, groups_from, tables_of}
use Rattle.kmx_format.specs.Versions.{is_version}
use Rattle.kmx_format.specs.Writable.{elements_of, needs_context, PointsInto, IsWritableMatchOutput, IsWritableKey, IsWritableRule}
use Rattle.kmx_format.specs.Playable.{IsPlayableStore, IsPlayableGroup, IsPlayable}
use Rattle.kmx_format.proofs.FileLaw.{version-small}
use Rattle.kmx_view.specs.View.{store_count, group_count}
use Rattle.kmx_verifier.specs.declared.faults.StringKind.{StringKind}
use Rattle.kmx_verifier.specs.declared.faults.StringKind.TheVariants as of
use Rattle.kmx_verifier.specs.declared.faults.Target.{Target}
use Rattle.kmx_verifier.specs.Items.{target_of, points_right}
use Rattle.kmx_verifier.specs.FaultOf.{walk_fault, context_fault, item_count, read_at, read_fault, string_fault, read_context_fault, context_string_fault, context_targets, too_many_elements, store_fault, stores_fault, elements_in, flags_fault, record_fault, records_fault, records_place_fault, group_strings_fault, group_fault, groups_fault, no_group, size_fault, header_fault, arrays_fault, fault_of, IsValid}
use Rattle.kmn_base.proofs.SmallBytes.{AreBytes}
use Rattle.kmn_base.proofs.Options.{option_or-none}
use Rattle.kmx_format.proofs.SmallNumbers.{word_at-small, half_at-small, half_at-word, string_at-small}
use Rattle.kmx_verifier.proofs.Sound.{broken-none, broken_by-none, ItemStands}
use Rattle.kmx_verifier.proofs.Contents.{Contents, elements_read, outputs_read, match_outputs_read, acts_alone, outputs_stores, outputs_groups, outputs_systems, match_systems, targets_of, ContextRead, context_read, points_into}

-- if a string has no fault, the scan of its items finds none, and it does not have too many items
string_walk : (bytes : List ℕ) (kind : StringKind) (targets : List Target) (place : ℕ) (too_many : ℕ → Bool) → string_fault bytes kind targets place too_many ≡ None
    → (walk_fault bytes kind targets (word_at bytes place) (read_at bytes (word_at bytes place)) ≡ None) × (too_many (item_count bytes (word_at bytes place)) ≡ false)
string_walk bytes kind targets place too_many h =
    let parts = option_or-none (read_fault bytes kind targets place) _ h in
    ((option_or-none _ _ parts.0).1, broken-none _ place _ parts.1)

context_walk : (bytes : List ℕ) (place : ℕ) → context_string_fault bytes place ≡ None
    → (context_fault bytes [] (word_at bytes place) (read_at bytes (word_at bytes place)) ≡ None) × (nat_lt CONTEXT_ITEMS (item_count bytes (word_at bytes place)) ≡ false)
context_walk bytes place h =
    let parts = option_or-none (read_context_fault bytes place) _ h in
    ((option_or-none _ _ parts.0).1, broken-none _ place _ parts.1)

elements_fit : (before count : ℕ) → too_many_elements before count ≡ false → (count ≤ STORE_ELEMENTS) × (before + count ≤ ALL_ELEMENTS)
elements_fit before count h = (grind (arith, h), grind (arith, h))

some : (n : ℕ) → nat_eq n 0 ≡ false → n ≢ 0
some zero h = absurd (cc)
some (suc n) h = λ e. absurd (omega (arith, e))

key_by_flags : (b : Bool) (code flags : ℕ) → (b ≡ false → flags ≢ 0) → code < 2 ^ 16 → bit_and flags SHIFT_FLAGS ≡ flags → IsWritableKey true (if b then key.Char code else key.Virtual flags code)
key_by_flags true code flags nonzero small known = small
key_by_flags false code flags nonzero small known = (nonzero refl, known, small)

key_playable : (using_keys : Bool) (code flags : ℕ) → code < 2 ^ 16 → (using_keys && not (nat_eq (bit_and flags SHIFT_FLAGS) flags)) ≡ false → IsWritableKey using_keys (key_of using_keys code flags)
key_playable false code flags small h = tt
key_playable true code flags small h =
    key_by_flags (nat_eq flags 0) code flags (some flags) small (eqb-true (bit_and flags SHIFT_FLAGS) flags (not-false (nat_eq (bit_and flags SHIFT_FLAGS) flags) h))

-- reading a number of records results in that number of entries
pub length-stores_from : (bytes : List ℕ) (place count : ℕ) → length (stores_from bytes place count) ≡ count
length-stores_from bytes place zero = refl
length-stores_from bytes place (suc count) = ap suc (length-stores_from bytes (place + 12) count)

pub length-rules_from : (bytes : List ℕ) (using_keys : Bool) (place count : ℕ) → length (rules_from bytes using_keys place count) ≡ count
length-rules_from bytes using_keys place zero = refl
length-rules_from bytes using_keys place (suc count) = ap suc (length-rules_from bytes using_keys (place + 20) count)

pub length-groups_from : (bytes : List ℕ) (place count : ℕ) → length (groups_from bytes place count) ≡ count
length-groups_from bytes place zero = refl
length-groups_from bytes place (suc count) = ap suc (length-groups_from bytes (place + 24) count)

module _ (bytes : List ℕ) (are_bytes : AreBytes bytes) where
  -- ---- stores
  store_playable : (before place : ℕ) → store_fault bytes before place ≡ None
      → IsPlayableStore (store_at bytes place) × (before + length (store_at bytes place).elements ≤ ALL_ELEMENTS) × (length (store_at bytes place).elements ≡ elements_in bytes place)
  store_playable before place h =
      let offset : ℕ = word_at bytes (place + 8) in
      let content = option_or-none _ _ (option_or-none _ _ h).1 in
      let walk = string_walk bytes of.Store [] (place + 8) (too_many_elements before) content.0 in
      let read = elements_read bytes offset (string_at bytes offset) (string_at-small bytes offset are_bytes) walk.0 in
      let fit = elements_fit before (item_count bytes offset) walk.1 in (
        record { system = word_at-small bytes place are_bytes; elements = read.spellable; element_count = omega (arith, read.count, fit.0) },
        omega (arith, read.count, fit.1),
        read.count,
      )

  stores_playable : (before place count : ℕ) → before ≤ ALL_ELEMENTS → stores_fault bytes before place count ≡ None
      → All IsPlayableStore (stores_from bytes place count) × (before + length (flat_map elements_of (stores_from bytes place count)) ≤ ALL_ELEMENTS)
  stores_playable before place zero few h = (All-nil IsPlayableStore, omega (arith, few))
  stores_playable before place (suc count) few h =
      let parts = option_or-none (store_fault bytes before place) _ h in
      let first = store_playable before place parts.0 in
      let others = stores_playable (before + elements_in bytes place) (place + 12) count (omega (arith, first.1, first.2)) parts.1 in (
        All-cons IsPlayableStore (store_at bytes place) (stores_from bytes (place + 12) count) first.0 others.0,
        omega (arith, others.1, first.2, length-append (store_at bytes place).elements (flat_map elements_of (stores_from bytes (place + 12) count))),
      )

  -- ---- key records
  rule_playable : (using_keys : Bool) (place : ℕ) → record_fault bytes using_keys place ≡ None
      → IsWritableRule (store_count bytes) (group_count bytes) using_keys (rule_at bytes using_keys place)
  rule_playable using_keys place h =
      let context_offset : ℕ = word_at bytes (place + 16) in
      let output_offset : ℕ = word_at bytes (place + 12) in
      let first = option_or-none (flags_fault bytes using_keys (place + 8)) _ h in
      let second = option_or-none (context_string_fault bytes (place + 16)) _ first.1 in
      let third = option_or-none _ _ second.1 in
      let walk = context_walk bytes (place + 16) second.0 in
      let read : ContextRead bytes (string_at bytes context_offset) (patterns_at bytes context_offset) =
      context_read bytes (string_at bytes context_offset) context_offset (string_at-small bytes context_offset are_bytes) walk.0 (ltb-false CONTEXT_ITEMS (item_count bytes context_offset) walk.1) in
      let targets : List Target = context_targets bytes context_offset in
      let context : List Pat = patterns_at bytes context_offset in
      let outputs : List Out = outputs_at bytes output_offset in
      let same : targets ≡ targets_of context = ap (map target_of) (sym read.again) in
      let out = string_walk bytes of.Output targets (place + 12) (nat_lt OUTPUT_ITEMS) third.0 in
      let content : Contents unit_item_of_output bytes of.Output targets (string_at bytes output_offset) outputs =
      outputs_read bytes targets output_offset (string_at bytes output_offset) (string_at-small bytes output_offset are_bytes) out.0 in
      record {
        line = word_at-small bytes (place + 4) are_bytes;
        key = key_playable using_keys (half_at bytes place) (word_at bytes (place + 8)) (half_at-small bytes place are_bytes) (broken_by-none 0x0A (place + 8) _ first.0);
        context = read.writable;
        output = record {
          items = content.spellable;
          stores = outputs_stores bytes of.Output targets outputs content.stand;
          systems = outputs_systems bytes targets outputs content.stand;
          groups = outputs_groups bytes of.Output targets outputs content.stand;
          item_count = omega (arith, content.count, ltb-false OUTPUT_ITEMS (item_count bytes output_offset) out.1);
        };
        offsets = All-weaker (λ o. ItemStands bytes of.Output targets (unit_item_of_output o)) (PointsInto context)
            (λ o s. points_into context o (subst (λ (ts : List Target). points_right ts (unit_item_of_output o) ≡ true) same s.points)) outputs content.stand;
      }

  rules_playable : (using_keys : Bool) (place count : ℕ) → records_fault bytes using_keys place count ≡ None
      → All (IsWritableRule (store_count bytes) (group_count bytes) using_keys) (rules_from bytes using_keys place count)
  rules_playable using_keys place zero h = All-nil (IsWritableRule (store_count bytes) (group_count bytes) using_keys)
  rules_playable using_keys place (suc count) h =
      let parts = option_or-none (record_fault bytes using_keys place) _ h in
      All-cons (IsWritableRule (store_count bytes) (group_count bytes) using_keys) (rule_at bytes using_keys place) (rules_from bytes using_keys (place + 20) count)
      (rule_playable using_keys place parts.0) (rules_playable using_keys (place + 20) count parts.1)

  -- ---- groups
  match_playable : (place : ℕ) → string_fault bytes of.Match [] place (nat_lt OUTPUT_ITEMS) ≡ None
      → IsWritableMatchOutput (store_count bytes) (group_count bytes) (outputs_at bytes (word_at bytes place))
  match_playable place h =
      let offset : ℕ = word_at bytes place in
      let outputs : List Out = outputs_at bytes offset in
      let walk = string_walk bytes of.Match [] place (nat_lt OUTPUT_ITEMS) h in
      let content : Contents unit_item_of_output bytes of.Match [] (string_at bytes offset) outputs =
      match_outputs_read bytes offset (string_at bytes offset) (string_at-small bytes offset are_bytes) walk.0 in
      record {
        itself = record {
          items = content.spellable;
          stores = outputs_stores bytes of.Match [] outputs content.stand;
          systems = match_systems bytes [] outputs content.stand;
          groups = outputs_groups bytes of.Match [] outputs content.stand;
          item_count = omega (arith, content.count, ltb-false OUTPUT_ITEMS (item_count bytes offset) walk.1);
        };
        no_context = All-weaker (λ o. ItemStands bytes of.Match [] (unit_item_of_output o)) (λ o. needs_context o ≡ false) (λ o s. acts_alone o s.stands) outputs content.stand;
      }

  group_playable : (before place : ℕ) → group_fault bytes before place ≡ None
      → IsPlayableGroup (store_count bytes) (group_count bytes) (group_at bytes place) × (before + word_at bytes (place + 16) ≤ RECORDS)
  group_playable before place h =
      let first = option_or-none (records_place_fault bytes before place) _ h in
      let second = option_or-none (group_strings_fault bytes place) _ first.1 in
      let third = option_or-none _ _ second.1 in
      let strings = option_or-none _ _ (option_or-none _ _ second.0).1 in
      let last = option_or-none _ _ strings.1 in
      let count : nat_lt RECORDS (before + word_at bytes (place + 16)) ≡ false = broken-none _ (place + 16) _ (option_or-none _ _ first.0).0 in (
        record {
          rules = rules_playable (uses_keys_at bytes place) (word_at bytes (place + 4)) (word_at bytes (place + 16)) third.0;
          on_match = match_playable (place + 8) strings.0;
          on_nomatch = match_playable (place + 12) last.0;
        },
        ltb-false RECORDS (before + word_at bytes (place + 16)) count,
      )

  groups_playable : (before place count : ℕ) → before ≤ RECORDS → groups_fault bytes before place count ≡ None
      → All (IsPlayableGroup (store_count bytes) (group_count bytes)) (groups_from bytes place count) × (before + length (flat_map rules_of (groups_from bytes place count)) ≤ RECORDS)
  groups_playable before place zero few h = (All-nil (IsPlayableGroup (store_count bytes) (group_count bytes)), omega (arith, few))
  groups_playable before place (suc count) few h =
      let rules : ℕ = word_at bytes (place + 16) in
      let parts = option_or-none (group_fault bytes before place) _ h in
      let first = group_playable before place parts.0 in
      let others = groups_playable (before + rules) (place + 24) count first.1 parts.1 in (
        All-cons (IsPlayableGroup (store_count bytes) (group_count bytes)) (group_at bytes place) (groups_from bytes (place + 24) count) first.0 others.0,
        omega (
          arith,
          others.1,
          length-rules_from bytes (uses_keys_at bytes place) (word_at bytes (place + 4)) rules,
          length-append (group_at bytes place).rules (flat_map rules_of (groups_from bytes (place + 24) count)),
        ),
      )

  -- ---- the file
  start_ansi : (number count : ℕ) → (not (nat_eq number no_group) && not (nat_lt number count)) ≡ false → (number < count) ⊎ (number ≡ no_group)
  start_ansi number count h = grind (arith, h)

  start_unicode : (number count : ℕ) → not (nat_lt number count) ≡ false → number < count
  start_unicode number count h = grind (arith, h)

  pub valid_playable : IsValid bytes → IsPlayable (tables_of bytes)
  unfolding fault_of size_fault header_fault tables_of
  valid_playable h =
      let size = option_or-none (size_fault bytes) _ h in
      let head = option_or-none (header_fault bytes) _ size.1 in
      let arrays = option_or-none (arrays_fault bytes) _ head.1 in
      let stores = option_or-none (stores_fault bytes 0 (word_at bytes 32) (store_count bytes)) _ arrays.1 in
      let groups = option_or-none _ _ stores.1 in
      let long : nat_lt (length bytes) 64 ≡ false = broken-none _ _ _ (option_or-none _ _ (option_or-none _ _ size.0).1).0 in
      let identifier = option_or-none _ _ head.0 in
      let version = option_or-none _ _ identifier.1 in
      let flags = option_or-none _ _ version.1 in
      let many_stores = option_or-none _ _ flags.1 in
      let many_groups = option_or-none _ _ many_stores.1 in
      let no_unicode = option_or-none _ _ many_groups.1 in
      let ansi = option_or-none _ _ no_unicode.1 in
      let unicode = option_or-none _ _ ansi.1 in
      let known : is_version (word_at bytes 4) ≡ true = not-false _ (broken-none _ 4 _ version.0) in
      let lower : half_at bytes 4 ≡ word_at bytes 4 = half_at-word bytes 4 are_bytes (omega (arith, ltb-false (length bytes) 64 long)) (version-small (word_at bytes 4) known) in
      let store_total = stores_playable 0 (word_at bytes 32) (store_count bytes) (lit≤ tt) stores.0 in
      let group_total = groups_playable 0 (word_at bytes 36) (group_count bytes) (lit≤ tt) groups.0 in
      let store_number : length (stores_from bytes (word_at bytes 32) (store_count bytes)) ≡ store_count bytes = length-stores_from bytes (word_at bytes 32) (store_count bytes) in
      let group_number : length (groups_from bytes (word_at bytes 36) (group_count bytes)) ≡ group_count bytes = length-groups_from bytes (word_at bytes 36) (group_count bytes) in
      record {
        version = ap is_version lower ∙ known;
        start_unicode = omega (arith, group_number, start_unicode (word_at bytes 44) (group_count bytes) (broken-none _ 44 _ unicode.0));
        start_ansi = subst (λ (n : ℕ). (word_at bytes 40 < n) ⊎ (word_at bytes 40 ≡ no_group)) (sym group_number) (start_ansi (word_at bytes 40) (group_count bytes) (broken-none _ 40 _ ansi.0));
        stores = store_total.0;
        groups = subst (λ (n : ℕ). All (IsPlayableGroup n (length (groups_from bytes (word_at bytes 36) (group_count bytes)))) (groups_from bytes (word_at bytes 36) (group_count bytes))) (sym store_number)
            (subst (λ (n : ℕ). All (IsPlayableGroup (store_count bytes) n) (groups_from bytes (word_at bytes 36) (group_count bytes))) (sym group_number) group_total.0);
        store_count = omega (arith, store_number, ltb-false STORES (store_count bytes) (broken-none _ 24 _ many_stores.0));
        group_count = omega (arith, group_number, ltb-false GROUPS (group_count bytes) (broken-none _ 28 _ many_groups.0));
        rule_count = omega (arith, group_total.1);
        element_count = omega (arith, store_total.1);
      }
