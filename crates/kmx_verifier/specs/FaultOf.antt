-- The first fault of a file, step by step.
use Rattle.std.specs.Prelude.{◌≡◌, ℕ, zero, suc, ◌+◌, ◌*◌, Bool, nat_eq, nat_lt, bit_and, ◌&&◌, ◌||◌, not, if◌then◌else◌, List, [], ◌∷◌, ◌++◌, length, map, Option, Some, None, Result, Ok, Err}
use Rattle.std.specs.List.{list_any}
use Rattle.std.specs.Option.{option_or}
use Rattle.kmn_base.specs.declared.codes.Code.{Code}
use Rattle.kmn_base.specs.declared.codes.Code.TheVariants.{V01, V02, V03, V04, V05, V06, V07, V08, V09, V10, V11, V12, V13, V14, V15, V16}
use Rattle.kmn_base.specs.declared.limits.TheConstants.{FILE_NAME_UNITS, STORE_ELEMENTS, CONTEXT_ITEMS, OUTPUT_ITEMS, STORES, GROUPS, RECORDS, ALL_ELEMENTS, PICTURE_BYTES, FILE_BYTES}
use Rattle.kmn_base.specs.declared.units.UnitItem.{UnitItem}
use Rattle.kmn_base.specs.declared.units.BadUnits.{BadUnits}
use Rattle.kmn_base.specs.declared.units.BadKind.{BadKind}
use Rattle.kmn_base.specs.declared.units.BadKind.TheVariants.{U2}
use Rattle.kmn_base.specs.Spelling.{unit_bytes}
use Rattle.item_codec.specs.declared.item_codes.TheConstants.{KEY}
use Rattle.item_codec.specs.Walk.{results_of, spelled_size}
use Rattle.kmx_format.specs.declared.places.TheConstants.{FLAGS_AT, GROUPS_AT, GROUP_COUNT_AT, GROUP_MATCH_AT, GROUP_NOMATCH_AT, GROUP_RULES_AT, GROUP_RULE_COUNT_AT, IDENTIFIER, IDENTIFIER_AT, PICTURE_AT, PICTURE_SIZE_AT, RULE_CONTEXT_AT, RULE_FLAGS_AT, RULE_OUTPUT_AT, START_ANSI_AT, START_UNICODE_AT, STORES_AT, STORE_COUNT_AT, STORE_ELEMENTS_AT, STORE_NAME_AT, VERSION_AT}
use Rattle.kmx_format.specs.declared.sizes.TheConstants.{GROUP_BYTES, HEADER_BYTES, RULE_BYTES, STORE_BYTES}
use Rattle.kmx_format.specs.TablesOf.{word_at, string_at, items_of, uses_keys_at}
use Rattle.kmx_format.specs.Versions.{is_version}
use Rattle.kmn_base.specs.declared.keys.TheConstants.{SHIFT_FLAGS}
use Rattle.rule_model.specs.declared.system.TheConstants.{NO_GROUP}
use Rattle.kmx_verifier.specs.declared.faults.Fault.{Fault}
use Rattle.kmx_verifier.specs.declared.faults.VerifyError.{VerifyError}
use Rattle.kmx_verifier.specs.declared.faults.VerifyError.TheVariants.{Refused, Memory}
use Rattle.kmx_verifier.specs.declared.faults.StringKind.{StringKind}
use Rattle.kmx_verifier.specs.declared.faults.StringKind.TheVariants.{Store, Context, Output, Match}
use Rattle.kmx_verifier.specs.declared.faults.Target.{Target}
use Rattle.kmx_view.specs.View.{is_within, is_ended, store_count, group_count}
use Rattle.kmx_verifier.specs.Items.{is_permitted, code_of, stores_named, groups_named, target_of, points_right}

-- the fault with a code at a place, if a condition holds
abbrev pub broken : Code → ℕ → Bool → Option Fault
broken code at condition = if condition then Some (record { code = code; at = at; unit = 0 }) else None

-- the fault V14 at a place, with the code that the refusal names, if a condition holds
abbrev pub broken_by : ℕ → ℕ → Bool → Option Fault
broken_by unit at condition = if condition then Some (record { code = V14; at = at; unit = unit }) else None

-- the first fault that a list of steps finds
abbrev pub first_fault : List (Option Fault) → Option Fault
first_fault [] = None
first_fault (step ∷ steps) = option_or step (first_fault steps)

-- an item names a store or a group whose number, counted from 1, is greater than the count
abbrev pub names_outside : List ℕ → UnitItem → Bool
names_outside bytes item = list_any (nat_lt (store_count bytes)) (stores_named item) || list_any (nat_lt (group_count bytes)) (groups_named item)

-- the fault of an item: V14 if it is not allowed in a string of this kind; V12 if it names a store or group outside; V13 if
-- its offset does not point at an allowed target
abbrev pub item_fault : List ℕ → StringKind → List Target → UnitItem → ℕ → Option Fault
item_fault bytes kind targets item at = first_fault (
    broken_by (code_of item) at (not (is_permitted kind item))
    ∷ broken V12 at (names_outside bytes item)
    ∷ broken V13 at (not (points_right targets item))
    ∷ [])

-- the fault of a place at which no item is spelled: V14 for a code that no item has, else V11
abbrev pub spelling_fault : ℕ → BadKind → ℕ → Fault
spelling_fault at U2 code = record { code = V14; at = at; unit = code }
spelling_fault at _ code = record { code = V11; at = at; unit = 0 }

-- the first fault of the items of a string, whose offsets point into a context
abbrev pub walk_fault : List ℕ → StringKind → List Target → ℕ → List (Result UnitItem BadUnits) → Option Fault
walk_fault bytes kind targets at [] = None
walk_fault bytes kind targets at (Err bad ∷ results) = Some (spelling_fault at bad.kind bad.code)
walk_fault bytes kind targets at (Ok item ∷ results) =
    option_or (item_fault bytes kind targets item at) (walk_fault bytes kind targets (at + spelled_size item) results)

-- the first fault of the items of a context, whose offsets point at the items before
abbrev pub context_fault : List ℕ → List Target → ℕ → List (Result UnitItem BadUnits) → Option Fault
context_fault bytes before at [] = None
context_fault bytes before at (Err bad ∷ results) = Some (spelling_fault at bad.kind bad.code)
context_fault bytes before at (Ok item ∷ results) =
    option_or (item_fault bytes Context before item at) (context_fault bytes (before ++ target_of item ∷ []) (at + spelled_size item) results)

-- the results of reading the items of the string at an offset
abbrev pub read_at : List ℕ → ℕ → List (Result UnitItem BadUnits)
read_at bytes offset = results_of (unit_bytes (string_at bytes offset))

-- the number of items of the string at an offset
abbrev pub item_count : List ℕ → ℕ → ℕ
item_count bytes offset = length (items_of (string_at bytes offset))

-- the fault of the string whose offset is stored at a place: V10 if it is outside the file or has no zero unit, else its items
abbrev pub read_fault : List ℕ → StringKind → List Target → ℕ → Option Fault
read_fault bytes kind targets place =
    option_or (broken V10 place (not (is_ended bytes (word_at bytes place))))
    (walk_fault bytes kind targets (word_at bytes place) (read_at bytes (word_at bytes place)))

-- the fault that `read_fault` finds, else V15 if the string has too many items
abbrev pub string_fault : List ℕ → StringKind → List Target → ℕ → (ℕ → Bool) → Option Fault
string_fault bytes kind targets place too_many =
    option_or (read_fault bytes kind targets place) (broken V15 place (too_many (item_count bytes (word_at bytes place))))

-- the fault of the context whose offset is stored at a place: V10 as in `read_fault`, else its items, whose offsets point back
abbrev pub read_context_fault : List ℕ → ℕ → Option Fault
read_context_fault bytes place =
    option_or (broken V10 place (not (is_ended bytes (word_at bytes place))))
    (context_fault bytes [] (word_at bytes place) (read_at bytes (word_at bytes place)))

abbrev pub context_string_fault : List ℕ → ℕ → Option Fault
context_string_fault bytes place =
    option_or (read_context_fault bytes place) (broken V15 place (nat_lt CONTEXT_ITEMS (item_count bytes (word_at bytes place))))

-- the fault of a name: V10 if it is outside the file or has no zero unit, V15 if it is too long
abbrev pub name_fault : List ℕ → ℕ → Option Fault
name_fault bytes place = first_fault (
    broken V10 place (not (is_ended bytes (word_at bytes place)))
    ∷ broken V15 place (nat_lt FILE_NAME_UNITS (length (string_at bytes (word_at bytes place))))
    ∷ [])

-- a number of elements is too large for a store, or for all stores with the elements before it
abbrev pub too_many_elements : ℕ → ℕ → Bool
too_many_elements before count = nat_lt STORE_ELEMENTS count || nat_lt ALL_ELEMENTS (before + count)

-- the first fault of a store: its name, then its content
abbrev pub store_fault : List ℕ → ℕ → ℕ → Option Fault
store_fault bytes before place = first_fault (
    name_fault bytes (place + STORE_NAME_AT)
    ∷ string_fault bytes Store [] (place + STORE_ELEMENTS_AT) (too_many_elements before)
    ∷ [])

-- the number of elements of the store whose record is at a place
abbrev pub elements_in : List ℕ → ℕ → ℕ
elements_in bytes place = item_count bytes (word_at bytes (place + STORE_ELEMENTS_AT))

-- the first fault of the stores in order, with the number of elements before them
abbrev pub stores_fault : List ℕ → ℕ → ℕ → ℕ → Option Fault
stores_fault bytes before place zero = None
stores_fault bytes before place (suc count) = option_or (store_fault bytes before place) (stores_fault bytes (before + elements_in bytes place) (place + STORE_BYTES) count)

-- what offsets into the context of a record can point at
abbrev pub context_targets : List ℕ → ℕ → List Target
context_targets bytes offset = map target_of (items_of (string_at bytes offset))

-- V14 with the code of a virtual key, if the flags of a key in a group that uses keys have a bit that no key has
abbrev pub flags_fault : List ℕ → Bool → ℕ → Option Fault
flags_fault bytes using_keys place =
    broken_by KEY place (using_keys && not (nat_eq (bit_and (word_at bytes place) SHIFT_FLAGS) (word_at bytes place)))

-- the first fault of a record: its flags, its context, its output
abbrev pub record_fault : List ℕ → Bool → ℕ → Option Fault
record_fault bytes using_keys place = first_fault (
    flags_fault bytes using_keys (place + RULE_FLAGS_AT)
    ∷ context_string_fault bytes (place + RULE_CONTEXT_AT)
    ∷ string_fault bytes Output (context_targets bytes (word_at bytes (place + RULE_CONTEXT_AT))) (place + RULE_OUTPUT_AT) (nat_lt OUTPUT_ITEMS)
    ∷ [])

-- the first fault of the records in order
abbrev pub records_fault : List ℕ → Bool → ℕ → ℕ → Option Fault
records_fault bytes using_keys place zero = None
records_fault bytes using_keys place (suc count) = option_or (record_fault bytes using_keys place) (records_fault bytes using_keys (place + RULE_BYTES) count)

-- the fault of a group's records as an array: V15 if they pass the limit with the records before, V09 if they aren't in the file
abbrev pub records_place_fault : List ℕ → ℕ → ℕ → Option Fault
records_place_fault bytes before place = first_fault (
    broken V15 (place + GROUP_RULE_COUNT_AT) (nat_lt RECORDS (before + word_at bytes (place + GROUP_RULE_COUNT_AT)))
    ∷ broken V09 (place + GROUP_RULES_AT) (nat_lt 0 (word_at bytes (place + GROUP_RULE_COUNT_AT)) && not (is_within bytes (word_at bytes (place + GROUP_RULES_AT)) (RULE_BYTES * word_at bytes (place + GROUP_RULE_COUNT_AT))))
    ∷ [])

-- the first fault of the strings of a group: its name, match and nomatch
abbrev pub group_strings_fault : List ℕ → ℕ → Option Fault
group_strings_fault bytes place = first_fault (
    name_fault bytes place
    ∷ string_fault bytes Match [] (place + GROUP_MATCH_AT) (nat_lt OUTPUT_ITEMS)
    ∷ string_fault bytes Match [] (place + GROUP_NOMATCH_AT) (nat_lt OUTPUT_ITEMS)
    ∷ [])

-- the first fault of a group: its count and key array, its strings, then each record
abbrev pub group_fault : List ℕ → ℕ → ℕ → Option Fault
group_fault bytes before place = first_fault (
    records_place_fault bytes before place
    ∷ group_strings_fault bytes place
    ∷ records_fault bytes (uses_keys_at bytes place) (word_at bytes (place + GROUP_RULES_AT)) (word_at bytes (place + GROUP_RULE_COUNT_AT))
    ∷ [])

-- the first fault of the groups in order, with the number of records before them
abbrev pub groups_fault : List ℕ → ℕ → ℕ → ℕ → Option Fault
groups_fault bytes before place zero = None
groups_fault bytes before place (suc count) = option_or (group_fault bytes before place) (groups_fault bytes (before + word_at bytes (place + GROUP_RULE_COUNT_AT)) (place + GROUP_BYTES) count)

-- the number that the header has if there is no start group
abbrev pub no_group : ℕ
no_group = NO_GROUP

-- the fault of the length of the file
unfoldable pub size_fault : List ℕ → Option Fault
size_fault bytes = first_fault (
    broken V15 0 (nat_lt FILE_BYTES (length bytes))
    ∷ broken V01 (length bytes) (nat_lt (length bytes) HEADER_BYTES)
    ∷ [])

-- the first fault of the numbers of the header
unfoldable pub header_fault : List ℕ → Option Fault
header_fault bytes = first_fault (
    broken V02 IDENTIFIER_AT (not (nat_eq (word_at bytes IDENTIFIER_AT) IDENTIFIER))
    ∷ broken V03 VERSION_AT (not (is_version (word_at bytes VERSION_AT)))
    ∷ broken V04 FLAGS_AT (nat_lt 0x1F (word_at bytes FLAGS_AT))
    ∷ broken V15 STORE_COUNT_AT (nat_lt STORES (store_count bytes))
    ∷ broken V15 GROUP_COUNT_AT (nat_lt GROUPS (group_count bytes))
    ∷ broken V05 START_UNICODE_AT (nat_eq (word_at bytes START_UNICODE_AT) no_group)
    ∷ broken V06 START_ANSI_AT (not (nat_eq (word_at bytes START_ANSI_AT) no_group) && not (nat_lt (word_at bytes START_ANSI_AT) (group_count bytes)))
    ∷ broken V06 START_UNICODE_AT (not (nat_lt (word_at bytes START_UNICODE_AT) (group_count bytes)))
    ∷ [])

-- the first fault of the arrays and the bitmap
unfoldable pub arrays_fault : List ℕ → Option Fault
arrays_fault bytes = first_fault (
    broken V07 STORES_AT (nat_lt 0 (store_count bytes) && not (is_within bytes (word_at bytes STORES_AT) (STORE_BYTES * store_count bytes)))
    ∷ broken V08 GROUPS_AT (nat_lt 0 (group_count bytes) && not (is_within bytes (word_at bytes GROUPS_AT) (GROUP_BYTES * group_count bytes)))
    ∷ broken V16 PICTURE_AT (nat_lt 0 (word_at bytes PICTURE_SIZE_AT) && (not (is_within bytes (word_at bytes PICTURE_AT) (word_at bytes PICTURE_SIZE_AT)) || nat_lt PICTURE_BYTES (word_at bytes PICTURE_SIZE_AT)))
    ∷ [])

-- the first fault of the file, if any
unfoldable pub fault_of : List ℕ → Option Fault
fault_of bytes = first_fault (
    size_fault bytes
    ∷ header_fault bytes
    ∷ arrays_fault bytes
    ∷ stores_fault bytes 0 (word_at bytes STORES_AT) (store_count bytes)
    ∷ groups_fault bytes 0 (word_at bytes GROUPS_AT) (group_count bytes)
    ∷ [])

-- the file has no fault
abbrev pub IsValid : List ℕ → Type 0
IsValid bytes = fault_of bytes ≡ None

-- an error is the specified fault; if a result is `Ok`, there is no fault
abbrev pub Tells : {A : Type 0} → Option Fault → Result A Fault → Type 0
Tells fault (Ok x) = fault ≡ None
Tells fault (Err found) = fault ≡ Some found

-- an error other than `Memory` is a fault that has a property
abbrev pub IsRefusal : VerifyError → (Fault → Type 0) → Type 0
IsRefusal (Refused found) holds = holds found
IsRefusal Memory holds = Unit {0}

-- an error is the specified fault or `Memory`; if a result is `Ok`, there is no fault and a property holds
abbrev pub ReportsFault : {A : Type 0} → Option Fault → Type 0 → Result A VerifyError → Type 0
ReportsFault fault holds (Ok x) = (fault ≡ None) × holds
ReportsFault fault holds (Err error) = IsRefusal error (λ found. fault ≡ Some found)
