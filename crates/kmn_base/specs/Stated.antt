-- The limits, the shift flags and the sentinel as numbers. Definitions use the constants of the code, so these state their values.
use Rattle.std.specs.Prelude.{◌≡◌}
use Rattle.kmn_base.specs.declared.limits.TheConstants.{TEXT_BYTES, FILE_BYTES, PICTURE_BYTES, CONTEXT_ITEMS, OUTPUT_ITEMS, STORE_ELEMENTS, ALL_ELEMENTS, STORES, GROUPS, RECORDS, KEY_NAMES, DEADKEYS, SOURCE_NAME_CHARS, FILE_NAME_UNITS, SCRIPT_EVENTS, SCRIPT_STRING_CHARS, SHADOW_RECORDS, LOAD_RULES, FIELDS, TEXT_CHARS, TEXT_CHARS_AT_KEY, EVENT_ENTRIES, EVENT_PUTS, WINDOW_ITEMS}
use Rattle.kmn_base.specs.declared.keys.TheConstants.{SHIFT_FLAGS, LEFT_CONTROL, RIGHT_CONTROL, LEFT_ALT, RIGHT_ALT, SHIFT, EITHER_CONTROL, EITHER_ALT, CAPS, NO_CAPS, VIRTUAL_KEY}
use Rattle.kmn_base.specs.declared.units.TheConstants.{SENTINEL}
use Rattle.kmn_base.specs.declared.texts.TheConstants.{NO_CHARACTER}

-- each limit is this number
pub record LimitsAreAsStated : Type 0 where
  pub text_bytes : TEXT_BYTES ≡ 4194304
  pub file_bytes : FILE_BYTES ≡ 67108864
  pub picture_bytes : PICTURE_BYTES ≡ 1048576
  pub context_items : CONTEXT_ITEMS ≡ 60
  pub output_items : OUTPUT_ITEMS ≡ 1024
  pub store_elements : STORE_ELEMENTS ≡ 65535
  pub all_elements : ALL_ELEMENTS ≡ 4000000
  pub stores : STORES ≡ 20000
  pub groups : GROUPS ≡ 1000
  pub records : RECORDS ≡ 100000
  pub key_names : KEY_NAMES ≡ 65280
  pub deadkeys : DEADKEYS ≡ 5000
  pub source_name_chars : SOURCE_NAME_CHARS ≡ 80
  pub file_name_units : FILE_NAME_UNITS ≡ 255
  pub script_events : SCRIPT_EVENTS ≡ 100000
  pub script_string_chars : SCRIPT_STRING_CHARS ≡ 4096
  pub shadow_records : SHADOW_RECORDS ≡ 2000
  pub load_rules : LOAD_RULES ≡ 2000
  pub fields : FIELDS ≡ 64
  pub text_chars : TEXT_CHARS ≡ 1000000
  pub text_chars_at_key : TEXT_CHARS_AT_KEY ≡ 995000
  pub event_entries : EVENT_ENTRIES ≡ 50
  pub event_puts : EVENT_PUTS ≡ 4096
  pub window_items : WINDOW_ITEMS ≡ 64

-- each shift flag is this bit, or these bits
pub record ShiftFlagsAreAsStated : Type 0 where
  pub shift_flags : SHIFT_FLAGS ≡ 0x437F
  pub left_control : LEFT_CONTROL ≡ 0x0001
  pub right_control : RIGHT_CONTROL ≡ 0x0002
  pub left_alt : LEFT_ALT ≡ 0x0004
  pub right_alt : RIGHT_ALT ≡ 0x0008
  pub shift : SHIFT ≡ 0x0010
  pub either_control : EITHER_CONTROL ≡ 0x0020
  pub either_alt : EITHER_ALT ≡ 0x0040
  pub caps : CAPS ≡ 0x0100
  pub no_caps : NO_CAPS ≡ 0x0200
  pub virtual_key : VIRTUAL_KEY ≡ 0x4000

-- the unit that begins an item of a compiled string, and a number that no character has
pub record SignsAreAsStated : Type 0 where
  pub sentinel : SENTINEL ≡ 0xFFFF
  pub no_character : NO_CHARACTER ≡ 0x11_0000
