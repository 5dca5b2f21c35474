-- The offsets and sizes of a file as numbers. Definitions use the constants of the code, so these state their values.
use Rattle.std.specs.Prelude.{◌≡◌}
use Rattle.kmx_format.specs.declared.places.TheConstants.{IDENTIFIER, IDENTIFIER_AT, VERSION_AT, CHECKSUM_AT, STORE_COUNT_AT, GROUP_COUNT_AT, STORES_AT, GROUPS_AT, START_ANSI_AT, START_UNICODE_AT, FLAGS_AT, PICTURE_AT, PICTURE_SIZE_AT, STORE_NAME_AT, STORE_ELEMENTS_AT, GROUP_RULES_AT, GROUP_MATCH_AT, GROUP_NOMATCH_AT, GROUP_RULE_COUNT_AT, GROUP_USING_KEYS_AT, RULE_LINE_AT, RULE_FLAGS_AT, RULE_OUTPUT_AT, RULE_CONTEXT_AT}
use Rattle.kmx_format.specs.declared.sizes.TheConstants.{HEADER_BYTES, STORE_BYTES, GROUP_BYTES, RULE_BYTES}
use Rattle.kmx_format.specs.declared.versions.TheConstants.{OWN_VERSION}

-- the identifier and the version of a file that states none have these values, and each word of the header and each field of a record
-- has this offset
pub record PlacesAreAsStated : Type 0 where
  pub identifier : IDENTIFIER ≡ 0x5354_584B
  pub identifier_at : IDENTIFIER_AT ≡ 0
  pub version_at : VERSION_AT ≡ 4
  pub checksum_at : CHECKSUM_AT ≡ 8
  pub store_count_at : STORE_COUNT_AT ≡ 24
  pub group_count_at : GROUP_COUNT_AT ≡ 28
  pub stores_at : STORES_AT ≡ 32
  pub groups_at : GROUPS_AT ≡ 36
  pub start_ansi_at : START_ANSI_AT ≡ 40
  pub start_unicode_at : START_UNICODE_AT ≡ 44
  pub flags_at : FLAGS_AT ≡ 48
  pub picture_at : PICTURE_AT ≡ 56
  pub picture_size_at : PICTURE_SIZE_AT ≡ 60
  pub store_name_at : STORE_NAME_AT ≡ 4
  pub store_elements_at : STORE_ELEMENTS_AT ≡ 8
  pub group_rules_at : GROUP_RULES_AT ≡ 4
  pub group_match_at : GROUP_MATCH_AT ≡ 8
  pub group_nomatch_at : GROUP_NOMATCH_AT ≡ 12
  pub group_rule_count_at : GROUP_RULE_COUNT_AT ≡ 16
  pub group_using_keys_at : GROUP_USING_KEYS_AT ≡ 20
  pub rule_line_at : RULE_LINE_AT ≡ 4
  pub rule_flags_at : RULE_FLAGS_AT ≡ 8
  pub rule_output_at : RULE_OUTPUT_AT ≡ 12
  pub rule_context_at : RULE_CONTEXT_AT ≡ 16
  pub own_version : OWN_VERSION ≡ 0x0A00

-- the header and each kind of record have this number of bytes
pub record SizesAreAsStated : Type 0 where
  pub header_bytes : HEADER_BYTES ≡ 64
  pub store_bytes : STORE_BYTES ≡ 12
  pub group_bytes : GROUP_BYTES ≡ 24
  pub rule_bytes : RULE_BYTES ≡ 20
