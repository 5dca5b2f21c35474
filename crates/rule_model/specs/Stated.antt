-- The ids of system stores as numbers. Definitions use the constants of the code, so these state their values.
use Rattle.std.specs.Prelude.{◌≡◌}
use Rattle.rule_model.specs.declared.system.TheConstants.{BITMAP, VERSION, MNEMONIC_LAYOUT, PLATFORM, LAYER, KEY_DICTIONARY, CASED_KEYS, LEFT_OUT, DROPPED, NO_GROUP}

-- each system store has this id
pub record IdsAreAsStated : Type 0 where
  pub bitmap : BITMAP ≡ 1
  pub version : VERSION ≡ 8
  pub mnemonic_layout : MNEMONIC_LAYOUT ≡ 17
  pub platform : PLATFORM ≡ 31
  pub layer : LAYER ≡ 33
  pub key_dictionary : KEY_DICTIONARY ≡ 34
  pub cased_keys : CASED_KEYS ≡ 39
  pub left_out : LEFT_OUT ≡ 0xFFFE
  pub dropped : DROPPED ≡ 0xFFFF
  pub no_group : NO_GROUP ≡ 0xFFFF_FFFF
