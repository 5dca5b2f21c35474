-- The codes of items as numbers. Definitions use the constants of the code, so these state their values.
use Rattle.std.specs.Prelude.{◌≡◌}
use Rattle.item_codec.specs.declared.item_codes.TheConstants.{ANY, INDEX, CONTEXT, NUL, ENTER, STOP, BEEP, DEAD, KEY, CONTEXT_AT, NOT_ANY, SET, TEST, SAVE, RESET, SYSTEM_TEST, SET_SYSTEM, UNEQUAL, EQUAL}

-- each kind of item has this code, and each comparison this number
pub record ItemCodesAreAsStated : Type 0 where
  pub any : ANY ≡ 0x01
  pub index : INDEX ≡ 0x02
  pub context : CONTEXT ≡ 0x03
  pub nul : NUL ≡ 0x04
  pub enter : ENTER ≡ 0x05
  pub stop : STOP ≡ 0x06
  pub beep : BEEP ≡ 0x07
  pub dead : DEAD ≡ 0x08
  pub key : KEY ≡ 0x0A
  pub context_at : CONTEXT_AT ≡ 0x11
  pub not_any : NOT_ANY ≡ 0x12
  pub set : SET ≡ 0x13
  pub test : TEST ≡ 0x14
  pub save : SAVE ≡ 0x15
  pub reset : RESET ≡ 0x16
  pub system_test : SYSTEM_TEST ≡ 0x17
  pub set_system : SET_SYSTEM ≡ 0x18
  pub unequal : UNEQUAL ≡ 1
  pub equal : EQUAL ≡ 2
