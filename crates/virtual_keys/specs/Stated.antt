-- The codes of keys as numbers. Definitions use the constants of the code, so these state their values.
use Rattle.std.specs.Prelude.{◌≡◌}
use Rattle.virtual_keys.specs.declared.codes.TheConstants.{K_BKSP, K_TAB, K_ENTER, K_END, K_HOME, K_LEFT, K_RIGHT, K_DEL}
use Rattle.virtual_keys.specs.declared.dictionary.TheConstants.{FIRST_OWN_CODE}

-- each of these keys has this code, and the first name of a dictionary has this one
pub record CodesAreAsStated : Type 0 where
  pub k_bksp : K_BKSP ≡ 8
  pub k_tab : K_TAB ≡ 9
  pub k_enter : K_ENTER ≡ 13
  pub k_end : K_END ≡ 35
  pub k_home : K_HOME ≡ 36
  pub k_left : K_LEFT ≡ 37
  pub k_right : K_RIGHT ≡ 39
  pub k_del : K_DEL ≡ 46
  pub first_own_code : FIRST_OWN_CODE ≡ 256
