-- The two records of a rule whose key exchanges shift and caps lock.
use Rattle.std.specs.Prelude.{◌≡◌, ℕ, true, false, ◌&&◌, not, bit_and, bit_or, nat_eq, if◌then◌else◌, List, Option, Some, None}
use Rattle.kmn_base.specs.declared.keys.RuleKey.TheVariants as key
use Rattle.kmn_base.specs.declared.keys.KeyPress.{KeyPress}
use Rattle.virtual_keys.specs.Fits.{shift, caps, no_caps, has, key_fits}
use Rattle.kmn_base.specs.declared.items.Item.{Item}
use Rattle.rule_model.specs.declared.event_state.Caught.{Caught}
use Rattle.rule_model.specs.Keyboard.{OneKey, RuleMeaning}
use Rattle.rule_model.specs.Match.{Content}
use Rattle.rule_model.specs.Hold.{is_exchanged, exchanged_fit, holds_with, holds}

-- half 0 is for presses without caps lock
abbrev pub small_flags : ℕ → ℕ
small_flags flags = bit_or flags no_caps

-- the flags with SHIFT named exactly if it was not named before
abbrev pub with_other_shift : ℕ → ℕ
with_other_shift flags = if has flags shift then bit_and flags 0xFFFF_FFEF else bit_or flags shift

-- half 1 is for presses with caps lock
abbrev pub large_flags : ℕ → ℕ
large_flags flags = bit_or (with_other_shift flags) caps

-- the flags of a half
abbrev pub half_flags : ℕ → ℕ → ℕ
half_flags half flags = if nat_eq half 0 then small_flags flags else large_flags flags

-- without caps lock, half 0 fits exactly where the cased key does and half 1 does not fit; with caps lock, half 1 does and half 0 does
-- not
pub record FitByHalves (flags code : ℕ) (press : KeyPress) : Type 0 where
  pub small : key_fits (key.Virtual (small_flags flags) code) press ≡ (not (has press.mods caps) && (nat_eq code press.code && exchanged_fit flags press.mods))
  pub large : key_fits (key.Virtual (large_flags flags) code) press ≡ (has press.mods caps && (nat_eq code press.code && exchanged_fit flags press.mods))

abbrev pub CasedKeysFitByHalves : Type 0
CasedKeysFitByHalves = (flags code : ℕ) (press : KeyPress) → has flags caps ≡ false → has flags no_caps ≡ false → FitByHalves flags code press

-- a rule with one of the halves of its key as its key
abbrev pub half_rule : RuleMeaning → ℕ → ℕ → ℕ → RuleMeaning
half_rule rule half flags code = record rule { key = OneKey (key.Virtual (half_flags half flags) code) }

-- what the first of two rules that holds has caught
abbrev pub either_caught : Option Caught → Option Caught → Option Caught
either_caught None other = other
either_caught (Some caught) other = Some caught

-- a rule with a cased key holds exactly where one of its two halves holds in a file, and catches the same
abbrev pub CasedRulesHoldByHalves : Type 0
CasedRulesHoldByHalves =
    (cased : List ℕ) (content : Content) (left : List Item) (press : KeyPress) (rule : RuleMeaning) (flags code : ℕ)
    → rule.key ≡ OneKey (key.Virtual flags code) → is_exchanged cased flags code ≡ true
    → holds_with cased content left press rule ≡ either_caught (holds content left press (half_rule rule 0 flags code)) (holds content left press (half_rule rule 1 flags code))
