-- The shift states that a chart shows.
use Rattle.std.specs.Prelude.{ℕ, Bool, false, ◌&&◌, ◌||◌, nat_eq, bit_and, List, [], ◌∷◌, ◌++◌, filter, find}
use Rattle.std.specs.List.{list_any}
use Rattle.std.specs.Option.{option_map_or}
use Rattle.kmn_base.specs.declared.keys.KeyPress.{KeyPress}
use Rattle.kmn_base.specs.declared.keys.RuleKey.{RuleKey}
use Rattle.kmn_base.specs.declared.keys.RuleKey.TheVariants.{Any, Char, Virtual}
use Rattle.virtual_keys.specs.Fits.{has, caps, no_caps, key_fits}
use Rattle.rule_model.specs.declared.tables.Rule.{Rule}
use Rattle.rule_model.specs.declared.tables.Group.{Group}
use Rattle.rule_model.specs.declared.tables.Tables.{Tables}

-- the states that each chart shows: plain, SHIFT, RALT, and both
unfoldable pub fixed_states : List ℕ
fixed_states = 0 ∷ 16 ∷ 8 ∷ 24 ∷ []

-- all other states that a press can have, in the order in which a chart shows them: with caps lock, with controls and left alt, and then
-- with these and caps lock, each plain, with SHIFT, with RALT, and with both
unfoldable pub other_states : List ℕ
other_states =
    256 ∷ 272 ∷ 264 ∷ 280 ∷ 1 ∷ 17 ∷ 9 ∷ 25 ∷ 2 ∷ 18 ∷ 10 ∷ 26 ∷ 4 ∷ 20 ∷ 12 ∷ 28 ∷ 3 ∷ 19 ∷ 11 ∷ 27 ∷
    5 ∷ 21 ∷ 13 ∷ 29 ∷ 6 ∷ 22 ∷ 14 ∷ 30 ∷ 7 ∷ 23 ∷ 15 ∷ 31 ∷ 257 ∷ 273 ∷ 265 ∷ 281 ∷ 258 ∷ 274 ∷ 266 ∷ 282 ∷
    260 ∷ 276 ∷ 268 ∷ 284 ∷ 259 ∷ 275 ∷ 267 ∷ 283 ∷ 261 ∷ 277 ∷ 269 ∷ 285 ∷ 262 ∷ 278 ∷ 270 ∷ 286 ∷ 263 ∷ 279 ∷ 271 ∷ 287 ∷ []

-- the press of a key in a state
abbrev pub press_in : ℕ → ℕ → KeyPress
press_in mods code = record { code = code; mods = mods }

-- whether a virtual key fits the press of its code in a state
abbrev pub fits_in : RuleKey → ℕ → Bool
fits_in (Virtual flags code) mods = key_fits (Virtual flags code) (press_in mods code)
fits_in Any mods = false
fits_in (Char c) mods = false

-- whether a state is the first in which a key fits
abbrev pub is_first_state : RuleKey → ℕ → Bool
is_first_state key mods = option_map_or (nat_eq mods) (find (fits_in key) (fixed_states ++ other_states)) false

-- whether a key requires that caps lock is off
abbrev pub is_without_caps : RuleKey → Bool
is_without_caps (Virtual flags code) = has flags no_caps
is_without_caps Any = false
is_without_caps (Char c) = false

-- whether a key asks for a state: the first in which it fits, and the same with caps lock if the key requires that caps lock is off
abbrev pub asks_for : ℕ → RuleKey → Bool
asks_for mods key = is_first_state key mods || (is_without_caps key && has mods caps && is_first_state key (bit_and mods 255))

-- whether a record of a group asks for a state; records of a group without keys have no key
abbrev pub rule_asks_for : ℕ → Rule → Bool
rule_asks_for mods rule = asks_for mods rule.key

abbrev pub group_asks_for : ℕ → Group → Bool
group_asks_for mods group = group.using_keys && list_any (rule_asks_for mods) group.rules

-- whether a record of the tables asks for a state
abbrev pub is_asked_for : Tables → ℕ → Bool
is_asked_for tables mods = list_any (group_asks_for mods) tables.groups

-- the states of a chart: those that each chart shows, and of the others those that a record asks for
unfoldable pub chart_states : Tables → List ℕ
chart_states tables = fixed_states ++ filter (is_asked_for tables) other_states
