-- The keyboard that the source of a load means, and the presses of its script.
use Rattle.std.specs.Prelude.{ℕ, zero, suc, ◌+◌, true, List, [], ◌∷◌, codes, None}
use Rattle.kmn_base.specs.declared.events.Event.{Event}
use Rattle.kmn_base.specs.declared.events.Event.TheVariants as event
use Rattle.kmn_base.specs.declared.keys.KeyPress.{KeyPress}
use Rattle.kmn_base.specs.declared.keys.RuleKey.TheVariants as key
use Rattle.rule_model.specs.System.{system_options}
use Rattle.rule_model.specs.Keyboard.{Named, IsChar, PutChar, KeyPattern, OneKey, RuleMeaning, GroupMeaning, Keyboard, Best}
use Rattle.load_maker.specs.declared.load.TheConstants.{FIRST}

-- the key K_A, with no shift key
abbrev pub key_a : KeyPattern
key_a = OneKey (key.Virtual 0x4000 65)

-- the first rule outputs the first character; each later rule removes the character of the rule before it and outputs the next one
abbrev pub load_rule : ℕ → RuleMeaning
load_rule zero = record { line = 3; context = []; key = key_a; output = PutChar FIRST ∷ [] }
load_rule (suc i) = record { line = i + 4; context = IsChar (FIRST + i) ∷ []; key = key_a; output = PutChar (FIRST + suc i) ∷ [] }

-- `count` rules from the rule of a number on
abbrev pub rules_from : ℕ → ℕ → List RuleMeaning
rules_from i zero = []
rules_from i (suc count) = load_rule i ∷ rules_from (suc i) count

-- the keyboard of a load: one group with the first rule and `n` rules after it, no store of its source, and no cased key
abbrev pub load_group : ℕ → GroupMeaning
load_group n = record { name = codes "main"; using_keys = true; rules = rules_from 0 (suc n); on_match = None; on_nomatch = None }

abbrev pub load_keyboard : ℕ → Keyboard
load_keyboard n = record { start = Named (codes "main"); stores = system_options; groups = load_group n ∷ []; dictionary = []; cased = []; choice = Best }

abbrev pub press_a : KeyPress
press_a = record { code = 65; mods = 0 }

abbrev pub press_space : KeyPress
press_space = record { code = 32; mods = 0 }

-- `count` presses of K_A, and one of K_SPACE
abbrev pub presses : ℕ → List Event
presses zero = event.Key press_space ∷ []
presses (suc count) = event.Key press_a ∷ presses count

-- a press of K_A for each rule, including the first one, and a press of K_SPACE
abbrev pub load_events : ℕ → List Event
load_events n = presses (suc n)
