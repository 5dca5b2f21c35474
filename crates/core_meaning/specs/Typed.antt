-- Words for worked cases: compiled keyboards written as tables, presses, and what a version of the engine types of them.
use Rattle.std.specs.Prelude.{◌≡◌, ℕ, Bool, true, false, if◌then◌else◌, List, [], ◌∷◌, map}
use Rattle.std.specs.Str.{byte}
use Rattle.kmn_base.specs.declared.items.Element.TheVariants as element
use Rattle.kmn_base.specs.declared.keys.KeyPress.{KeyPress}
use Rattle.kmn_base.specs.declared.keys.RuleKey.{RuleKey}
use Rattle.kmn_base.specs.declared.keys.RuleKey.TheVariants as key
use Rattle.rule_model.specs.declared.tables.Tables.{Tables}
use Rattle.rule_model.specs.declared.tables.Group.{Group}
use Rattle.rule_model.specs.declared.tables.Rule.{Rule}
use Rattle.rule_model.specs.declared.tables.Store.{Store}
use Rattle.rule_model.specs.declared.tables.Pat.{Pat}
use Rattle.rule_model.specs.declared.tables.Pat.TheVariants as pattern
use Rattle.rule_model.specs.declared.tables.Out.{Out}
use Rattle.rule_model.specs.declared.tables.Out.TheVariants as output
use Rattle.rule_model.specs.declared.system.TheConstants.{KEY_DICTIONARY, NO_GROUP}
use Rattle.core_meaning.specs.Events.{CoreVersion, Core16, Core18}
use Rattle.core_meaning.specs.Steps.{core_texts}

-- tables of the version 10.0 whose first group is the start group
abbrev pub file : List Store → List Group → Tables
file stores groups =
    record { version = 0x0A00; start_ansi = NO_GROUP; start_unicode = 0; stores = stores; groups = groups }

-- a group with keys or without, its match output and its nomatch output
abbrev pub with_keys : List Out → List Out → List Rule → Group
with_keys on_match on_nomatch rules = record { name = []; using_keys = true; rules = rules; on_match = on_match; on_nomatch = on_nomatch }

abbrev pub without_keys : List Out → List Out → List Rule → Group
without_keys on_match on_nomatch rules = record { name = []; using_keys = false; rules = rules; on_match = on_match; on_nomatch = on_nomatch }

-- a record with its key: a character, a key with flags, or none
abbrev pub with_key : RuleKey → List Pat → List Out → Rule
with_key wanted context output = record { line = 0; place = 0; key = wanted; context = context; output = output }

abbrev pub on_char : List Pat → ℕ → List Out → Rule
on_char context c output = with_key (key.Char c) context output

abbrev pub on_key : List Pat → ℕ → ℕ → List Out → Rule
on_key context flags code output = with_key (key.Virtual flags code) context output

abbrev pub without_key : List Pat → List Out → Rule
without_key context output = with_key key.Any context output

-- characters in a context, and in an output
abbrev pub reads : List ℕ → List Pat
reads text = map pattern.Char text

abbrev pub puts : List ℕ → List Out
puts text = map output.Char text

-- the store with the names of the keyboard's own keys
abbrev pub dictionary : List ℕ → Store
dictionary text = record { system = KEY_DICTIONARY; name = []; elements = map element.Char text }

-- a press with modifiers, one without, and presses of letter keys
abbrev pub held : ℕ → ℕ → KeyPress
held mods code = record { code = code; mods = mods }

abbrev pub press : ℕ → KeyPress
press code = held 0 code

abbrev pub keys : List ℕ → List KeyPress
keys letters = map press letters

-- the text after the last press, or a first text if there is none
abbrev pub last_text : List ℕ → List (List ℕ × Bool) → List ℕ
last_text text [] = text
last_text text (shown ∷ others) = last_text shown.0 others

-- the text that presses type, and for each whether it is passed on, as 1 or 0
abbrev pub typed_of : List (List ℕ × Bool) → List ℕ × List ℕ
typed_of all = (last_text [] all, map (λ (shown : List ℕ × Bool). if shown.1 then byte "1" else byte "0") all)

abbrev pub typed : CoreVersion → Tables → List KeyPress → List ℕ × List ℕ
typed version tables presses = typed_of (core_texts version tables false [] presses)

-- version 16 types one text of presses, and version 18 another
abbrev pub EachTypes : Tables → List KeyPress → List ℕ → List ℕ → List ℕ → List ℕ → Type 0
EachTypes tables presses text16 passed16 text18 passed18 =
    (typed Core16 tables presses ≡ (text16, passed16)) × (typed Core18 tables presses ≡ (text18, passed18))

-- both versions type the same text
abbrev pub BothType : Tables → List KeyPress → List ℕ → List ℕ → Type 0
BothType tables presses text passed = EachTypes tables presses text passed text passed
