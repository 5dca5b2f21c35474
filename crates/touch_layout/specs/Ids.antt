-- Which ids a key of a layout can have, and which of them a keyboard has a record for.
use Rattle.std.specs.Prelude.{ℕ, Bool, false, ◌&&◌, ◌||◌, not, nat_eq, nat_lt, nat_le, List, [], ◌∷◌, length, take, flat_map, codes, is_some, option_to_list, ◌==◌}
use Rattle.std.specs.Option.{option_map_or}
use Rattle.std.specs.List.{list_any, list_all, starts_with}
use Rattle.kmn_base.specs.declared.keys.RuleKey.{RuleKey}
use Rattle.kmn_base.specs.declared.keys.RuleKey.TheVariants.{Any, Char, Virtual}
use Rattle.kmn_base.specs.declared.limits.TheConstants.{SOURCE_NAME_CHARS}
use Rattle.kmn_base.specs.Names.{same_name}
use Rattle.kmn_base.specs.Texts.{character_count}
use Rattle.virtual_keys.specs.Dictionary.{name_chars, name_in}
use Rattle.virtual_keys.specs.Keys.{key_code}
use Rattle.rule_model.specs.declared.tables.Rule.{Rule}
use Rattle.rule_model.specs.declared.tables.Group.{Group}

-- the names of keys that a layout can have and a source can't
unfoldable pub layout_names : List (List ℕ)
layout_names =
    codes "K_SHIFT" ∷ codes "K_CONTROL" ∷ codes "K_ALT" ∷ codes "K_CAPS" ∷ codes "K_NUMLOCK" ∷ codes "K_SCROLL" ∷
    codes "K_LOPT" ∷ codes "K_ROPT" ∷ codes "K_NUMERALS" ∷ codes "K_SYMBOLS" ∷ codes "K_CURRENCIES" ∷ codes "K_UPPER" ∷
    codes "K_LOWER" ∷ codes "K_ALPHA" ∷ codes "K_SHIFTED" ∷ codes "K_ALTGR" ∷ codes "K_TABBACK" ∷ codes "K_TABFWD" ∷
    codes "K_LSHIFT" ∷ codes "K_RSHIFT" ∷ codes "K_LCONTROL" ∷ codes "K_RCONTROL" ∷ codes "K_LCTRL" ∷ codes "K_RCTRL" ∷
    codes "K_LALT" ∷ codes "K_RALT" ∷ []

-- the bytes that no word contains: blanks, line ends, quotes, ( ) [ ] > + = , and U+0000
abbrev pub word_ends : List ℕ
word_ends = 0 ∷ 9 ∷ 10 ∷ 13 ∷ 32 ∷ 34 ∷ 39 ∷ 40 ∷ 41 ∷ 91 ∷ 93 ∷ 62 ∷ 43 ∷ 61 ∷ 44 ∷ []

-- whether a byte can occur in a word
abbrev pub is_word_byte : ℕ → Bool
is_word_byte b = not (list_any (nat_eq b) word_ends)

-- whether a text begins with U+FFFF, the sentinel of compiled strings
abbrev pub begins_with_sentinel : List ℕ → Bool
begins_with_sentinel text = starts_with (λ a b. a == b) text (0xEF ∷ 0xBF ∷ 0xBF ∷ [])

-- whether a text contains U+FFFF
abbrev pub has_sentinel : List ℕ → Bool
has_sentinel [] = false
has_sentinel (b ∷ bytes) = begins_with_sentinel (b ∷ bytes) || has_sentinel bytes

-- whether an id is T_ and at least one more character, with at most 80 characters, bytes that can occur in a word, and no U+FFFF
abbrev pub is_touch_name : List ℕ → Bool
is_touch_name id =
    same_name (take 2 id) (codes "T_") && nat_lt 2 (length id) && nat_le (character_count id) SOURCE_NAME_CHARS
    && list_all is_word_byte id && not (has_sentinel id)

-- whether a key can have an id: the name of a key, a T_ or U_ name, or a name that only layouts have
abbrev pub is_key_id : List ℕ → Bool
is_key_id id =
    is_some (key_code id) || is_touch_name id || is_some (name_chars id) || list_any (λ name. same_name name id) layout_names

-- whether the dictionary's name for the key of a record is an id
abbrev pub is_key_of : List (List ℕ) → List ℕ → RuleKey → Bool
is_key_of dictionary id Any = false
is_key_of dictionary id (Char c) = false
is_key_of dictionary id (Virtual flags code) = option_map_or (same_name id) (name_in dictionary code) false

-- whether a record has an id as its key
abbrev pub is_record_of : List (List ℕ) → List ℕ → Rule → Bool
is_record_of dictionary id rule = is_key_of dictionary id rule.key

-- whether a group has a record with an id as its key
abbrev pub has_record_of : List (List ℕ) → List ℕ → Group → Bool
has_record_of dictionary id group = list_any (is_record_of dictionary id) group.rules

-- whether some record has an id as its key
abbrev pub has_record : List (List ℕ) → List Group → List ℕ → Bool
has_record dictionary groups id = list_any (has_record_of dictionary id) groups

-- the dictionary's name for the key of a record, if any
abbrev pub recorded_name : List (List ℕ) → RuleKey → List (List ℕ)
recorded_name dictionary Any = []
recorded_name dictionary (Char c) = []
recorded_name dictionary (Virtual flags code) = option_to_list (name_in dictionary code)

-- the names of the keys of all records, one for each record whose key has a name
abbrev pub rule_names : List (List ℕ) → List Rule → List (List ℕ)
rule_names dictionary rules = flat_map (λ (rule : Rule). recorded_name dictionary rule.key) rules

abbrev pub recorded_names : List (List ℕ) → List Group → List (List ℕ)
recorded_names dictionary groups = flat_map (λ (group : Group). rule_names dictionary group.rules) groups
