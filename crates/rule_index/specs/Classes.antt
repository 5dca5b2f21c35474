-- What a record can match: a part for its key and a part for its last pattern, as one number.
use Rattle.std.specs.Prelude.{ℕ, ◌+◌, ◌*◌, List, [], ◌∷◌, Option, Some, None, if◌then◌else◌}
use Rattle.kmn_base.specs.declared.items.Item.{Item}
use Rattle.kmn_base.specs.declared.items.Item.TheVariants as item
use Rattle.kmn_base.specs.declared.keys.RuleKey.{RuleKey}
use Rattle.kmn_base.specs.declared.keys.RuleKey.TheVariants as key
use Rattle.kmn_base.specs.declared.keys.KeyPress.{KeyPress}
use Rattle.virtual_keys.specs.Fits.{char_of_press}
use Rattle.rule_model.specs.Keyboard.{Pattern, IsChar, IsMark, KeyPattern, OneKey, KeyIn, RuleMeaning}
use Rattle.rule_index.specs.declared.class.TheConstants.{FIRST_CODE, FIRST_MARK, PARTS}
use Rattle.rule_model.specs.Match.{takes_item}

-- the part of a key: 0 if it can match every press, else a part for its character or for its code
abbrev pub key_class : RuleKey → ℕ
key_class key.Any = 0
key_class (key.Char c) = 1 + c
key_class (key.Virtual flags code) = FIRST_CODE + code

-- the part of a key pattern: a key that is one of a store can match every press
abbrev pub key_part : KeyPattern → ℕ
key_part (OneKey key) = key_class key
key_part (KeyIn store) = 0

-- the part of a pattern: a character, a mark, or 0 for any other pattern
abbrev pub pattern_class : Pattern → ℕ
pattern_class (IsChar c) = 1 + c
pattern_class (IsMark m) = FIRST_MARK + m
pattern_class pattern = 0

-- the part of the last pattern of a rule context that takes an item, or the part `before` if no pattern takes one
abbrev pub last_class : ℕ → List Pattern → ℕ
last_class before [] = before
last_class before (pattern ∷ patterns) = last_class (if takes_item pattern then pattern_class pattern else before) patterns

-- the class with the part of a key and the part of a pattern
abbrev pub class_of : ℕ → ℕ → ℕ
class_of by_key by_item = by_key * PARTS + by_item

-- the class of a record: what it can match
abbrev pub rule_class : RuleMeaning → ℕ
rule_class rule = class_of (key_part rule.key) (last_class 0 rule.context)

-- the part that the character of a press can match, or its code if the press produces no character
abbrev pub given_class : KeyPress → Option ℕ → ℕ
given_class press None = FIRST_CODE + press.code
given_class press (Some c) = 1 + c

-- the part that the last item can match, or 0 if there is no item
abbrev pub item_class : Option Item → ℕ
item_class None = 0
item_class (Some (item.Char c)) = 1 + c
item_class (Some (item.Mark m)) = FIRST_MARK + m

-- the last item of a list, or the item `before` if the list is empty
abbrev pub last_item : Option Item → List Item → Option Item
last_item before [] = before
last_item before (x ∷ xs) = last_item (Some x) xs

-- the six classes of records that a press and a left list can match
abbrev pub matching_classes : KeyPress → List Item → List ℕ
matching_classes press left =
    let given = given_class press (char_of_press press) in
    let last = item_class (last_item None left) in
    class_of 0 last ∷ class_of 0 0 ∷ class_of given last ∷ class_of given 0 ∷ class_of (FIRST_CODE + press.code) last ∷ class_of (FIRST_CODE + press.code) 0 ∷ []
