-- A keyboard as its meaning models it: by names as in a source, by numbers as in a compiled keyboard.
use Rattle.std.specs.Prelude.{ℕ, Bool, List, map, Option}
use Rattle.kmn_base.specs.declared.items.Element.{Element}
use Rattle.kmn_base.specs.declared.keys.RuleKey.{RuleKey}

-- a reference to a store or a group, by name or by number, or to one of the two system options
pub data Ref : Type 0 where
  Named : (name : List ℕ) → Ref
  Numbered : (n : ℕ) → Ref
  Layer : Ref
  Platform : Ref

-- an item of a context: an item of the text that it requires, or a condition; offsets count the context's items from 1
pub data Pattern : Type 0 where
  IsChar : (c : ℕ) → Pattern
  IsMark : (m : ℕ) → Pattern
  IsAny : (store : Ref) → Pattern
  IsNotAny : (store : Ref) → Pattern
  IsIndex : (store : Ref) → (offset : ℕ) → Pattern
  IsContextAt : (offset : ℕ) → Pattern
  IfEqual : (store : Ref) → (value : List Element) → Pattern
  IfUnequal : (store : Ref) → (value : List Element) → Pattern
  AtStart : Pattern

-- an item of an output, which has an effect
pub data Output : Type 0 where
  PutChar : (c : ℕ) → Output
  PutMark : (m : ℕ) → Output
  PutIndex : (store : Ref) → (offset : ℕ) → Output
  PutContext : Output
  PutContextAt : (offset : ℕ) → Output
  PutStore : (store : Ref) → Output
  UseGroup : (group : Ref) → Output
  SetOption : (store : Ref) → (value : List Element) → Output
  SaveOption : (store : Ref) → Output
  ResetOption : (store : Ref) → Output
  MakeBeep : Output
  DoNothing : Output
  StopEvent : Output

-- the key of a rule: one key, or each element of a store
pub data KeyPattern : Type 0 where
  OneKey : (key : RuleKey) → KeyPattern
  KeyIn : (store : Ref) → KeyPattern

-- a rule with the line of its source
pub record RuleMeaning : Type 0 where
  pub line : ℕ
  pub context : List Pattern
  pub key : KeyPattern
  pub output : List Output

-- a group; its match and nomatch outputs may be absent
pub record GroupMeaning : Type 0 where
  pub name : List ℕ
  pub using_keys : Bool
  pub rules : List RuleMeaning
  pub on_match : Option (List Output)
  pub on_nomatch : Option (List Output)

-- a store; it is an option if some condition, `set`, `save` or `reset` names it. The last two stores are the system options, which no
-- name in a rule refers to
pub record StoreMeaning : Type 0 where
  pub name : List ℕ
  pub elements : List Element
  pub is_option : Bool
  pub is_system : Bool

-- the elements of each store as the keyboard defines them
abbrev pub stated : List StoreMeaning → List (List Element)
stated stores = map (λ (store : StoreMeaning). store.elements) stores

-- which of the rules that hold is selected: the best in a source, the first in a file
pub data Choice : Type 0 where
  Best : Choice
  First : Choice

-- a keyboard: its Unicode start group, its stores followed by the two system options, its groups, the names of its key dictionary, the
-- codes of its cased keys, and its choice
pub record Keyboard : Type 0 where
  pub start : Ref
  pub stores : List StoreMeaning
  pub groups : List GroupMeaning
  pub dictionary : List (List ℕ)
  pub cased : List ℕ
  pub choice : Choice
