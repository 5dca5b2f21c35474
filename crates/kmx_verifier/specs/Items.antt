-- What the items of a file's strings may be, name and point at.
use Rattle.std.specs.Prelude.{ℕ, zero, suc, ◌+◌, ◌<◌, ◌||◌, Bool, true, false, nat_eq, List, [], ◌∷◌, Option, Some, None, slice_get, take}
use Rattle.kmn_base.specs.declared.units.UnitItem.{UnitItem}
use Rattle.kmn_base.specs.declared.units.UnitItem.TheVariants.{Char, Any, Index, Context, Nul, Enter, Stop, Beep, Dead, Key, ContextAt, NotAny, Set, Test, SystemTest, SetSystem, Save, Reset}
use Rattle.item_codec.specs.declared.item_codes.TheConstants.{ANY, BEEP, CONTEXT, CONTEXT_AT, DEAD, ENTER, INDEX, KEY, NOT_ANY, NUL, RESET, SAVE, SET, SET_SYSTEM, STOP, SYSTEM_TEST, TEST}
use Rattle.rule_model.specs.declared.system.TheConstants.{LAYER, PLATFORM}
use Rattle.kmx_verifier.specs.declared.contexts.TheConstants.{OFFSET_REACH}
use Rattle.kmx_verifier.specs.declared.faults.StringKind.{StringKind}
use Rattle.kmx_verifier.specs.declared.faults.StringKind.TheVariants as of
use Rattle.kmx_verifier.specs.declared.faults.Target.{Target}
use Rattle.kmx_verifier.specs.declared.faults.Target.TheVariants as target

-- the items that are allowed in a store: character, deadkey, extended
abbrev pub is_allowed_in_store : UnitItem → Bool
is_allowed_in_store (Char c) = true
is_allowed_in_store (Dead mark) = true
is_allowed_in_store (Key flags code) = true
is_allowed_in_store _ = false

-- the items that are allowed in a context: character, deadkey, any, notany, index, context(n), if, nul, and a condition on the
-- platform or the layer; a file counts their ids from 1, as it counts stores
abbrev pub is_allowed_in_context : UnitItem → Bool
is_allowed_in_context (Char c) = true
is_allowed_in_context (Dead mark) = true
is_allowed_in_context (Any store) = true
is_allowed_in_context (NotAny store) = true
is_allowed_in_context (Index store offset) = true
is_allowed_in_context (ContextAt offset) = true
is_allowed_in_context (Test store comparison value) = true
is_allowed_in_context (SystemTest system comparison value) = nat_eq system (PLATFORM + 1) || nat_eq system (LAYER + 1)
is_allowed_in_context Nul = true
is_allowed_in_context _ = false

-- the items that are allowed in a match or nomatch output: character, deadkey, use, set, save, reset, nul, beep, return, and a
-- set of the layer
abbrev pub is_allowed_in_match : UnitItem → Bool
is_allowed_in_match (Char c) = true
is_allowed_in_match (Dead mark) = true
is_allowed_in_match (Enter group) = true
is_allowed_in_match (Set store value) = true
is_allowed_in_match (SetSystem system value) = nat_eq system (LAYER + 1)
is_allowed_in_match (Save store) = true
is_allowed_in_match (Reset store) = true
is_allowed_in_match Nul = true
is_allowed_in_match Beep = true
is_allowed_in_match Stop = true
is_allowed_in_match _ = false

-- the items that are allowed in an output: the items of a match output, and index, context, context(n)
abbrev pub is_allowed_in_output : UnitItem → Bool
is_allowed_in_output (Index store offset) = true
is_allowed_in_output Context = true
is_allowed_in_output (ContextAt offset) = true
is_allowed_in_output item = is_allowed_in_match item

abbrev pub is_permitted : StringKind → UnitItem → Bool
is_permitted of.Store item = is_allowed_in_store item
is_permitted of.Context item = is_allowed_in_context item
is_permitted of.Output item = is_allowed_in_output item
is_permitted of.Match item = is_allowed_in_match item

-- the code after an item's sentinel, which a refusal names; 0 for a character, which has no sentinel
abbrev pub code_of : UnitItem → ℕ
code_of (Char c) = 0
code_of (Any store) = ANY
code_of (Index store offset) = INDEX
code_of Context = CONTEXT
code_of Nul = NUL
code_of (Enter group) = ENTER
code_of Stop = STOP
code_of Beep = BEEP
code_of (Dead mark) = DEAD
code_of (Key flags code) = KEY
code_of (ContextAt offset) = CONTEXT_AT
code_of (NotAny store) = NOT_ANY
code_of (Set store value) = SET
code_of (Test store comparison value) = TEST
code_of (Save store) = SAVE
code_of (Reset store) = RESET
code_of (SystemTest system comparison value) = SYSTEM_TEST
code_of (SetSystem system value) = SET_SYSTEM

-- the stores that an item names, counted from 1; a system option isn't one of them
abbrev pub stores_named : UnitItem → List ℕ
stores_named (Any store) = store ∷ []
stores_named (NotAny store) = store ∷ []
stores_named (Index store offset) = store ∷ []
stores_named (Set store value) = store ∷ value ∷ []
stores_named (Test store comparison value) = store ∷ value ∷ []
stores_named (SystemTest system comparison value) = value ∷ []
stores_named (SetSystem system value) = value ∷ []
stores_named (Save store) = store ∷ []
stores_named (Reset store) = store ∷ []
stores_named _ = []

-- the groups that an item names, counted from 1
abbrev pub groups_named : UnitItem → List ℕ
groups_named (Enter group) = group ∷ []
groups_named _ = []

-- what an offset finds at an item of a context
abbrev pub target_of : UnitItem → Target
target_of (Any store) = target.Any
target_of (Test store comparison value) = target.Nothing
target_of (SystemTest system comparison value) = target.Nothing
target_of Nul = target.Nothing
target_of _ = target.Pattern

abbrev pub is_any : Option Target → Bool
is_any (Some target.Any) = true
is_any _ = false

abbrev pub is_pattern : Option Target → Bool
is_pattern (Some target.Any) = true
is_pattern (Some target.Pattern) = true
is_pattern _ = false

-- the target at an offset, counted from 1
abbrev pub target_at : List Target → ℕ → Option Target
target_at targets zero = None
target_at targets (suc place) = slice_get targets place

-- the targets that offsets can reach: an offset is one unit and counts from 1
unfoldable pub reached : List Target → List Target
reached targets = take OFFSET_REACH targets

-- the offset of an item points at an allowed target: index at an any, context(n) at a pattern
abbrev pub points_right : List Target → UnitItem → Bool
points_right targets (Index store offset) = is_any (target_at targets offset)
points_right targets (ContextAt offset) = is_pattern (target_at targets offset)
points_right targets _ = true

-- the offset of an item is a unit
abbrev pub HasSmallOffset : UnitItem → Type 0
HasSmallOffset (Index store offset) = offset < 65536
HasSmallOffset (ContextAt offset) = offset < 65536
HasSmallOffset _ = Unit {0}
