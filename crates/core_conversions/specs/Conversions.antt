-- Three conversions of tables for Keyman's own engine. None of them changes the trace of any list of events (`specs/Laws`).
use Rattle.std.specs.Prelude.{ℕ, Bool, true, false, not, ◌&&◌, ◌||◌, nat_eq, nat_lt, bit_and, if◌then◌else◌, List, [], ◌∷◌, length, map, drop, Option, Some, None}
use Rattle.std.specs.List.{list_all, list_any, position_or_len}
use Rattle.kmn_base.specs.declared.keys.RuleKey.{RuleKey}
use Rattle.kmn_base.specs.declared.keys.RuleKey.TheVariants as key
use Rattle.virtual_keys.specs.Fits.{has, either_control, either_alt}
use Rattle.rule_model.specs.Patterns.{is_condition, is_nul}
use Rattle.rule_model.specs.declared.tables.Pat.{Pat}
use Rattle.rule_model.specs.declared.tables.Out.{Out}
use Rattle.rule_model.specs.declared.tables.Out.TheVariants as output
use Rattle.rule_model.specs.declared.tables.Rule.{Rule}
use Rattle.rule_model.specs.declared.tables.Group.{Group}
use Rattle.rule_model.specs.declared.tables.Tables.{Tables}

-- tables with each group converted
abbrev pub with_groups : (Group → Group) → Tables → Tables
with_groups convert tables = record tables { groups = map convert tables.groups }

-- ---- `nul` before the conditions

-- a condition and a context, with the condition after each `nul` at the front of the context
abbrev pub after_nuls : Pat → List Pat → List Pat
after_nuls condition [] = condition ∷ []
after_nuls condition (item ∷ items) = if is_nul item then item ∷ after_nuls condition items else condition ∷ item ∷ items

-- a context in which no condition comes before a `nul` unless a matched item is between them
abbrev pub context_with_nul_first : List Pat → List Pat
context_with_nul_first [] = []
context_with_nul_first (item ∷ items) =
    let rest = context_with_nul_first items in
    if is_condition item then after_nuls item rest
    else if is_nul item then item ∷ rest
    else item ∷ items

abbrev pub rule_with_nul_first : Rule → Rule
rule_with_nul_first rule = record rule { context = context_with_nul_first rule.context }

abbrev pub group_with_nul_first : Group → Group
group_with_nul_first group = record group { rules = map rule_with_nul_first group.rules }

-- the first conversion: each `nul` before the first matched item of a context comes before the conditions. Keyman's own engine never
-- matches a context with a `nul` in another place
abbrev pub nul_first : Tables → Tables
nul_first tables = with_groups group_with_nul_first tables

-- ---- flags without needless sides

-- flags without LCTRL and RCTRL if they have CTRL, and without LALT and RALT if they have ALT
abbrev pub without_control_sides : ℕ → ℕ
without_control_sides flags = if has flags either_control then bit_and flags 0xFFFF_FFFC else flags

abbrev pub without_alt_sides : ℕ → ℕ
without_alt_sides flags = if has flags either_alt then bit_and flags 0xFFFF_FFF3 else flags

abbrev pub plain_flags : ℕ → ℕ
plain_flags flags = without_alt_sides (without_control_sides flags)

abbrev pub plain_key : RuleKey → RuleKey
plain_key (key.Virtual flags code) = key.Virtual (plain_flags flags) code
plain_key (key.Char c) = key.Char c
plain_key key.Any = key.Any

abbrev pub plain_rule : Rule → Rule
plain_rule rule = record rule { key = plain_key rule.key }

abbrev pub plain_group : Group → Group
plain_group group = record group { rules = map plain_rule group.rules }

-- the second conversion: no key has CTRL with a side of control, or ALT with a side of alt. Here CTRL and ALT make the sides
-- needless. Keyman's own engine never matches a key with CTRL or ALT and any side
abbrev pub plain_sides : Tables → Tables
plain_sides tables = with_groups plain_group tables

-- ---- an empty context as nomatch

-- whether an output has an effect: an item other than `nul` comes before its first `return`
abbrev pub has_effect : List Out → Bool
has_effect [] = false
has_effect (output.Stop ∷ outputs) = false
has_effect (output.Nul ∷ outputs) = has_effect outputs
has_effect (item ∷ outputs) = true

abbrev pub is_stop : Out → Bool
is_stop output.Stop = true
is_stop item = false

-- whether an item of an output depends on what the rule matched
abbrev pub reads_matched : Out → Bool
reads_matched output.Context = true
reads_matched (output.ContextAt offset) = true
reads_matched (output.Index store offset) = true
reads_matched item = false

-- whether the output of a rule can be the nomatch output of a group with a match output: it has an item, and none that depends on
-- what the rule matched. The match output does not run after a nomatch output, so it has no effect, or the output has a `return`
abbrev pub can_be_nomatch : List Out → List Out → Bool
can_be_nomatch on_match outputs =
    (nat_lt 0 (length outputs) && not (list_any reads_matched outputs)) && (list_any is_stop outputs || not (has_effect on_match))

-- whether a rule has an empty context
abbrev pub has_empty_context : Rule → Bool
has_empty_context rule = nat_eq (length rule.context) 0

-- the rules from the first one with an empty context on
abbrev pub from_empty_context : List Rule → List Rule
from_empty_context [] = []
from_empty_context (rule ∷ rules) = if has_empty_context rule then rule ∷ rules else from_empty_context rules

-- the nomatch output for a group, given its rules from the first one with an empty context on: the output of this rule, if it can be
-- one and no later rule has a context
abbrev pub nomatch_with : Group → List Rule → List Out
nomatch_with group [] = group.on_nomatch
nomatch_with group (rule ∷ rules) =
    if list_all has_empty_context rules && can_be_nomatch group.on_match rule.output then rule.output else group.on_nomatch

-- whether the output of the first of these rules can be a nomatch output, and no later rule has a context
abbrev pub can_have_nomatch : List Out → List Rule → Bool
can_have_nomatch on_match [] = false
can_have_nomatch on_match (rule ∷ rules) = list_all has_empty_context rules && can_be_nomatch on_match rule.output

-- the number of the rule whose output becomes the nomatch output of a converted group, if any
abbrev pub nomatch_rule : Group → Option ℕ
nomatch_rule group =
    let first = position_or_len has_empty_context group.rules in
    if (not group.using_keys && nat_eq (length group.on_nomatch) 0) && can_have_nomatch group.on_match (drop first group.rules) then Some first else None

-- the nomatch output of a converted group: it changes only in a group without keys and without a nomatch output
abbrev pub nomatch_of : Group → List Out
nomatch_of group =
    if not group.using_keys && nat_eq (length group.on_nomatch) 0 then nomatch_with group (from_empty_context group.rules) else group.on_nomatch

abbrev pub group_with_nomatch : Group → Group
group_with_nomatch group = record group { on_nomatch = nomatch_of group }

-- the third conversion: in a group without keys, the nomatch output is the output of the first rule with an empty context. Keyman's
-- own engine never matches an empty context in such a group
abbrev pub empty_as_nomatch : Tables → Tables
empty_as_nomatch tables = with_groups group_with_nomatch tables

-- ---- the three conversions

abbrev pub converted : Tables → Tables
converted tables = empty_as_nomatch (plain_sides (nul_first tables))
