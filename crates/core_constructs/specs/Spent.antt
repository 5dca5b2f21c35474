-- The units that the window of Keyman's own engine can have lost when an event enters a group. The window does not grow back to the left
-- in an event, so what a record deletes is missing, except for what outputs put since.
use Rattle.std.specs.Prelude.{ℕ, zero, suc, ◌-◌, Bool, true, false, drop, if◌then◌else◌, max, List, [], ◌∷◌, flat_map, length, Option, Some, None, replicate, slice_get, slice_set, sum_by, unwrap_or}
use Rattle.std.specs.List.{fold}
use Rattle.std.specs.Option.{option_map_or}
use Rattle.kmn_base.specs.declared.limits.TheConstants.{EVENT_ENTRIES}
use Rattle.rule_model.specs.declared.tables.Pat.{Pat}
use Rattle.rule_model.specs.declared.tables.Pat.TheVariants as pattern
use Rattle.rule_model.specs.declared.tables.Out.{Out}
use Rattle.rule_model.specs.declared.tables.Out.TheVariants as output
use Rattle.rule_model.specs.declared.tables.Rule.{Rule}
use Rattle.rule_model.specs.declared.tables.Group.{Group}
use Rattle.core_constructs.specs.Outputs.{ends, is_use, live}
use Rattle.core_constructs.specs.Reached.{entered}
use Rattle.core_constructs.specs.Widths.{char_units, with_context}
use Rattle.core_constructs.specs.declared.facts.Facts.{Facts}

-- ---- what an output puts, at least

-- the least units that an item of a context matches
abbrev pub least_width : Pat → ℕ
least_width (pattern.Char c) = char_units c
least_width (pattern.Mark mark) = 3
least_width (pattern.Any store) = 1
least_width (pattern.NotAny store) = 1
least_width (pattern.Index store offset) = 1
least_width (pattern.ContextAt offset) = 1
least_width _ = 0

-- the least units that an item of an output puts after a context
abbrev pub put_units : List Pat → Out → ℕ
put_units context (output.Char c) = char_units c
put_units context (output.Mark mark) = 3
put_units context output.Context = sum_by least_width context
put_units context (output.ContextAt offset) = option_map_or least_width (slice_get context (offset - 1)) 0
put_units context _ = 0

-- the units that are still spent after the items before the first `use`, or after all items
abbrev pub spent_after : List Pat → List Out → ℕ → ℕ
spent_after context [] spent = spent
spent_after context (item ∷ items) spent = if is_use item then spent else spent_after context items (spent - put_units context item)

abbrev pub is_context : Out → Bool
is_context output.Context = true
is_context _ = false

-- whether an output begins with `context`
abbrev pub begins_with_context : List Out → Bool
begins_with_context [] = false
begins_with_context (item ∷ items) = is_context item

-- the units that are spent after a record's items before the first `use`. Its context is deleted, except if the output begins with
-- `context`, which leaves it
abbrev pub spent_by : Facts → List Pat → List Out → ℕ → ℕ
spent_by facts context items spent =
    if begins_with_context items then spent_after context (drop 1 items) spent else spent_after context items (with_context facts context spent)

-- ---- groups

-- the units of each group, with those of one group raised to at least these
abbrev pub raised : ℕ → List ℕ → ℕ → List ℕ
raised spent units group = slice_set units group (max spent (unwrap_or (slice_get units group) 0))

-- the units of each group after items that enter groups when these units are spent
abbrev pub raised_by : ℕ → List Out → List ℕ → List ℕ
raised_by spent items units = fold (raised spent) units (flat_map entered items)

-- the same after a record, and the match output after it, in a group that is entered when these units are spent
abbrev pub after_match : ℕ → Group → Rule → List ℕ → List ℕ
after_match spent group rule units =
    if ends rule.output then units else raised_by (spent_after [] (live group.on_match) spent) (live group.on_match) units

unfoldable pub after_rule : Facts → ℕ → Group → List ℕ → Rule → List ℕ
after_rule facts spent group units rule =
    after_match (spent_by facts rule.context (live rule.output) spent) group rule
    (raised_by (spent_by facts rule.context (live rule.output) spent) (live rule.output) units)

abbrev pub after_group : Facts → ℕ → List ℕ → Group → List ℕ
after_group facts spent units group =
    raised_by (spent_after [] (live group.on_nomatch) spent) (live group.on_nomatch) (fold (after_rule facts spent group) units group.rules)

-- the same after the group of a number, which is entered when the units of `before` are spent
abbrev pub after_some : Facts → ℕ → List ℕ → Option Group → List ℕ
after_some facts spent units None = units
after_some facts spent units (Some group) = after_group facts spent units group

abbrev pub after_number : Facts → List Group → List ℕ → List ℕ → ℕ → List ℕ
after_number facts groups before units number = after_some facts (unwrap_or (slice_get before number) 0) units (slice_get groups number)

abbrev pub after_groups : Facts → List Group → List ℕ → List ℕ
after_groups facts groups before = fold (after_number facts groups before) before facts.reached

-- the units that can be spent when each group is entered, if groups are nested at most to a depth
unfoldable pub spent_within : ℕ → Facts → List Group → List ℕ
spent_within zero facts groups = replicate (length groups) 0
spent_within (suc depth) facts groups = after_groups facts groups (spent_within depth facts groups)

-- the units that can be spent when an event enters each group: it enters at most 50
abbrev pub spent_in : Facts → List Group → List ℕ
spent_in facts groups = spent_within EVENT_ENTRIES facts groups
