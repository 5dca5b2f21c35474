-- The effects that an event can queue in Keyman's own engine, counted up to 1,025. Its queue has 1,024 places, and what comes after is lost.
use Rattle.std.specs.Prelude.{ℕ, zero, suc, ◌+◌, Bool, nat_lt, min, max, List, [], length, map, slice_get, sum_by, unwrap_or}
use Rattle.std.specs.List.{fold}
use Rattle.kmn_base.specs.declared.limits.TheConstants.{EVENT_ENTRIES}
use Rattle.rule_model.specs.declared.tables.Out.{Out}
use Rattle.rule_model.specs.declared.tables.Out.TheVariants as output
use Rattle.rule_model.specs.declared.tables.Rule.{Rule}
use Rattle.rule_model.specs.declared.tables.Group.{Group}
use Rattle.rule_model.specs.declared.tables.Tables.{Tables}
use Rattle.core_constructs.specs.Outputs.{live}
use Rattle.core_constructs.specs.Marks.{group_items}

-- the sum of two counts, up to 1,025
abbrev pub counted : ℕ → ℕ → ℕ
counted a b = min 1025 (a + b)

-- the effects of an item, after a context of a length: `context` puts at most as many items
abbrev pub item_effects : ℕ → Out → ℕ
item_effects length output.Context = length
item_effects length (output.Enter group) = 0
item_effects length (output.Set store value) = 0
item_effects length (output.SetSystem id value) = 0
item_effects length (output.Reset store) = 0
item_effects length output.Nul = 0
item_effects length output.Stop = 0
item_effects length _ = 1

-- a count with the effects of these items
abbrev pub with_effects : ℕ → List Out → ℕ → ℕ
with_effects length items count = counted count (sum_by (item_effects length) items)

-- the effects of a record: its context is deleted, its output runs, and then the match output
unfoldable pub rule_effects : Group → Rule → ℕ
rule_effects group rule = with_effects 0 (live group.on_match) (with_effects (length rule.context) (live rule.output) (counted 0 (length rule.context)))

-- the effects of a group: of its nomatch output and one character, of one of its records, or 22, since K_BKSP deletes up to 21 marks and
-- one character
abbrev pub group_effects : Group → ℕ
group_effects group = fold max (max 22 (with_effects 0 (live group.on_nomatch) 1)) (map (rule_effects group) group.rules)

-- the most effects of the groups that these items enter, given those of each group
abbrev pub entered_effects : List ℕ → Out → ℕ
entered_effects groups (output.Enter group) = unwrap_or (slice_get groups group) 0
entered_effects groups _ = 0

abbrev pub chain_effects : List ℕ → Group → ℕ
chain_effects groups group = counted (group_effects group) (fold max 0 (map (entered_effects groups) (group_items group)))

-- the most effects of a chain of groups from each group on, in which each uses the next, if groups are nested at most to a depth
unfoldable pub effects_within : ℕ → List Group → List ℕ
effects_within zero groups = []
effects_within (suc depth) groups = map (chain_effects (effects_within depth groups)) groups

-- whether an event can queue more than 1,024 effects in such a chain: it enters at most 50 groups
abbrev pub overflows : Tables → Bool
overflows tables = nat_lt 1024 (unwrap_or (slice_get (effects_within EVENT_ENTRIES tables.groups) tables.start_unicode) 0)
