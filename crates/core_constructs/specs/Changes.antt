-- The options that an event may set or reset once it enters a group.
use Rattle.std.specs.Prelude.{ℕ, zero, suc, Bool, false, ◌||◌, List, [], ◌∷◌, ◌++◌, flat_map, map, slice_get, unwrap_or}
use Rattle.std.specs.List.{list_any}
use Rattle.kmn_base.specs.declared.limits.TheConstants.{EVENT_ENTRIES}
use Rattle.kmn_base.specs.Rising.{is_among, rising}
use Rattle.rule_model.specs.declared.tables.Out.{Out}
use Rattle.rule_model.specs.declared.tables.Out.TheVariants as output
use Rattle.rule_model.specs.declared.tables.Group.{Group}
use Rattle.rule_model.specs.declared.tables.Tables.{Tables}
use Rattle.core_constructs.specs.Marks.{group_items}

-- the options that an item may change, given those that each group may change
abbrev pub item_changes : List (List ℕ) → Out → List ℕ
item_changes groups (output.Set store value) = store ∷ []
item_changes groups (output.Reset store) = store ∷ []
item_changes groups (output.Enter group) = unwrap_or (slice_get groups group) []
item_changes groups _ = []

abbrev pub group_changes : List (List ℕ) → Group → List ℕ
group_changes groups group = rising (flat_map (item_changes groups) (group_items group))

-- the options that each group may change if groups are nested at most to a depth
unfoldable pub changes_within : ℕ → List Group → List (List ℕ)
changes_within zero groups = []
changes_within (suc depth) groups = map (group_changes (changes_within depth groups)) groups

-- the options that each group may change: an event enters at most 50 groups, so groups are nested at most 50 deep
abbrev pub may_change : Tables → List (List ℕ)
may_change tables = changes_within EVENT_ENTRIES tables.groups

abbrev pub changes_option : List (List ℕ) → ℕ → Out → Bool
changes_option groups option item = is_among option (item_changes groups item)

-- whether an item saves an option that one of the items after it may change
abbrev pub is_saved_early : List (List ℕ) → Out → List Out → Bool
is_saved_early groups (output.Save store) items = list_any (changes_option groups store) items
is_saved_early groups _ items = false

-- whether one of the items saves an option that an item after it may change. That engine saves its value at the end of the event
abbrev pub saves_early : List (List ℕ) → List Out → Bool
saves_early groups [] = false
saves_early groups (item ∷ items) = is_saved_early groups item items || saves_early groups items

-- the same of the first items only, with more items after them
abbrev pub saves_before : List (List ℕ) → List Out → List Out → Bool
saves_before groups [] more = false
saves_before groups (item ∷ items) more = is_saved_early groups item (items ++ more) || saves_before groups items more
