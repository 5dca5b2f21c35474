-- The groups that an event can enter.
use Rattle.std.specs.Prelude.{ℕ, zero, suc, List, [], ◌∷◌, ◌++◌, flat_map, Option, Some, None, slice_get}
use Rattle.std.specs.List.{fold}
use Rattle.std.specs.Ordering.{nat_cmp}
use Rattle.std.specs.BTreeSet.{insert_key}
use Rattle.kmn_base.specs.declared.limits.TheConstants.{EVENT_ENTRIES}
use Rattle.kmn_base.specs.Rising.{rising}
use Rattle.rule_model.specs.declared.tables.Out.{Out}
use Rattle.rule_model.specs.declared.tables.Out.TheVariants as output
use Rattle.rule_model.specs.declared.tables.Rule.{Rule}
use Rattle.rule_model.specs.declared.tables.Group.{Group}
use Rattle.rule_model.specs.declared.tables.Tables.{Tables}
use Rattle.core_constructs.specs.Outputs.{live}

abbrev pub entered : Out → List ℕ
entered (output.Enter group) = group ∷ []
entered _ = []

-- the items that run if a record is used: its output and, if that has no `return`, the match output
abbrev pub played : Group → Rule → List Out
played group rule = live (rule.output ++ group.on_match)

abbrev pub rule_entered : Group → Rule → List ℕ
rule_entered group rule = flat_map entered (played group rule)

-- the groups that a `use` of a group enters: of a record with the match output, or of the nomatch output
abbrev pub group_entered : Group → List ℕ
group_entered group = flat_map (rule_entered group) group.rules ++ flat_map entered (live group.on_nomatch)

abbrev pub entered_in : Option Group → List ℕ
entered_in None = []
entered_in (Some group) = group_entered group

abbrev pub entered_from : List Group → ℕ → List ℕ
entered_from groups number = entered_in (slice_get groups number)

-- groups with those that a `use` of one of them enters
abbrev pub with_entered : List Group → List ℕ → List ℕ
with_entered groups reached = fold (insert_key nat_cmp) reached (flat_map (entered_from groups) reached)

-- the groups that are entered from a start group if groups are nested at most to a depth
unfoldable pub reached_within : ℕ → List Group → ℕ → List ℕ
reached_within zero groups start = rising (start ∷ [])
reached_within (suc depth) groups start = with_entered groups (reached_within depth groups start)

-- the groups that an event can enter: it enters at most 50, so groups are nested at most 50 deep
abbrev pub reached_groups : Tables → List ℕ
reached_groups tables = reached_within EVENT_ENTRIES tables.groups tables.start_unicode
