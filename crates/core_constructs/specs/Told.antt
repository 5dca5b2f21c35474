-- What Keyman's own engine treats differently in a keyboard: by source line, by group, and once for the file.
use Rattle.std.specs.Prelude.{ℕ, Bool, false, not, ◌&&◌, ◌||◌, bit_and, nat_eq, nat_lt, List, [], ◌∷◌, filter, flat_map, length, map, Option, Some, None, slice_get, unwrap_or}
use Rattle.std.specs.List.{list_any}
use Rattle.std.specs.Str.{bytes_eq}
use Rattle.kmn_base.specs.Rising.{is_among, rising}
use Rattle.rule_model.specs.declared.system.TheConstants.{KEY_DICTIONARY}
use Rattle.rule_model.specs.declared.tables.Rule.{Rule}
use Rattle.rule_model.specs.declared.tables.Store.{Store}
use Rattle.rule_model.specs.declared.tables.Group.{Group}
use Rattle.rule_model.specs.declared.tables.Tables.{Tables}
use Rattle.core_constructs.specs.Outputs.{acts_after_use, live, sets_layer}
use Rattle.core_constructs.specs.Empty.{is_empty_converted}
use Rattle.core_constructs.specs.Changes.{saves_early}
use Rattle.core_constructs.specs.Facts.{facts_of}
use Rattle.core_constructs.specs.Keys.{fits_both}
use Rattle.core_constructs.specs.Queued.{overflows}
use Rattle.core_constructs.specs.Spent.{spent_in}
use Rattle.core_constructs.specs.Records.{can_match, constructs, is_told}
use Rattle.core_constructs.specs.declared.construct.Construct.{Construct}
use Rattle.core_constructs.specs.declared.construct.Difference.{Difference}
use Rattle.core_constructs.specs.declared.construct.GroupConstruct.{GroupConstruct}
use Rattle.core_constructs.specs.declared.construct.GroupConstruct.TheVariants as group_construct
use Rattle.core_constructs.specs.declared.construct.GroupDifference.{GroupDifference}
use Rattle.core_constructs.specs.declared.construct.FileConstruct.{FileConstruct}
use Rattle.core_constructs.specs.declared.construct.FileConstruct.TheVariants as file_construct
use Rattle.core_constructs.specs.declared.construct.Told.{Told}
use Rattle.core_constructs.specs.declared.facts.Facts.{Facts}
use Rattle.core_constructs.specs.declared.facts.GroupFacts.{GroupFacts}

-- ---- by line

abbrev pub line_of : Rule → ℕ
line_of rule = rule.line

-- what is known of the group of a number, given the units that can be spent when each group is entered
abbrev pub known_of : List ℕ → ℕ → Group → GroupFacts
known_of spent number group = record { spent = unwrap_or (slice_get spent number) 0; converted = is_empty_converted group }

-- the lines of the records of a group of which a construct is told
unfoldable pub group_lines : Construct → Tables → Facts → GroupFacts → Group → List ℕ
group_lines construct tables facts known group = map line_of (filter (is_told construct tables facts known group) group.rules)

abbrev pub lines_in : Construct → Tables → Facts → List ℕ → ℕ → Option Group → List ℕ
lines_in construct tables facts spent number None = []
lines_in construct tables facts spent number (Some group) = group_lines construct tables facts (known_of spent number group) group

abbrev pub lines_at : Construct → Tables → Facts → List ℕ → ℕ → List ℕ
lines_at construct tables facts spent number = lines_in construct tables facts spent number (slice_get tables.groups number)

-- the lines of a construct in the groups that an event can enter, each once, in rising order
abbrev pub lines_with : Tables → Facts → List ℕ → Construct → List ℕ
lines_with tables facts spent construct = rising (flat_map (lines_at construct tables facts spent) facts.reached)

abbrev pub difference_at : Tables → Facts → List ℕ → ℕ → Difference
difference_at tables facts spent line =
    record { line = line; constructs = filter (λ construct. is_among line (lines_with tables facts spent construct)) constructs }

-- the lines of all constructs, in rising order, each with those that it has
unfoldable pub line_differences : Tables → Facts → List ℕ → List Difference
line_differences tables facts spent = map (difference_at tables facts spent) (rising (flat_map (lines_with tables facts spent) constructs))

-- ---- by group

-- whether the match or the nomatch output of a group, which have no line, has a construct
abbrev pub group_has : Facts → Group → GroupConstruct → Bool
group_has facts group group_construct.Use = acts_after_use (live group.on_match) || acts_after_use (live group.on_nomatch)
group_has facts group group_construct.Save = saves_early facts.changes (live group.on_match) || saves_early facts.changes (live group.on_nomatch)
group_has facts group group_construct.Layer = list_any sets_layer (live group.on_match) || list_any sets_layer (live group.on_nomatch)
group_has facts group group_construct.Nomatch = group.using_keys && not (nat_eq (length group.on_nomatch) 0)

-- all constructs of groups, in the order in which they are listed
abbrev pub group_constructs : List GroupConstruct
group_constructs = group_construct.Use ∷ group_construct.Save ∷ group_construct.Layer ∷ group_construct.Nomatch ∷ []

abbrev pub group_difference : ℕ → GroupConstruct → GroupDifference
group_difference number construct = record { group = number; construct = construct }

abbrev pub differences_of : Facts → ℕ → Group → List GroupDifference
differences_of facts number group = map (group_difference number) (filter (group_has facts group) group_constructs)

abbrev pub differences_in : Facts → ℕ → Option Group → List GroupDifference
differences_in facts number None = []
differences_in facts number (Some group) = differences_of facts number group

abbrev pub differences_at : Tables → Facts → ℕ → List GroupDifference
differences_at tables facts number = differences_in facts number (slice_get tables.groups number)

-- the constructs of the groups that an event can enter, in rising order of the groups
unfoldable pub group_differences : Tables → Facts → List GroupDifference
group_differences tables facts = flat_map (differences_at tables facts) facts.reached

-- ---- for the file

-- whether a store is the dictionary of custom keys, with at least one name
abbrev pub has_key_names : Store → Bool
has_key_names store = nat_eq store.system KEY_DICTIONARY && not (nat_eq (length store.elements) 0)

-- whether a record of a group that can match requires CTRL or ALT in a way that a press with both sides never matches there
abbrev pub rule_fits_both : Facts → Rule → Bool
rule_fits_both facts rule = can_match facts rule && fits_both rule.key

abbrev pub group_fits_both : Facts → Group → Bool
group_fits_both facts group = list_any (rule_fits_both facts) group.rules

abbrev pub fits_both_in : Facts → Option Group → Bool
fits_both_in facts None = false
fits_both_in facts (Some group) = group_fits_both facts group

abbrev pub fits_both_at : Tables → Facts → ℕ → Bool
fits_both_at tables facts number = fits_both_in facts (slice_get tables.groups number)

-- whether two stores have a name, and the same one
abbrev pub have_same_name : Option Store → Option Store → Bool
have_same_name (Some store) (Some other) = not (nat_eq (length store.name) 0) && bytes_eq store.name other.name
have_same_name _ _ = false

-- whether two of these stores have the same name
abbrev pub shares_name : List Store → List ℕ → Bool
shares_name stores [] = false
shares_name stores (option ∷ options) = list_any (λ other. have_same_name (slice_get stores option) (slice_get stores other)) options || shares_name stores options

-- the bits of the header's flags by which that engine turns caps lock on and off
abbrev pub caps_flags : ℕ
caps_flags = 7

-- whether a file with these flags in its header has a construct. `Marks`: that engine deletes marks with the character before them, and
-- keeps marks at any distance from the caret. `Own`: a custom key that no record matches is passed on there. `Both`: a press with both
-- sides of CTRL, or of ALT, held never matches there. `Budget`: that engine drops the effects after the first 1,024 of an event. `Caps`: that engine turns caps lock on and off. `Names`: options with the same name
-- have one saved value there
abbrev pub file_has : ℕ → Tables → Facts → FileConstruct → Bool
file_has flags tables facts file_construct.Marks = nat_lt 0 (length facts.marks)
file_has flags tables facts file_construct.Own = list_any has_key_names tables.stores
file_has flags tables facts file_construct.Both = list_any (fits_both_at tables facts) facts.reached
file_has flags tables facts file_construct.Budget = overflows tables
file_has flags tables facts file_construct.Caps = not (nat_eq (bit_and flags caps_flags) 0)
file_has flags tables facts file_construct.Names = shares_name tables.stores facts.options

-- all constructs of files, in the order in which they are listed
abbrev pub file_constructs : List FileConstruct
file_constructs = file_construct.Marks ∷ file_construct.Own ∷ file_construct.Both ∷ file_construct.Budget ∷ file_construct.Caps ∷ file_construct.Names ∷ []

unfoldable pub file_differences : ℕ → Tables → Facts → List FileConstruct
file_differences flags tables facts = filter (file_has flags tables facts) file_constructs

-- ---- all of it

abbrev pub told_of : ℕ → Tables → Facts → Told
told_of flags tables facts = record {
  lines = line_differences tables facts (spent_in facts tables.groups);
  groups = group_differences tables facts;
  file = file_differences flags tables facts;
}

-- what is told of tables, in a file with these flags in its header
unfoldable pub told : ℕ → Tables → Told
told flags tables = told_of flags tables (facts_of tables)
