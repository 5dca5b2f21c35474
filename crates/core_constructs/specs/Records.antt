-- The constructs of a record that Keyman's own engine treats differently. The behavior of that engine was read in its source and measured
-- on Keyman Core.
use Rattle.std.specs.Prelude.{Bool, not, ◌&&◌, ◌||◌, List, [], ◌∷◌}
use Rattle.std.specs.List.{list_any}
use Rattle.rule_model.specs.declared.tables.Rule.{Rule}
use Rattle.rule_model.specs.declared.tables.Group.{Group}
use Rattle.rule_model.specs.declared.tables.Tables.{Tables}
use Rattle.core_constructs.specs.Outputs.{acts, acts_after_use, ends, is_use, live, sets_from_option, sets_layer}
use Rattle.core_constructs.specs.Contexts.{asks_empty_word, asks_from_option, asks_layer, asks_unput, counts_differently, has_late_nul}
use Rattle.core_constructs.specs.Empty.{has_empty_context}
use Rattle.core_constructs.specs.Keys.{has_both_sides, is_alt_graph, is_keypad_character}
use Rattle.core_constructs.specs.declared.construct.Construct.{Construct}
use Rattle.core_constructs.specs.declared.construct.Construct.TheVariants as construct
use Rattle.core_constructs.specs.Changes.{saves_early}
use Rattle.core_constructs.specs.Reached.{played}
use Rattle.core_constructs.specs.Widths.{is_long}
use Rattle.core_constructs.specs.declared.facts.Facts.{Facts}
use Rattle.core_constructs.specs.declared.facts.GroupFacts.{GroupFacts}

-- the output has a `use` and no `return`, and the match output does something. That engine never runs the match output then
abbrev pub is_matched_behind_use : Group → Rule → Bool
is_matched_behind_use group rule = (list_any is_use (live rule.output) && not (ends rule.output)) && acts group.on_match

-- the context is empty in a group without keys, and the nomatch output of the group isn't what it does (`converted`). That engine does not
-- use the rule
abbrev pub is_passed_over : Bool → Group → Rule → Bool
is_passed_over converted group rule = (not group.using_keys && has_empty_context rule) && not converted

-- the context has a condition on the layer, or the output sets it
abbrev pub uses_layer : Rule → Bool
uses_layer rule = list_any asks_layer rule.context || list_any sets_layer (live rule.output)

-- a condition of the context, or an item of the output that sets an option, has a value store that is an option
abbrev pub uses_option_value : Facts → Rule → Bool
uses_option_value facts rule = list_any (asks_from_option facts.options) rule.context || list_any (sets_from_option facts.options) (live rule.output)

-- whether a record of a group has a construct
unfoldable pub has_construct : Construct → Tables → Facts → GroupFacts → Group → Rule → Bool
has_construct construct.Use tables facts known group rule = acts_after_use (live rule.output)
has_construct construct.Match tables facts known group rule = is_matched_behind_use group rule
has_construct construct.Nul tables facts known group rule = has_late_nul rule.context
has_construct construct.Offset tables facts known group rule = counts_differently rule.context (live rule.output)
has_construct construct.Empty tables facts known group rule = is_passed_over known.converted group rule
has_construct construct.Sides tables facts known group rule = has_both_sides rule.key
has_construct construct.Right tables facts known group rule = is_alt_graph rule.key
has_construct construct.Long tables facts known group rule = is_long facts known.spent rule.context
has_construct construct.Layer tables facts known group rule = uses_layer rule
has_construct construct.Platform tables facts known group rule = list_any (asks_empty_word tables.stores) rule.context
has_construct construct.Save tables facts known group rule = saves_early facts.changes (played group rule)
has_construct construct.Keypad tables facts known group rule = is_keypad_character rule.key
has_construct construct.Value tables facts known group rule = uses_option_value facts rule

-- whether a record can match: no item of its context is a mark that no output puts
abbrev pub can_match : Facts → Rule → Bool
can_match facts rule = not (list_any (asks_unput facts.marks) rule.context)

-- whether a construct of a record is told
abbrev pub is_told : Construct → Tables → Facts → GroupFacts → Group → Rule → Bool
is_told construct tables facts known group rule = can_match facts rule && has_construct construct tables facts known group rule

-- all constructs of records, in the order in which a line lists them
abbrev pub constructs : List Construct
constructs =
    construct.Use ∷ construct.Match ∷ construct.Nul ∷ construct.Offset ∷ construct.Empty ∷ construct.Sides ∷ construct.Right ∷ construct.Long
    ∷ construct.Layer ∷ construct.Platform ∷ construct.Save ∷ construct.Keypad ∷ construct.Value ∷ []
