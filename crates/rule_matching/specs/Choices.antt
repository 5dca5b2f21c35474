-- The inputs of a choice: the content of each store, what records and the items of their contexts mean and catch, and when what is
-- remembered is right.
use Rattle.std.specs.Prelude.{List}
use Rattle.rule_model.specs.declared.event_state.Catch.{Catch}
use Rattle.rule_model.specs.declared.event_state.Caught.{Caught}
use Rattle.rule_model.specs.declared.tables.Group.{Group}
use Rattle.rule_model.specs.declared.tables.Rule.{Rule}
use Rattle.rule_model.specs.Keyboard.{Pattern, RuleMeaning}
use Rattle.rule_model.specs.Match.{Content}
use Rattle.rule_model.specs.Tab.{tab_rule}
use Rattle.kmx_parts.specs.declared.context_item.ContextItem.{ContextItem}
use Rattle.rule_matching.specs.declared.choice.Choice.{Choice}
use Rattle.rule_matching.specs.declared.place_memory.PlaceMemory.{PlaceMemory}
use Rattle.rule_matching.specs.declared.taken.TakenItem.{TakenItem}
use Rattle.rule_matching.specs.Matching.{caught_by_all, caught_by_taken, item_meaning, RemembersRight}
use Rattle.rule_matching.specs.MatchState.{content_at}

-- the content of each store
abbrev pub content_of : Choice → Content
content_of choice = content_at choice.moment.now

-- what an item of a context means
abbrev pub meaning_in : Choice → ContextItem → Pattern
meaning_in choice = item_meaning choice.moment.now.tables.stores

-- the catch from what an item of a context takes
abbrev pub caught_in : Choice → TakenItem → Catch
caught_in choice = caught_by_taken (content_of choice) choice.left.now

abbrev pub all_caught : Choice → List TakenItem → Caught
all_caught choice = caught_by_all (content_of choice) choice.left.now

-- what a record of a group means
abbrev pub record_in : Choice → Group → Rule → RuleMeaning
record_in choice group = tab_rule choice.moment.now.tables.stores group.using_keys

-- whether what is remembered is right for a choice
abbrev pub RemembersFor : Choice → PlaceMemory → Type 0
RemembersFor choice = RemembersRight choice.moment.now choice.left.now
