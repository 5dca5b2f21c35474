use Rattle.std.proofs.Common.{rules}
use Rattle.rule_matching.proofs.StoreContents.{option_within, saved_is_of, unsaved_is_of}
use Rattle.rule_matching.proofs.contents.saved_of.Goals as goal

pub saved-requires : goal.saved-requires
saved-requires c = search (rules, option_within, saved_is_of, unsaved_is_of)

pub held-requires : goal.held-requires
held-requires c = search (rules, option_within, saved_is_of, unsaved_is_of)

pub returns-in-Some : goal.returns-in-Some
returns-in-Some c = search (rules, option_within, saved_is_of, unsaved_is_of)

pub returns-in-None : goal.returns-in-None
returns-in-None c = search (rules, option_within, saved_is_of, unsaved_is_of)
