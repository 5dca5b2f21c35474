use Rattle.kmn_base.specs.declared.limits.TheConstants.{WINDOW_ITEMS}
use Rattle.rule_matching.proofs.Remembering.{zeros_say_nothing}
use Rattle.rule_matching.proofs.known_places.StorePlaces.blank.Goals as goal

pub returns-clause-blank : goal.returns-clause-blank
returns-clause-blank c = zeros_say_nothing WINDOW_ITEMS
