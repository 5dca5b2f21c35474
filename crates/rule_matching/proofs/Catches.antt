-- The number of items that were caught.
use Rattle.std.proofs.Common.{◌≤◌, List, length, arith}
use Rattle.std.specs.Prelude.{is_some, filter_map}
use Rattle.std.proofs.lemmas.List.Sums.{count_by-le-length}
use Rattle.rule_model.specs.declared.event_state.Catch.{Catch}
use Rattle.rule_model.proofs.PlainLists.{length_filter_map}

pub items_are_few : (catches : List Catch) → length (filter_map (λ (catch : Catch). catch.item) catches) ≤ length catches
items_are_few catches = omega (arith, length_filter_map (λ (catch : Catch). catch.item) catches, count_by-le-length (λ (catch : Catch). is_some catch.item) catches)
