use Rattle.std.proofs.Common.{◌≡◌, drop}
use Rattle.virtual_keys.specs.Dictionary.{place_in}
use Rattle.store_table.specs.Places.{written}
use Rattle.store_table.proofs.PlaceLemmas.{place_behind}
use Rattle.store_table.proofs.name_table.compared_place.Given as goal

abbrev pub invariant-loop-place : goal.invariant-loop-place
invariant-loop-place l = place_behind l.place (place_in (written (drop l.place l.names)) l.name) ≡ place_in (written l.names) l.name
