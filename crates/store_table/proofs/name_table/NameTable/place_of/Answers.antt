use Rattle.std.proofs.Common.{◌∙◌, ap, List, ℕ}
use Rattle.virtual_keys.specs.Dictionary.{place_in}
use Rattle.store_table.specs.Places.{written}
use Rattle.store_table.proofs.PlaceLemmas.{place_found}
use Rattle.store_table.proofs.name_table.NameTable.place_of.Goals as goal

pub returns-else-name-gt-HASHED_BYTES : goal.returns-else-name-gt-HASHED_BYTES
returns-else-name-gt-HASHED_BYTES c =
    c.hashed_place.ensures
    ∙ place_found (written c.self.inside.names.items) c.self.inside.places.entries c.args.name.now c.self.invariant
    ∙ ap (λ (names : List (List ℕ)). place_in names c.args.name.now) c.self.view_is
