use Rattle.std.proofs.Common.{◌∙◌, ap, List, ℕ, arith}
use Rattle.std.specs.Str.{str_to_ascii_lowercase}
use Rattle.virtual_keys.specs.Dictionary.{place_in}
use Rattle.store_table.proofs.PlaceLemmas.{new_entries}
use Rattle.store_table.proofs.name_table.NameTable.push_new.Goals as goal

pub invariant_of-self-in-Ok : goal.invariant_of-self-in-Ok
invariant_of-self-in-Ok c =
    new_entries c.self.inside.names.items c.self.inside.places.entries c.args.name c.in_ok-folded.folded c.push.new.self.items c.insert.new.self.entries c.len-place.result
    c.self.invariant (ap (λ (names : List (List ℕ)). place_in names c.args.name.items) c.self.view_is ∙ c.requires)
    (omega (arith, c.len-place.ensures)) (c.in_ok-folded.ensures ∙ ap str_to_ascii_lowercase c.as_slice.ensures.value) c.in_ok-push.ensures.items c.in-Ok.ensures.entries
