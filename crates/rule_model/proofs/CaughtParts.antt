-- A rule catches what its context and its key catch, if both match.
use Rattle.std.proofs.Common.{◌≡◌, ℕ, List, [], Option, Some, None, refl}
use Rattle.kmn_base.specs.declared.keys.KeyPress.{KeyPress}
use Rattle.rule_model.specs.declared.event_state.Catch.{Catch}
use Rattle.rule_model.specs.declared.event_state.Caught.{Caught}
use Rattle.rule_model.specs.Keyboard.{KeyPattern}
use Rattle.rule_model.specs.Match.{Content}
use Rattle.rule_model.specs.Hold.{fitting_place_with, caught_by}

-- the position at which the key of a rule fits, on a keyboard without cased keys
abbrev pub fitting_place : Content → KeyPress → KeyPattern → Option (Option ℕ)
fitting_place = fitting_place_with []

pub caught_parts : (catches : Option (List Catch)) (place : Option (Option ℕ)) (caught : Caught) → caught_by catches place ≡ Some caught
    → ((r : List Catch) × (catches ≡ Some r)) × ((p : Option ℕ) × (place ≡ Some p))
caught_parts None place caught e = let absurd_case : None ≡ Some caught = e in cc
caught_parts (Some r) None caught e = let absurd_case : None ≡ Some caught = e in cc
caught_parts (Some r) (Some p) caught e = ((r, refl), (p, refl))
