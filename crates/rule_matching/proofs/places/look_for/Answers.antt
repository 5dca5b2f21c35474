use Rattle.std.proofs.Common.{◌≡◌, ◌∙◌, ap, refl}
use Rattle.std.specs.Prelude.{option_and_then}
use Rattle.kmn_base.specs.declared.items.Item.{Item}
use Rattle.rule_model.specs.Keyboard.{Numbered}
use Rattle.rule_model.specs.Match.{place_of}
use Rattle.rule_matching.specs.Matching.{place_before}
use Rattle.rule_matching.specs.MatchState.{content_at}
use Rattle.rule_matching.proofs.KnownPlaces.{still_right}
use Rattle.rule_matching.proofs.places.look_for.Goals as goal

pub returns-clause-right : goal.returns-clause-right
returns-clause-right c =
    let found : c.place_of-place.result ≡ place_before (content_at c.args.choice.now.moment.now) c.args.choice.now.left.now c.args.store c.args.distance
    = c.place_of-place.ensures
    ∙ ap (option_and_then (λ (item : Item). place_of item (content_at c.args.choice.now.moment.now (Numbered c.args.store)))) c.item_before.ensures in
    still_right c.args.choice.now.moment.now c.args.choice.now.left.now c.args.store c.args.distance c.place_of-place.result c.args.places.now _
    c.remember.ensures.only refl found c.requires.right
