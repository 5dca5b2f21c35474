use Rattle.std.proofs.Common.{◌∙◌, ap, map, rules}
use Rattle.std.proofs.lemmas.Iterator.Search.{position_from_yields_List}
use Rattle.std.specs.List.{position}
use Rattle.kmn_base.specs.Names.{same_name}
use Rattle.virtual_keys.proofs.EntryLemmas.{YieldsList-values, written-values}
use Rattle.virtual_keys.proofs.dictionary.compared_place.Goals as goal

pub returns : goal.returns
returns c =
    position_from_yields_List (same_name c.args.name.now) _ _ _ c.position.ensures.ran (YieldsList-values c.values.result) (λ x b q k. search rules)
    ∙ ap (position (same_name c.args.name.now)) (ap (map (λ value. value.items)) c.values.ensures.rest ∙ written-values c.args.names.now.entries)
