use Rattle.std.proofs.Common.{◌≡◌, refl, None, rules}
use Rattle.std.proofs.lemmas.Map.Text.{btree_map_updates_str}
use Rattle.rule_index.specs.Values.{known_in, Added}
use Rattle.rule_index.proofs.values.numbered.Goals as goal

pub returns : goal.returns
returns c =
    let none : known_in c.args.known.now c.args.value.now ≡ None = search rules in
    Added none (btree_map_updates_str c.args.value.now c.args.known.now c.insert.new.self _ c.in_ok-insert.ensures.updates) refl
