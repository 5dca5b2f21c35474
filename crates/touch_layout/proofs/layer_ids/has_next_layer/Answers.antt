use Rattle.std.proofs.Common.{◌∙◌, ℕ, List, Bor}
use Rattle.touch_layout.specs.Keys.{key_view}
use Rattle.touch_layout.specs.LayerIds.{layer_of}
use Rattle.touch_layout.proofs.FoundLayers.{found_next}
use Rattle.touch_layout.proofs.layer_ids.has_next_layer.Goals as goal

pub returns : goal.returns
returns c = c.contains.ensures ∙ found_next (λ (id : ℕ × Bor (List ℕ)). layer_of id.0 id.1.now) (key_view c.args.key.now) c.args.ids.now.keys
