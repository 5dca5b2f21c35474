use Rattle.std.proofs.Common.{refl, ℕ, List, Bor}
use Rattle.std.specs.Prelude.{◌&&◌, nat_eq, bytes_eq}
use Rattle.touch_layout.specs.Layers.{layer_view}
use Rattle.touch_layout.specs.LayerIds.{layer_of}
use Rattle.touch_layout.proofs.FoundLayers.{finds_next}
use Rattle.touch_layout.proofs.layer_ids.add_id.Goals as goal

pub returns : goal.returns
returns c = λ others finds.
    finds_next (λ (id : ℕ × Bor (List ℕ)). layer_of id.0 id.1.now) (λ a b. nat_eq a.0 b.0 && bytes_eq a.1.now b.1.now) (λ a b. refl)
    c.args.ids.now.keys c.insert.new.self.keys (c.args.layer.now.place.platform, c.args.layer.now.id) others (layer_view c.args.layer.now) finds
    c.in_ok-insert.ensures.keys (λ key. refl)
