use Rattle.std.proofs.Common.{◌∙◌, ap, ℕ, Vec, Global, map, not, refl}
use Rattle.std.specs.Prelude.{◌&&◌, nat_eq, bytes_eq}
use Rattle.std.specs.List.{list_any}
use Rattle.std.specs.Str.{str_to_ascii_lowercase}
use Rattle.touch_layout.specs.LayerIds.{is_equal_layer, layer_of}
use Rattle.touch_layout.proofs.FoundLayers.{is_new}
use Rattle.touch_layout.proofs.layer_ids.add_layer.Goals as goal

pub returns-clause-new : goal.returns-clause-new
returns-clause-new c =
    is_new (λ (id : ℕ × Vec ℕ Global). layer_of id.0 id.1.items) (λ a b. nat_eq a.0 b.0 && bytes_eq a.1.items b.1.items) (λ a b. refl)
    c.args.ids.now.keys (c.args.layer.now.place.platform, c.in_ok-id.id) c.in_ok-new.new c.in_ok-new.ensures.added
    ∙ ap (λ folded. not (list_any (is_equal_layer (layer_of c.args.layer.now.place.platform folded)) (map (λ (id : ℕ × Vec ℕ Global). layer_of id.0 id.1.items) c.args.ids.now.keys)))
    (c.in_ok-id.ensures ∙ ap str_to_ascii_lowercase c.as_bytes.ensures.value)
