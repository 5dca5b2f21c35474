use Rattle.std.proofs.Common.{◌≡◌, map, drop}
use Rattle.std.specs.List.{list_any}
use Rattle.kmn_base.specs.Names.{same_name}
use Rattle.touch_layout.proofs.ids.is_among.Given as goal

abbrev pub invariant-loop-name : goal.invariant-loop-name
invariant-loop-name l =
    list_any (λ name. same_name name l.id) (map (λ name. name.now) (drop l.name-index l.names)) ≡ list_any (λ name. same_name name l.id) (map (λ name. name.now) l.names)
