use Rattle.std.proofs.Common.{◌≡◌, drop, map}
use Rattle.kmn_base.specs.declared.items.Item.TheVariants.{Char}
use Rattle.rule_model.specs.Act.{put_items}
use Rattle.rule_engine.proofs.defaults.put_chars.Given as goal

abbrev pub invariant-loop-c : goal.invariant-loop-c
invariant-loop-c l =
    record l.event { state = put_items (map Char (drop l.c-index l.chars)) l.event.state }
    ≡ record l.fn.event { state = put_items (map Char l.chars) l.fn.event.state }
