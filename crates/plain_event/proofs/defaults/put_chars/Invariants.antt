use Rattle.std.proofs.Common.{◌≡◌, drop, map}
use Rattle.kmn_base.specs.declared.items.Item.TheVariants.{Char}
use Rattle.rule_model.specs.Act.{put_items}
use Rattle.plain_event.proofs.defaults.put_chars.Given as goal

abbrev pub invariant-loop-c : goal.invariant-loop-c
invariant-loop-c l = put_items (map Char (drop l.c-index l.chars)) l.state ≡ put_items (map Char l.chars) l.fn.state
