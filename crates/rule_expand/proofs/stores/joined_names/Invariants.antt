use Rattle.std.proofs.Common.{◌≡◌, take}
use Rattle.std.specs.List.{join_with_byte}
use Rattle.rule_expand.proofs.stores.joined_names.Given as goal

abbrev pub invariant-loop-place : goal.invariant-loop-place
invariant-loop-place l = l.text.items ≡ join_with_byte 32 (take l.place l.keys)
