use Rattle.std.proofs.Common.{◌≡◌, map, take}
use Rattle.compile_laws.specs.Compiles.{file_pattern}
use Rattle.rule_expand.proofs.records.context_of.Given as goal

abbrev pub invariant-loop-item : goal.invariant-loop-item
invariant-loop-item l = l.context.items ≡ map (file_pattern l.numbers) (take l.item-index l.items)
