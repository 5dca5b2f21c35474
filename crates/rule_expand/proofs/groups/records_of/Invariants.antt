use Rattle.std.proofs.Common.{◌≡◌, take}
use Rattle.std.specs.Prelude.{flat_map}
use Rattle.rule_expand.specs.Groups.{plain_records}
use Rattle.rule_expand.proofs.groups.records_of.Given as goal

abbrev pub invariant-loop-rule : goal.invariant-loop-rule
invariant-loop-rule l = l.records.items ≡ flat_map (plain_records l.numbers) (take l.rule-index l.rules)
