use Rattle.std.proofs.Common.{◌≡◌, ◌+◌, length}
use Rattle.std.specs.List.{flat_map}
use Rattle.kmx_format.specs.File.{all_rules, rules_of}
use Rattle.kmx_verifier.proofs.counts.rule_count.Given as goal

abbrev pub invariant-loop-group : goal.invariant-loop-group
invariant-loop-group l = l.count + length (flat_map rules_of l.group-iterator) ≡ length (all_rules l.file)
