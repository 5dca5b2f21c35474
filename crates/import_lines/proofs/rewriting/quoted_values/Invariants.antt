use Rattle.std.proofs.Common.{◌≡◌, ◌++◌, drop, map}
use Rattle.import_lines.specs.Rewrites.{in_quotes}
use Rattle.import_lines.proofs.rewriting.quoted_values.Given as goal

abbrev pub invariant-loop-value : goal.invariant-loop-value
invariant-loop-value l = l.tokens ++ map in_quotes (drop l.value-index l.values) ≡ map in_quotes l.values
