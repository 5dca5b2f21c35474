use Rattle.std.proofs.Common.{◌≡◌}
use Rattle.std.specs.List.{list_any}
use Rattle.kmx_decompiler.specs.Causes.{is_unspelled_pattern}
use Rattle.kmx_decompiler.proofs.causes.are_unspelled_patterns.Given as goal

abbrev pub invariant-loop-pattern : goal.invariant-loop-pattern
invariant-loop-pattern l = list_any (is_unspelled_pattern l.names) l.pattern-iterator ≡ list_any (is_unspelled_pattern l.names) l.fn.context
