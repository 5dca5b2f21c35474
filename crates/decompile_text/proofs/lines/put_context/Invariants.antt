use Rattle.std.proofs.Common.{◌≡◌}
use Rattle.decompile_text.specs.OneByOne.{with_context}
use Rattle.decompile_text.proofs.lines.put_context.Given as goal

abbrev pub invariant-loop-pattern : goal.invariant-loop-pattern
invariant-loop-pattern l = with_context l.names l.page l.pattern-iterator ≡ with_context l.names l.initial.page l.fn.context
