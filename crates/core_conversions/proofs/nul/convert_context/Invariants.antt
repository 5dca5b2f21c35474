use Rattle.std.proofs.Common.{◌≡◌, ◌+◌, ◌≤◌, ◌++◌, length, take, drop}
use Rattle.std.specs.List.{position_or_len, prefix_len}
use Rattle.rule_model.specs.Patterns.{is_matched, is_nul}
use Rattle.core_conversions.specs.Conversions.{context_with_nul_first}
use Rattle.core_conversions.proofs.nul.convert_context.Given as goal

abbrev pub invariant-loop-i : goal.invariant-loop-i
invariant-loop-i l =
    (length l.context ≡ length l.fn.context)
    × (l.i + l.nuls ≤ length l.fn.context)
    × (l.i ≤ position_or_len is_matched l.fn.context)
    × (l.context ≡ take l.i l.fn.context ++ context_with_nul_first (drop l.i l.fn.context))
    × (l.nuls ≡ prefix_len is_nul (context_with_nul_first (drop l.i l.fn.context)))

abbrev pub decreases-loop-i : goal.decreases-loop-i
decreases-loop-i l = l.i
