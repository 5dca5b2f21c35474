use Rattle.std.proofs.Common.{◌≡◌, ◌++◌, string_bytes}
use Rattle.load_maker.specs.Loads.{first_lines, rule_lines}
use Rattle.load_maker.proofs.load.source_text.Given as goal

abbrev pub invariant-loop-i : goal.invariant-loop-i
invariant-loop-i l = string_bytes l.source ≡ first_lines ++ rule_lines l.i
