use Rattle.std.proofs.Common.{◌≡◌, ◌++◌, drop, flat_map}
use Rattle.std.specs.String.{string_bytes}
use Rattle.shadow_text.specs.DeadLines.{dead_line}
use Rattle.shadow_text.proofs.printing.put_dead.Given as goal

abbrev pub invariant-loop-line : goal.invariant-loop-line
invariant-loop-line l =
    string_bytes l.text ++ flat_map (dead_line l.all) (drop l.line-index l.dead) ≡ string_bytes l.fn.text ++ flat_map (dead_line l.all) l.dead
