use Rattle.std.proofs.Common.{◌≡◌, drop}
use Rattle.decompile_text.specs.OneByOne.{with_groups}
use Rattle.decompile_text.proofs.lines.put_groups.Given as goal

abbrev pub invariant-loop-number : goal.invariant-loop-number
invariant-loop-number l = with_groups l.names l.number l.page (drop l.number l.file.groups) ≡ with_groups l.names 0 l.initial.page l.file.groups
