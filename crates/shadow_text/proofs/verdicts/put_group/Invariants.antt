use Rattle.std.proofs.Common.{◌≡◌, ◌++◌, drop}
use Rattle.shadow_text.specs.Verdicts.{verdicts_from, group_verdicts}
use Rattle.shadow_text.proofs.verdicts.put_group.Given as goal

abbrev pub invariant-loop-number : goal.invariant-loop-number
invariant-loop-number l =
    l.verdicts.items ++ verdicts_from l.search.finder.now l.search.group l.search.rules.now l.number (drop l.number l.search.rules.now)
    ≡ l.fn.verdicts.items ++ group_verdicts l.search.finder.now l.search.group l.search.rules.now
