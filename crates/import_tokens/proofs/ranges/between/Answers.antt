use Rattle.std.proofs.Common.{◌∙◌}
use Rattle.import_tokens.proofs.Counted.{counted_on, is_character, nothing_counted, all_counted}
use Rattle.import_tokens.proofs.ranges.between.Goals as goal
use Rattle.import_tokens.proofs.ranges.between.Goals.{in-Some+in_ok-add, in_default}

pub loop-code-init : goal.loop-code-init
loop-code-init c = c.new-characters.ensures ∙ nothing_counted c.args.first

pub loop-code-preserved : goal.loop-code-preserved
loop-code-preserved c = elim c.match-from_u32.branch [
  | in-Some+in_ok-add w ↦
      counted_on c.args.first c.loop-code.code w.in-Some.character c.loop-code.characters c.match-from_u32.characters c.loop-code.auto.code
      w.in-Some.ensures.value.1 c.loop-code.invariant (w.characters-is ∙ w.in_ok-add.ensures)
  | in_default w ↦ absurd (w.in_default.ensures.value (is_character c.args.first c.args.last c.loop-code.code c.requires c.loop-code.auto.code c.loop-code-test.true))
]

pub returns : goal.returns
returns c = all_counted c.args.first c.args.last c.loop-code.code c.loop-code.characters c.requires c.loop-code-test.false c.loop-code.auto.code-end c.loop-code.invariant
