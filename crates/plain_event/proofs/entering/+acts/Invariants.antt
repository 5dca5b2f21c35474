use Rattle.std.proofs.Common.{◌≡◌, ◌+◌, ◌*◌, drop, map}
use Rattle.rule_model.specs.Act.{act}
use Rattle.rule_model.specs.Tab.{tab_output}
use Rattle.plain_event.specs.Entering.{keyboard_of, stores_of, enters, adds}
use Rattle.rule_model.specs.ChosenLines.{lines_of}
use Rattle.plain_event.proofs.entering.+acts.Given as goal

abbrev pub invariant-act-loop-output : goal.invariant-act-loop-output
invariant-act-loop-output l =
    (act (keyboard_of l.entering) (enters l.entering) l.caught (map (tab_output (stores_of l.entering)) (drop l.output-index l.outputs)) l.state
    ≡ act (keyboard_of l.entering) (enters l.entering) l.caught (map (tab_output (stores_of l.entering)) l.outputs) l.fn.state)
    × (lines_of (keyboard_of l.entering) (enters l.entering) (adds l.entering) l.caught (map (tab_output (stores_of l.entering)) (drop l.output-index l.outputs)) l.state l.lines.items
    ≡ lines_of (keyboard_of l.entering) (enters l.entering) (adds l.entering) l.caught (map (tab_output (stores_of l.entering)) l.outputs) l.fn.state l.fn.lines.items)

abbrev pub decreases-act : goal.decreases-act
decreases-act l = 8 * l.entering.now.depth + 4

abbrev pub decreases-act_next : goal.decreases-act_next
decreases-act_next l = 8 * l.entering.now.depth + 3

abbrev pub decreases-act_one : goal.decreases-act_one
decreases-act_one l = 8 * l.entering.now.depth + 2

abbrev pub decreases-do_chosen : goal.decreases-do_chosen
decreases-do_chosen l = 8 * l.entering.now.depth + 5

abbrev pub decreases-do_group : goal.decreases-do_group
decreases-do_group l = 8 * l.entering.now.depth + 6

abbrev pub decreases-do_unmatched : goal.decreases-do_unmatched
decreases-do_unmatched l = 8 * l.entering.now.depth + 5

abbrev pub decreases-enter : goal.decreases-enter
decreases-enter l = 8 * l.entering.now.depth + 0

abbrev pub decreases-enter_if_allowed : goal.decreases-enter_if_allowed
decreases-enter_if_allowed l = 8 * l.entering.now.depth + 1

abbrev pub decreases-in_group : goal.decreases-in_group
decreases-in_group l = 8 * l.entering.now.depth + 7
