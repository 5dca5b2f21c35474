use Rattle.std.proofs.Common.{◌≡◌, ◌+◌, ◌*◌, length, map}
use Rattle.rule_model.specs.Act.{act}
use Rattle.rule_model.specs.ChosenLines.{lines_of}
use Rattle.rule_model.specs.Tab.{tab_output}
use Rattle.rule_engine.specs.Event.{AllChangeOwn, keyboard_of, enters, adds}
use Rattle.rule_engine.proofs.entering.+acts.Given as goal

abbrev pub invariant-act-loop-output : goal.invariant-act-loop-output
invariant-act-loop-output l =
    record {
      state : record l.event {
        state = act (keyboard_of l.event) (enters l.event l.entering) l.caught (map (tab_output l.event.tables.stores) l.output-iterator) l.event.state;
        lines = lines_of (keyboard_of l.event) (enters l.event l.entering) (adds l.event l.entering) l.caught (map (tab_output l.event.tables.stores) l.output-iterator) l.event.state l.event.lines;
      }
          ≡ record l.fn.event {
            state = act (keyboard_of l.fn.event) (enters l.fn.event l.entering) l.caught (map (tab_output l.fn.event.tables.stores) l.fn.outputs) l.fn.event.state;
            lines = lines_of (keyboard_of l.fn.event) (enters l.fn.event l.entering) (adds l.fn.event l.entering) l.caught (map (tab_output l.fn.event.tables.stores) l.fn.outputs) l.fn.event.state l.fn.event.lines;
          };
      own : AllChangeOwn (length l.event.tables.stores) l.output-iterator;
    }

abbrev pub decreases-act : goal.decreases-act
decreases-act l = 8 * l.entering.depth + 4

abbrev pub decreases-act_next : goal.decreases-act_next
decreases-act_next l = 8 * l.entering.depth + 3

abbrev pub decreases-act_one : goal.decreases-act_one
decreases-act_one l = 8 * l.entering.depth + 2

abbrev pub decreases-do_chosen : goal.decreases-do_chosen
decreases-do_chosen l = 8 * l.entering.depth + 5

abbrev pub decreases-do_group : goal.decreases-do_group
decreases-do_group l = 8 * l.entering.depth + 6

abbrev pub decreases-do_unmatched : goal.decreases-do_unmatched
decreases-do_unmatched l = 8 * l.entering.depth + 5

abbrev pub decreases-enter : goal.decreases-enter
decreases-enter l = 8 * l.entering.depth + 0

abbrev pub decreases-enter_if_allowed : goal.decreases-enter_if_allowed
decreases-enter_if_allowed l = 8 * l.entering.depth + 1

abbrev pub decreases-in_group : goal.decreases-in_group
decreases-in_group l = 8 * l.entering.depth + 7
