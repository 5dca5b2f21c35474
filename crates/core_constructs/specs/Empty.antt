-- Records with an empty context in groups without keys.
use Rattle.std.specs.Prelude.{ℕ, Bool, true, false, not, ◌&&◌, ◌||◌, nat_eq, if◌then◌else◌, List, [], ◌∷◌, length}
use Rattle.std.specs.List.{list_all, list_any}
use Rattle.rule_model.specs.declared.tables.Out.{Out}
use Rattle.rule_model.specs.declared.tables.Out.TheVariants as output
use Rattle.rule_model.specs.declared.tables.Rule.{Rule}
use Rattle.rule_model.specs.declared.tables.Group.{Group}
use Rattle.core_constructs.specs.Outputs.{acts, ends, puts_match}

-- ---- equal outputs

-- an item as three numbers: its kind, and the numbers in it
abbrev pub item_numbers : Out → ℕ × ℕ × ℕ
item_numbers (output.Char c) = (0, c, 0)
item_numbers (output.Mark mark) = (1, mark, 0)
item_numbers (output.Index store offset) = (2, store, offset)
item_numbers output.Context = (3, 0, 0)
item_numbers (output.ContextAt offset) = (4, offset, 0)
item_numbers (output.Enter group) = (5, group, 0)
item_numbers (output.Set store value) = (6, store, value)
item_numbers (output.SetSystem id value) = (7, id, value)
item_numbers (output.Save store) = (8, store, 0)
item_numbers (output.Reset store) = (9, store, 0)
item_numbers output.Nul = (10, 0, 0)
item_numbers output.Beep = (11, 0, 0)
item_numbers output.Stop = (12, 0, 0)

abbrev pub same_item : Out → Out → Bool
same_item a b = (nat_eq (item_numbers a).0 (item_numbers b).0 && nat_eq (item_numbers a).1 (item_numbers b).1) && nat_eq (item_numbers a).2 (item_numbers b).2

abbrev pub same_outputs : List Out → List Out → Bool
same_outputs [] [] = true
same_outputs [] (b ∷ bs) = false
same_outputs (a ∷ rest) [] = false
same_outputs (a ∷ rest) (b ∷ bs) = same_item a b && same_outputs rest bs

-- ---- the nomatch output in place of the first record with an empty context

abbrev pub has_empty_context : Rule → Bool
has_empty_context rule = nat_eq (length rule.context) 0

-- the records from the first one with an empty context on
abbrev pub from_empty : List Rule → List Rule
from_empty [] = []
from_empty (rule ∷ rules) = if has_empty_context rule then rule ∷ rules else from_empty rules

-- whether an output does the same as a nomatch output: it has items, none of them puts what the context matched, and no match output runs
-- after it
abbrev pub fits_nomatch : Group → List Out → Bool
fits_nomatch group outputs =
    (not (nat_eq (length outputs) 0) && not (list_any puts_match outputs)) && (not (acts group.on_match) || ends outputs)

-- whether the nomatch output is that of the first of these records, and does the same. All of them have an empty context
abbrev pub is_nomatch_for : Group → List Rule → Bool
is_nomatch_for group [] = false
is_nomatch_for group (rule ∷ rules) =
    (list_all has_empty_context rules && fits_nomatch group rule.output) && same_outputs group.on_nomatch rule.output

-- whether the nomatch output of a group does what the records with an empty context do, which that engine does not use in a group without
-- keys
abbrev pub is_empty_converted : Group → Bool
is_empty_converted group = is_nomatch_for group (from_empty group.rules)
