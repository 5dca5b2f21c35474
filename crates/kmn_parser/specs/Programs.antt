-- The text of a program: its stores, its begins, then each group with its rules, one statement per line.
use Rattle.std.specs.Prelude.{ℕ, List, ◌∷◌, ◌++◌, map, flat_map, Option}
use Rattle.rule_model.specs.declared.program.RuleDef.{RuleDef}
use Rattle.rule_model.specs.declared.program.GroupDef.{GroupDef}
use Rattle.rule_model.specs.declared.program.Program.{Program}
use Rattle.kmn_items.specs.TokenTexts.{LineToken}
use Rattle.kmn_parser.specs.Printed.{sheet}
use Rattle.kmn_parser.specs.Statements.{store_pieces, begin_pieces, group_pieces, rule_pieces}

-- the line of a rule
abbrev pub rule_line : RuleDef → List (Option LineToken)
rule_line rule = rule_pieces rule.kind rule

-- the lines of a group: its own line, then the lines of its rules
abbrev pub group_lines : GroupDef → List (List (Option LineToken))
group_lines group = group_pieces group ∷ map rule_line group.rules

-- the lines of a program
abbrev pub program_lines : Program → List (List (Option LineToken))
program_lines program =
    map store_pieces program.stores ++ (map begin_pieces program.begins ++ flat_map group_lines program.groups)

-- the text of a program
unfoldable pub program_text : Program → List ℕ
program_text program = sheet (program_lines program)
