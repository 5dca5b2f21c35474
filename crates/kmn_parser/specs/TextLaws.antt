-- The law of the text of programs.
use Rattle.std.specs.Prelude.{◌≡◌, Ok}
use Rattle.rule_model.specs.declared.program.Program.{Program}
use Rattle.kmn_parser.specs.Source.{parsed}
use Rattle.kmn_parser.specs.Programs.{program_text}
use Rattle.kmn_parser.specs.Spelled.{IsSpelled}

-- if a text can express a program, the text of the program is read as the program
abbrev pub ProgramsAreReadBack : Type 0
ProgramsAreReadBack = (program : Program) → IsSpelled program → parsed (program_text program) ≡ Ok program
