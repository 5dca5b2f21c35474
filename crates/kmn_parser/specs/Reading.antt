-- Reading a source in one pass over the lines: statements are read up to the first refusal among them, tokens to the end.
use Rattle.std.specs.Prelude.{ℕ, List, None, Some, Result, Ok, Err}
use Rattle.kmn_base.specs.declared.refusals.Refusal.{Refusal}
use Rattle.kmn_lines.specs.declared.logical.Logical.{Logical}
use Rattle.rule_model.specs.declared.program.Program.{Program}
use Rattle.kmn_parser.specs.declared.reading.Reading.{Reading}
use Rattle.kmn_parser.specs.declared.statement.LastGroup.{LastGroup}
use Rattle.kmn_parser.specs.declared.statement.Statement.{Statement}
use Rattle.kmn_parser.specs.Source.{line_statement, group_after, with_statement, read_lines}

-- a program after a group, with another statement or with its refusal
abbrev pub read_further : LastGroup → Program → Result Statement Refusal → Reading
read_further group program (Ok statement) = record { program = with_statement program statement; group = group_after group statement; refused = None }
read_further group program (Err found) = record { program = program; group = group; refused = Some found }

-- a reading with another line; after a refusal, no statement is added
abbrev pub reading_after : List ℕ → Reading → Logical → Reading
reading_after source reading line = elim reading.refused [
  | None ↦ read_further reading.group reading.program (line_statement source reading.group line)
  | Some found ↦ reading
]
