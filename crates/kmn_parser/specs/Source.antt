-- The program of a source, or its first refusal.
use Rattle.std.specs.Prelude.{ℕ, nat_lt, Bool, true, false, not, if◌then◌else◌, List, [], ◌∷◌, ◌++◌, length, None, Some, Result, Ok, Err}
use Rattle.std.specs.Str.{is_utf8}
use Rattle.kmn_base.specs.declared.codes.Code.TheVariants.{L01, L05}
use Rattle.kmn_base.specs.declared.limits.TheConstants.{TEXT_BYTES}
use Rattle.kmn_base.specs.declared.refusals.Refusal.{Refusal}
use Rattle.kmn_lines.specs.Lines.{logicals}
use Rattle.kmn_lines.specs.Tokens.{line_tokens, refusal, tokens_refusal}
use Rattle.kmn_lines.specs.declared.logical.Logical.{Logical}
use Rattle.rule_model.specs.declared.program.RuleDef.{RuleDef}
use Rattle.rule_model.specs.declared.program.GroupDef.{GroupDef}
use Rattle.rule_model.specs.declared.program.Program.{Program}
use Rattle.kmn_items.specs.declared.syntax.TokenRefusal.{TokenRefusal}
use Rattle.kmn_parser.specs.declared.statement.LastGroup.{LastGroup}
use Rattle.kmn_parser.specs.declared.statement.LastGroup.TheVariants.{Missing, UsingKeys, WithoutKeys}
use Rattle.kmn_parser.specs.declared.statement.Statement.{Statement}
use Rattle.kmn_parser.specs.declared.statement.Statement.TheVariants as statement
use Rattle.kmn_items.specs.TokenTexts.{with_texts}
use Rattle.kmn_parser.specs.Line.{read_line}

-- the result of reading a line with this number, where a fault becomes its refusal
abbrev pub at_line : {A : Type 0} → ℕ → Result A TokenRefusal → Result A Refusal
at_line line (Ok read) = Ok read
at_line line (Err found) = Err (refusal line found.code)

-- the statement of a logical line, after a group
abbrev pub line_statement : List ℕ → LastGroup → Logical → Result Statement Refusal
line_statement source group line =
    at_line line.first_line (read_line group line.first_line (with_texts source (line_tokens source line)))

-- a group that uses keys, or one that doesn't, as the last one
abbrev pub last_group : Bool → LastGroup
last_group true = UsingKeys
last_group false = WithoutKeys

-- the last group after a statement
abbrev pub group_after : LastGroup → Statement → LastGroup
group_after group (statement.Group opened) = last_group opened.using_keys
group_after group other = group

-- the groups with a rule in the last of them
abbrev pub with_rule : List GroupDef → RuleDef → List GroupDef
with_rule [] rule = []
with_rule (group ∷ []) rule = record group { rules = group.rules ++ rule ∷ [] } ∷ []
with_rule (group ∷ next ∷ groups) rule = group ∷ with_rule (next ∷ groups) rule

-- a program with another statement
abbrev pub with_statement : Program → Statement → Program
with_statement program statement.Nothing = program
with_statement program (statement.Store store) = record program { stores = program.stores ++ store ∷ [] }
with_statement program (statement.Begin start) = record program { begins = program.begins ++ start ∷ [] }
with_statement program (statement.Group group) = record program { groups = program.groups ++ group ∷ [] }
with_statement program (statement.Rule rule) = record program { groups = with_rule program.groups rule }

-- a program without statements
abbrev pub no_program : Program
no_program = record { stores = []; begins = []; groups = [] }

-- a program with the statements of lines, or the first refusal among them
abbrev pub read_lines : List ℕ → LastGroup → Program → List Logical → Result Program Refusal
read_lines source group program [] = Ok program
read_lines source group program (line ∷ lines) = elim (line_statement source group line) [
  | Ok read ↦ read_lines source (group_after group read) (with_statement program read) lines
  | Err found ↦ Err found
]

-- the program of a source's characters; the tokens of all lines are checked before any statement
abbrev pub read_text : List ℕ → Result Program Refusal
read_text source = elim (tokens_refusal source (logicals source)) [
  | Some found ↦ Err found
  | None ↦ read_lines source Missing no_program (logicals source)
]

-- the program of a source, or its first refusal
unfoldable pub parsed : List ℕ → Result Program Refusal
parsed source =
    if nat_lt TEXT_BYTES (length source) then Err (refusal 1 L05)
    else (if not (is_utf8 source) then Err (refusal 1 L01) else read_text source)
