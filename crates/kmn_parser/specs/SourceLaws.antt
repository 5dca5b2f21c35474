-- The laws of programs that are read from a source.
use Rattle.std.specs.Prelude.{◌≡◌, ℕ, ◌+◌, ◌≤◌, Bool, true, List, [], map, flat_map, Ok}
use Rattle.std.specs.List.{list_all}
use Rattle.kmn_base.specs.Rising.{Rises, times}
use Rattle.rule_model.specs.declared.program.StoreDef.{StoreDef}
use Rattle.rule_model.specs.declared.program.BeginDef.{BeginDef}
use Rattle.rule_model.specs.declared.program.RuleDef.{RuleDef}
use Rattle.rule_model.specs.declared.program.GroupDef.{GroupDef}
use Rattle.rule_model.specs.declared.program.Program.{Program}
use Rattle.rule_model.specs.OwnLines.{have_own_lines}
use Rattle.kmn_parser.specs.declared.statement.Statement.{Statement}
use Rattle.kmn_parser.specs.declared.statement.Statement.TheVariants as statement
use Rattle.kmn_parser.specs.Source.{parsed}

-- the line numbers of each kind of statement, in the order of the program
abbrev pub store_lines : List StoreDef → List ℕ
store_lines stores = map (λ (store : StoreDef). store.line) stores

abbrev pub begin_lines : List BeginDef → List ℕ
begin_lines begins = map (λ (start : BeginDef). start.line) begins

abbrev pub group_lines : List GroupDef → List ℕ
group_lines groups = map (λ (group : GroupDef). group.line) groups

abbrev pub lines_of_rules : List RuleDef → List ℕ
lines_of_rules rules = map (λ (rule : RuleDef). rule.line) rules

-- the line numbers of the rules of all groups, one group after the other
abbrev pub rule_lines : List GroupDef → List ℕ
rule_lines groups = flat_map (λ (group : GroupDef). lines_of_rules group.rules) groups

-- the number of statements of a line
abbrev pub statements_at : ℕ → Program → ℕ
statements_at line program =
    times line (store_lines program.stores) + (times line (begin_lines program.begins)
    + (times line (group_lines program.groups) + times line (rule_lines program.groups)))

-- whether the rules of a group have distinct lines
abbrev pub has_own_lines : GroupDef → Bool
has_own_lines group = have_own_lines group.rules

-- statements of each kind, and the rules of all groups together, are in the order of their lines, and no line has two statements
pub record IsInOrder (program : Program) : Type 0 where
  pub stores : Rises (store_lines program.stores)
  pub begins : Rises (begin_lines program.begins)
  pub groups : Rises (group_lines program.groups)
  pub rules : Rises (rule_lines program.groups)
  pub apart : (line : ℕ) → statements_at line program ≤ 1
  pub own : list_all has_own_lines program.groups ≡ true

-- the statements of a source are in the order of their lines, and each has its own line
abbrev pub StatementsAreInOrder : Type 0
StatementsAreInOrder = (source : List ℕ) (program : Program) → parsed source ≡ Ok program → IsInOrder program
