-- The names that the statements of a source define.
use Rattle.std.specs.Prelude.{ℕ, List, map}
use Rattle.rule_model.specs.declared.program.StoreDef.{StoreDef}
use Rattle.rule_model.specs.declared.program.GroupDef.{GroupDef}
use Rattle.rule_model.specs.declared.program.Program.{Program}
use Rattle.source_faults.specs.Reading.{read_all}
use Rattle.refusal_details.specs.declared.definitions.Definition.{Definition}
use Rattle.refusal_details.specs.declared.definitions.KnownNames.{KnownNames}

-- the name of a store, which is empty for a system store, and the name of a group
abbrev pub store_definition : StoreDef → Definition
store_definition store = record { line = store.line; name = store.name }

abbrev pub group_definition : GroupDef → Definition
group_definition group = record { line = group.line; name = group.name }

-- the names that the statements of a program define
unfoldable pub program_names : Program → KnownNames
program_names program = record { stores = map store_definition program.stores; groups = map group_definition program.groups }

-- the names that the lines of a source define, without those that cannot be read
abbrev pub stated_names : List ℕ → KnownNames
stated_names source = program_names (read_all source).program
