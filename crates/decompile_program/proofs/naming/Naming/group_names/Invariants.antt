use Rattle.std.proofs.Common.{◌≡◌, ◌++◌}
use Rattle.decompile_program.specs.Names.{group_names}
use Rattle.decompile_program.proofs.naming.Naming.group_names.Given as goal

abbrev pub invariant-loop-group : goal.invariant-loop-group
invariant-loop-group l = l.names.items ++ group_names l.self.free.now l.self.earlier l.group-iterator ≡ group_names l.initial.self.free.now l.initial.self.earlier l.file.groups
