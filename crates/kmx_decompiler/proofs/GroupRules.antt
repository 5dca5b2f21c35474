-- The rules of a group, as a function that flattens lists of groups.
use Rattle.std.proofs.Common.{List}
use Rattle.rule_model.specs.declared.program.RuleDef.{RuleDef}
use Rattle.rule_model.specs.declared.program.GroupDef.{GroupDef}

abbrev pub rules_of : GroupDef → List RuleDef
rules_of group = group.rules
