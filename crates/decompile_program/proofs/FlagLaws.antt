-- Flags of the stores that groups and records name.
use Rattle.std.proofs.Common.{◌≡◌, Bool, List, ◌∷◌}
use Rattle.std.specs.Prelude.{flat_map}
use Rattle.rule_model.specs.declared.tables.Group.{Group}
use Rattle.rule_model.specs.declared.tables.Rule.{Rule}
use Rattle.decompile_program.specs.Names.{named_by_rule, named_by_group}
use Rattle.indexed_tables.specs.OptionFlags.{with_flags}
use Rattle.indexed_tables.proofs.OptionFlags.{with_flags_append}

-- flagging the stores that groups name flags those of the first group and then those of the others
pub with_groups : (flags : List Bool) (group : Group) (groups : List Group)
    → with_flags flags (flat_map named_by_group (group ∷ groups)) ≡ with_flags (with_flags flags (named_by_group group)) (flat_map named_by_group groups)
with_groups flags group groups = with_flags_append flags (named_by_group group) (flat_map named_by_group groups)

-- flagging the stores that records name flags those of the first record and then those of the others
pub with_rules : (flags : List Bool) (rule : Rule) (rules : List Rule)
    → with_flags flags (flat_map named_by_rule (rule ∷ rules)) ≡ with_flags (with_flags flags (named_by_rule rule)) (flat_map named_by_rule rules)
with_rules flags rule rules = with_flags_append flags (named_by_rule rule) (flat_map named_by_rule rules)
