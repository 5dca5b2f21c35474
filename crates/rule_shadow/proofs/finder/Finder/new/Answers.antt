use Rattle.std.proofs.Common.{◌≤◌, List, Bool, length, arith, subst, sym}
use Rattle.rule_model.specs.declared.tables.Store.{Store}
use Rattle.indexed_tables.specs.Numbers.{AreSetsOf}
use Rattle.rule_shadow.specs.Flags.{AreOptionFlags}
use Rattle.rule_shadow.proofs.Flags.{marked_tell}
use Rattle.rule_shadow.proofs.finder.Finder.new.Goals as goal

pub invariant_of-result : goal.invariant_of-result
invariant_of-result c =
    let enough : length c.args.tables.now.stores ≤ length c.args.tables.now.stores = omega arith in (
      c.requires,
      subst (λ (flags : List Bool). AreOptionFlags c.args.tables.now flags) (sym c.in_ok-flags.ensures) (marked_tell c.args.tables.now (length c.args.tables.now.stores) enough),
      subst (λ (stores : List Store). AreSetsOf stores c.in_ok-sets.sets) c.as_slice.ensures c.in_ok-sets.ensures,
    )
