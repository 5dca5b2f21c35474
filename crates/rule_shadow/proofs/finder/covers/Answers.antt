use Rattle.std.proofs.Common.{List, Bool, subst, sym}
use Rattle.kmn_base.specs.declared.limits.TheConstants.{STORES}
use Rattle.rule_shadow.specs.Flags.{AreOptionFlags}
use Rattle.rule_shadow.proofs.Flags.{marked_tell}
use Rattle.rule_shadow.proofs.finder.covers.Goals as goal

pub without_sets-requires : goal.without_sets-requires
without_sets-requires c = subst (λ (flags : List Bool). AreOptionFlags c.args.tables.now flags) (sym c.mark_options.ensures) (marked_tell c.args.tables.now STORES c.requires.store_count)
