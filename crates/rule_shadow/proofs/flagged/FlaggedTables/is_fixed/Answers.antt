use Rattle.std.proofs.Common.{◌<◌, arith, ap, ◌∙◌, not, length}
use Rattle.rule_shadow.specs.Places.{is_fixed}
use Rattle.rule_shadow.proofs.Flags.{fixed_below}
use Rattle.rule_shadow.proofs.flagged.FlaggedTables.is_fixed.Goals as goal

pub returns-then-store-count : goal.returns-then-store-count
returns-then-store-count c =
    let below : c.args.store < length c.self.inside.tables.now.stores = omega (arith, c.if-store-count.true, c.len-count.ensures) in
    ap not c.flag_at.ensures ∙ (fixed_below c.self.inside.tables.now c.self.inside.flags.now c.args.store c.self.invariant.0 below ∙ ap (λ tables. is_fixed tables c.args.store) c.self.view_is)
