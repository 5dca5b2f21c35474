use Rattle.std.proofs.Common.{length, ◌<◌, arith, ap, sym, ◌∙◌}
use Rattle.std.specs.Prelude.{slice_set}
use Rattle.std.proofs.lemmas.List.Edits.{map_over_more}
use Rattle.source_faults.specs.Stubs.{stub_group}
use Rattle.source_faults.proofs.stubs.stub_groups.Goals as goal

pub loop-group-preserved : goal.loop-group-preserved
loop-group-preserved c =
    let within : c.loop-group.group-index < length c.args.groups.now = omega (arith, c.loop-group-test.true) in
    ap (slice_set c.loop-group.groups c.loop-group.group-index) (c.stub_group.ensures ∙ ap (stub_group c.args.refused.now) (sym c.group-item.is))
    ∙ map_over_more (stub_group c.args.refused.now) c.args.groups.now c.loop-group.groups c.loop-group.group-index c.group-item.result within c.loop-group.invariant c.group-item.is
