use Rattle.std.proofs.Common.{◌+◌, ◌*◌, sym, ◌∙◌}
use Rattle.file_conversions.proofs.Steps.{one_more}
use Rattle.core_export.specs.Export.{end_in_group, end_in_groups}
use Rattle.core_export.proofs.Steps.{none_first}
use Rattle.core_export.proofs.zero_units.end_in_groups.Goals as goal

pub loop-i-preserved : goal.loop-i-preserved
loop-i-preserved c =
    let bytes = c.args.bytes.now in
    one_more 24 (end_in_groups bytes) (end_in_groups bytes) c.args.place c.args.count c.loop-i.i _ c.loop-i-test.true
    (λ rest. none_first (end_in_group bytes (c.args.place + 24 * c.loop-i.i)) c.end_in_group-found.result _ c.end_in_group-found.ensures (sym c.is_some.ensures ∙ c.if-is_some.false))
    c.loop-i.invariant
