use Rattle.std.proofs.Common.{length, ◌<◌, arith, ap, sym, ◌∙◌}
use Rattle.std.specs.Prelude.{slice_set}
use Rattle.std.proofs.lemmas.List.Edits.{map_over_more}
use Rattle.rule_model.specs.declared.tables.Group.{Group}
use Rattle.core_conversions.specs.Conversions.{group_with_nomatch}
use Rattle.core_conversions.proofs.nomatch.convert_groups.Goals as goal

pub loop-group-preserved : goal.loop-group-preserved
loop-group-preserved c =
    let ys = c.loop-group.groups in
    let i = c.loop-group.group-index in
    let x = c.group-item.result in
    let within : i < length c.args.groups.now = omega arith in
    ap (slice_set ys i) c.in_ok-convert_group.ensures
    ∙ ap (λ (y : Group). slice_set ys i (group_with_nomatch y)) (sym c.group-item.is)
    ∙ map_over_more group_with_nomatch c.args.groups.now ys i x within c.loop-group.invariant c.group-item.is
