use Rattle.std.proofs.Common.{◌∙◌, ap}
use Rattle.std.specs.Prelude.{count_by}
use Rattle.core_export.specs.Saves.{may_save}
use Rattle.core_export.proofs.Counts.{twice_counted}
use Rattle.core_export.proofs.saves.rule_saves_twice.Goals as goal

pub returns : goal.returns
returns c =
    let saves = may_save c.args.groups.now in
    twice_counted saves c.args.rule.now.output c.args.group.now.on_match c.saving_count-own.result c.saving_count.result c.saturating_add.result
    (c.saving_count-own.ensures ∙ ap (count_by saves) c.as_slice.ensures) (c.saving_count.ensures ∙ ap (count_by saves) c.as_slice-2.ensures) c.saturating_add.ensures
