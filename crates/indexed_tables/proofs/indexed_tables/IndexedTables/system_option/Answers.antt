use Rattle.std.proofs.Common.{◌∙◌, ap}
use Rattle.rule_model.specs.Plain.{option_numbers}
use Rattle.rule_model.specs.Tab.{tab}
use Rattle.indexed_tables.proofs.SystemNumbers.{system_counted}
use Rattle.indexed_tables.proofs.indexed_tables.IndexedTables.system_option.Goals as goal

pub unreachable-requires : goal.unreachable-requires
unreachable-requires c =
    let all = c.as_slice.ensures.value ∙ c.self.invariant.0 ∙ ap (λ tables. option_numbers 0 (tab tables).stores) c.self.view_is in
    let counted = system_counted c.args.self.now c.as_slice.result.now c.args.id all in
    cc
