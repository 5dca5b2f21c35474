use Rattle.std.proofs.Common.{◌∙◌, ap}
use Rattle.std.specs.Prelude.{flat_map}
use Rattle.rule_model.specs.declared.program.GroupDef.{GroupDef}
use Rattle.store_table.specs.Known.{rule_options}
use Rattle.item_checker.specs.Summaries.{no_summaries, with_stores}
use Rattle.item_checker.proofs.Summed.{facts_are}
use Rattle.item_checker.proofs.facts.Facts.of.Goals as goal

pub invariant_of-result : goal.invariant_of-result
invariant_of-result c =
    facts_are c.args.program.now c.in_ok-stores.stores c.in_ok-options.options
    (c.in_ok-stores.ensures ∙ ap (with_stores no_summaries) c.as_slice.ensures)
    (c.in_ok-options.ensures ∙ ap (λ groups. flat_map rule_options (flat_map (λ (group : GroupDef). group.rules) groups)) c.as_slice-2.ensures)
