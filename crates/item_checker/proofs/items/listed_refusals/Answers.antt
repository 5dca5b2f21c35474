use Rattle.std.proofs.Common.{◌∙◌}
use Rattle.std.specs.List.{list_all}
use Rattle.rule_model.specs.declared.program.StoreDef.{StoreDef}
use Rattle.store_table.specs.Known.{known}
use Rattle.item_checker.specs.Summaries.{are_found_keys}
use Rattle.item_checker.proofs.FoundKeys.{stores_found}
use Rattle.item_checker.proofs.items.listed_refusals.Goals as goal

pub add_stores_refusals-requires : goal.add_stores_refusals-requires
unfolding known
add_stores_refusals-requires c =
    (λ j. list_all (λ (store : StoreDef). are_found_keys (c.in_ok-facts.ensures j).names store.items) (c.as_slice.ensures j))
    ∙ stores_found c.args.program.now
