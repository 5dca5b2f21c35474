use Rattle.std.proofs.Common.{◌∙◌}
use Rattle.std.specs.List.{list_all}
use Rattle.rule_model.specs.declared.program.StoreDef.{StoreDef}
use Rattle.store_table.specs.Known.{known}
use Rattle.item_checker.specs.Summaries.{are_found_keys}
use Rattle.item_checker.proofs.FoundKeys.{stores_found}
use Rattle.item_checker.proofs.items.items_refusal.Goals as goal

pub stores_refusal-requires : goal.stores_refusal-requires
unfolding known
stores_refusal-requires c =
    (λ j. list_all (λ (store : StoreDef). are_found_keys (c.in_ok-facts.ensures j).names store.items) (c.as_slice.ensures j))
    ∙ stores_found c.args.program.now
