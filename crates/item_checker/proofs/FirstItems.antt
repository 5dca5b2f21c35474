-- The first refusal of items and of statements that are checked one by one.
use Rattle.std.proofs.Common.{◌≡◌, ℕ, ◌+◌, ◌<◌, List, [], ◌∷◌, take, drop, length, get_or, sym, ap, ◌∙◌, flat_map}
use Rattle.std.proofs.lemmas.List.{drop_more}
use Rattle.std.specs.Option.{option_or}
use Rattle.rule_model.specs.declared.program.SrcItem.{SrcItem}
use Rattle.store_table.proofs.Firsts.{take_next}
use Rattle.rule_model.specs.declared.program.Program.{Program}
use Rattle.store_table.specs.First.{all_of, first_among}
use Rattle.store_table.specs.Known.{known}
use Rattle.store_table.proofs.FirstAmong.{first_is_least, groups_least, first_of_both}
use Rattle.item_checker.specs.Items.{context_code, context_item_code, store_refusal, rule_refusal, rules_refusals, items_refusal, items_refusals}

-- a context with another item
pub context_step : (xs : List SrcItem) (i : ℕ) (x : SrcItem) → i < length xs → x ≡ get_or xs i x
    → context_code (take i xs) (drop i xs) ≡ option_or (context_item_code (take i xs) x) (context_code (take (i + 1) xs) (drop (i + 1) xs))
context_step xs i x h e =
    ap (context_code (take i xs)) (drop_more xs i x h ∙ ap (λ y. y ∷ drop (i + 1) xs) (sym e))
    ∙ ap (λ before. option_or (context_item_code (take i xs) x) (context_code before (drop (i + 1) xs))) (sym (take_next xs i x h e))

-- the first refusal for items is the first among all
pub items_least : (program : Program) → items_refusal program ≡ first_among (items_refusals program)
unfolding items_refusal items_refusals
items_least program =
    first_of_both _ _ (all_of (store_refusal (known program)) [] program.stores) (flat_map (rules_refusals (known program)) program.groups)
    (first_is_least (store_refusal (known program)) [] program.stores)
    (groups_least (rule_refusal (known program)) [] program.groups)
