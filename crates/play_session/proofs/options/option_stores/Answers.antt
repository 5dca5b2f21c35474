use Rattle.std.proofs.Common.{ℕ, List, Option, length, ◌≤◌, ◌++◌, sym, ◌∙◌, ap, arith, append-nil}
use Rattle.std.proofs.lemmas.List.{at_drop_all}
use Rattle.play_session.specs.Changes.{options_from}
use Rattle.play_session.proofs.OptionStores.{count_of_numbers}
use Rattle.std.proofs.lemmas.Grind.{common_steps}
use Rattle.play_session.proofs.options.option_stores.Goals as goal

pub returns-clause-stores : goal.returns-clause-stores
returns-clause-stores c =
    let numbers : List (Option ℕ) = c.option_numbers-numbers.result.now in
    let all : length numbers ≤ c.loop-store.store
    = omega (arith, c.loop-store-test.false, c.store_count-store-end.ensures, ap length c.option_numbers-numbers.ensures, count_of_numbers c.args.engine.now.tables) in
    sym (append-nil c.loop-store.stores.items)
    ∙ sym (at_drop_all (λ (left : List (Option ℕ)). c.loop-store.stores.items ++ options_from c.loop-store.store left) numbers c.loop-store.store all)
    ∙ c.loop-store.invariant.stores
    ∙ ap (options_from 0) c.option_numbers-numbers.ensures

pub returns-clause-few : goal.returns-clause-few
returns-clause-few c = grind (arith, count_of_numbers)

pub loop-store-preserved : goal.loop-store-preserved
loop-store-preserved c = grind (arith, common_steps)
