use Rattle.std.proofs.Common.{rules, ◌≤◌, length, sym, ◌∙◌}
use Rattle.rule_model.specs.Plain.{option_numbers}
use Rattle.rule_model.specs.Tab.{tab}
use Rattle.play_session.proofs.OptionStores.{count_of_numbers}
use Rattle.curlew_calls.proofs.Options.{none_left}
use Rattle.curlew_calls.proofs.field.OpenField.knows_option.Goals as goal

pub returns : goal.returns
returns c =
    let tables = c.args.self.now.tables in let numbers = option_numbers 0 (tab tables).stores in
    let end : length numbers ≤ c.loop-store.store = search (rules, count_of_numbers tables) in
    sym (none_left c.args.name.now tables numbers c.loop-store.store end) ∙ c.loop-store.invariant
