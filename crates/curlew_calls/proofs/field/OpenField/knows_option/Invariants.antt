use Rattle.std.proofs.Common.{◌≡◌, drop}
use Rattle.rule_model.specs.Plain.{option_numbers}
use Rattle.rule_model.specs.Tab.{tab}
use Rattle.curlew_calls.specs.Calls.{knows_option}
use Rattle.curlew_calls.proofs.Options.{known_from}
use Rattle.curlew_calls.proofs.field.OpenField.knows_option.Given as goal

abbrev pub invariant-loop-store : goal.invariant-loop-store
invariant-loop-store l = known_from l.name l.self.tables l.store (drop l.store (option_numbers 0 (tab l.self.tables).stores)) ≡ knows_option l.name l.self.tables
