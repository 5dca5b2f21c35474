use Rattle.std.proofs.Common.{◌≡◌, drop}
use Rattle.rule_checker.specs.Cased.{with_items_codes}
use Rattle.rule_checker.specs.KeyCodes.{no_codes}
use Rattle.rule_checker.proofs.cased.codes_of_items.Given as goal

abbrev pub invariant-loop-item : goal.invariant-loop-item
invariant-loop-item l = with_items_codes l.before l.codes (drop l.item-index l.items) ≡ with_items_codes l.before no_codes l.items
