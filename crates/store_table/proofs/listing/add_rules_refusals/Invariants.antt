use Rattle.std.proofs.Common.{◌≡◌, [], ◌++◌, take, drop}
use Rattle.std.specs.List.{list_any}
use Rattle.rule_model.specs.Src.{is_on_match, is_on_nomatch}
use Rattle.store_table.specs.First.{all_of}
use Rattle.store_table.specs.Names.{rule_refusal}
use Rattle.store_table.proofs.listing.add_rules_refusals.Given as goal

abbrev pub invariant-loop-rule : goal.invariant-loop-rule
invariant-loop-rule l = record {
  matched : list_any is_on_match (take l.rule-index l.rules) ≡ l.matched;
  unmatched : list_any is_on_nomatch (take l.rule-index l.rules) ≡ l.unmatched;
  refusals : l.refusals ++ all_of (rule_refusal l.stated) (take l.rule-index l.rules) (drop l.rule-index l.rules) ≡ l.fn.refusals ++ all_of (rule_refusal l.stated) [] l.rules;
}
