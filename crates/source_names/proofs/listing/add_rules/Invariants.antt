use Rattle.std.proofs.Common.{◌≡◌, [], ◌++◌, take, drop}
use Rattle.std.specs.List.{list_any}
use Rattle.rule_model.specs.Src.{is_on_match, is_on_nomatch}
use Rattle.source_names.specs.Causes.{each_of, rule_faults}
use Rattle.source_names.proofs.listing.add_rules.Given as goal

abbrev pub invariant-loop-rule : goal.invariant-loop-rule
invariant-loop-rule l = record {
  matched : list_any is_on_match (take l.rule-index l.rules) ≡ l.matched;
  unmatched : list_any is_on_nomatch (take l.rule-index l.rules) ≡ l.unmatched;
  causes : l.causes.items ++ each_of (rule_faults l.stores l.groups) (take l.rule-index l.rules) (drop l.rule-index l.rules) ≡ l.fn.causes.items ++ each_of (rule_faults l.stores l.groups) [] l.rules;
}
