-- The names of options, item by item.
use Rattle.std.proofs.Common.{◌≡◌, ◌++◌, sym, ap, ◌∙◌}
use Rattle.std.specs.Prelude.{flat_map, option_to_list}
use Rattle.std.proofs.lemmas.List.Concat.{flat_map-append}
use Rattle.rule_model.specs.declared.program.RuleDef.{RuleDef}
use Rattle.store_table.specs.Known.{option_named, rule_options}

-- the names of a rule, of its context, its key and its output
pub rule_options_are : (rule : RuleDef)
    → flat_map option_named rule.context ++ (flat_map option_named (option_to_list rule.key) ++ flat_map option_named rule.output) ≡ rule_options rule
rule_options_are rule =
    ap (λ rest. flat_map option_named rule.context ++ rest) (sym (flat_map-append option_named (option_to_list rule.key) rule.output))
    ∙ sym (flat_map-append option_named rule.context (option_to_list rule.key ++ rule.output))
