-- Which stores each part of the tables uses as options.
use Rattle.std.specs.Prelude.{ℕ, Bool, ◌||◌, nat_eq, List}
use Rattle.std.specs.List.{list_any}
use Rattle.rule_model.specs.Tab.{pattern_options, output_options}
use Rattle.rule_model.specs.declared.tables.Rule.{Rule}
use Rattle.rule_model.specs.declared.tables.Group.{Group}

-- one of the items uses the store as an option
abbrev pub used_in : {X : Type 0} → (X → List ℕ) → ℕ → List X → Bool
used_in options store items = list_any (λ item. list_any (nat_eq store) (options item)) items

abbrev pub used_in_rule : ℕ → Rule → Bool
used_in_rule store rule = used_in pattern_options store rule.context || used_in output_options store rule.output

abbrev pub used_in_group : ℕ → Group → Bool
used_in_group store group =
    (list_any (λ rule. used_in_rule store rule) group.rules || used_in output_options store group.on_match) || used_in output_options store group.on_nomatch
