use Rattle.std.proofs.Common.{◌∙◌, ap, List, ℕ}
use Rattle.rule_checker.specs.Walking.{is_value}
use Rattle.rule_checker.proofs.KnownValues.{found_value}
use Rattle.rule_checker.proofs.values.ValueTable.has.Goals as goal

pub returns : goal.returns
returns c =
    c.contains.ensures
    ∙ found_value c.self.inside.values.keys c.args.value.now
    ∙ ap (λ (values : List (List ℕ)). is_value values c.args.value.now) c.self.view_is
