use Rattle.rule_checker.proofs.KnownValues.{pushed_value}
use Rattle.rule_checker.proofs.values.ValueTable.push.Goals as goal

pub returns : goal.returns
returns c =
    pushed_value c.self.inside.values.keys c.insert.new.self.keys c.args.self.now c.in_ok-copy.copy c.args.value.now c.self.view_is c.requires
    c.in_ok-copy.ensures.items c.in_ok-insert.ensures.keys
