use Rattle.kmx_writer.proofs.rules.put_strings.Goals as goal

pub put_rule_strings-requires : goal.put_rule_strings-requires
put_rule_strings-requires c = rw c.rule-item.is (c.requires c.loop-rule.rule-index _ c.loop-rule-test.true)
