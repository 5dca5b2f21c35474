use Rattle.std.proofs.Common.{sym}
use Rattle.import_tokens.specs.Ranges.{between, keys_tokens}
use Rattle.import_tokens.proofs.KeyRanges.{keys_on}
use Rattle.import_tokens.proofs.ranges.keys_tokens.Goals as goal

pub loop-code-preserved : goal.loop-code-preserved
loop-code-preserved c =
    keys_on c.args.modifiers.now c.loop-code.tokens c.add_key.new.tokens c.in-Some.name.now c.loop-code.code c.args.last (keys_tokens c.args.modifiers.now (between c.args.first c.args.last))
    c.loop-code-test.true (sym c.in-Some.ensures) c.in_ok-add_key.ensures c.loop-code.invariant
