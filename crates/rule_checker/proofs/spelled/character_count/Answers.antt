use Rattle.std.proofs.Common.{arith}
use Rattle.std.proofs.lemmas.Grind.{common_steps}
use Rattle.rule_checker.proofs.SpelledTexts.{spelled_through}
use Rattle.rule_checker.proofs.spelled.character_count.Goals as goal

pub returns : goal.returns
returns c =
    spelled_through c.loop-byte.count c.loop-byte.coming c.loop-byte.byte-index c.args.text.now c.loop-byte.invariant.fits
    (omega (arith, c.loop-byte-test.false)) c.loop-byte.invariant.count

pub loop-byte-preserved : goal.loop-byte-preserved
loop-byte-preserved c = grind (arith, common_steps)
