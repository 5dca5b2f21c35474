use Rattle.std.proofs.Common.{arith}
use Rattle.kmn_base.proofs.DecodedTexts.{decoded_text, decoded_other}
use Rattle.kmn_base.proofs.texts.decoded.Goals as goal

pub returns-in-Ok : goal.returns-in-Ok
returns-in-Ok c = grind (arith, decoded_text, decoded_other)

pub returns-in-Err : goal.returns-in-Err
returns-in-Err c = grind (arith, decoded_text, decoded_other)
