use Rattle.kmx_verifier.proofs.Playing.{valid_playable}
use Rattle.kmn_base.proofs.SmallBytes.{bytes_small}
use Rattle.kmx_verifier.proofs.verified.verify.Goals as goal

pub invariant_of-result : goal.invariant_of-result
invariant_of-result c = (c.in_ok-check_file.ensures.1, valid_playable c.args.bytes.now (bytes_small _ c.type_inv.bytes) c.in_ok-check_file.ensures.0, c.in_ok-check_file.ensures.0)
