use Rattle.std.proofs.Common.{rules}
use Rattle.kmx_view.proofs.Reading.{front_passed}
use Rattle.kmx_view.proofs.strings.bytes_before_zero.Goals as goal

pub loop-rest-preserved : goal.loop-rest-preserved
loop-rest-preserved c =
    front_passed _ _ c.from_le_bytes.result (search rules) c.in-len2-up.len_at_least (search rules) (search rules) c.loop-rest.invariant
