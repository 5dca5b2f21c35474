use Rattle.std.proofs.Common.{arith}
use Rattle.touch_layout.proofs.KeyCounts.{few_keys}
use Rattle.touch_layout.proofs.check.check_layout.Goals as goal

pub overflow_cast-result : goal.overflow_cast-result
overflow_cast-result c =
    let most = few_keys c.without_bom.result.now c.in_ok-root.field-0 c.in-Some.root c.in_ok-root.ensures c.in-Some.is in
    omega (arith, c.in_ok-count.ensures.count.1, c.without_bom.ensures.within, c.if-bytes-gt-TEXT_BYTES.false)
