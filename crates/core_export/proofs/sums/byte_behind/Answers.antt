use Rattle.std.proofs.Common.{◌≡◌, suc, ◌+◌, ◌-◌, sym, ◌∙◌, ap, arith}
use Rattle.core_export.specs.Checksum.{bits_behind}
use Rattle.core_export.proofs.sums.byte_behind.Goals as goal

pub loop-bit-preserved : goal.loop-bit-preserved
loop-bit-preserved c =
    let next : 8 - c.loop-bit._bit ≡ suc (8 - (c.loop-bit._bit + 1)) = omega (arith, c.loop-bit-test.true) in
    ap (bits_behind (8 - (c.loop-bit._bit + 1))) c.bit_behind-sum.ensures ∙ sym (ap (λ n. bits_behind n c.loop-bit.sum) next) ∙ c.loop-bit.invariant
