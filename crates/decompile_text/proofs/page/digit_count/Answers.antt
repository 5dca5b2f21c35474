use Rattle.std.proofs.Common.{ℕ, ◌+◌, ◌/◌, ◌%◌, ◌≤◌, [], ◌∷◌, length, ap, arith, rules, length-append}
use Rattle.std.specs.Fmt.{decimal}
use Rattle.std.proofs.lemmas.Fmt.{decimal_digit, decimal_step, length-decimal-le}
use Rattle.decompile_text.proofs.page.digit_count.Goals as goal

pub overflow_add-count : goal.overflow_add-count
overflow_add-count c =
    let most = length-decimal-le 20 c.args.number (omega arith) (omega arith) (omega (arith, c.ranges.number.fits)) in
    let small : c.loop-rest.count ≤ 21 = omega (arith, most, c.loop-rest.invariant) in
    search rules

pub loop-rest-preserved : goal.loop-rest-preserved
loop-rest-preserved c =
    let rest : ℕ = c.loop-rest.rest in
    omega (arith, c.loop-rest.invariant, ap length (decimal_step rest (omega arith) (omega arith)), length-append (decimal (rest / 10)) ((48 + rest % 10) ∷ []))

pub returns : goal.returns
returns c = omega (arith, c.loop-rest.invariant, ap length (decimal_digit c.loop-rest.rest (omega arith)))
