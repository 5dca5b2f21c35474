use Rattle.std.proofs.Common.{◌≡◌, true, false, drop, arith, ap, sym, ◌∙◌}
use Rattle.kmn_lines.specs.Tokens.{begins_forbidden}
use Rattle.kmn_tokens.proofs.Scans.{forbidden_here, forbidden_step}
use Rattle.kmn_tokens.proofs.faults.has_forbidden.Goals as goal

pub returns-then-begins_forbidden : goal.returns-then-begins_forbidden
returns-then-begins_forbidden c =
    let here : begins_forbidden (drop c.loop-at.at c.args.text.now) ≡ true = ap begins_forbidden (sym c.behind.ensures) ∙ sym c.begins_forbidden.ensures ∙ c.if-begins_forbidden.true in
    sym (forbidden_here c.args.text.now c.loop-at.at c.loop-at-test.true here) ∙ c.loop-at.invariant.1

pub loop-at-preserved : goal.loop-at-preserved
loop-at-preserved c =
    let here : begins_forbidden (drop c.loop-at.at c.args.text.now) ≡ false = ap begins_forbidden (sym c.behind.ensures) ∙ sym c.begins_forbidden.ensures ∙ c.if-begins_forbidden.false in
    (omega arith, forbidden_step c.args.text.now c.loop-at.at c.loop-at-test.true here ∙ c.loop-at.invariant.1)
