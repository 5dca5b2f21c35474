use Rattle.std.proofs.Common.{◌≡◌, false, get_or, ap, sym, ◌∙◌}
use Rattle.kmn_base.specs.Bytes.{is_blank}
use Rattle.kmn_tokens.proofs.Scans.{first_is, step_on}
use Rattle.kmn_tokens.proofs.scan.add_next.Goals as goal

pub returns : goal.returns
returns c =
    let blank : is_blank (get_or c.args.bytes.now 0 0) ≡ false = sym c.is_blank.ensures ∙ c.if-is_blank.false in
    let some = c.token_size-size.ensures.some (ap is_blank (sym (first_is c.args.bytes.now c.requires.some)) ∙ blank) in
    step_on _ _ c.args.line c.args.at c.args.bytes.now _ c.token_size-size.result c.in_ok-token.token c.requires.some blank
    c.token_size-size.ensures.is c.token_size-size.ensures.within some c.before-2.ensures c.in_ok-token.ensures.0 c.in_ok-token.ensures.1 c.in_ok-add.ensures
