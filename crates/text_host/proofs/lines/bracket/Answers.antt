use Rattle.std.proofs.Common.{rules, ◌≡◌, ◌∷◌, ◌-◌, length, take, drop}
use Rattle.text_host.proofs.BracketLaws.{begun, bracket_cut}
use Rattle.text_host.proofs.lines.bracket.Goals as goal

pub returns-in-91 : goal.returns-in-91
returns-in-91 c =
    let begins : c.args.text.now ≡ 91 ∷ take (length c.args.text.now - 1) (drop 1 c.args.text.now) = search (rules, begun) in
    bracket_cut c.args.text.now _ c.first_piece.result begins c.first_piece.ensures.parts
