use Rattle.std.proofs.Common.{List, sym, subst}
use Rattle.kmn_items.specs.declared.syntax.Lead.{Lead}
use Rattle.kmn_items.specs.TokenTexts.{LineToken, texts, Reads}
use Rattle.kmn_items.specs.Item.{read_form, read_bracket}
use Rattle.kmn_items.specs.Brackets.{modifier_count}
use Rattle.kmn_items.proofs.item.read_form.Goals as goal

pub returns-in-Bracket-clause-read : goal.returns-in-Bracket-clause-read
returns-in-Bracket-clause-read c =
    let tokens = texts c.args.tokens in
    let read = subst (λ (ts : List LineToken). Reads (read_bracket c.args.spot.place c.args.spot.seen c.args.spot.last c.args.spot.at (modifier_count ts) ts) c.read_bracket.result) c.behind.ensures c.read_bracket.ensures.read in
    subst (λ (lead : Lead). Reads (read_form c.args.spot.place c.args.spot.seen c.args.spot.last c.args.spot.at lead tokens) c.read_bracket.result) (sym c.in-Bracket.is) read
