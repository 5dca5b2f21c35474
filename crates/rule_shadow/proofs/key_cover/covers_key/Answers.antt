use Rattle.std.proofs.Common.{sym, ap, ◌∙◌}
use Rattle.rule_shadow.specs.Keys.{covers_key}
use Rattle.rule_shadow.proofs.Tried.{tried_for, plain_tried}
use Rattle.rule_shadow.proofs.key_cover.covers_key.Goals as goal

pub returns-in-Char : goal.returns-in-Char
returns-in-Char c =
    c.fit_for-in-Char.ensures
    ∙ ((λ i. tried_for c.args.a (c.in-Char.is i) (c.plain_modifiers.ensures i) (c.all_codes-in-Char.ensures i))
    ∙ (plain_tried c.args.a c.in-Char.field-0 ∙ ap (covers_key c.args.a) (sym c.in-Char.is)))
