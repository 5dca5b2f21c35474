use Rattle.std.proofs.Common.{◌≡◌, ℕ, false, List, map, Some, sym, ◌∙◌, ap, subst}
use Rattle.kmn_base.specs.declared.items.Element.TheVariants.{Char}
use Rattle.rule_model.specs.Match.{same_value}
use Rattle.rule_index.specs.Texts.{AreCharacters}
use Rattle.rule_index.proofs.TextEntries.{text_inserted, text_left_out}
use Rattle.rule_index.proofs.texts.put_text.Goals as goal

pub returns-in_ok-insert-in-Some : goal.returns-in_ok-insert-in-Some
returns-in_ok-insert-in-Some c stores here are =
    let some : AreCharacters c.args.elements.now (Some c.in-Some.text) = subst (AreCharacters c.args.elements.now) c.in-Some.is c.in_ok-text.ensures in
    text_inserted stores c.args.store c.args.texts.now.entries are c.insert.new.self.entries c.in-Some.text (some ∙ sym here) c.in_ok-insert-in-Some.ensures.entries

pub returns-in-None : goal.returns-in-None
returns-in-None c stores here are =
    let none : (text : List ℕ) → same_value (map Char text) c.args.elements.now ≡ false = subst (AreCharacters c.args.elements.now) c.in-None.is c.in_ok-text.ensures in
    text_left_out stores c.args.store c.args.texts.now.entries are (λ text. ap (same_value (map Char text)) here ∙ none text)
