use Rattle.std.proofs.Common.{◌≡◌, ◌∙◌, ap, sym, ℕ, List, arith}
use Rattle.std.specs.List.{suffix_len}
use Rattle.kmn_base.specs.declared.items.Item.{Item}
use Rattle.kmn_base.specs.Lists.{is_mark, without_last}
use Rattle.context_cache.specs.Cached.{text_with_context}
use Rattle.event_text.specs.Texts.{LeftValue}
use Rattle.event_text.proofs.Lefts.{marks_at_hand}
use Rattle.event_text.proofs.left.Left.take_marks.Goals as goal

pub returns-clause-items : goal.returns-clause-items
returns-clause-items c =
    let items : List Item = c.args.self.now.items in
    let same : items ≡ text_with_context c.self.inside.text.text c.self.inside.cache.value = sym (ap (λ (v : LeftValue). v.items) c.self.view_is) in
    let count : c.end_marks-count.result ≡ suffix_len is_mark items
    = c.end_marks-count.ensures.value ∙ ap (suffix_len is_mark) c.deref.ensures ∙ (marks_at_hand _ _ c.self.invariant.2 ∙ ap (suffix_len is_mark) (sym same)) in
    ap (λ (v : LeftValue). v.items) c.take.ensures ∙ ap (λ (n : ℕ). without_last n items) count

pub returns-clause-cache : goal.returns-clause-cache
returns-clause-cache c = grind (arith, marks_at_hand)

pub returns-clause-lent : goal.returns-clause-lent
returns-clause-lent c = grind (arith, marks_at_hand)

pub returns-clause-put : goal.returns-clause-put
returns-clause-put c = grind (arith, marks_at_hand)
