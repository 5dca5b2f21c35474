use Rattle.std.proofs.Common.{◌≡◌, ◌∙◌, [], sym, arith}
use Rattle.std.proofs.lemmas.List.{get_or_default}
use Rattle.rule_index.specs.Holdings.{content_at}
use Rattle.rule_index.proofs.texts.texts_of.Goals as goal

pub loop-store-preserved : goal.loop-store-preserved
loop-store-preserved c =
    let here : c.as_slice.result.now ≡ content_at c.args.stores.now c.loop-store.store
    = c.as_slice.ensures ∙ c.index-stores-store.is ∙ get_or_default c.args.stores.now c.loop-store.store _ [] (omega arith) in
    c.in_ok-put_text.ensures c.args.stores.now (sym here) c.loop-store.invariant
