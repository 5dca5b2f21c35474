use Rattle.std.proofs.Common.{◌≡◌, ◌∙◌, ◌+◌, List, arith, subst, ap, sym}
use Rattle.rule_index.specs.declared.holding.Holding.{Holding}
use Rattle.rule_index.specs.Elements.{item_number}
use Rattle.rule_index.specs.Holdings.{holding_start, content_at, EndsAt, AreHoldings, AreHoldersOf}
use Rattle.rule_index.proofs.HolderRows.{holders_found}
use Rattle.rule_index.proofs.Holders.{ends_in_order}
use Rattle.rule_index.proofs.holdings.Holdings.holders.Goals as goal

pub between-requires-clause-order : goal.between-requires-clause-order
between-requires-clause-order c =
    ends_in_order c.start_of.result c.start_of-2.result c.place_from-from.result c.place_from-to.result c.as_slice-rows.result.now
    (omega (arith, c.start_of.ensures, c.start_of-2.ensures)) c.place_from-from.ensures c.place_from-to.ensures

pub returns : goal.returns
returns c = λ stores are.
    let rows : List Holding = c.as_slice-rows.result.now in
    let value : rows ≡ c.args.self.now = c.as_slice-rows.ensures.value ∙ c.self.view_is in
    let start : c.start_of.result ≡ holding_start (item_number c.args.item) 0 = c.start_of.ensures ∙ ap (λ n. holding_start n 0) c.item_number-item.ensures.value in
    let end : c.start_of-2.result ≡ holding_start (item_number c.args.item + 1) 0 = c.start_of-2.ensures ∙ ap (λ n. holding_start (n + 1) 0) c.item_number-item.ensures.value in
    subst (AreHoldersOf c.args.item (content_at stores)) (sym c.between.ensures)
    (holders_found stores rows c.args.item c.place_from-from.result c.place_from-to.result (subst (AreHoldings stores) (sym value) are)
    (subst (λ start. EndsAt start rows c.place_from-from.result) start c.place_from-from.ensures)
    (subst (λ start. EndsAt start rows c.place_from-to.result) end c.place_from-to.ensures))
