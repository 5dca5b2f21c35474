use Rattle.std.proofs.Common.{◌≡◌, ◌∙◌, slice_get, List, rules, subst, ap, sym}
use Rattle.rule_index.specs.declared.holding.Holding.{Holding}
use Rattle.rule_index.specs.Elements.{item_number}
use Rattle.rule_index.specs.Holdings.{holding_start, EndsAt, place_if, AreHoldings}
use Rattle.rule_index.proofs.Holders.{place_found}
use Rattle.rule_index.proofs.holdings.Holdings.place_of.Goals as goal

pub returns : goal.returns
returns c = λ stores are.
    let rows : List Holding = c.as_slice-rows.result.now in
    let value : rows ≡ c.args.self.now = c.as_slice-rows.ensures.value ∙ c.self.view_is in
    let start : c.start_of.result ≡ holding_start (item_number c.args.item) c.args.store = c.start_of.ensures ∙ ap (λ n. holding_start n c.args.store) c.item_number-item.ensures.value in
    let starts : EndsAt (holding_start (item_number c.args.item) c.args.store) rows c.place_from-place.result
    = subst (λ start. EndsAt start rows c.place_from-place.result) start c.place_from-place.ensures in
    let found : c.place_if.result ≡ place_if (item_number c.args.item) c.args.store (slice_get rows c.place_from-place.result) = cc in
    found ∙ place_found stores rows c.args.item c.args.store c.place_from-place.result (subst (AreHoldings stores) (sym value) are) (search rules) starts
