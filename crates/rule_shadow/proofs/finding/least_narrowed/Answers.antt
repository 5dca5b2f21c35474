use Rattle.std.proofs.Common.{◌≡◌, ◌∙◌, ◌&&◌, [], ap, take}
use Rattle.std.specs.Prelude.{slice_get}
use Rattle.rule_shadow.specs.Places.{Narrowing, places_from}
use Rattle.rule_shadow.specs.Covers.{covers_if_any, narrowed, nothing_narrowed}
use Rattle.rule_shadow.specs.Near.{is_at_most, first_near}
use Rattle.rule_shadow.proofs.NearRules.{near_tell}
use Rattle.rule_shadow.proofs.finding.least_narrowed.Goals as goal

pub returns : goal.returns
returns c =
    let subject = c.args.search.now.subject.now in
    let tables = subject.tables.now in
    let group = subject.group.now in
    let r = subject.rule.now in
    let given : c.narrowed-narrowing.result ≡ narrowed nothing_narrowed c.args.place c.args.item = c.narrowed-narrowing.ensures ∙ ap (λ (ns : Narrowing). narrowed ns c.args.place c.args.item) c.nothing_narrowed.ensures in
    let places : c.as_slice-2.result.now ≡ places_from tables (narrowed nothing_narrowed c.args.place c.args.item) [] r.context =
    c.as_slice-2.ensures.value ∙ (c.places-places.ensures ∙ (λ i. places_from tables (given i) [] (c.as_slice.ensures i))) in
    c.first_near.ensures
    ∙ ((λ i. first_near (λ n. is_at_most c.args.place n.miss && covers_if_any tables group.using_keys (places i) r (slice_get (take subject.number group.rules) n.rule)) (c.requires.near i))
    ∙ near_tell tables group subject.number r c.args.place c.args.item)
