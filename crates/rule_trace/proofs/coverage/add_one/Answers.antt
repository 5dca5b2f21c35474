use Rattle.rule_trace.proofs.Counting.{set_is_with}
use Rattle.rule_trace.proofs.coverage.add_one.Goals as goal

pub returns : goal.returns
returns c =
    set_is_with c.args.hits.now c.args.line c.place_of-place.result c.once_more.result c.requires.rising c.place_of-place.ensures.within c.place_of-place.ensures.line
    c.once_more.ensures
