use Rattle.std.proofs.Common.{◌∙◌, ap, map}
use Rattle.rule_trace.specs.Coverage.{not_chosen}
use Rattle.rule_trace.proofs.Counting.{fresh_rise, fresh_are_lines, fresh_counts}
use Rattle.rule_trace.proofs.coverage.Coverage.new.Goals as goal

pub invariant_of-result : goal.invariant_of-result
invariant_of-result c =
    fresh_rise c.in_ok-lines.lines c.in_ok-hits.hits.items (c.in_ok-hits.ensures ∙ ap (map not_chosen) c.as_slice.ensures) c.args.tables.now c.in_ok-lines.ensures

pub returns-clause-lines : goal.returns-clause-lines
returns-clause-lines c =
    fresh_are_lines c.in_ok-lines.lines c.in_ok-hits.hits.items (c.in_ok-hits.ensures ∙ ap (map not_chosen) c.as_slice.ensures) c.args.tables.now c.in_ok-lines.ensures

pub returns-clause-counts : goal.returns-clause-counts
returns-clause-counts c = fresh_counts c.in_ok-lines.lines c.in_ok-hits.hits.items (c.in_ok-hits.ensures ∙ ap (map not_chosen) c.as_slice.ensures)
