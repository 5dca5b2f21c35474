use Rattle.std.proofs.Common.{[], ◌∷◌, ◌∙◌, sym, ap, subst, get_or}
use Rattle.std.specs.List.{Contains}
use Rattle.rule_trace.specs.Coverage.{hit_lines}
use Rattle.rule_trace.proofs.Counting.{with_lines-from, with_lines-lines, counted_all}
use Rattle.rule_trace.proofs.coverage.add_all.Goals as goal

pub add_one-requires-clause-among : goal.add_one-requires-clause-among
add_one-requires-clause-among c =
    subst (λ lines. Contains lines (get_or c.args.lines.now c.loop-line.line-index 0)) (sym c.loop-line.invariant.1) (c.requires.among c.loop-line.line-index 0 c.loop-line-test.true)

pub loop-line-preserved : goal.loop-line-preserved
loop-line-preserved c = (
  with_lines-from c.args.lines.now c.loop-line.line-index c.loop-line.hits c.add_one.new.hits c.loop-line-test.true c.add_one.ensures ∙ c.loop-line.invariant.0,
  ap hit_lines c.add_one.ensures ∙ (with_lines-lines (get_or c.args.lines.now c.loop-line.line-index 0 ∷ []) c.loop-line.hits ∙ c.loop-line.invariant.1),
)

pub returns-clause-counts : goal.returns-clause-counts
returns-clause-counts c = counted_all c.args.lines.now c.loop-line.line-index c.loop-line.hits c.loop-line-test.false ∙ c.loop-line.invariant.0
