use Rattle.std.proofs.Common.{rules, List, Bool, sym, ◌∙◌, ap}
use Rattle.rule_engine.proofs.Truths.{truths_at_first, truths_by, truths_counted, written_over}
use Rattle.rule_engine.proofs.workspace.Workspace.begin.Goals as goal

pub returns-clause-truths : goal.returns-clause-truths
returns-clause-truths c =
    let truths : List Bool = c.find_truths.new.truths in
    let count = truths_counted c.args.indexed.now truths c.stated-stated.result.now c.find_truths.ensures in
    written_over c.args.self.now.truths.len c.args.self.now.truths.items truths (search rules) (count ∙ sym c.requires.truths)
    ∙ (c.find_truths.ensures
    ∙ (ap (truths_by c.args.indexed.now) c.stated-stated.ensures
    ∙ truths_at_first c.args.indexed.now c.args.self.now.options c.platform.result c.requires.cells c.platform.ensures))
