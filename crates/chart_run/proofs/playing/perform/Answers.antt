use Rattle.chart_run.proofs.playing.perform.Goals as goal

pub returns-in-Act-clause-leads : goal.returns-in-Act-clause-leads
returns-in-Act-clause-leads c = λ entries. rw c.in-Act.is (c.perform_event.ensures.leads c.in-Act.line entries)
