use Rattle.keyman_run.proofs.loading.count_entry.Goals as goal

pub returns-in-Act-clause-leads : goal.returns-in-Act-clause-leads
returns-in-Act-clause-leads c = λ entries. rw c.in-Act.is (c.count_event.ensures.leads c.in-Act.line entries)
