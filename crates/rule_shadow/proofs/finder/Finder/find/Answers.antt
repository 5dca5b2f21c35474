use Rattle.rule_shadow.proofs.FoundCovers.{answer_covers}
use Rattle.rule_shadow.proofs.finder.Finder.find.Goals as goal

pub returns-clause-right : goal.returns-clause-right
returns-clause-right c =
    answer_covers c.args.self.now c.args.group c.args.rule c.in_ok-found.found c.certificate.result c.in_ok-found.ensures c.certificate.ensures
