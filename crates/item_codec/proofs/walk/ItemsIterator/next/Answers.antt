use Rattle.std.proofs.Common.{length, sym, ap, ◌∙◌, arith}
use Rattle.item_codec.proofs.Results.{item_comes}
use Rattle.item_codec.proofs.walk.ItemsIterator.next.Goals as goal

pub returns-in-Ok-clause-steps : goal.returns-in-Ok-clause-steps
returns-in-Ok-clause-steps c =
    sym c.self.view_is ∙ item_comes c.in-Ok.item c.self.inside.at c.self.inside.rest.now c.in-Ok.behind.now c.in-Ok.ensures.0 c.in-Ok.ensures.1

pub returns-in-Ok-clause-goes : goal.returns-in-Ok-clause-goes
returns-in-Ok-clause-goes c =
    let step = sym c.self.view_is ∙ item_comes c.in-Ok.item c.self.inside.at c.self.inside.rest.now c.in-Ok.behind.now c.in-Ok.ensures.0 c.in-Ok.ensures.1 in
    record { on = λ f. (tt, tt, omega (arith, ap length step)); keeps = tt; rests = λ f. tt }
