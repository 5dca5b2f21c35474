use Rattle.std.proofs.Common.{◌<◌, ◌∙◌, length, arith, refl}
use Rattle.rule_matching.proofs.Remembering.{written_is_known, others_stay_known}
use Rattle.rule_matching.proofs.known_places.StorePlaces.write.Goals as goal

pub returns-clause-written : goal.returns-clause-written
returns-clause-written c =
    let within : c.args.distance < length c.ask.new.self.cells = omega arith in
    written_is_known c.args.choice c.args.distance c.args.cell c.ask.new.self _ c.ask.ensures.asked within refl refl

pub returns-clause-others : goal.returns-clause-others
returns-clause-others c = λ d other. others_stay_known c.args.choice c.args.distance c.args.cell c.ask.new.self _ refl refl d other ∙ c.ask.ensures.kept d
