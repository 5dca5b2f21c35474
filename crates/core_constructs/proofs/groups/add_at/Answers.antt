use Rattle.std.proofs.Common.{rules, ◌≤◌, length, ◌++◌, sym, ap, ◌∙◌}
use Rattle.std.proofs.lemmas.List.{append-nil}
use Rattle.std.proofs.lemmas.Option.{slice_get_past}
use Rattle.core_constructs.specs.Told.{differences_in}
use Rattle.core_constructs.proofs.groups.add_at.Goals as goal

pub returns-in-None : goal.returns-in-None
returns-in-None c =
    let past : length c.args.groups.now ≤ c.args.number = search rules in
    sym (append-nil c.args.list.now)
    ∙ ap (λ found. c.args.list.now ++ differences_in c.args.facts.now c.args.number found) (sym (slice_get_past c.args.groups.now c.args.number past))
