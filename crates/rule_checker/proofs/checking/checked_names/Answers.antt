use Rattle.std.proofs.Common.{◌∙◌, Some, ap, sym}
use Rattle.store_table.specs.First.{or_refusal}
use Rattle.store_table.specs.Numbering.{lists_of}
use Rattle.rule_checker.proofs.Refusals.{refused_later}
use Rattle.rule_checker.proofs.checking.checked_names.Goals as goal

pub returns-in-Some-2 : goal.returns-in-Some-2
returns-in-Some-2 c =
    ap (or_refusal (lists_of c.args.program.now))
    (refused_later c.args.program.now c.in_ok-names.names (Some c.in-Some-2.refusal) (sym c.start_refusal.ensures ∙ c.in-None.is) c.in_ok-names.ensures
    (sym c.in_ok-refusal.ensures ∙ c.in-Some-2.is))
