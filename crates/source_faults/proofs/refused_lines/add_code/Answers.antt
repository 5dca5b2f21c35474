use Rattle.std.proofs.Common.{sym, ◌∙◌}
use Rattle.source_faults.proofs.LineCodes.{unknown_has_codes}
use Rattle.source_faults.proofs.refused_lines.add_code.Goals as goal

pub returns-in-Ok : goal.returns-in-Ok
returns-in-Ok c = λ before are.
    unknown_has_codes before c.args.refusal.now c.args.codes.now.entries c.insert.new.self.entries are
    (sym c.contains_key.ensures ∙ c.if-contains_key.false) c.in-Ok.ensures.updates.0
