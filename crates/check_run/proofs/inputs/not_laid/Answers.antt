use Rattle.std.proofs.Common.{◌∙◌, ap}
use Rattle.rule_model.specs.declared.program.Program.{Program}
use Rattle.name_warnings.specs.Laid.{keys_not_laid}
use Rattle.check_run.proofs.inputs.not_laid.Goals as goal

pub returns : goal.returns
returns c =
    c.from_vec.ensures ∙ c.in_ok-found.ensures ∙ ap (λ (program : Program). keys_not_laid program c.args.ids.now) c.program.ensures.value
