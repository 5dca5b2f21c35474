use Rattle.std.proofs.Common.{◌≡◌, Result, Ok, sym, subst, rules}
use Rattle.rule_model.specs.declared.tables.Tables.{Tables}
use Rattle.keyman_words.specs.declared.reason.Reason.{Reason}
use Rattle.keyman_words.proofs.Printed.{tells_made}
use Rattle.keyman_run.specs.Inputs.{few_records}
use Rattle.keyman_run.specs.Steps.{PrintsDeadRules}
use Rattle.keyman_run.proofs.shadowing.print_dead_rules.Goals as goal

pub returns : goal.returns
returns g c =
    let tables : Tables = c.args.compiled.now.tables in
    let few : few_records tables ≡ Ok tables = search rules in
    subst (λ (read : Result Tables Reason). PrintsDeadRules read g.S.Sink c.args.out.now c.print_result.new.out c.print_result.result) (sym few)
    (tells_made _ _ _ _ _ _ _ c.print_result.ensures c.dead_text.ensures)
