use Rattle.std.proofs.Common.{sym, ◌∙◌, ap, List}
use Rattle.std.proofs.lemmas.Result.{err_from_is_err_and}
use Rattle.kmx_verifier.specs.declared.faults.StringKind.TheVariants.{Context}
use Rattle.kmx_verifier.specs.declared.faults.Target.{Target}
use Rattle.kmx_verifier.specs.FaultOf.{item_fault}
use Rattle.kmx_verifier.proofs.Reach.{item_reached}
use Rattle.kmx_verifier.proofs.contexts.check_context_item.Goals as goal

pub returns : goal.returns
returns c = λ before is. (
  sym (item_reached c.args.bytes.now Context before c.args.item c.args.at c.offset_is_unit.ensures)
      ∙ ap (λ (ts : List Target). item_fault c.args.bytes.now Context ts c.args.item c.args.at) (sym is) ∙ c.in_ok-check_item.ensures,
  tt,
)

pub returns-in_err-check_item : goal.returns-in_err-check_item
returns-in_err-check_item c = λ before is.
    let p = err_from_is_err_and c.from_residual.result c.from_residual.ensures.1 in rw (p.1, p.2)
    (sym (item_reached c.args.bytes.now Context before c.args.item c.args.at c.offset_is_unit.ensures)
    ∙ ap (λ (ts : List Target). item_fault c.args.bytes.now Context ts c.args.item c.args.at) (sym is) ∙ c.in_err-check_item.ensures)
