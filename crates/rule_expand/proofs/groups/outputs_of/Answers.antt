use Rattle.std.proofs.Common.{◌≡◌, None, ap, ◌∙◌}
use Rattle.std.specs.Prelude.{flat_map}
use Rattle.std.proofs.lemmas.Result.{IfOk-weaker}
use Rattle.compile_laws.specs.Compiles.{file_outputs}
use Rattle.rule_expand.specs.Pieces.{item_pieces, pieces_outputs}
use Rattle.rule_expand.proofs.PieceLaws.{pieces_put}
use Rattle.rule_expand.proofs.groups.outputs_of.Goals as goal

pub returns : goal.returns
returns c = IfOk-weaker c.outputs_at.result _ (λ output. output ≡ file_outputs c.args.numbers.now 0 None c.args.rule.now.output)
    (λ output is.
    is
    ∙ (ap (pieces_outputs c.args.numbers.now.stores None) (c.as_slice-2.ensures ∙ (c.in_ok-pieces.ensures ∙ ap (flat_map (item_pieces c.args.numbers.now 0)) c.as_slice.ensures))
    ∙ pieces_put c.args.numbers.now 0 None c.args.rule.now.output))
    c.outputs_at.ensures
