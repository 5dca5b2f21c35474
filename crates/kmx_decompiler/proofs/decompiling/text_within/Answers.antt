use Rattle.std.proofs.Common.{ℕ, sym, ap, ◌∙◌}
use Rattle.std.proofs.lemmas.Bool.{le-ltb}
use Rattle.kmn_base.specs.declared.limits.TheConstants.{TEXT_BYTES}
use Rattle.rule_model.specs.declared.program.Program.{Program}
use Rattle.decompile_program.specs.Back.{back}
use Rattle.kmx_decompiler.specs.Excess.{element_count}
use Rattle.kmx_decompiler.specs.Refusals.{too_many}
use Rattle.kmx_decompiler.proofs.Refusing.{text_within}
use Rattle.kmx_decompiler.proofs.decompiling.text_within.Goals as goal

pub returns-in-Some-clause-refused : goal.returns-in-Some-clause-refused
returns-in-Some-clause-refused c =
    let program : Program = back c.args.file.now in
    text_within program c.in_ok-size.size c.in_ok-size.ensures (le-ltb TEXT_BYTES c.in_ok-size.size c.if-size.false)
    ∙ ap (λ (stores : ℕ). too_many stores (element_count program)) (sym c.in_ok-counts.ensures.stores)
    ∙ ap (too_many c.in_ok-counts.counts.stores) (sym c.in_ok-counts.ensures.elements)
    ∙ sym c.passed.ensures ∙ c.in-Some.is
