use Rattle.std.proofs.Common.{sym, ◌∙◌}
use Rattle.store_table.proofs.ByAppearance.{numbered_names}
use Rattle.store_table.proofs.program_names.number.Goals as goal

pub returns : goal.returns
returns c =
    numbered_names c.args.program.now c.in_ok-stated.stated c.in_ok-appeared.appeared (sym c.in_ok-refusal.ensures ∙ c.in-None.is)
    c.in_ok-stated.ensures c.in_ok-appeared.ensures
