use Rattle.std.proofs.Common.{sym, ◌∙◌}
use Rattle.decompile_program.proofs.SourceTokens.{source_name}
use Rattle.decompile_program.proofs.source_names.is_source_name.Goals as goal

pub returns : goal.returns
returns c = c.is_one_name.ensures ∙ sym (source_name c.args.name.now)
