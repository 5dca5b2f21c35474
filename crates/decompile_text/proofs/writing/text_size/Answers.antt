use Rattle.std.proofs.Common.{length, sym, ap, ◌∙◌}
use Rattle.decompile_text.proofs.FrontTexts.{text_of_tables}
use Rattle.decompile_text.proofs.MoreText.{page_size}
use Rattle.decompile_text.proofs.writing.text_size.Goals as goal

pub returns : goal.returns
returns c =
    page_size c.new-page.result c.put_tables.new.page _ c.new-page.ensures.empty c.in_ok-put_tables.ensures ∙ ap length (sym (text_of_tables c.args.file.now))
