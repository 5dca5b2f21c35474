use Rattle.std.proofs.Common.{sym, ◌∙◌}
use Rattle.decompile_text.proofs.FrontTexts.{text_of_tables}
use Rattle.decompile_text.proofs.MoreText.{page_text}
use Rattle.decompile_text.proofs.writing.text_of.Goals as goal

pub returns : goal.returns
returns c =
    page_text c.new-page.result c.put_tables.new.page _ c.new-page.ensures.empty c.new-page.ensures.kept c.in_ok-put_tables.ensures
    ∙ sym (text_of_tables c.args.file.now)
