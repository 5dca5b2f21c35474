use Rattle.decompile_text.proofs.MoreText.{page_size}
use Rattle.decompile_text.proofs.values.quoted_size.Goals as goal

pub returns : goal.returns
returns c = page_size c.new-page.result c.put_quoted.new.page _ c.new-page.ensures.empty c.in_ok-put_quoted.ensures
