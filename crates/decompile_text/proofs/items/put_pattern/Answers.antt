use Rattle.std.proofs.Common.{arith}
use Rattle.decompile_text.proofs.MoreText.{with_text_append, with_no_text}
use Rattle.decompile_text.specs.Texts.{pattern_text, quoted_text}
use Rattle.decompile_text.proofs.items.put_pattern.Goals as goal

pub returns-in-Char : goal.returns-in-Char
unfolding pattern_text quoted_text
returns-in-Char c = grind (arith, with_text_append, with_no_text)

pub returns-in-Mark : goal.returns-in-Mark
unfolding pattern_text quoted_text
returns-in-Mark c = grind (arith, with_text_append, with_no_text)

pub returns-in-Any : goal.returns-in-Any
unfolding pattern_text quoted_text
returns-in-Any c = grind (arith, with_text_append, with_no_text)

pub returns-in-NotAny : goal.returns-in-NotAny
unfolding pattern_text quoted_text
returns-in-NotAny c = grind (arith, with_text_append, with_no_text)

pub returns-in-Index : goal.returns-in-Index
unfolding pattern_text quoted_text
returns-in-Index c = grind (arith, with_text_append, with_no_text)

pub returns-in-ContextAt : goal.returns-in-ContextAt
unfolding pattern_text quoted_text
returns-in-ContextAt c = grind (arith, with_text_append, with_no_text)

pub returns-in-Equal : goal.returns-in-Equal
unfolding pattern_text quoted_text
returns-in-Equal c = grind (arith, with_text_append, with_no_text)

pub returns-in-Unequal : goal.returns-in-Unequal
unfolding pattern_text quoted_text
returns-in-Unequal c = grind (arith, with_text_append, with_no_text)

pub returns-in-SystemEqual : goal.returns-in-SystemEqual
unfolding pattern_text quoted_text
returns-in-SystemEqual c = grind (arith, with_text_append, with_no_text)

pub returns-in-SystemUnequal : goal.returns-in-SystemUnequal
unfolding pattern_text quoted_text
returns-in-SystemUnequal c = grind (arith, with_text_append, with_no_text)

pub returns-in-Nul : goal.returns-in-Nul
unfolding pattern_text quoted_text
returns-in-Nul c = grind (arith, with_text_append, with_no_text)
