use Rattle.std.proofs.Common.{rules, tests}
use Rattle.std.proofs.lemmas.Iterator.Consumers.{YieldsList-from_filter}
use Rattle.std.proofs.lemmas.Iterator.Search.{any_from_yields_List}
use Rattle.std.proofs.lemmas.Iterator.Splits.{YieldsList-from_slice_split}
use Rattle.rule_model.specs.System.{same_word, is_space}
use Rattle.indexed_tables.proofs.platform.has_word.Goals as goal

pub returns : goal.returns
returns c =
    any_from_yields_List (λ known. same_word known c.args.word.now) _ _ _ c.any.ensures.ran
    (YieldsList-from_filter _ _
    (YieldsList-from_slice_split _ is_space c.args.content.now (cc) (cc) (cc) (λ x r q k. search (rules, tests)))
    c.filter.ensures.closure (λ x r q k. search (rules, tests)))
    (λ x r q k. search (rules, tests))
