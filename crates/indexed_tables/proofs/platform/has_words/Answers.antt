use Rattle.std.proofs.Common.{rules, tests}
use Rattle.std.specs.List.{list_any}
use Rattle.std.proofs.lemmas.Iterator.Consumers.{YieldsList-from_filter}
use Rattle.std.proofs.lemmas.Iterator.Search.{all_from_yields_List}
use Rattle.std.proofs.lemmas.Iterator.Splits.{YieldsList-from_slice_split}
use Rattle.rule_model.specs.System.{same_word, is_space, element_words}
use Rattle.indexed_tables.proofs.platform.has_words.Goals as goal

pub returns : goal.returns
returns c =
    all_from_yields_List (λ word. list_any (λ known. same_word known word) (element_words c.args.content.now)) _ _ _ c.all.ensures.ran
    (YieldsList-from_filter _ _
    (YieldsList-from_slice_split _ is_space c.args.value.now (cc) (cc) (cc) (λ x r q k. search (rules, tests)))
    c.filter.ensures.closure (λ x r q k. search (rules, tests)))
    (λ x r q k. search (rules, tests))
