use Rattle.std.proofs.Common.{◌+◌, length, ap, ◌∙◌}
use Rattle.compile_laws.specs.Numbers.{dictionary_stores}
use Rattle.rule_expand.proofs.ExpandedTables.{are_numbers}
use Rattle.rule_expand.proofs.expanding.numbers_of.Goals as goal

pub new-requires : goal.new-requires
new-requires c =
    are_numbers c.args.program.now c.requires.tables c.args.names.now c.args.cased.now.keys c.args.stores.now c.args.values.now c.first_value-first.result
    c.requires.names c.requires.stores c.requires.values
    (c.first_value-first.ensures ∙ ap (λ keys. length c.args.stores.now + length (dictionary_stores keys)) c.keys.ensures) c.requires.cased
