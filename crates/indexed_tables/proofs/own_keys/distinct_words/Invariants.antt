use Rattle.std.proofs.Common.{◌≡◌, [], length}
use Rattle.std.specs.Prelude.{filter, not, nat_eq, option_copied}
use Rattle.kmn_base.specs.Names.{same_name}
use Rattle.rule_model.specs.Tab.{distinct_onto, words}
use Rattle.virtual_keys.specs.Groups.{bytes_behind}
use Rattle.indexed_tables.specs.OwnNames.{AreFolded}
use Rattle.indexed_tables.specs.Words.{words_after}
use Rattle.indexed_tables.proofs.own_keys.distinct_words.Given as goal

abbrev pub invariant-loop-rest : goal.invariant-loop-rest
invariant-loop-rest l =
    AreFolded l.names
    × (distinct_onto same_name l.names.written.items (filter (λ word. not (nat_eq (length word) 0)) (words_after (option_copied l.rest)))
    ≡ distinct_onto same_name [] (words l.text))

abbrev pub decreases-loop-rest : goal.decreases-loop-rest
decreases-loop-rest l = bytes_behind (option_copied l.rest)
