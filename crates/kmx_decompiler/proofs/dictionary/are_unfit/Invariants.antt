use Rattle.std.proofs.Common.{◌≡◌, []}
use Rattle.std.specs.Prelude.{option_copied}
use Rattle.indexed_tables.specs.Words.{words_after}
use Rattle.rule_model.specs.Tab.{words}
use Rattle.virtual_keys.specs.Groups.{bytes_behind}
use Rattle.kmx_decompiler.specs.Words.{are_unfit, not_empty}
use Rattle.kmx_decompiler.proofs.dictionary.are_unfit.Given as goal

abbrev pub invariant-loop-rest : goal.invariant-loop-rest
invariant-loop-rest l = are_unfit (not_empty (words_after (option_copied l.rest))) l.known ≡ are_unfit (words l.text) []

abbrev pub decreases-loop-rest : goal.decreases-loop-rest
decreases-loop-rest l = bytes_behind (option_copied l.rest)
