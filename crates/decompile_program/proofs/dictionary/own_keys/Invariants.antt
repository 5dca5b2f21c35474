use Rattle.std.proofs.Common.{◌≡◌, ◌++◌, length, drop}
use Rattle.rule_model.specs.Tab.{tab}
use Rattle.decompile_program.proofs.dictionary.own_keys.Given as goal

abbrev pub invariant-loop-place : goal.invariant-loop-place
invariant-loop-place l = (l.keys.items ++ drop l.place (tab l.tables).dictionary ≡ (tab l.tables).dictionary) × (length l.keys.items ≡ l.place)
