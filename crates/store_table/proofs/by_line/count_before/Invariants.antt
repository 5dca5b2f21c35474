use Rattle.std.proofs.Common.{◌≡◌, ◌+◌, drop, nat_lt}
use Rattle.std.specs.List.{prefix_len}
use Rattle.rule_model.specs.declared.program.StoreDef.{StoreDef}
use Rattle.store_table.proofs.by_line.count_before.Given as goal

abbrev pub invariant-loop-count : goal.invariant-loop-count
invariant-loop-count l =
    l.count + prefix_len (λ (store : StoreDef). nat_lt store.line l.line) (drop l.count l.stores)
    ≡ prefix_len (λ (store : StoreDef). nat_lt store.line l.line) l.stores
