use Rattle.std.proofs.Common.{◌≡◌, ◌++◌, map, take, drop}
use Rattle.rule_model.specs.declared.program.StoreDef.{StoreDef}
use Rattle.source_faults.specs.Stubs.{code_at, stub_store}
use Rattle.source_faults.proofs.stubs.stub_stores.Given as goal

abbrev pub invariant-loop-store : goal.invariant-loop-store
invariant-loop-store l = l.stores ≡ map (λ (store : StoreDef). stub_store (code_at l.refused store.line) store) (take l.store-index l.fn.stores) ++ drop l.store-index l.fn.stores
