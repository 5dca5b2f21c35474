use Rattle.std.proofs.Common.{◌≡◌, ◌-◌, ◌≤◌, ◌++◌}
use Rattle.option_store.specs.Cells.{first_cells}
use Rattle.option_store.proofs.options.Options.new.Given as goal

abbrev pub invariant-loop-store : goal.invariant-loop-store
invariant-loop-store l = (l.cells.items ++ first_cells l.store (l.stores - l.store) ≡ first_cells 0 l.stores) × (l.store ≤ l.stores)
