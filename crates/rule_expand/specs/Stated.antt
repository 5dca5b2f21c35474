-- The stores of system ids, and their statements.
use Rattle.std.specs.Prelude.{ℕ, Bool, not, ◌&&◌, nat_eq}
use Rattle.rule_model.specs.declared.program.StoreDef.{StoreDef}
use Rattle.rule_model.specs.declared.tables.Store.{Store}
use Rattle.rule_model.specs.Naming.{is_dropped}

-- whether a store has this system id
abbrev pub is_of : ℕ → Store → Bool
is_of system store = nat_eq store.system system

-- whether a statement has a store with this system id; a statement that is read and dropped has no store
abbrev pub states : ℕ → StoreDef → Bool
states system store = nat_eq store.system system && not (is_dropped store)
