-- The name of one store, given whether it is written, the earlier names and the free names that are left.
use Rattle.std.specs.Prelude.{ℕ, Bool, not, nat_eq, if◌then◌else◌, List, [], ◌∷◌, ◌++◌, drop, Option, Some, None, unwrap_or, slice_get}
use Rattle.rule_model.specs.declared.tables.Store.{Store}
use Rattle.decompile_program.specs.Names.{keeps_store_name}

abbrev pub store_call : Bool → (free earlier : List (List ℕ)) → Store → Option (List ℕ)
store_call written free earlier store =
    if not written then None
    else if not (nat_eq store.system 0) then Some []
    else if keeps_store_name earlier store.name then Some store.name
    else Some (unwrap_or (slice_get free 0) [])

-- the free names that are left after a store
abbrev pub free_left : Bool → (free earlier : List (List ℕ)) → Store → List (List ℕ)
free_left written free earlier store =
    if not written then free
    else if not (nat_eq store.system 0) then free
    else if keeps_store_name earlier store.name then free
    else drop 1 free

-- the earlier names after a store
abbrev pub names_met : Bool → (earlier : List (List ℕ)) → Store → List (List ℕ)
names_met written earlier store =
    if not written then earlier
    else if not (nat_eq store.system 0) then earlier
    else earlier ++ store.name ∷ []
