-- Whether the value of a store has no spelling, found in the list for all stores.
use Rattle.std.proofs.Common.{◌≡◌, ℕ, zero, suc, Bool, false, List, [], ◌∷◌, refl, ap, ◌∙◌}
use Rattle.std.specs.Prelude.{slice_get, unwrap_or}
use Rattle.rule_model.specs.declared.tables.Store.{Store}
use Rattle.rule_model.specs.Tab.{elements_of}
use Rattle.kmx_decompiler.specs.Causes.{is_unspelled_value}
use Rattle.kmx_decompiler.specs.ValueCauses.{unspelled_values}

unspelled_at : (stores : List Store) (n : ℕ) → unwrap_or (slice_get (unspelled_values stores) n) false ≡ is_unspelled_value (elements_of stores n)
unspelled_at [] zero = refl
unspelled_at [] (suc n) = refl
unspelled_at (store ∷ stores) zero = refl
unspelled_at (store ∷ stores) (suc n) = unspelled_at stores n

-- the flag at the number of a store is whether its content is a value without a spelling, and false for a number without a store
pub unspelled_known : (stores : List Store) (flags : List Bool) (n : ℕ) → flags ≡ unspelled_values stores
    → unwrap_or (slice_get flags n) false ≡ is_unspelled_value (elements_of stores n)
unspelled_known stores flags n is = ap (λ (known : List Bool). unwrap_or (slice_get known n) false) is ∙ unspelled_at stores n
