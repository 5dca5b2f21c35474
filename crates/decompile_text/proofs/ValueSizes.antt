-- The size of the value of a store, found in the list for all stores.
use Rattle.std.proofs.Common.{◌≡◌, ℕ, zero, suc, List, [], ◌∷◌, length, refl, sym, ap, ◌∙◌}
use Rattle.std.specs.Prelude.{slice_get, unwrap_or}
use Rattle.rule_model.specs.declared.tables.Store.{Store}
use Rattle.rule_model.specs.Tab.{elements_of}
use Rattle.decompile_text.specs.Texts.{quoted_text}
use Rattle.decompile_text.specs.Sizes.{quoted_sizes}

empty_size : length (quoted_text []) ≡ 2
unfolding quoted_text
empty_size = refl

size_at : (stores : List Store) (n : ℕ) → unwrap_or (slice_get (quoted_sizes stores) n) 2 ≡ length (quoted_text (elements_of stores n))
size_at [] zero = sym empty_size
size_at [] (suc n) = sym empty_size
size_at (store ∷ stores) zero = refl
size_at (store ∷ stores) (suc n) = size_at stores n

-- the size at the number of a store is the size of its value, and the value of a number without a store has two bytes, the quotes
pub size_known : (stores : List Store) (sizes : List ℕ) (n : ℕ) → sizes ≡ quoted_sizes stores → unwrap_or (slice_get sizes n) 2 ≡ length (quoted_text (elements_of stores n))
size_known stores sizes n is = ap (λ (known : List ℕ). unwrap_or (slice_get known n) 2) is ∙ size_at stores n
