-- A flag for each store, which is set if an item uses the store as an option, and the option numbers by these flags.
use Rattle.std.specs.Prelude.{ℕ, ◌+◌, Bool, true, if◌then◌else◌, List, [], ◌∷◌, Option, Some, None, slice_set}

-- the flags after those of these stores are set; a store without a flag is ignored
abbrev pub with_flags : List Bool → List ℕ → List Bool
with_flags flags [] = flags
with_flags flags (store ∷ stores) = with_flags (slice_set flags store true) stores

-- the numbers of the flags that are set, counted from this number on; None for the other flags
abbrev pub flag_numbers : ℕ → List Bool → List (Option ℕ)
flag_numbers number [] = []
flag_numbers number (flag ∷ flags) =
    if flag then Some number ∷ flag_numbers (number + 1) flags else None ∷ flag_numbers number flags
