-- Free names.
use Rattle.std.specs.Prelude.{ℕ, if◌then◌else◌, List, [], ◌∷◌}
use Rattle.decompile_program.specs.Names.{is_free}

-- a name if it is free
abbrev pub one_if_free : (taken : List (List ℕ)) → (name : List ℕ) → List (List ℕ)
one_if_free taken name = if is_free taken name then name ∷ [] else []
