-- The name of a file in the folder of another file.
use Rattle.std.specs.Prelude.{ℕ, Bool, nat_eq, if◌then◌else◌, List, [], ◌∷◌, ◌++◌}
use Rattle.std.specs.List.{list_any}

-- whether a byte is a slash
abbrev pub is_slash : ℕ → Bool
is_slash byte = nat_eq byte 47

-- a name up to and including its last slash, or an empty list if it has none
abbrev pub folder_part : List ℕ → List ℕ
folder_part [] = []
folder_part (byte ∷ bytes) = if list_any is_slash (byte ∷ bytes) then byte ∷ folder_part bytes else []

-- the name of the file `other` in the folder of the file `name`
abbrev pub beside : List ℕ → List ℕ → List ℕ
beside name other = folder_part name ++ other
