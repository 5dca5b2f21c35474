-- Names that are found in lower case.
use Rattle.std.specs.Prelude.{◌≡◌, map}
use Rattle.std.specs.Str.{str_to_ascii_lowercase}
use Rattle.indexed_tables.specs.declared.own_keys.Names.{Names}

-- the names in lower case are those of the names as written
abbrev pub AreFolded : Names → Type 0
AreFolded names = map (λ key. key.items) names.folded.keys ≡ map str_to_ascii_lowercase names.written.items
