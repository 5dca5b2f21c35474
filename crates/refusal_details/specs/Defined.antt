-- The line that defines a name first, if a later line defines the name again.
use Rattle.std.specs.Prelude.{ℕ, nat_eq, ◌==◌, if◌then◌else◌, List, [], ◌∷◌, length}
use Rattle.kmn_base.specs.Names.{same_name}
use Rattle.refusal_details.specs.declared.definitions.Definition.{Definition}
use Rattle.refusal_details.specs.declared.detail.Detail.{Detail}
use Rattle.refusal_details.specs.declared.detail.Detail.TheVariants as detail

-- the name that a line defines, or an empty name
abbrev pub name_in_line : ℕ → List Definition → List ℕ
name_in_line line [] = []
name_in_line line (definition ∷ definitions) =
    if nat_eq definition.line line then definition.name else name_in_line line definitions

-- the line of the first definition of a name, or 0
abbrev pub first_line : List ℕ → List Definition → ℕ
first_line name [] = 0
first_line name (definition ∷ definitions) = if same_name name definition.name then definition.line else first_line name definitions

-- a name with the line that defines it first, or nothing for an empty name
abbrev pub name_defined : List ℕ → List Definition → Detail
name_defined name definitions = if length name == 0 then detail.Nothing else detail.Defined name (first_line name definitions)

-- the name that a line defines, with the line that defines it first
unfoldable pub defined : ℕ → List Definition → Detail
defined line definitions = name_defined (name_in_line line definitions) definitions
