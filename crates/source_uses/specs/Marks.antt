-- The deadkeys that contexts look for and that outputs put.
use Rattle.std.specs.Prelude.{ℕ, List, [], ◌∷◌, ◌++◌, flat_map}
use Rattle.rule_model.specs.declared.program.Program.{Program}
use Rattle.source_uses.specs.declared.contents.StoreElement.{StoreElement}
use Rattle.source_uses.specs.declared.contents.StoreElement.TheVariants as element
use Rattle.source_uses.specs.declared.contents.Contents.{Contents}
use Rattle.source_uses.specs.declared.used.Use.{Use}
use Rattle.source_uses.specs.declared.used.Role.TheVariants as role
use Rattle.source_uses.specs.declared.used.Part.{Part}
use Rattle.source_uses.specs.Elements.{elements_named}
use Rattle.source_uses.specs.Lines.{in_lines}
use Rattle.source_uses.specs.Uses.{new_uses, rule_uses}

-- the deadkey that an element is, at a line
abbrev pub element_marks : ℕ → StoreElement → List Use
element_marks line (element.Mark name) = record { line = line; name = name } ∷ []
element_marks line other = []

-- the deadkeys of the store that a statement uses
abbrev pub store_marks : Contents → Use → List Use
store_marks contents found = flat_map (element_marks found.line) (elements_named contents found.name)

abbrev pub use_line : Use → ℕ
use_line found = found.line

-- the deadkeys that a part of all statements uses, in the order of lines: those that items name, and the elements of each store at its
-- first use
unfoldable pub mark_uses : Contents → Part → Program → List Use
mark_uses contents part program =
    in_lines use_line (rule_uses role.Mark part program ++ flat_map (store_marks contents) (new_uses [] (rule_uses role.Elements part program)))
