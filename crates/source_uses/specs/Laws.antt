-- The law of the elements of stores.
use Rattle.std.specs.Prelude.{◌≡◌, ℕ, List, map}
use Rattle.kmn_base.specs.declared.items.Element.{Element}
use Rattle.kmn_base.specs.declared.items.Element.TheVariants as denoted
use Rattle.rule_model.specs.declared.program.Program.{Program}
use Rattle.rule_model.specs.Naming.{SourceNames, key_number, mark_number, names_of, stores_of}
use Rattle.rule_model.specs.Naming.{elements_named as elements_of_store}
use Rattle.source_uses.specs.declared.contents.StoreElement.{StoreElement}
use Rattle.source_uses.specs.declared.contents.StoreElement.TheVariants as element
use Rattle.source_uses.specs.Elements.{contents_of, elements_named}

-- what an element of a source denotes, by the numbers of names
abbrev pub denotes : SourceNames → StoreElement → Element
denotes names (element.Char c) = denoted.Char c
denotes names (element.Mark name) = denoted.Mark (mark_number names name)
denotes names (element.Key key) = denoted.Key key.flags (key_number names key)

-- the elements of each store of a program are what its elements in the source denote, with `outs` and `$` replaced
abbrev pub ContentsAreElements : Type 0
ContentsAreElements =
    (program : Program) (name : List ℕ)
    → map (denotes (names_of program)) (elements_named (contents_of program) name) ≡ elements_of_store (stores_of program) name
