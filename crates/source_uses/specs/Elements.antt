-- The elements of the stores of a program, as the source names them.
use Rattle.std.specs.Prelude.{ℕ, if◌then◌else◌, List, [], ◌∷◌, ◌++◌, flat_map, unwrap_or, slice_get, Option, Some, None}
use Rattle.virtual_keys.specs.Dictionary.{place_in}
use Rattle.rule_model.specs.declared.program.SrcItem.{SrcItem}
use Rattle.rule_model.specs.declared.program.SrcItem.TheVariants as source
use Rattle.rule_model.specs.declared.program.StoreDef.{StoreDef}
use Rattle.rule_model.specs.declared.program.Program.{Program}
use Rattle.rule_model.specs.Naming.{is_dropped}
use Rattle.source_uses.specs.declared.contents.StoreElement.{StoreElement}
use Rattle.source_uses.specs.declared.contents.StoreElement.TheVariants as element
use Rattle.source_uses.specs.declared.contents.Contents.{Contents}

-- the elements of the first store with a name
abbrev pub elements_at : List (List StoreElement) → Option ℕ → List StoreElement
elements_at elements None = []
elements_at elements (Some place) = unwrap_or (slice_get elements place) []

abbrev pub elements_named : Contents → List ℕ → List StoreElement
elements_named contents name = elements_at contents.elements (place_in contents.names name)

-- the elements that an item of a store denotes; `outs` and `$` bring those of an earlier store
abbrev pub brought : Contents → SrcItem → List StoreElement
brought before (source.Char c) = element.Char c ∷ []
brought before (source.Dead name) = element.Mark name ∷ []
brought before (source.Key key) = element.Key key ∷ []
brought before (source.Outs name) = elements_named before name
brought before item = []

-- stores with the store of another statement, unless that is dropped
abbrev pub with_store : Contents → StoreDef → Contents
with_store before store =
    if is_dropped store then before
    else record {
      names = before.names ++ store.name ∷ [];
      elements = before.elements ++ flat_map (brought before) store.items ∷ [];
    }

abbrev pub with_stores : Contents → List StoreDef → Contents
with_stores before [] = before
with_stores before (store ∷ stores) = with_stores (with_store before store) stores

abbrev pub no_contents : Contents
no_contents = record { names = []; elements = [] }

-- the stores of a program with their elements
unfoldable pub contents_of : Program → Contents
contents_of program = with_stores no_contents program.stores
