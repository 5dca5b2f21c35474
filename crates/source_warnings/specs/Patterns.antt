-- W14: `any` and `index` with a store that has no character and no deadkey.
use Rattle.std.specs.Prelude.{ℕ, nat_eq, Bool, true, false, not, ◌&&◌, if◌then◌else◌, List, [], ◌∷◌, ◌++◌, flat_map}
use Rattle.std.specs.List.{list_any}
use Rattle.rule_model.specs.declared.program.StoreDef.{StoreDef}
use Rattle.rule_model.specs.declared.program.Program.{Program}
use Rattle.store_table.specs.Names.{is_named}
use Rattle.source_uses.specs.declared.contents.StoreElement.{StoreElement}
use Rattle.source_uses.specs.declared.contents.StoreElement.TheVariants as element
use Rattle.source_uses.specs.declared.contents.Contents.{Contents}
use Rattle.source_uses.specs.declared.used.Part.TheVariants as part
use Rattle.source_uses.specs.declared.used.Role.TheVariants as role
use Rattle.source_uses.specs.declared.used.Use.{Use}
use Rattle.source_uses.specs.Elements.{elements_named}
use Rattle.source_uses.specs.Uses.{rule_uses}
use Rattle.name_warnings.specs.declared.warning.Warning.{Warning}
use Rattle.name_warnings.specs.declared.warning.WarningKind.TheVariants as kind

-- whether an element is a character or a deadkey
abbrev pub is_text : StoreElement → Bool
is_text (element.Char c) = true
is_text (element.Mark name) = true
is_text (element.Key key) = false

-- whether no element is a character or a deadkey; if `filled`, there must be an element
abbrev pub is_bare : Bool → List StoreElement → Bool
is_bare filled [] = not filled
is_bare filled (first ∷ elements) = not (list_any is_text (first ∷ elements))

-- the ordinary stores with such elements that are not among the options, whose elements change
abbrev pub bare_name : Contents → List (List ℕ) → Bool → StoreDef → List (List ℕ)
bare_name contents options filled store =
    if nat_eq store.system 0 && (not (is_named options store.name) && is_bare filled (elements_named contents store.name))
    then store.name ∷ []
    else []

abbrev pub bare_names : Contents → List (List ℕ) → Bool → List StoreDef → List (List ℕ)
bare_names contents options filled stores = flat_map (bare_name contents options filled) stores

-- the warning at the use of such a store
abbrev pub empty_pattern : List (List ℕ) → Use → List Warning
empty_pattern bare found =
    if is_named bare found.name then record { line = found.line; kind = kind.PatternWithoutElements found.name } ∷ [] else []

-- W14: `any` and `index` of a context with a store that has no character and no deadkey, then `index` of an output with a store that has
-- virtual keys only
abbrev pub empty_patterns : Contents → List (List ℕ) → Program → List Warning
empty_patterns contents options program =
    flat_map (empty_pattern (bare_names contents options false program.stores)) (rule_uses role.Matched part.Context program)
    ++ flat_map (empty_pattern (bare_names contents options true program.stores)) (rule_uses role.Index part.Output program)
