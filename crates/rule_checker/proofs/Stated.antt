-- What is stated by name is found among the stores and groups of a program.
use Rattle.std.proofs.Common.{◌≡◌, ℕ, true, List, [], ◌∷◌, map, refl, sym, ap, ◌∙◌, is_some}
use Rattle.std.specs.Prelude.{position, ◌||◌}
use Rattle.std.specs.List.{list_any}
use Rattle.kmn_base.specs.Names.{same_name}
use Rattle.rule_model.specs.declared.program.GroupDef.{GroupDef}
use Rattle.rule_model.specs.declared.program.Program.{Program}
use Rattle.rule_model.specs.declared.tables.Store.{Store}
use Rattle.rule_model.specs.Naming.{stores_of}
use Rattle.compile_laws.specs.WellNamed.{is_store, is_group}
use Rattle.store_table.specs.Names.{is_named, store_names, group_names}
use Rattle.virtual_keys.proofs.NamePlaces.{some_place, same_either_way}
use Rattle.store_table.proofs.Naming.{names_of_stores}

any_name : {X : Type 0} (name_of : X → List ℕ) (name : List ℕ) (xs : List X) → list_any (same_name name) (map name_of xs) ≡ list_any (λ x. same_name (name_of x) name) xs
any_name name_of name [] = refl
any_name name_of name (x ∷ xs) = λ j. same_either_way name (name_of x) j || any_name name_of name xs j

-- a name among those of a list is found in the list
pub in_names : {X : Type 0} (name_of : X → List ℕ) (name : List ℕ) (xs : List X) → is_named (map name_of xs) name ≡ is_some (position (λ x. same_name (name_of x) name) xs)
unfolding is_named
in_names name_of name xs = some_place (same_name name) (map name_of xs) ∙ any_name name_of name xs ∙ sym (some_place (λ x. same_name (name_of x) name) xs)

pub group_there : (program : Program) (name : List ℕ) → is_named (group_names program.groups) name ≡ true → is_group program name ≡ true
group_there program name h = sym (in_names (λ (group : GroupDef). group.name) name program.groups) ∙ h

pub store_there : (program : Program) (name : List ℕ) → is_named (store_names program.stores) name ≡ true → is_store program name ≡ true
store_there program name h =
    sym (in_names (λ (s : Store). s.name) name (stores_of program)) ∙ ap (λ ns. is_named ns name) (names_of_stores program) ∙ h
