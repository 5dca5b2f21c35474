-- The names of the stores of a program.
use Rattle.std.proofs.Common.{◌≡◌, Bool, true, false, List, [], ◌∷◌, ◌++◌, map, refl, sym, ap, ◌∙◌, if◌then◌else◌, append-nil, append_assoc}
use Rattle.std.proofs.lemmas.List.{map-append}
use Rattle.rule_model.specs.declared.program.StoreDef.{StoreDef}
use Rattle.rule_model.specs.declared.program.Program.{Program}
use Rattle.rule_model.specs.declared.tables.Store.{Store}
use Rattle.rule_model.specs.Naming.{SourceNames, names_of, stores_of, stores_onto, store_of, is_dropped}
use Rattle.store_table.specs.Names.{kept_name, store_names}

kept_stores : (names : SourceNames) (before : List Store) (store : StoreDef) (dropped : Bool) → is_dropped store ≡ dropped
    → map (λ (s : Store). s.name) (if is_dropped store then before else before ++ store_of names before store ∷ []) ≡ map (λ (s : Store). s.name) before ++ kept_name store
kept_stores names before store true is = rw is (sym (append-nil (map (λ (s : Store). s.name) before)))
kept_stores names before store false is = rw is (map-append (λ (s : Store). s.name) before (store_of names before store ∷ []))

pub names_onto : (names : SourceNames) (before : List Store) (stores : List StoreDef) → map (λ (s : Store). s.name) (stores_onto names before stores) ≡ map (λ (s : Store). s.name) before ++ store_names stores
names_onto names before [] = sym (append-nil (map (λ (s : Store). s.name) before))
names_onto names before (store ∷ stores) =
    names_onto names (if is_dropped store then before else before ++ store_of names before store ∷ []) stores
    ∙ ap (λ ns. ns ++ store_names stores) (kept_stores names before store (is_dropped store) refl)
    ∙ append_assoc (map (λ (s : Store). s.name) before) (kept_name store) (store_names stores)

pub names_of_stores : (program : Program) → map (λ (s : Store). s.name) (stores_of program) ≡ store_names program.stores
unfolding stores_of
names_of_stores program = names_onto (names_of program) [] program.stores
