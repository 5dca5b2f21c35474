-- No store of a text states cased keys.
use Rattle.std.proofs.Common.{◌≡◌, ℕ, ◌+◌, true, false, List, [], ◌∷◌, ◌++◌, length, map, Option, None, Some, refl, ◌∙◌, ap, if◌then◌else◌}
use Rattle.std.specs.Prelude.{slice_get, unwrap_or, nat_eq, find, filter_map}
use Rattle.std.specs.List.{AllByRecursion}
use Rattle.std.proofs.lemmas.Bool.{cond-false}
use Rattle.kmn_base.specs.declared.items.Element.{Element}
use Rattle.rule_model.specs.declared.program.StoreDef.{StoreDef}
use Rattle.rule_model.specs.declared.tables.Store.{Store}
use Rattle.rule_model.specs.declared.tables.Tables.{Tables}
use Rattle.rule_model.specs.Naming.{SourceNames, store_of}
use Rattle.rule_model.specs.Src.{is_cased_keys, code_of_element, cased_keys}
use Rattle.rule_model.specs.Tab.{tab_dictionary, store_elements}
use Rattle.kmx_format.specs.Playable.{IsPlayable}
use Rattle.decompile_program.specs.Names.{named_stores}
use Rattle.decompile_program.specs.Marks.{greatest_mark}
use Rattle.decompile_program.specs.Back.{numbered, mark_store, key_store, stated_marks, mark_stores, key_stores, front_stores, free_stores, names_for, back}
use Rattle.decompile_program.specs.WrittenOut.{CanBeWrittenOut}
use Rattle.decompile_program.proofs.Linking.{thin_stores}
use Rattle.decompile_program.proofs.BackCalls.{AreCalls, no-system}
use Rattle.decompile_program.proofs.Choosing.{all_join}
use Rattle.decompile_program.proofs.Stores.{spelled, front_file, names, stores-are, the-calls}

abbrev IsUncased : Store → Type 0
IsUncased s = is_cased_keys s ≡ false

none-found : (stores : List Store) → AllByRecursion IsUncased stores → find is_cased_keys stores ≡ None
none-found [] none = refl
none-found (s ∷ stores) none = cond-false (is_cased_keys s) (Some s) (find is_cased_keys stores) none.0 ∙ none-found stores none.1

-- a store statement does not state cased keys: those in front are the version and ordinary stores
abbrev Uncased : (ℕ → StoreDef) → Type 0
Uncased f = (n : ℕ) → nat_eq (f n).system 39 ≡ false

mark-uncased : (name : List ℕ) (count : ℕ) → AllByRecursion Uncased (mark_store name count)
mark-uncased name count =
    elim (nat_eq count 0) as (λ b. AllByRecursion Uncased (if b then [] else stated_marks name count ∷ [])) [ true ↦ tt | false ↦ (λ n. refl, tt) ]

key-uncased : (name : List ℕ) (keys : List (List ℕ)) → AllByRecursion Uncased (key_store name keys)
key-uncased name [] = tt
key-uncased name (k ∷ keys) = (λ n. refl, tt)

front-uncased : (t : Tables) → AllByRecursion Uncased (front_stores t)
front-uncased t = (
  λ n. refl,
  all_join Uncased (mark_stores t) (key_stores t) (mark-uncased (unwrap_or (slice_get (free_stores t) 0) []) (greatest_mark t)) (key-uncased (unwrap_or (slice_get (free_stores t) (length (mark_stores t))) []) (tab_dictionary t.stores)),
)

numbered-uncased : (known : SourceNames) (line : ℕ) (fs : List (ℕ → StoreDef)) → AllByRecursion Uncased fs → AllByRecursion IsUncased (map (store_of known []) (numbered line fs))
numbered-uncased known line [] h = tt
numbered-uncased known line (f ∷ fs) h = (h.0 line, numbered-uncased known (line + 1) fs h.1)

-- a store of the file is written only if a text can state its system store
thin-uncased : (f : Element → Element) (named : List ℕ) (n : ℕ) (calls : List (Option (List ℕ))) (stores : List Store) → AreCalls named n calls stores → AllByRecursion IsUncased (thin_stores f calls stores)
thin-uncased f named n [] stores c = tt
thin-uncased f named n (call ∷ calls) [] c = tt
thin-uncased f named n (None ∷ calls) (s ∷ stores) c = thin-uncased f named (n + 1) calls stores c.1
thin-uncased f named n (Some name ∷ calls) (s ∷ stores) c = (no-system named n 39 s refl refl c.0, thin-uncased f named (n + 1) calls stores c.2)

pub uncased : (t : Tables) → IsPlayable t → CanBeWrittenOut t → cased_keys (back t) ≡ []
unfolding cased_keys
uncased t p c =
    let front = front_file t p c in
    let thinned = thin_stores spelled (names_for t).stores t.stores in
    ap (λ (stores : List Store). filter_map code_of_element (store_elements (find is_cased_keys stores))) (stores-are t p c)
    ∙ ap (λ (o : Option Store). filter_map code_of_element (store_elements o))
    (none-found (front ++ thinned)
    (all_join IsUncased front thinned (numbered-uncased (names t p c) 1 (front_stores t) (front-uncased t)) (thin-uncased spelled (named_stores t) 0 (names_for t).stores t.stores (the-calls t p c))))
