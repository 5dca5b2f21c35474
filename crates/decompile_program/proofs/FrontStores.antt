-- The statements of the stores in front are kept and do not name another store.
use Rattle.std.proofs.Common.{◌≡◌, ℕ, ◌+◌, true, false, List, [], ◌∷◌, length, map, refl, if◌then◌else◌}
use Rattle.std.specs.Prelude.{slice_get, unwrap_or, nat_eq}
use Rattle.std.specs.Fmt.{decimal}
use Rattle.std.specs.List.{range_with_len, AllByRecursion}
use Rattle.rule_model.specs.declared.program.SrcItem.{SrcItem}
use Rattle.rule_model.specs.declared.program.SrcItem.TheVariants as source
use Rattle.rule_model.specs.declared.program.StoreDef.{StoreDef}
use Rattle.rule_model.specs.declared.tables.Tables.{Tables}
use Rattle.rule_model.specs.Naming.{SourceNames, is_dropped}
use Rattle.rule_model.specs.Tab.{tab_dictionary}
use Rattle.decompile_program.specs.Marks.{greatest_mark}
use Rattle.kmx_format.specs.Versions.{version_text}
use Rattle.decompile_program.specs.Back.{numbered, mark_store, key_store, stated_marks, stated_keys, stated_key, version_store, mark_stores, key_stores, front_stores, free_stores}
use Rattle.decompile_program.proofs.Linking.{IsSimple}
use Rattle.decompile_program.proofs.BackCalls.{IsAlone, elements-alone}
use Rattle.decompile_program.proofs.Choosing.{all_join}

module _ (names : SourceNames) where
  mapped-alone : {X : Type 0} (f : X → SrcItem) → ((x : X) → IsAlone names (f x)) → (xs : List X) → AllByRecursion (IsAlone names) (map f xs)
  mapped-alone f h [] = tt
  mapped-alone f h (x ∷ xs) = (h x, mapped-alone f h xs)

  simple : (s : StoreDef) → is_dropped s ≡ false → AllByRecursion (IsAlone names) s.items → IsSimple names s
  simple s kept alone = (kept, λ before i. record { system = s.system; name = s.name; elements = elements-alone names before s.items alone i })

  abbrev pub Simple : (ℕ → StoreDef) → Type 0
  Simple f = (n : ℕ) → IsSimple names (f n)

  mark-simple : (name : List ℕ) (count : ℕ) → AllByRecursion Simple (mark_store name count)
  mark-simple name count =
      elim (nat_eq count 0) as (λ b. AllByRecursion Simple (if b then [] else stated_marks name count ∷ [])) [
        | true ↦ tt
        | false ↦ (λ n. simple (stated_marks name count n) refl (mapped-alone (λ m. source.Dead (decimal m)) (λ m before. refl) (range_with_len 1 count)), tt)
      ]

  key-simple : (name : List ℕ) (keys : List (List ℕ)) → AllByRecursion Simple (key_store name keys)
  key-simple name [] = tt
  key-simple name (k ∷ keys) = (λ n. simple (stated_keys name (k ∷ keys) n) refl (mapped-alone stated_key (λ x before. refl) (k ∷ keys)), tt)

  pub front-simple : (t : Tables) → AllByRecursion Simple (front_stores t)
  front-simple t = (
    λ n. simple (version_store t.version n) refl (mapped-alone source.Char (λ x before. refl) (version_text t.version)),
    all_join Simple (mark_stores t) (key_stores t) (mark-simple (unwrap_or (slice_get (free_stores t) 0) []) (greatest_mark t)) (key-simple (unwrap_or (slice_get (free_stores t) (length (mark_stores t))) []) (tab_dictionary t.stores)),
  )

  pub numbered-simple : (line : ℕ) (fs : List (ℕ → StoreDef)) → AllByRecursion Simple fs → AllByRecursion (IsSimple names) (numbered line fs)
  numbered-simple line [] h = tt
  numbered-simple line (f ∷ fs) h = (h.0 line, numbered-simple (line + 1) fs h.1)
