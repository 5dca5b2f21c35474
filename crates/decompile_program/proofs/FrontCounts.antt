-- At most two stores in front need names, and there are free names for them and for all others.
use Rattle.std.proofs.Common.{◌≡◌, ℕ, ◌+◌, ◌^◌, ◌<◌, ◌≤◌, true, false, List, [], ◌∷◌, ◌++◌, length, drop, map, if◌then◌else◌, arith, length-append, length-drop}
use Rattle.std.specs.Prelude.{slice_get, unwrap_or, nat_eq, codes}
use Rattle.std.proofs.lemmas.List.{length-map}
use Rattle.rule_model.specs.declared.tables.Tables.{Tables}
use Rattle.rule_model.specs.Tab.{tab_dictionary}
use Rattle.kmx_format.specs.Playable.{IsPlayable}
use Rattle.decompile_program.specs.Marks.{greatest_mark}
use Rattle.decompile_program.specs.Back.{mark_store, key_store, stated_marks, mark_stores, key_stores, free_stores}
use Rattle.decompile_program.proofs.Apart.{AreFree, own_name}
use Rattle.decompile_program.proofs.Free.{free_names-free, free_names-count}

few-marks : (name : List ℕ) (count : ℕ) → length (mark_store name count) ≤ 1
few-marks name count = elim (nat_eq count 0) as (λ b. length (if b then [] else stated_marks name count ∷ []) ≤ 1) [ true ↦ omega arith | false ↦ omega arith ]

few-keys : (name : List ℕ) (keys : List (List ℕ)) → length (key_store name keys) ≤ 1
few-keys name [] = omega arith
few-keys name (k ∷ keys) = omega arith

module _ (t : Tables) where
  pub marks-few : length (mark_stores t) ≤ 1
  marks-few = few-marks (unwrap_or (slice_get (free_stores t) 0) []) (greatest_mark t)

  pub front-size : length (mark_stores t ++ key_stores t) ≡ length (mark_stores t) + length (key_stores t)
  front-size = length-append (mark_stores t) (key_stores t)

  pub front-few : length (mark_stores t ++ key_stores t) ≤ 2
  front-few =
      let keys = few-keys (unwrap_or (slice_get (free_stores t) (length (mark_stores t))) []) (tab_dictionary t.stores) in
      omega (arith, front-size, marks-few, keys)

  module _ (p : IsPlayable t) where
    small : 1 + (length t.stores + 2 + length (map own_name t.stores)) < 2 ^ 64
    small = let most = p.store_count in let same = length-map t.stores own_name in omega (arith, most, same)

    pub free-all : AreFree (map own_name t.stores) (free_stores t)
    free-all = free_names-free 115 [] (map own_name t.stores) (length t.stores + 2) small

    pub free-size : length (free_stores t) ≡ length t.stores + 2
    free-size = free_names-count (codes "s") (map own_name t.stores) (length t.stores + 2) small

    pub behind-size : length t.stores ≤ length (drop (length (mark_stores t ++ key_stores t)) (free_stores t))
    behind-size = omega (arith, free-size, front-few, length-drop (length (mark_stores t ++ key_stores t)) (free_stores t))
