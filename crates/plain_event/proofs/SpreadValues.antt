-- The values of options, picked from the values of all stores and spread among them.
use Rattle.std.proofs.Common.{◌≡◌, ℕ, suc, ◌+◌, ◌<◌, ◌≤◌, min, inl, inr, Bool, true, false, List, [], ◌∷◌, length, drop, Option, Some, None, refl, sym, ap, ◌∙◌, arith}
use Rattle.std.proofs.lemmas.List.{drop_all, drop_more}
use Rattle.std.proofs.lemmas.Option.{unwrap_or-slice_get}
use Rattle.std.specs.Prelude.{if◌then◌else◌, slice_get, unwrap_or}
use Rattle.kmn_base.specs.declared.items.Element.{Element}
use Rattle.rule_model.specs.Keyboard.{StoreMeaning}
use Rattle.rule_model.specs.Plain.{option_numbers, of_options}
use Rattle.indexed_tables.proofs.Ends.{either_ended}
use Rattle.plain_event.specs.PlainStates.{picked, spread, of_others}

nothing_picked : {X : Type 0} (numbers : List (Option ℕ)) → picked {X = X} numbers [] ≡ []
nothing_picked [] = refl
nothing_picked (n ∷ ns) = refl

nothing_spread : {X : Type 0} (numbers : List (Option ℕ)) (options : List X) → spread numbers [] options ≡ []
nothing_spread [] options = refl
nothing_spread (n ∷ ns) options = refl

-- if the numbers or the values end, no more values are picked or spread
module _ {X : Type 0} (numbers : List (Option ℕ)) (values : List X) (n : ℕ) (ended : min (length numbers) (length values) ≤ n) where
  pub picked_ended : picked (drop n numbers) (drop n values) ≡ []
  picked_ended = elim (either_ended (length numbers) (length values) n ended) [
    | inl e ↦ ap (λ l. picked l (drop n values)) (drop_all n numbers e)
    | inr e ↦ ap (picked (drop n numbers)) (drop_all n values e) ∙ nothing_picked (drop n numbers)
  ]

  pub spread_ended : (options : List X) → spread (drop n numbers) (drop n values) options ≡ []
  spread_ended options = elim (either_ended (length numbers) (length values) n ended) [
    | inl e ↦ ap (λ l. spread l (drop n values) options) (drop_all n numbers e)
    | inr e ↦ ap (λ l. spread (drop n numbers) l options) (drop_all n values e) ∙ nothing_spread (drop n numbers) options
  ]

-- the values that have an option number are the values of the options
pub picked_options : {X : Type 0} (k : ℕ) (stores : List StoreMeaning) (values : List X) → picked (option_numbers k stores) values ≡ of_options stores values
picked_options k [] values = refl
picked_options {X} k (s ∷ ss) [] =
    elim (s.is_option) as (λ b. picked {X = X} (if b then Some k ∷ option_numbers (k + 1) ss else None ∷ option_numbers k ss) [] ≡ []) [ true ↦ refl | false ↦ refl ]
picked_options k (s ∷ ss) (v ∷ vs) =
    elim (s.is_option) as (λ b. picked (if b then Some k ∷ option_numbers (k + 1) ss else None ∷ option_numbers k ss) (v ∷ vs) ≡ (if b then v ∷ of_options ss vs else of_options ss vs)) [
      | true ↦ ap (λ r. v ∷ r) (picked_options (k + 1) ss vs)
      | false ↦ picked_options k ss vs
    ]

module _ {X : Type 0} where
  -- the options from one on are its value, followed by the options after it
  first_option : (k : ℕ) (options rest : List X) (v : X) (count : ℕ) → length options ≡ k + suc count → rest ≡ drop (k + 1) options → unwrap_or (slice_get options k) v ∷ rest ≡ drop k options
  first_option k options rest v count e r =
      let within : k < length options = omega arith in
      (λ j. unwrap_or-slice_get options k v j ∷ r j) ∙ sym (drop_more options k v within)

  spread_store : (k : ℕ) (name : List ℕ) (elements : List Element) (is_option is_system : Bool) (ss : List StoreMeaning) (v : X) (vs options : List X)
      → ((m : ℕ) → length options ≡ m + length (of_options ss vs) → of_options ss (spread (option_numbers m ss) vs options) ≡ drop m options)
      → let s : StoreMeaning = record { name = name; elements = elements; is_option = is_option; is_system = is_system } in
      length options ≡ k + length (of_options (s ∷ ss) (v ∷ vs)) → of_options (s ∷ ss) (spread (option_numbers k (s ∷ ss)) (v ∷ vs) options) ≡ drop k options
  spread_store k name elements true is_system ss v vs options rest e =
      let q : length options ≡ k + 1 + length (of_options ss vs) = omega arith in
      first_option k options _ v (length (of_options ss vs)) e (rest (k + 1) q)
  spread_store k name elements false is_system ss v vs options rest e = rest k e

  spread_from : (k : ℕ) (stores : List StoreMeaning) (values options : List X) → length options ≡ k + length (of_options stores values) → of_options stores (spread (option_numbers k stores) values options) ≡ drop k options
  spread_from k [] values options e = sym (drop_all k options (omega arith))
  spread_from k (s ∷ ss) [] options e =
      elim (s.is_option) as (λ b. of_options (s ∷ ss) (spread (if b then Some k ∷ option_numbers (k + 1) ss else None ∷ option_numbers k ss) [] options) ≡ drop k options) [
        | true ↦ sym (drop_all k options (omega arith))
        | false ↦ sym (drop_all k options (omega arith))
      ]
  spread_from k (s ∷ ss) (v ∷ vs) options e =
      spread_store k s.name s.elements s.is_option s.is_system ss v vs options (λ m h. spread_from m ss vs options h) e

  -- if each option has a value, the options among spread values have the values that were spread
  pub spread_options : (stores : List StoreMeaning) (values options : List X) → length options ≡ length (of_options stores values) → of_options stores (spread (option_numbers 0 stores) values options) ≡ options
  spread_options stores values options e = spread_from 0 stores values options (omega arith)

  others_store : (k : ℕ) (name : List ℕ) (elements : List Element) (is_option is_system : Bool) (ss : List StoreMeaning) (v : X) (vs options : List X)
      → ((m : ℕ) → of_others ss (spread (option_numbers m ss) vs options) ≡ of_others ss vs)
      → let s : StoreMeaning = record { name = name; elements = elements; is_option = is_option; is_system = is_system } in
      of_others (s ∷ ss) (spread (option_numbers k (s ∷ ss)) (v ∷ vs) options) ≡ of_others (s ∷ ss) (v ∷ vs)
  others_store k name elements true is_system ss v vs options rest = rest (k + 1)
  others_store k name elements false is_system ss v vs options rest = ap (λ r. v ∷ r) (rest k)

  -- spreading does not change the values of the other stores
  pub spread_others : (k : ℕ) (stores : List StoreMeaning) (values options : List X) → of_others stores (spread (option_numbers k stores) values options) ≡ of_others stores values
  spread_others k [] values options = refl
  spread_others k (s ∷ ss) [] options =
      elim (s.is_option) as (λ b. of_others (s ∷ ss) (spread (if b then Some k ∷ option_numbers (k + 1) ss else None ∷ option_numbers k ss) [] options) ≡ of_others (s ∷ ss) []) [ true ↦ refl | false ↦ refl ]
  spread_others k (s ∷ ss) (v ∷ vs) options =
      others_store k s.name s.elements s.is_option s.is_system ss v vs options (λ m. spread_others m ss vs options)

  pub length-spread : (numbers : List (Option ℕ)) (values options : List X) → length values ≡ length numbers → length (spread numbers values options) ≡ length values
  length-spread [] values options e = sym e
  length-spread (n ∷ ns) [] options e = refl
  length-spread (n ∷ ns) (v ∷ vs) options e = let q : length vs ≡ length ns = omega arith in ap suc (length-spread ns vs options q)
