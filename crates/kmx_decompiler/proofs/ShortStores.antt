-- If the dictionary of playable tables does not have too many names, no store that is written out of them has too many elements.
use Rattle.std.proofs.Common.{◌≡◌, ℕ, ◌+◌, ◌≤◌, Bool, true, false, List, [], ◌∷◌, ◌++◌, length, map, Option, None, Some, refl, arith, length-append, if◌then◌else◌}
use Rattle.std.specs.Prelude.{All, flat_map, nat_eq}
use Rattle.std.specs.List.{AllByRecursion, range_with_len}
use Rattle.std.specs.Fmt.{decimal}
use Rattle.std.proofs.lemmas.List.Elements.{All-head, All-tail}
use Rattle.std.proofs.lemmas.List.FromFn.{length-range_with_len}
use Rattle.kmn_base.specs.declared.items.Element.{Element}
use Rattle.kmn_base.specs.declared.items.Element.TheVariants as element
use Rattle.kmn_base.specs.declared.limits.TheConstants.{STORE_ELEMENTS, DEADKEYS}
use Rattle.kmn_base.proofs.StandingItems.{listed}
use Rattle.rule_model.specs.declared.program.SrcItem.{SrcItem}
use Rattle.rule_model.specs.declared.program.SrcItem.TheVariants as source
use Rattle.rule_model.specs.declared.program.StoreDef.{StoreDef}
use Rattle.rule_model.specs.declared.tables.Store.{Store}
use Rattle.rule_model.specs.Naming.{SourceNames, item_elements}
use Rattle.kmx_format.specs.Versions.{is_version, version_text, version_numbers}
use Rattle.kmx_format.specs.Playable.{IsPlayableStore}
use Rattle.decompile_program.specs.Items.{Names, back_element}
use Rattle.decompile_program.specs.Back.{back_stores, numbered, stated_marks, stated_key, mark_store, key_store}

module _ (names : SourceNames) where
  -- the items of a store statement represent at most as many elements as a store can have
  abbrev pub IsShortStatement : StoreDef → Type 0
  IsShortStatement store = length (flat_map (item_elements names []) store.items) ≤ STORE_ELEMENTS

  pub singles : {X : Type 0} (f : X → SrcItem) → ((x : X) → length (item_elements names [] (f x)) ≡ 1) → (xs : List X) → length (flat_map (item_elements names []) (map f xs)) ≡ length xs
  singles f one [] = refl
  singles f one (x ∷ xs) =
      let here = one x in
      let rest = singles f one xs in
      let both = length-append (item_elements names [] (f x)) (flat_map (item_elements names []) (map f xs)) in
      omega (arith, here, rest, both)

  pub version_short : (version : ℕ) → is_version version ≡ true → length (flat_map (item_elements names []) (map source.Char (version_text version))) ≤ STORE_ELEMENTS
  version_short version is =
      let count = singles source.Char (λ c. refl) (version_text version) in
      let few = listed (λ (v : ℕ). length (version_text v) ≤ 4)
      version_numbers version
      (three, (three, (three, (three, (four, (four, (four, (four, (four, tt))))))))) is in
      omega (arith, count, few)
    where
      three : 3 ≤ 4
      three = omega arith

      four : 4 ≤ 4
      four = omega arith

  key-short : (line : ℕ) (b : List ℕ) (keys : List (List ℕ)) → length keys ≤ STORE_ELEMENTS → AllByRecursion IsShortStatement (numbered line (key_store b keys))
  key-short line b [] few = tt
  key-short line b (key ∷ keys) few = ((let count = singles stated_key (λ k. refl) (key ∷ keys) in omega (arith, count, few)), tt)

  pub front_short : (line count : ℕ) (a b : List ℕ) (keys : List (List ℕ)) → count ≤ DEADKEYS → length keys ≤ STORE_ELEMENTS
      → AllByRecursion IsShortStatement (numbered line (mark_store a count ++ key_store b keys))
  front_short line count a b keys marks few = by (nat_eq count 0)
    where
      by : (t : Bool) → AllByRecursion IsShortStatement (numbered line ((if t then [] else stated_marks a count ∷ []) ++ key_store b keys))
      by true = key-short line b keys few
      by false = (
        (let all = singles (λ m. source.Dead (decimal m)) (λ m. refl) (range_with_len 1 count) in let l = length-range_with_len 1 count in omega (arith, all, l, marks)),
        key-short (line + 1) b keys few,
      )

  pub element-single : (called : Names) (e : Element) → length (item_elements names [] (back_element called e)) ≡ 1
  element-single called (element.Char c) = refl
  element-single called (element.Mark m) = refl
  element-single called (element.Key flags code) = refl

  pub back_short : (called : Names) (line : ℕ) (calls : List (Option (List ℕ))) (stores : List Store) → All IsPlayableStore stores
      → AllByRecursion IsShortStatement (back_stores called line calls stores)
  back_short called line [] stores h = tt
  back_short called line (None ∷ calls) [] h = tt
  back_short called line (Some name ∷ calls) [] h = tt
  back_short called line (None ∷ calls) (store ∷ stores) h = back_short called line calls stores (All-tail IsPlayableStore store stores h)
  back_short called line (Some name ∷ calls) (store ∷ stores) h = (
    (let count = singles (back_element called) (element-single called) store.elements in let few = (All-head IsPlayableStore store stores h).element_count in omega (arith, count, few)),
    back_short called (line + 1) calls stores (All-tail IsPlayableStore store stores h),
  )
