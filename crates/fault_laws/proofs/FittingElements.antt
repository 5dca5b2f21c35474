-- A store that is replaced fits each use that the store before it fits.
use Rattle.std.proofs.Common.{◌≡◌, ℕ, ◌⊎◌, inl, inr, Bool, true, false, cond, List, [], ◌∷◌, ◌++◌, map, Option, Some, None, refl, sym, ap, subst, ◌∙◌, if◌then◌else◌}
use Rattle.std.specs.Prelude.{flat_map, find}
use Rattle.std.specs.List.{list_any, AllByRecursion}
use Rattle.std.proofs.lemmas.List.Folds.{list_any-append}
use Rattle.kmn_base.specs.Names.{same_name}
use Rattle.kmn_base.specs.declared.codes.Code.{Code}
use Rattle.kmn_base.specs.declared.items.Element.{Element}
use Rattle.kmn_base.specs.declared.items.Element.TheVariants as element
use Rattle.rule_model.specs.declared.program.SrcItem.{SrcItem}
use Rattle.rule_model.specs.declared.program.SrcItem.TheVariants as source
use Rattle.rule_model.specs.declared.program.StoreDef.{StoreDef}
use Rattle.rule_model.specs.declared.tables.Store.{Store}
use Rattle.rule_model.specs.Naming.{SourceNames, elements_named, is_dropped, item_elements, store_of, stores_onto}
use Rattle.rule_model.specs.Tab.{store_elements}
use Rattle.item_checker.specs.Items.{is_key_element, is_no_character, is_unfit_key}
use Rattle.source_faults.specs.Stubs.{stub_store}
use Rattle.fault_laws.proofs.NameLists.{either, first_true, second_true}

abbrev pub is_none : List Element → Bool
is_none [] = true
is_none (e ∷ elements) = false

-- elements that are unfit for a use only if others are
pub record Fits (new old : List Element) : Type 0 where
  pub unfit : list_any is_unfit_key new ≡ true → list_any is_unfit_key old ≡ true
  pub key : list_any is_key_element new ≡ true → list_any is_key_element old ≡ true
  pub other : list_any is_no_character new ≡ true → list_any is_no_character old ≡ true
  pub some : is_none new ≡ true → is_none old ≡ true

pub fits_same : (elements : List Element) → Fits elements elements
fits_same elements = record { unfit = λ h. h; key = λ h. h; other = λ h. h; some = λ h. h }

-- the character of a stub fits every use
no_stub : (elements : List Element) → Fits (element.Char 97 ∷ []) elements
no_stub elements = record { unfit = λ h. absurd (cc); key = λ h. absurd (cc); other = λ h. absurd (cc); some = λ h. absurd (cc) }

any_joined : (test : Element → Bool) (a b c d : List Element) → (list_any test a ≡ true → list_any test b ≡ true) → (list_any test c ≡ true → list_any test d ≡ true)
    → list_any test (a ++ c) ≡ true → list_any test (b ++ d) ≡ true
any_joined test a b c d first rest h = by (either (list_any test a) (list_any test c) (sym (list_any-append test a c) ∙ h))
  where
    by : (list_any test a ≡ true) ⊎ (list_any test c ≡ true) → list_any test (b ++ d) ≡ true
    by (inl here) = list_any-append test b d ∙ first_true (list_any test b) (list_any test d) (first here)
    by (inr there) = list_any-append test b d ∙ second_true (list_any test b) (list_any test d) (rest there)

none_joined : (a b c d : List Element) → (is_none a ≡ true → is_none b ≡ true) → (is_none c ≡ true → is_none d ≡ true) → is_none (a ++ c) ≡ true → is_none (b ++ d) ≡ true
none_joined [] [] c d first rest h = rest h
none_joined [] (e ∷ b) c d first rest h = first refl
none_joined (e ∷ a) b c d first rest h = absurd (cc)

fits_joined : (a b c d : List Element) → Fits a b → Fits c d → Fits (a ++ c) (b ++ d)
fits_joined a b c d first rest = record {
  unfit = any_joined is_unfit_key a b c d first.unfit rest.unfit;
  key = any_joined is_key_element a b c d first.key rest.key;
  other = any_joined is_no_character a b c d first.other rest.other;
  some = none_joined a b c d first.some rest.some;
}

module _ (new_names old_names : SourceNames) where
  pub item_fits : (new old : List Store) → ((name : List ℕ) → Fits (elements_named new name) (elements_named old name)) → (item : SrcItem)
      → Fits (item_elements new_names new item) (item_elements old_names old item)
  item_fits new old fits (source.Outs name) = fits name
  item_fits new old fits item = record { unfit = λ h. h; key = λ h. h; other = λ h. h; some = λ h. h }

  items_fit : (new old : List Store) → ((name : List ℕ) → Fits (elements_named new name) (elements_named old name)) → (items : List SrcItem)
      → Fits (flat_map (item_elements new_names new) items) (flat_map (item_elements old_names old) items)
  items_fit new old fits [] = fits_same []
  items_fit new old fits (item ∷ items) =
      fits_joined (item_elements new_names new item) (item_elements old_names old item)
      (flat_map (item_elements new_names new) items) (flat_map (item_elements old_names old) items)
      (item_fits new old fits item) (items_fit new old fits items)

  -- stores with the same names, each of which fits
  abbrev pub FitEach : List Store → List Store → Type 0
  FitEach [] [] = Unit {0}
  FitEach (new ∷ news) (old ∷ olds) = (new.name ≡ old.name) × (Fits new.elements old.elements × FitEach news olds)
  FitEach news olds = ⊥

  pub named_fits : (new old : List Store) → FitEach new old → (name : List ℕ) → Fits (elements_named new name) (elements_named old name)
  named_fits [] [] each name = fits_same []
  named_fits [] (old ∷ olds) each name = absurd each
  named_fits (new ∷ news) [] each name = absurd each
  named_fits (new ∷ news) (old ∷ olds) (same, (fits, each)) name = by (same_name new.name name) refl (named_fits news olds each name)
    where
      olds_are : (t : Bool) → same_name new.name name ≡ t → elements_named (old ∷ olds) name ≡ store_elements (cond t (Some old) (find (λ (store : Store). same_name store.name name) olds))
      olds_are t e = ap (λ b. store_elements (cond b (Some old) (find (λ (store : Store). same_name store.name name) olds))) (ap (λ n. same_name n name) (sym same) ∙ e)

      by : (t : Bool) → same_name new.name name ≡ t → Fits (elements_named news name) (elements_named olds name)
          → Fits (store_elements (cond (same_name new.name name) (Some new) (find (λ (store : Store). same_name store.name name) news))) (elements_named (old ∷ olds) name)
      by true e again = subst (λ b. Fits (store_elements (cond b (Some new) (find (λ (store : Store). same_name store.name name) news))) (elements_named (old ∷ olds) name)) (sym e)
          (subst (Fits new.elements) (sym (olds_are true e)) fits)
      by false e again = subst (λ b. Fits (store_elements (cond b (Some new) (find (λ (store : Store). same_name store.name name) news))) (elements_named (old ∷ olds) name)) (sym e)
          (subst (Fits (elements_named news name)) (sym (olds_are false e)) again)

  pushed_fits : (news olds : List Store) (new old : Store) → FitEach news olds → new.name ≡ old.name → Fits new.elements old.elements → FitEach (news ++ new ∷ []) (olds ++ old ∷ [])
  pushed_fits [] [] new old each same fits = (same, (fits, tt))
  pushed_fits [] (b ∷ olds) new old each same fits = absurd each
  pushed_fits (a ∷ news) [] new old each same fits = absurd each
  pushed_fits (a ∷ news) (b ∷ olds) new old (first, (here, rest)) same fits = (first, (here, pushed_fits news olds new old rest same fits))

  -- a stub that keeps its name
  abbrev pub KeepsName : (StoreDef → Option Code) → StoreDef → Type 0
  KeepsName code_of store = (stub_store (code_of store) store).name ≡ store.name

  stub_fits : (new old : List Store) → ((name : List ℕ) → Fits (elements_named new name) (elements_named old name)) → (code : Option Code) (store : StoreDef)
      → Fits (store_of new_names new (stub_store code store)).elements (store_of old_names old store).elements
  stub_fits new old fits None store = items_fit new old fits store.items
  stub_fits new old fits (Some code) store = no_stub (store_of old_names old store).elements

  dropped_same : (code : Option Code) (store : StoreDef) → is_dropped (stub_store code store) ≡ is_dropped store
  dropped_same None store = refl
  dropped_same (Some code) store = refl

  pub stores_fit : (code_of : StoreDef → Option Code) (stores : List StoreDef) (new old : List Store) → AllByRecursion (KeepsName code_of) stores → FitEach new old
      → FitEach (stores_onto new_names new (map (λ (store : StoreDef). stub_store (code_of store) store) stores)) (stores_onto old_names old stores)
  stores_fit code_of [] new old keeps each = each
  stores_fit code_of (store ∷ stores) new old (keep, keeps) each =
      by (is_dropped store) (is_dropped (stub_store (code_of store) store)) (dropped_same (code_of store) store) (stores_fit code_of stores new old keeps each)
      (stores_fit code_of stores (new ++ store_of new_names new (stub_store (code_of store) store) ∷ []) (old ++ store_of old_names old store ∷ []) keeps
      (pushed_fits new old (store_of new_names new (stub_store (code_of store) store)) (store_of old_names old store) each keep (stub_fits new old (named_fits new old each) (code_of store) store)))
    where
      rest : List StoreDef
      rest = map (λ (s : StoreDef). stub_store (code_of s) s) stores

      added : List Store
      added = new ++ store_of new_names new (stub_store (code_of store) store) ∷ []

      by : (dropped stub_dropped : Bool) → stub_dropped ≡ dropped
          → FitEach (stores_onto new_names new rest) (stores_onto old_names old stores)
          → FitEach (stores_onto new_names added rest) (stores_onto old_names (old ++ store_of old_names old store ∷ []) stores)
          → FitEach (stores_onto new_names (if stub_dropped then new else added) rest) (stores_onto old_names (if dropped then old else old ++ store_of old_names old store ∷ []) stores)
      by true true same left kept = left
      by false false same left kept = kept
      by true false same left kept = absurd (cc)
      by false true same left kept = absurd (cc)
