-- If stores are omitted or renamed, the remaining stores mean the same.
use Rattle.std.proofs.Common.{◌≡◌, ℕ, zero, suc, ◌+◌, Bool, true, false, List, [], ◌∷◌, ◌++◌, map, Option, None, Some, refl, sym, ◌∙◌, ap, if◌then◌else◌}
use Rattle.std.specs.Prelude.{position, slice_get, unwrap_or, option_map}
use Rattle.std.specs.List.{AllByRecursion}
use Rattle.std.proofs.lemmas.Bool.{cond-true, cond-false}
use Rattle.kmn_base.specs.declared.items.Element.{Element}
use Rattle.kmn_base.specs.Names.{same_name}
use Rattle.rule_model.specs.Keyboard.{Named, Numbered, StoreMeaning}
use Rattle.rule_model.specs.Content.{options_before, store_number, elements_of_store, elements_at, content_of, content_at, content, option_of, option_at, option_number}
use Rattle.rule_model.specs.Trace.{options_of}
use Rattle.virtual_keys.proofs.NamePlaces.{position_cons}
use Rattle.compile_laws.proofs.Stores.{is_called}
use Rattle.decompile_program.proofs.Apart.{StandsFirst}

-- a store under another name, with each element changed; a store with a name is not a system option
abbrev pub renamed : (Element → Element) → List ℕ → StoreMeaning → StoreMeaning
renamed f name store = record { name = name; elements = map f store.elements; is_option = store.is_option; is_system = false }

-- the stores that have a name in the text, under that name
abbrev pub thin : (Element → Element) → List (Option (List ℕ)) → List StoreMeaning → List StoreMeaning
thin f [] stores = []
thin f (name ∷ names) [] = []
thin f (None ∷ names) (store ∷ stores) = thin f names stores
thin f (Some name ∷ names) (store ∷ stores) = renamed f name store ∷ thin f names stores

-- a store that is omitted is not an option, and an option is unchanged
abbrev pub KeepsOptions : (Element → Element) → List (Option (List ℕ)) → List StoreMeaning → Type 0
KeepsOptions f [] [] = Unit {0}
KeepsOptions f [] (store ∷ stores) = ⊥
KeepsOptions f (name ∷ names) [] = ⊥
KeepsOptions f (None ∷ names) (store ∷ stores) = (store.is_option ≡ false) × KeepsOptions f names stores
KeepsOptions f (Some name ∷ names) (store ∷ stores) =
    (store.is_option ≡ true → renamed f name store ≡ store) × KeepsOptions f names stores

-- the place at which a store is found under its name
pub record Stands (f : Element → Element) (name : List ℕ) (n : ℕ) (new_stores old_stores : List StoreMeaning) : Type 0 where
  pub place : ℕ
  pub found : position (is_called name) new_stores ≡ Some place
  pub store : StoreMeaning
  pub old : slice_get old_stores n ≡ Some store
  pub new : slice_get new_stores place ≡ Some (renamed f name store)
  pub before : options_before place new_stores ≡ options_before n old_stores
  pub kept : store.is_option ≡ true → map f store.elements ≡ store.elements

pub stands : (f : Element → Element) (name : List ℕ) (n : ℕ) (names : List (Option (List ℕ))) (stores more : List StoreMeaning) → StandsFirst name n names → KeepsOptions f names stores
    → Stands f name n (thin f names stores ++ more) (stores ++ more)
stands f name n [] stores more first keeps = absurd first
stands f name n (other ∷ names) [] more first keeps = absurd keeps
stands f name zero (None ∷ names) (store ∷ stores) more first keeps = absurd first
stands f name zero (Some other ∷ names) (store ∷ stores) more (is, same) (named, keeps) = record {
  place = 0;
  found = position_cons (is_called name) (renamed f other store) (thin f names stores ++ more)
      ∙ cond-true (same_name other name) _ _ (ap (λ k. same_name k name) is ∙ same);
  store = store;
  old = refl;
  new = ap (λ k. Some (renamed f k store)) is;
  before = refl;
  kept = λ h. ap (λ (k : StoreMeaning). k.elements) (named h);
}
stands f name (suc n) (None ∷ names) (store ∷ stores) more first (plain, keeps) =
    let rest = stands f name n names stores more first keeps in record {
      place = rest.place;
      found = rest.found;
      store = rest.store;
      old = rest.old;
      new = rest.new;
      before = rest.before ∙ sym (cond-false store.is_option _ _ plain);
      kept = rest.kept;
    }
stands f name (suc n) (Some other ∷ names) (store ∷ stores) more (apart, first) (named, keeps) =
    let rest = stands f name n names stores more first keeps in record {
      place = suc rest.place;
      found = position_cons (is_called name) (renamed f other store) (thin f names stores ++ more)
          ∙ cond-false (same_name other name) _ _ apart ∙ ap (option_map suc) rest.found;
      store = rest.store;
      old = rest.old;
      new = rest.new;
      before = ap (λ (k : ℕ). if store.is_option then 1 + k else k) rest.before;
      kept = rest.kept;
    }

-- if stores in front have other names and are not options, a store is found after them
pub behind : (f : Element → Element) (name : List ℕ) (n : ℕ) (front new_stores old_stores : List StoreMeaning)
    → AllByRecursion (λ (store : StoreMeaning). is_called name store ≡ false) front → AllByRecursion (λ (store : StoreMeaning). store.is_option ≡ false) front
    → Stands f name n new_stores old_stores → Stands f name n (front ++ new_stores) old_stores
behind f name n [] new_stores old_stores other plain s = s
behind f name n (x ∷ front) new_stores old_stores (apart, other) (fixed, plain) s =
    let more = behind f name n front new_stores old_stores other plain s in record {
      place = suc more.place;
      found = position_cons (is_called name) x (front ++ new_stores) ∙ cond-false (is_called name x) _ _ apart ∙ ap (option_map suc) more.found;
      store = more.store;
      old = more.old;
      new = more.new;
      before = cond-false x.is_option _ _ fixed ∙ more.before;
      kept = more.kept;
    }

map-like : (plain f : Element → Element) → ((e : Element) → plain (f e) ≡ plain e) → (es : List Element) → map plain (map f es) ≡ map plain es
map-like plain f like [] = refl
map-like plain f like (e ∷ es) = λ i. like e i ∷ map-like plain f like es i

content-like : (plain f : Element → Element) → ((e : Element) → plain (f e) ≡ plain e) → (b : Bool) (value es : List Element) →
    map plain (if b then value else map f es) ≡ map plain (if b then value else es)
content-like plain f like true value es = refl
content-like plain f like false value es = map-like plain f like es

-- if a store is found under its name, its content, option and elements are the same
module _ (f : Element → Element) (name : List ℕ) (n : ℕ) (new_stores old_stores : List StoreMeaning) (s : Stands f name n new_stores old_stores) where
  new_content : (values : List (List Element)) → content new_stores values (Named name) ≡ content_of values (options_before n old_stores) (Some (renamed f name s.store))
  new_content values =
      ap (content_at new_stores values) s.found
      ∙ (ap (λ k. content_of values (options_before s.place new_stores) k) s.new ∙ ap (λ k. content_of values k (Some (renamed f name s.store))) s.before)

  old_content : (values : List (List Element)) → content old_stores values (Numbered n) ≡ content_of values (options_before n old_stores) (Some s.store)
  old_content values = ap (λ k. content_of values (options_before n old_stores) k) s.old

  pub like_content : (plain : Element → Element) → ((e : Element) → plain (f e) ≡ plain e) → (values : List (List Element))
      → map plain (content new_stores values (Named name)) ≡ map plain (content old_stores values (Numbered n))
  like_content plain like values =
      ap (map plain) (new_content values)
      ∙ content-like plain f like s.store.is_option (unwrap_or (slice_get values (options_before n old_stores)) []) s.store.elements
      ∙ sym (ap (map plain) (old_content values))

  pub same_content : s.store.is_option ≡ true → (values : List (List Element)) → content new_stores values (Named name) ≡ content old_stores values (Numbered n)
  same_content is values =
      new_content values
      ∙ (λ i. if s.store.is_option then unwrap_or (slice_get values (options_before n old_stores)) [] else s.kept is i)
      ∙ sym (old_content values)

  pub same_option : option_number new_stores (Named name) ≡ option_number old_stores (Numbered n)
  same_option =
      ap (option_at new_stores) s.found
      ∙ ap (option_of (options_before s.place new_stores)) s.new
      ∙ ap (λ k. option_of k (Some (renamed f name s.store))) s.before
      ∙ sym (ap (option_of (options_before n old_stores)) s.old)

  pub same_elements : s.store.is_option ≡ true → elements_at new_stores (store_number new_stores (Named name)) ≡ elements_at old_stores (store_number old_stores (Numbered n))
  same_elements is = ap (elements_at new_stores) s.found ∙ ap elements_of_store s.new ∙ s.kept is ∙ sym (ap elements_of_store s.old)

-- if options are unchanged, all options are the same, with their names
pub options-same : (f : Element → Element) (names : List (Option (List ℕ))) (stores more : List StoreMeaning) → KeepsOptions f names stores
    → options_of (thin f names stores ++ more) ≡ options_of (stores ++ more)
options-same f [] [] more keeps = refl
options-same f [] (store ∷ stores) more keeps = absurd keeps
options-same f (name ∷ names) [] more keeps = absurd keeps
options-same f (None ∷ names) (store ∷ stores) more (plain, keeps) = options-same f names stores more keeps ∙ sym (cond-false store.is_option _ _ plain)
options-same f (Some name ∷ names) (store ∷ stores) more (named, keeps) =
    elim store.is_option as (λ b. (b ≡ true → renamed f name store ≡ store)
    → (if b then renamed f name store ∷ options_of (thin f names stores ++ more) else options_of (thin f names stores ++ more)) ≡ (if b then store ∷ options_of (stores ++ more) else options_of (stores ++ more))) [
      | true ↦ λ h. (λ i. h refl i ∷ options-same f names stores more keeps i)
      | false ↦ λ h. options-same f names stores more keeps
    ] named

-- if stores in front are not options, they do not add options
pub options-behind : (front stores : List StoreMeaning) → AllByRecursion (λ (store : StoreMeaning). store.is_option ≡ false) front → options_of (front ++ stores) ≡ options_of stores
options-behind [] stores plain = refl
options-behind (x ∷ front) stores (fixed, plain) = cond-false x.is_option _ _ fixed ∙ options-behind front stores plain
