-- The values of options: their numbers, what a change of one leaves of the others, and their first values.
use Rattle.std.specs.Prelude.{◌≡◌, ℕ, zero, suc, ◌+◌, ◌-◌, ◌<◌, ◌⊎◌, Bool, true, false, not, ◌&&◌, ◌||◌, nat_eq, if◌then◌else◌, List, [], ◌∷◌, ◌++◌, length, map, slice_get, slice_set, unwrap_or, Option, Some, None}
use Rattle.std.specs.List.{list_any}
use Rattle.std.specs.Str.{bytes_eq}
use Rattle.std.proofs.Common.{refl, sym, ap, ◌∙◌, arith, inl, inr, length-append}
use Rattle.std.proofs.Math.Path.{subst}
use Rattle.std.proofs.lemmas.Bool.{or_parts, cases_order}
use Rattle.std.proofs.lemmas.Option.{none-some, same_Some}
use Rattle.std.proofs.lemmas.Slice.Eq.{bytes_eq-Decides}
use Rattle.kmn_base.specs.declared.items.Element.{Element}
use Rattle.kmn_base.specs.Rising.{is_among, rising}
use Rattle.rule_model.specs.declared.tables.Store.{Store}
use Rattle.rule_model.specs.Keyboard.{Ref, Numbered, Platform, StoreMeaning}
use Rattle.rule_model.specs.Content.{options_before, option_of, option_at, option_number, content_of, content_at, content, elements_of_store, elements_at, store_number}
use Rattle.rule_model.specs.System.{system_options}
use Rattle.rule_model.specs.Trace.{options_of}
use Rattle.rule_model.specs.Tab.{elements_of, with_options, store_elements}
use Rattle.rule_model.proofs.PlainOptions.{length-with_options, content_of_other}
use Rattle.rule_model.proofs.SystemOptions.{at_behind, content_by_option, own_elements}
use Rattle.core_meaning.specs.Options.{name_at, is_named, last_option_named, saved_under}
use Rattle.core_meaning.specs.ContextLaws.{stated_platform}
use Rattle.core_constructs.specs.Told.{have_same_name, shares_name}
use Rattle.core_laws.proofs.Rising.{equal_numbers, same_number, in_rising}
use Rattle.std.specs.Option.{option_map_or}

true_false : true ≡ false → ⊥
true_false e = grind arith

false_true : false ≡ true → ⊥
false_true e = grind arith

-- ---- a list with one entry set

pub get_set_other : {A : Type 0} (xs : List A) (i j : ℕ) (x : A) → (i ≡ j → ⊥) → slice_get (slice_set xs i x) j ≡ slice_get xs j
get_set_other [] i j x apart = refl
get_set_other (y ∷ xs) zero zero x apart = absurd (apart refl)
get_set_other (y ∷ xs) zero (suc j) x apart = refl
get_set_other (y ∷ xs) (suc i) zero x apart = refl
get_set_other (y ∷ xs) (suc i) (suc j) x apart = get_set_other xs i j x (λ e. apart (ap suc e))

-- the entry that is set is that value, or there is none
pub get_set_same : {A : Type 0} (xs : List A) (i : ℕ) (x : A) → (slice_get (slice_set xs i x) i ≡ Some x) ⊎ (slice_get (slice_set xs i x) i ≡ None)
get_set_same [] i x = inr refl
get_set_same (y ∷ xs) zero x = inl refl
get_set_same (y ∷ xs) (suc i) x = get_set_same xs i x

-- ---- numbers of options

-- an option before another store is counted there
before_less : (stores : List StoreMeaning) (n m : ℕ) (store : StoreMeaning) → n < m → slice_get stores n ≡ Some store → store.is_option ≡ true → options_before n stores < options_before m stores
before_less [] n m store less listed is = absurd (none-some store listed)
before_less (s ∷ ss) zero zero store less listed is = absurd (omega (arith, less))
before_less (s ∷ ss) zero (suc m) store less listed is =
    subst (λ (b : Bool). 0 < (if b then 1 + options_before m ss else options_before m ss)) (sym (ap (λ (t : StoreMeaning). t.is_option) (same_Some s store listed) ∙ is)) (omega arith)
before_less (s ∷ ss) (suc n) zero store less listed is = absurd (omega (arith, less))
before_less (s ∷ ss) (suc n) (suc m) store less listed is = by_test s.is_option (before_less ss n m store (omega (arith, less)) listed is)
  where
    by_test : (b : Bool) → options_before n ss < options_before m ss → (if b then 1 + options_before n ss else options_before n ss) < (if b then 1 + options_before m ss else options_before m ss)
    by_test true rest = omega (arith, rest)
    by_test false rest = rest

-- a store with an option number is an option
record IsOptionAt (stores : List StoreMeaning) (n option : ℕ) : Type 0 where
  store : StoreMeaning
  listed : slice_get stores n ≡ Some store
  is : store.is_option ≡ true
  number : options_before n stores ≡ option

option_there : (stores : List StoreMeaning) (n option : ℕ) → option_at stores (Some n) ≡ Some option → IsOptionAt stores n option
option_there stores n option e = by_store (slice_get stores n) refl e
  where
    by_test : (store : StoreMeaning) → slice_get stores n ≡ Some store → (b : Bool) → store.is_option ≡ b → (if b then Some (options_before n stores) else None) ≡ Some option → IsOptionAt stores n option
    by_test store listed true is e = record { store = store; listed = listed; is = is; number = same_Some (options_before n stores) option e }
    by_test store listed false is e = absurd (none-some option e)

    by_store : (o : Option StoreMeaning) → slice_get stores n ≡ o → option_of (options_before n stores) o ≡ Some option → IsOptionAt stores n option
    by_store None listed e = absurd (none-some option e)
    by_store (Some store) listed e = by_test store listed store.is_option refl e

-- two stores with the same option number are one
pub same_option : (stores : List StoreMeaning) (n m option : ℕ) → option_at stores (Some n) ≡ Some option → option_at stores (Some m) ≡ Some option → n ≡ m
same_option stores n m option here there = by_order (cases_order n m)
  where
    one : IsOptionAt stores n option
    one = option_there stores n option here

    other : IsOptionAt stores m option
    other = option_there stores m option there

    by_order : (n ≡ m) ⊎ ((n < m) ⊎ (m < n)) → n ≡ m
    by_order (inl same) = same
    by_order (inr (inl less)) = absurd (omega (arith, before_less stores n m one.store less one.listed one.is, one.number, other.number))
    by_order (inr (inr more)) = absurd (omega (arith, before_less stores m n other.store more other.listed other.is, one.number, other.number))

-- ---- the stores of tables

module _ (options : List ℕ) (stores : List Store) where
  abbrev pub all_stores : List StoreMeaning
  all_stores = with_options options 0 stores ++ system_options

  -- a store of the tables as a store of the keyboard
  abbrev pub meaning_of : ℕ → Store → StoreMeaning
  meaning_of n store = record { name = store.name; elements = store.elements; is_option = is_among n options; is_system = false }

-- a store of the tables
pub record IsStoreAt (stores : List Store) (n : ℕ) : Type 0 where
  pub store : Store
  pub listed : slice_get stores n ≡ Some store

pub store_at : (stores : List Store) (n : ℕ) → n < length stores → IsStoreAt stores n
store_at [] n less = absurd (omega (arith, less))
store_at (s ∷ ss) zero less = record { store = s; listed = refl }
store_at (s ∷ ss) (suc n) less = let rest = store_at ss n (omega (arith, less)) in record { store = rest.store; listed = rest.listed }

meaning_from : (options : List ℕ) (k n : ℕ) (stores : List Store) (store : Store) → slice_get stores n ≡ Some store
    → slice_get (with_options options k stores ++ system_options) n ≡ Some (record { name = store.name; elements = store.elements; is_option = is_among (k + n) options; is_system = false })
meaning_from options k n [] store listed = absurd (none-some store listed)
meaning_from options k zero (s ∷ ss) store listed =
    let same : s ≡ store = same_Some s store listed in
    let place : k ≡ k + 0 = omega arith in
    λ i. Some (record { name = (same i).name; elements = (same i).elements; is_option = is_among (place i) options; is_system = false })
meaning_from options k (suc n) (s ∷ ss) store listed =
    let place : k + 1 + n ≡ k + suc n = omega arith in
    meaning_from options (k + 1) n ss store listed
    ∙ ap (λ (m : ℕ). Some (record { name = store.name; elements = store.elements; is_option = is_among m options; is_system = false })) place

pub meaning_at : (options : List ℕ) (stores : List Store) (n : ℕ) (store : Store) → slice_get stores n ≡ Some store → slice_get (all_stores options stores) n ≡ Some (meaning_of options stores n store)
meaning_at options stores n store listed =
    let place : 0 + n ≡ n = omega arith in
    meaning_from options 0 n stores store listed ∙ ap (λ (m : ℕ). Some (record { name = store.name; elements = store.elements; is_option = is_among m options; is_system = false })) place

-- a store of the keyboard that is not a system option
record IsOwnStore (options : List ℕ) (k n : ℕ) (stores : List Store) (meaning : StoreMeaning) : Type 0 where
  store : Store
  listed : slice_get stores n ≡ Some store
  name : meaning.name ≡ store.name
  option : meaning.is_option ≡ is_among (k + n) options

no_system : (n : ℕ) (meaning : StoreMeaning) → slice_get system_options n ≡ Some meaning → meaning.is_system ≡ true
no_system zero meaning listed = ap (λ (m : StoreMeaning). m.is_system) (sym (same_Some _ meaning listed))
no_system (suc zero) meaning listed = ap (λ (m : StoreMeaning). m.is_system) (sym (same_Some _ meaning listed))
no_system (suc (suc n)) meaning listed = absurd (none-some meaning listed)

own_store : (options : List ℕ) (k n : ℕ) (stores : List Store) (meaning : StoreMeaning) → slice_get (with_options options k stores ++ system_options) n ≡ Some meaning → meaning.is_system ≡ false → IsOwnStore options k n stores meaning
own_store options k n [] meaning listed own = absurd (true_false (sym (no_system n meaning listed) ∙ own))
own_store options k zero (s ∷ ss) meaning listed own =
    let same = same_Some _ meaning listed in
    let place : k ≡ k + 0 = omega arith in
    record {
      store = s;
      listed = refl;
      name = ap (λ (m : StoreMeaning). m.name) (sym same);
      option = ap (λ (m : StoreMeaning). m.is_option) (sym same) ∙ ap (λ (m : ℕ). is_among m options) place;
    }
own_store options k (suc n) (s ∷ ss) meaning listed own =
    let rest = own_store options (k + 1) n ss meaning listed own in
    let place : k + 1 + n ≡ k + suc n = omega arith in
    record { store = rest.store; listed = rest.listed; name = rest.name; option = rest.option ∙ ap (λ (m : ℕ). is_among m options) place }

module _ (options : List ℕ) (stores : List Store) where
  -- the option number of a store of the tables: None if it is not an option
  pub number_of_other : (n : ℕ) → n < length stores → is_among n options ≡ false → option_number (all_stores options stores) (Numbered n) ≡ None
  number_of_other n less other =
      let at = store_at stores n less in
      ap (option_of (options_before n (all_stores options stores))) (meaning_at options stores n at.store at.listed)
      ∙ ap (λ (b : Bool). if b then Some (options_before n (all_stores options stores)) else None) other

  -- a store that is not an option has its elements
  pub content_of_plain : (current : List (List Element)) (n : ℕ) → n < length stores → is_among n options ≡ false → content (all_stores options stores) current (Numbered n) ≡ elements_of stores n
  content_of_plain current n less other =
      let at = store_at stores n less in
      ap (content_of current (options_before n (all_stores options stores))) (meaning_at options stores n at.store at.listed)
      ∙ ap (λ (b : Bool). if b then unwrap_or (slice_get current (options_before n (all_stores options stores))) [] else at.store.elements) other
      ∙ sym (ap (λ (o : Option Store). store_elements o) at.listed)

  pub elements_of_own : (n : ℕ) → n < length stores → elements_at (all_stores options stores) (Some n) ≡ elements_of stores n
  elements_of_own n less = own_elements options 0 n stores less

  -- ---- the platform

  platform_place : ℕ
  platform_place = length (all_stores options stores) - 1

  size_of_all : length (all_stores options stores) ≡ length stores + 2
  size_of_all = length-append (with_options options 0 stores) system_options ∙ ap (λ (n : ℕ). n + 2) (length-with_options options 0 stores)

  -- no store of the tables has the option number of the platform
  pub not_platform : (n option other : ℕ) → n < length stores → option_number (all_stores options stores) (Numbered n) ≡ Some option → option_number (all_stores options stores) Platform ≡ Some other → option ≡ other → ⊥
  not_platform n option other less here there same =
      omega (arith, less, size_of_all, same_option (all_stores options stores) n (length (all_stores options stores) - 1) option here (there ∙ ap Some (sym same)))

  -- ---- a value is set

  -- the content of another store stays
  pub content_kept : (current : List (List Element)) (ref : Ref) (option : ℕ) (value : List Element) → ((other : ℕ) → option_number (all_stores options stores) ref ≡ Some other → option ≡ other → ⊥)
      → content (all_stores options stores) (slice_set current option value) ref ≡ content (all_stores options stores) current ref
  content_kept current ref option value apart = by_number (option_number (all_stores options stores) ref) refl
    where
      by_number : (o : Option ℕ) → option_number (all_stores options stores) ref ≡ o → content (all_stores options stores) (slice_set current option value) ref ≡ content (all_stores options stores) current ref
      by_number None is = alike (store_number (all_stores options stores) ref) is
        where
          alike : (n : Option ℕ) → option_at (all_stores options stores) n ≡ None → content_at (all_stores options stores) (slice_set current option value) n ≡ content_at (all_stores options stores) current n
          alike None is = refl
          alike (Some n) is =
              content_of_other (slice_set current option value) (options_before n (all_stores options stores)) (slice_get (all_stores options stores) n) is
              ∙ sym (content_of_other current (options_before n (all_stores options stores)) (slice_get (all_stores options stores) n) is)
      by_number (Some other) is =
          content_by_option (all_stores options stores) (slice_set current option value) ref other is
          ∙ ap (λ (o : Option (List Element)). unwrap_or o []) (get_set_other current option other value (apart other is))
          ∙ sym (content_by_option (all_stores options stores) current ref other is)

  -- ---- names

  -- among these options, a test is passed by none
  any_at : (test : ℕ → Bool) (ns : List ℕ) (n : ℕ) → list_any test ns ≡ false → is_among n ns ≡ true → test n ≡ false
  any_at test [] n none among = absurd (false_true among)
  any_at test (m ∷ ns) n none among =
      let parts = or_parts (test m) (list_any test ns) none in
      by_test (nat_eq n m) refl among (any_at test ns n parts.1) parts.0
    where
      by_test : (b : Bool) → nat_eq n m ≡ b → (b || is_among n ns) ≡ true → (is_among n ns ≡ true → test n ≡ false) → test m ≡ false → test n ≡ false
      by_test true is among rest here = ap test (equal_numbers n m is) ∙ here
      by_test false is among rest here = rest among

  same_names : (a b : Store) → a.name ≡ b.name → nat_eq (length a.name) 0 ≡ false → have_same_name (Some a) (Some b) ≡ true
  same_names a b same named = λ i. not (named i) && (bytes_eq-Decides a.name b.name).1 same i

  no_shared : (ns : List ℕ) (n m : ℕ) (a b : Store) → shares_name stores ns ≡ false → is_among n ns ≡ true → is_among m ns ≡ true → (n ≡ m → ⊥)
      → slice_get stores n ≡ Some a → slice_get stores m ≡ Some b → a.name ≡ b.name → nat_eq (length a.name) 0 ≡ false → ⊥
  no_shared [] n m a b alone here there apart first second same named = false_true here
  no_shared (k ∷ ns) n m a b alone here there apart first second same named =
      by_tests (nat_eq n k) refl (nat_eq m k) refl here there (λ one other. no_shared ns n m a b parts.1 one other apart first second same named)
    where
      parts : (list_any (λ other. have_same_name (slice_get stores k) (slice_get stores other)) ns ≡ false) × (shares_name stores ns ≡ false)
      parts = or_parts (list_any (λ other. have_same_name (slice_get stores k) (slice_get stores other)) ns) (shares_name stores ns) alone

      by_tests : (p : Bool) → nat_eq n k ≡ p → (q : Bool) → nat_eq m k ≡ q → (p || is_among n ns) ≡ true → (q || is_among m ns) ≡ true → (is_among n ns ≡ true → is_among m ns ≡ true → ⊥) → ⊥
      by_tests true is true other here there rest = apart (equal_numbers n k is ∙ sym (equal_numbers m k other))
      by_tests true is false other here there rest =
          false_true (sym (any_at (λ other. have_same_name (slice_get stores k) (slice_get stores other)) ns m parts.0 there)
          ∙ (λ i. have_same_name ((ap (slice_get stores) (sym (equal_numbers n k is)) ∙ first) i) (second i)) ∙ same_names a b same named)
      by_tests false is true other here there rest =
          false_true (sym (any_at (λ other. have_same_name (slice_get stores k) (slice_get stores other)) ns n parts.0 here)
          ∙ (λ i. have_same_name ((ap (slice_get stores) (sym (equal_numbers m k other)) ∙ second) i) (first i)) ∙ same_names b a (sym same) (ap (λ (name : List ℕ). nat_eq (length name) 0) (sym same) ∙ named))
      by_tests false is false other here there rest = rest here there

  -- the last option of a name is the only one
  last_is : (name : List ℕ) (k n : ℕ) (all : List StoreMeaning) → ((j : ℕ) (store : StoreMeaning) → slice_get all j ≡ Some store → (store.is_option && not store.is_system && bytes_eq store.name name) ≡ true → k + j ≡ n) → last_option_named name k all n ≡ n
  last_is name k n [] only = refl
  last_is name k n (s ∷ ss) only =
      ap (last_option_named name (k + 1) ss) (by_test (s.is_option && not s.is_system && bytes_eq s.name name) refl)
      ∙ last_is name (k + 1) n ss (λ j store listed told. let place : k + 1 + j ≡ k + suc j = omega arith in place ∙ only (suc j) store listed told)
    where
      by_test : (b : Bool) → (s.is_option && not s.is_system && bytes_eq s.name name) ≡ b → (if b then k else n) ≡ n
      by_test true told = let place : k ≡ k + 0 = omega arith in place ∙ only 0 s refl told
      by_test false told = refl

  -- if no two options share a name, each is saved under itself
  pub saved_itself : (n : ℕ) → n < length stores → is_among n options ≡ true → shares_name stores (rising options) ≡ false → is_named (all_stores options stores) n ≡ true → saved_under (all_stores options stores) n ≡ n
  saved_itself n less among alone named =
      ap (λ (b : Bool). if b then last_option_named (name_at (all_stores options stores) n) 0 (all_stores options stores) n else n) named
      ∙ last_is (name_at (all_stores options stores) n) 0 n (all_stores options stores) only
    where
      at : IsStoreAt stores n
      at = store_at stores n less

      name_is : name_at (all_stores options stores) n ≡ at.store.name
      name_is = ap (λ (o : Option StoreMeaning). option_map_or (λ (store : StoreMeaning). store.name) o []) (meaning_at options stores n at.store at.listed)

      has_name : nat_eq (length at.store.name) 0 ≡ false
      has_name = by_test (nat_eq (length at.store.name) 0) (ap (λ (name : List ℕ). not (nat_eq (length name) 0)) (sym name_is) ∙ named)
        where
          by_test : (b : Bool) → not b ≡ true → b ≡ false
          by_test true told = absurd (false_true told)
          by_test false told = refl

      only : (j : ℕ) (store : StoreMeaning) → slice_get (all_stores options stores) j ≡ Some store → (store.is_option && not store.is_system && bytes_eq store.name (name_at (all_stores options stores) n)) ≡ true → 0 + j ≡ n
      only j store listed told = by_test (nat_eq j n) refl
        where
          own_of : (a b c : Bool) → (a && not b && c) ≡ true → (a ≡ true) × (b ≡ false) × (c ≡ true)
          own_of true false true told = (refl, refl, refl)
          own_of true false false told = absurd (false_true told)
          own_of true true c told = absurd (false_true told)
          own_of false b c told = absurd (false_true told)

          tests : (store.is_option ≡ true) × (store.is_system ≡ false) × (bytes_eq store.name (name_at (all_stores options stores) n) ≡ true)
          tests = own_of store.is_option store.is_system (bytes_eq store.name (name_at (all_stores options stores) n)) told

          own : IsOwnStore options 0 j stores store
          own = own_store options 0 j stores store listed tests.1

          place : 0 + j ≡ j
          place = omega arith

          by_test : (b : Bool) → nat_eq j n ≡ b → 0 + j ≡ n
          by_test true is = place ∙ equal_numbers j n is
          by_test false is =
              absurd (no_shared (rising options) n j at.store own.store alone (in_rising n options among)
              (in_rising j options (ap (λ (m : ℕ). is_among m options) (sym place) ∙ sym own.option ∙ tests.0)) apart at.listed own.listed
              (sym name_is ∙ sym ((bytes_eq-Decides store.name (name_at (all_stores options stores) n)).0 tests.2) ∙ own.name) has_name)
            where
              apart : n ≡ j → ⊥
              apart e = true_false (sym (ap (λ (m : ℕ). nat_eq j m) e ∙ same_number j) ∙ is)

-- ---- the first values

-- at first, each store has its elements
first_of : (stores : List StoreMeaning) (n : ℕ) → content_of (map (λ (store : StoreMeaning). store.elements) (options_of stores)) (options_before n stores) (slice_get stores n) ≡ elements_of_store (slice_get stores n)
first_of [] n = refl
first_of (s ∷ ss) zero = by_test s.is_option refl
  where
    by_test : (b : Bool) → s.is_option ≡ b
        → (if b then unwrap_or (slice_get (map (λ (store : StoreMeaning). store.elements) (if b then s ∷ options_of ss else options_of ss)) 0) [] else s.elements) ≡ s.elements
    by_test true is = refl
    by_test false is = refl
first_of (s ∷ ss) (suc n) = by_test s.is_option (first_of ss n)
  where
    values : List (List Element)
    values = map (λ (store : StoreMeaning). store.elements) (options_of ss)

    behind : (o : Option StoreMeaning) → content_of (s.elements ∷ values) (1 + options_before n ss) o ≡ content_of values (options_before n ss) o
    behind None = refl
    behind (Some store) =
        let place : 1 + options_before n ss ≡ suc (options_before n ss) = omega arith in
        ap (λ (k : ℕ). if store.is_option then unwrap_or (slice_get (s.elements ∷ values) k) [] else store.elements) place

    by_test : (b : Bool) → content_of values (options_before n ss) (slice_get ss n) ≡ elements_of_store (slice_get ss n)
        → content_of (map (λ (store : StoreMeaning). store.elements) (if b then s ∷ options_of ss else options_of ss)) (if b then 1 + options_before n ss else options_before n ss) (slice_get ss n) ≡ elements_of_store (slice_get ss n)
    by_test true rest = behind (slice_get ss n) ∙ rest
    by_test false rest = rest

pub first_content : (stores : List StoreMeaning) (n : ℕ) → content_at stores (map (λ (store : StoreMeaning). store.elements) (options_of stores)) (Some n) ≡ elements_at stores (Some n)
first_content stores n = first_of stores n

pub first_platform : (options : List ℕ) (stores : List Store) → content (all_stores options stores) (map (λ (store : StoreMeaning). store.elements) (options_of (all_stores options stores))) Platform ≡ stated_platform
first_platform options stores =
    first_content (all_stores options stores) (length (all_stores options stores) - 1)
    ∙ ap (λ (n : ℕ). elements_of_store (slice_get (all_stores options stores) n)) place
    ∙ ap elements_of_store (at_behind (with_options options 0 stores) system_options 1)
  where
    place : length (all_stores options stores) - 1 ≡ length (with_options options 0 stores) + 1
    place = omega (arith, length-append (with_options options 0 stores) system_options)
