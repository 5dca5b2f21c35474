-- The stores of a program's tables are those of the program, and other stores that are not options.
use Rattle.std.proofs.Common.{◌≡◌, ℕ, zero, suc, ◌+◌, ◌<◌, ◌≤◌, Bool, true, false, List, [], ◌∷◌, ◌++◌, length, map, not, ◌&&◌, Option, Some, None, refl, ap, sym, ◌∙◌, arith, is_some, if◌then◌else◌, cond, append-nil, append_assoc}
use Rattle.std.specs.Prelude.{nat_eq, find, option_map, position, slice_get, unwrap_or}
use Rattle.std.specs.List.{list_any, AllByRecursion}
use Rattle.std.specs.Str.{bytes_eq}
use Rattle.std.specs.Cmp.Lexicographic.{bytes_decides}
use Rattle.std.proofs.lemmas.Bool.{not-true, true≢false, or_parts}
use Rattle.std.proofs.lemmas.List.Elements.{filter-append}
use Rattle.std.proofs.lemmas.Option.{slice_get-map}
use Rattle.kmn_base.specs.declared.items.Element.{Element}
use Rattle.kmn_base.specs.Names.{same_name}
use Rattle.kmn_base.proofs.Elements.{slice_get-append_left}
use Rattle.rule_model.specs.declared.program.Program.{Program}
use Rattle.rule_model.specs.declared.tables.Store.{Store}
use Rattle.rule_model.specs.declared.tables.Tables.{Tables}
use Rattle.rule_model.specs.Keyboard.{Named, Numbered, StoreMeaning}
use Rattle.rule_model.specs.Content.{options_before, store_number, elements_of_store, elements_at, content_of, content_at, content, option_of, option_at, option_number}
use Rattle.rule_model.specs.Naming.{names_of, stores_of, elements_named}
use Rattle.rule_model.specs.Tab.{tab, tab_options, with_options, store_elements, elements_of}
use Rattle.rule_model.specs.Src.{src, src_options, value_elements}
use Rattle.compile_laws.specs.Numbers.{numbers_of, values_of, value_store, dictionary_stores, number_of_store, number_of_value}
use Rattle.compile_laws.specs.Compiles.{Compiles}
use Rattle.compile_laws.specs.WellNamed.{IsWellNamed, is_store, is_fixed, stated_stores}
use Rattle.rule_model.specs.Trace.{options_of, none_saved, first_state}
use Rattle.rule_model.proofs.PlainOptions.{length-with_options}
use Rattle.rule_model.specs.System.{system_options, system_ref}
use Rattle.rule_model.specs.Plain.{option_names}
use Rattle.rule_model.proofs.SystemOptions.{names_behind, system_option_is, content_by_option, at_behind}
use Rattle.compile_laws.proofs.Keyboards.{src_stores, tab_stores}
use Rattle.compile_laws.proofs.Linked.{Linked, is_value}
use Rattle.compile_laws.proofs.Options.{options-same, options-within}
use Rattle.compile_laws.proofs.PlacedItems.{FirstPlace, first_place, at_place}
use Rattle.virtual_keys.proofs.NamePlaces.{position_cons}

with_options-same : (a b : List ℕ) → ((n : ℕ) → list_any (nat_eq n) a ≡ list_any (nat_eq n) b) → (n : ℕ) (xs : List Store) → with_options a n xs ≡ with_options b n xs
with_options-same a b same n [] = refl
with_options-same a b same n (x ∷ xs) = λ i. record { name = x.name; elements = x.elements; is_option = same n i; is_system = false } ∷ with_options-same a b same (n + 1) xs i

pub with_options-append : (options : List ℕ) (n : ℕ) (xs ys : List Store) → with_options options n (xs ++ ys) ≡ with_options options n xs ++ with_options options (n + length xs) ys
with_options-append options n [] ys =
    let e : n ≡ n + 0 = omega arith in
    ap (λ m. with_options options m ys) e
with_options-append options n (x ∷ xs) ys =
    let e : n + 1 + length xs ≡ n + suc (length xs) = omega arith in
    ap (λ rest. record { name = x.name; elements = x.elements; is_option = list_any (nat_eq n) options; is_system = false } ∷ rest)
    (with_options-append options (n + 1) xs ys ∙ ap (λ m. with_options options (n + 1) xs ++ with_options options m ys) e)

-- no store of a list is an option
abbrev NoOptions : List StoreMeaning → Type 0
NoOptions = AllByRecursion (λ (store : StoreMeaning). store.is_option ≡ false)

no_options : (options : List ℕ) (n : ℕ) → ((m : ℕ) → n ≤ m → list_any (nat_eq m) options ≡ false) → (xs : List Store) → NoOptions (with_options options n xs)
no_options options n none [] = tt
no_options options n none (x ∷ xs) = (none n (omega arith), no_options options (n + 1) (λ m past. none m (omega arith)) xs)

-- two lists of the same stores followed by the system options; the second also contains stores that are not options
record More (a b : List StoreMeaning) : Type 0 where
  own : List StoreMeaning
  more : List StoreMeaning
  first : a ≡ own ++ system_options
  is : b ≡ own ++ (more ++ system_options)
  none : NoOptions more

tables-more : (p : Program) (t : Tables) → IsWellNamed p → Compiles p t → More (src p).stores (tab t).stores
tables-more p t ok c =
    let added = dictionary_stores (names_of p).keys ++ map value_store (values_of p) in
    let own = with_options (src_options p) 0 (stores_of p) in
    let more = with_options (src_options p) (0 + length (stores_of p)) added in
    record {
      own = own;
      more = more;
      first = src_stores p;
      is =
          tab_stores t
          ∙ (ap (λ stores. stores ++ system_options)
          (with_options-same (tab_options t) (src_options p) (λ n. options-same p t ok c (nat_eq n)) 0 t.stores
          ∙ (ap (with_options (src_options p) 0) c.stores
          ∙ with_options-append (src_options p) 0 (stores_of p) added))
          ∙ append_assoc own more system_options);
      none = no_options (src_options p) (0 + length (stores_of p)) (λ m past. options-within p m (omega arith)) added;
    }

options_before-append : (n : ℕ) (a more : List StoreMeaning) → n ≤ length a → options_before n (a ++ more) ≡ options_before n a
options_before-append zero a more h = refl
options_before-append (suc n) [] more h = absurd (omega arith)
options_before-append (suc n) (x ∷ a) more h =
    λ i. if x.is_option then 1 + options_before-append n a more (omega arith) i else options_before-append n a more (omega arith) i

module _ (a more : List StoreMeaning) (n : ℕ) (within : n < length a) where
  content_at-append : (values : List (List Element)) → content_at (a ++ more) values (Some n) ≡ content_at a values (Some n)
  content_at-append values = λ i. content_of values (options_before-append n a more (omega arith) i) (slice_get-append_left a more n within i)

  option_at-append : option_at (a ++ more) (Some n) ≡ option_at a (Some n)
  option_at-append = λ i. option_of (options_before-append n a more (omega arith) i) (slice_get-append_left a more n within i)

  elements_at-append : elements_at (a ++ more) (Some n) ≡ elements_at a (Some n)
  elements_at-append = ap elements_of_store (slice_get-append_left a more n within)

-- the options of both are the same
no_more_options : (more : List StoreMeaning) → NoOptions more → options_of more ≡ []
no_more_options [] none = refl
no_more_options (x ∷ more) none = (λ i. cond (none.0 i) (x ∷ options_of more) (options_of more)) ∙ no_more_options more none.1

options_of-same : (a b : List StoreMeaning) → More a b → options_of a ≡ options_of b
options_of-same a b m =
    let test = λ (store : StoreMeaning). store.is_option in
    ap options_of m.first
    ∙ (filter-append test m.own system_options
    ∙ (sym (ap (λ xs. options_of m.own ++ (xs ++ options_of system_options)) (no_more_options m.more m.none))
    ∙ (sym (ap (λ xs. options_of m.own ++ xs) (filter-append test m.more system_options))
    ∙ (sym (filter-append test m.own (m.more ++ system_options)) ∙ sym (ap options_of m.is)))))

pub first_state-same : (p : Program) (t : Tables) → IsWellNamed p → Compiles p t → first_state (src p) ≡ first_state (tab t)
first_state-same p t ok c =
    let e = options_of-same (src p).stores (tab t).stores (tables-more p t ok c) in
    λ i. record {
      left = [];
      right = [];
      names = map (λ (store : StoreMeaning). store.name) (e i);
      current = map (λ (store : StoreMeaning). store.elements) (e i);
      saved = map none_saved (e i);
    }

-- a name in a rule refers to a store that is not a system option
abbrev pub is_called : List ℕ → StoreMeaning → Bool
is_called name store = not store.is_system && same_name store.name name

place-named : (name : List ℕ) (options : List ℕ) (n : ℕ) (xs : List Store) →
    position (is_called name) (with_options options n xs) ≡ position (λ (store : Store). same_name store.name name) xs
place-named name options n [] = refl
place-named name options n (x ∷ xs) =
    let x' : StoreMeaning = record { name = x.name; elements = x.elements; is_option = list_any (nat_eq n) options; is_system = false } in
    position_cons (is_called name) x' (with_options options (n + 1) xs)
    ∙ (ap (λ o. cond (same_name x.name name) (Some 0) (option_map suc o)) (place-named name options (n + 1) xs)
    ∙ sym (position_cons (λ (store : Store). same_name store.name name) x xs))

one_further : (x : StoreMeaning) (xs : List StoreMeaning) (o : Option ℕ) → elements_at (x ∷ xs) (option_map suc o) ≡ elements_at xs o
one_further x xs None = refl
one_further x xs (Some n) = refl

here_or_there : (b : Bool) (x : StoreMeaning) (xs : List StoreMeaning) (o : Option ℕ) (y : Store) (found : Option Store) → x.elements ≡ y.elements → elements_at xs o ≡ store_elements found →
    elements_at (x ∷ xs) (cond b (Some 0) (option_map suc o)) ≡ store_elements (cond b (Some y) found)
here_or_there true x xs o y found e h = e
here_or_there false x xs o y found e h = one_further x xs o ∙ h

-- a name finds the same store if system options follow the stores
position-none : {X : Type 0} (p : X → Bool) (xs : List X) → list_any p xs ≡ false → position p xs ≡ None
position-none p [] h = refl
position-none p (x ∷ xs) h =
    let each = or_parts (p x) (list_any p xs) h in
    position_cons p x xs ∙ λ i. cond (each.0 i) (Some 0) (option_map suc (position-none p xs each.1 i))

behind_none : (p : StoreMeaning → Bool) → list_any p system_options ≡ false → (xs : List StoreMeaning) → position p (xs ++ system_options) ≡ position p xs
behind_none p none [] = position-none p system_options none
behind_none p none (x ∷ xs) =
    position_cons p x (xs ++ system_options) ∙ (ap (λ o. cond (p x) (Some 0) (option_map suc o)) (behind_none p none xs) ∙ sym (position_cons p x xs))

named_behind : (name : List ℕ) (xs : List StoreMeaning) → store_number (xs ++ system_options) (Named name) ≡ store_number xs (Named name)
named_behind name xs = behind_none (is_called name) refl xs

-- the elements of a named store are those of the first store with the name
elements-named : (name : List ℕ) (options : List ℕ) (n : ℕ) (xs : List Store) →
    elements_at (with_options options n xs) (store_number (with_options options n xs) (Named name)) ≡ elements_named xs name
elements-named name options n [] = refl
elements-named name options n (x ∷ xs) =
    let x' : StoreMeaning = record { name = x.name; elements = x.elements; is_option = list_any (nat_eq n) options; is_system = false } in
    let rest = with_options options (n + 1) xs in
    ap (elements_at (x' ∷ rest)) (position_cons (is_called name) x' rest)
    ∙ here_or_there (same_name x.name name) x' rest (position (is_called name) rest) x
    (find (λ (store : Store). same_name store.name name) xs) refl (elements-named name options (n + 1) xs)

-- a store that is not an option has its elements
only_elements : (b : Bool) (k : ℕ) (value elements : List Element) → is_some {T = ℕ} (if b then Some k else None) ≡ false → (if b then value else elements) ≡ elements
only_elements true k value elements h = absurd (true≢false h)
only_elements false k value elements h = refl

fixed_of : (values : List (List Element)) (k : ℕ) (o : Option StoreMeaning) → is_some (option_of k o) ≡ false → content_of values k o ≡ elements_of_store o
fixed_of values k None h = refl
fixed_of values k (Some store) h = only_elements store.is_option k (unwrap_or (slice_get values k) []) store.elements h

fixed_at : (stores : List StoreMeaning) (values : List (List Element)) (o : Option ℕ) → is_some (option_at stores o) ≡ false → content_at stores values o ≡ elements_at stores o
fixed_at stores values None h = refl
fixed_at stores values (Some n) h = fixed_of values (options_before n stores) (slice_get stores n) h

-- the store of a value
value-stands : (p : Program) (t : Tables) → Compiles p t → (v : List ℕ) (k : ℕ) → position (λ known. bytes_eq known v) (values_of p) ≡ Some k → FirstPlace (λ known. bytes_eq known v) (values_of p) k →
    elements_of t.stores (number_of_value (numbers_of p) v) ≡ value_elements v
value-stands p t c v k at_k here =
    let dictionary = dictionary_stores (names_of p).keys in
    let values = map value_store (values_of p) in
    let number : number_of_value (numbers_of p) v ≡ length (stores_of p) + (length dictionary + k) = ap (λ o. length (stores_of p) + length dictionary + unwrap_or o 0) at_k ∙ omega arith in
    (λ i. elements_of (c.stores i) (number i))
    ∙ (ap store_elements
    (at_behind (stores_of p) (dictionary ++ values) (length dictionary + k)
    ∙ (at_behind dictionary values k
    ∙ (slice_get-map value_store (values_of p) k ∙ ap (option_map value_store) here.reads)))
    ∙ ap value_elements ((bytes_decides here.item v).0 here.passes))

module _ (p : Program) (t : Tables) (ok : IsWellNamed p) (c : Compiles p t) (s : List ℕ) (stated : is_store p s ≡ true) where
  at_s : (n : ℕ) × (position (λ (store : Store). same_name store.name s) (stores_of p) ≡ Some n)
  at_s = at_place (position (λ (store : Store). same_name store.name s) (stores_of p)) stated

  s_numbered : number_of_store (numbers_of p) s ≡ at_s.0
  s_numbered = ap (λ o. unwrap_or o 0) at_s.1

  s_named : store_number (src p).stores (Named s) ≡ Some at_s.0
  s_named = (λ i. store_number (src_stores p i) (Named s)) ∙ (named_behind s (stated_stores p) ∙ (place-named s (src_options p) 0 (stores_of p) ∙ at_s.1))

  s_within : at_s.0 < length (stated_stores p)
  s_within =
      let here = first_place (λ (store : Store). same_name store.name s) (stores_of p) at_s.0 at_s.1 in
      omega (arith, here.within, length-with_options (src_options p) 0 (stores_of p))

  content-same : (values : List (List Element)) → content (tab t).stores values (Numbered (number_of_store (numbers_of p) s)) ≡ content (src p).stores values (Named s)
  unfolding tables-more
  content-same values =
      let m = tables-more p t ok c in
      (λ i. content_at (m.is i) values (Some (s_numbered i)))
      ∙ (content_at-append m.own (m.more ++ system_options) at_s.0 s_within values
      ∙ (sym (content_at-append m.own system_options at_s.0 s_within values) ∙ (λ i. content_at (sym m.first i) values (sym s_named i))))

  option-same : option_number (tab t).stores (Numbered (number_of_store (numbers_of p) s)) ≡ option_number (src p).stores (Named s)
  unfolding tables-more
  option-same =
      let m = tables-more p t ok c in
      (λ i. option_at (m.is i) (Some (s_numbered i)))
      ∙ (option_at-append m.own (m.more ++ system_options) at_s.0 s_within
      ∙ (sym (option_at-append m.own system_options at_s.0 s_within) ∙ (λ i. option_at (sym m.first i) (sym s_named i))))

  elements-same :
      elements_at (tab t).stores (store_number (tab t).stores (Numbered (number_of_store (numbers_of p) s)))
      ≡ elements_at (src p).stores (store_number (src p).stores (Named s))
  unfolding tables-more
  elements-same =
      let m = tables-more p t ok c in
      (λ i. elements_at (m.is i) (Some (s_numbered i)))
      ∙ (elements_at-append m.own (m.more ++ system_options) at_s.0 s_within
      ∙ (sym (elements_at-append m.own system_options at_s.0 s_within) ∙ (λ i. elements_at (sym m.first i) (sym s_named i))))

-- the elements at a found position do not change if stores follow
elements_before : (xs ys : List StoreMeaning) (p : StoreMeaning → Bool) (o : Option ℕ) → position p xs ≡ o → elements_at (xs ++ ys) o ≡ elements_at xs o
elements_before xs ys p None e = refl
elements_before xs ys p (Some n) e = elements_at-append xs ys n (first_place p xs n e).within

content_before : (xs ys : List StoreMeaning) (values : List (List Element)) (p : StoreMeaning → Bool) (o : Option ℕ) → position p xs ≡ o → content_at (xs ++ ys) values o ≡ content_at xs values o
content_before xs ys values p None e = refl
content_before xs ys values p (Some n) e = content_at-append xs ys n (first_place p xs n e).within values

stated-elements : (p : Program) (s : List ℕ) → elements_at (src p).stores (store_number (src p).stores (Named s)) ≡ elements_named (stores_of p) s
stated-elements p s =
    (λ i. elements_at (src_stores p i) (store_number (src_stores p i) (Named s)))
    ∙ (ap (elements_at (stated_stores p ++ system_options)) (named_behind s (stated_stores p))
    ∙ (elements_before (stated_stores p) system_options (is_called s) (store_number (stated_stores p) (Named s)) refl
    ∙ elements-named s (src_options p) 0 (stores_of p)))

fixed-elements : (p : Program) (s : List ℕ) (values : List (List Element)) → is_fixed p s ≡ true → content (src p).stores values (Named s) ≡ elements_named (stores_of p) s
fixed-elements p s values fixed =
    (λ i. content (src_stores p i) values (Named s))
    ∙ (ap (content_at (stated_stores p ++ system_options) values) (named_behind s (stated_stores p))
    ∙ (content_before (stated_stores p) system_options values (is_called s) (store_number (stated_stores p) (Named s)) refl
    ∙ (fixed_at (stated_stores p) values (store_number (stated_stores p) (Named s)) (not-true (is_some (option_number (stated_stores p) (Named s))) fixed)
    ∙ elements-named s (src_options p) 0 (stores_of p))))

-- the option numbers of the system options of both are the same
none_named : (more : List StoreMeaning) → NoOptions more → option_names more ≡ []
none_named more none = ap (map (λ (store : StoreMeaning). store.name)) (no_more_options more none)

more_names : (a b : List StoreMeaning) (m : More a b) → option_names (m.own ++ m.more) ≡ option_names m.own
more_names a b m = names_behind m.own m.more ∙ (ap (λ names. option_names m.own ++ names) (none_named m.more m.none) ∙ append-nil (option_names m.own))

system-option : (a b : List StoreMeaning) → More a b → (id : ℕ) → option_number b (system_ref id) ≡ option_number a (system_ref id)
system-option a b m id =
    (λ i. option_number ((m.is ∙ sym (append_assoc m.own m.more system_options)) i) (system_ref id))
    ∙ (system_option_is (m.own ++ m.more) id
    ∙ (ap (λ names. Some (length names + (if nat_eq id 31 then 1 else 0))) (more_names a b m)
    ∙ (sym (system_option_is m.own id) ∙ (λ i. option_number (sym m.first i) (system_ref id)))))

system-number : (a b : List StoreMeaning) → More a b → (id : ℕ) → (o : ℕ) × (option_number a (system_ref id) ≡ Some o)
system-number a b m id = (length (option_names m.own) + (if nat_eq id 31 then 1 else 0), (λ i. option_number (m.first i) (system_ref id)) ∙ system_option_is m.own id)

system-content : (a b : List StoreMeaning) → More a b → (id : ℕ) (values : List (List Element)) → content b values (system_ref id) ≡ content a values (system_ref id)
system-content a b m id values =
    let number = system-number a b m id in
    content_by_option b values (system_ref id) number.0 (system-option a b m id ∙ number.1) ∙ sym (content_by_option a values (system_ref id) number.0 number.1)

value-same : (p : Program) (t : Tables) → Compiles p t → (v : List ℕ) → is_value p v ≡ true → elements_of t.stores (number_of_value (numbers_of p) v) ≡ value_elements v
value-same p t c v stated =
    let at = at_place (position (λ known. bytes_eq known v) (values_of p)) stated in
    value-stands p t c v at.0 at.1 (first_place (λ known. bytes_eq known v) (values_of p) at.0 at.1)

pub linked : (p : Program) (t : Tables) → IsWellNamed p → Compiles p t → Linked p t
linked p t ok c =
    record {
      same_content = λ s values known. content-same p t ok c s known values;
      same_option = λ s known. option-same p t ok c s known;
      same_elements = λ s known. elements-same p t ok c s known;
      named_elements = stated-elements p;
      fixed = fixed-elements p;
      same_system = system-content (src p).stores (tab t).stores (tables-more p t ok c);
      same_system_option = system-option (src p).stores (tab t).stores (tables-more p t ok c);
      same_value = value-same p t c;
    }
