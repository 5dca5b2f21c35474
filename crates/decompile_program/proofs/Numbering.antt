-- The names of a text's deadkeys and keys are those of the file, in the same order.
use Rattle.std.proofs.Common.{◌≡◌, ℕ, ◌+◌, ◌-◌, ◌^◌, ◌≤◌, true, false, List, [], ◌∷◌, ◌++◌, length, map, Option, refl, sym, ◌∙◌, ap, arith, append-nil, append_assoc, if◌then◌else◌}
use Rattle.std.specs.Prelude.{slice_get, position, option_map, unwrap_or, nat_eq, nat_lt, flat_map, fold, max, find, filter_map}
use Rattle.std.specs.List.{AllByRecursion, range_with_len}
use Rattle.std.specs.Fmt.{decimal}
use Rattle.std.specs.Str.{encode_utf8_all}
use Rattle.std.proofs.Math.Nat.{max-le}
use Rattle.std.proofs.lemmas.Bool.{eqb-true, ltb-false, cond-true, cond-false}
use Rattle.std.proofs.lemmas.Grind.{flat_map-append}
use Rattle.kmn_base.specs.Names.{same_name}
use Rattle.virtual_keys.specs.Dictionary.{code_in}
use Rattle.rule_model.specs.declared.program.SrcItem.{SrcItem}
use Rattle.rule_model.specs.declared.program.SrcItem.TheVariants as source
use Rattle.rule_model.specs.declared.program.StoreDef.{StoreDef}
use Rattle.rule_model.specs.declared.program.RuleDef.{RuleDef}
use Rattle.rule_model.specs.declared.program.GroupDef.{GroupDef}
use Rattle.rule_model.specs.declared.tables.Tables.{Tables}
use Rattle.rule_model.specs.Tab.{tab_dictionary, words, store_elements, element_char, is_dictionary, distinct_onto}
use Rattle.rule_model.specs.Naming.{names_of, rule_items, store_items, source_items, mark_names, key_names, mark_number, key_number}
use Rattle.kmx_format.specs.Playable.{IsPlayable}
use Rattle.decompile_program.specs.Marks.{greatest_mark, table_marks}
use Rattle.decompile_program.specs.Items.{key_by_code, key_by_name, key_called}
use Rattle.kmx_format.specs.Versions.{version_text}
use Rattle.decompile_program.specs.Back.{back_stores, numbered, mark_store, key_store, stated_marks, stated_key, mark_stores, key_stores, front_stores, free_stores, names_for, written_stores, written_begins, written_groups, back}
use Rattle.decompile_program.specs.WrittenOut.{CanBeWrittenOut}
use Rattle.decompile_program.proofs.Apart.{same-turned}
use Rattle.virtual_keys.proofs.NamePlaces.{same_name-self}
use Rattle.decompile_program.proofs.Free.{AreDistinct, candidates_distinct}
use Rattle.decompile_program.proofs.Good.{IsMark, IsKey, groups_good, stores_good}
use Rattle.decompile_program.proofs.Distinct.{Among, distinct-first, distinct-apart, found-at}
use Rattle.decompile_program.proofs.SmallMarks.{IsSmall, small_marks}
use Rattle.decompile_program.proofs.Known.{mark_list, key_list, mark-at, known-key, called-name, Fine, stores-fine, groups-fine}
use Rattle.decompile_program.proofs.Choosing.{all_join, all_weaker}
use Rattle.decompile_program.proofs.Lines.{items-in-order, stores-lines, groups-from}

-- the names in many items of one form, followed by other items
none-named : {X : Type 0} (g : SrcItem → List (List ℕ)) (f : X → SrcItem) → ((x : X) → g (f x) ≡ []) → (xs : List X) (more : List SrcItem) → flat_map g (map f xs ++ more) ≡ flat_map g more
none-named g f h [] more = refl
none-named g f h (x ∷ xs) more = λ i. h x i ++ none-named g f h xs more i

each-named : {X : Type 0} (g : SrcItem → List (List ℕ)) (f : X → SrcItem) (name : X → List ℕ) → ((x : X) → g (f x) ≡ name x ∷ []) → (xs : List X) (more : List SrcItem)
    → flat_map g (map f xs ++ more) ≡ map name xs ++ flat_map g more
each-named g f name h [] more = refl
each-named g f name h (x ∷ xs) more = λ i. h x i ++ each-named g f name h xs more i

keys-unmarked : (name : List ℕ) (keys : List (List ℕ)) (line : ℕ) → flat_map mark_names (store_items (numbered line (key_store name keys))) ≡ []
keys-unmarked name [] line = refl
keys-unmarked name (k ∷ keys) line = none-named mark_names stated_key (λ x. refl) (k ∷ keys) []

keys-again : (keys : List (List ℕ)) → flat_map key_names (map stated_key keys ++ []) ≡ keys
keys-again [] = refl
keys-again (k ∷ keys) = ap (λ (ks : List (List ℕ)). k ∷ ks) (keys-again keys)

keys-named : (name : List ℕ) (keys : List (List ℕ)) (line : ℕ) → flat_map key_names (store_items (numbered line (key_store name keys))) ≡ keys
keys-named name [] line = refl
keys-named name (k ∷ keys) line = keys-again (k ∷ keys)

marks-named : (name : List ℕ) (count line : ℕ) (more : List (ℕ → StoreDef)) (found : List (List ℕ)) → ((line : ℕ) → flat_map mark_names (store_items (numbered line more)) ≡ found)
    → flat_map mark_names (store_items (numbered line (mark_store name count ++ more))) ≡ map decimal (range_with_len 1 count) ++ found
marks-named name count line more found h =
    elim (nat_eq count 0) as (λ b. nat_eq count 0 ≡ b → flat_map mark_names (store_items (numbered line ((if b then [] else stated_marks name count ∷ []) ++ more))) ≡ map decimal (range_with_len 1 count) ++ found) [
      | true ↦ λ e. h line ∙ (let z : count ≡ 0 = eqb-true count 0 e in ap (λ (n : ℕ). map decimal (range_with_len 1 n) ++ found) (sym z))
      | false ↦ λ e. each-named mark_names (λ m. source.Dead (decimal m)) decimal (λ m. refl) (range_with_len 1 count) (store_items (numbered (line + 1) more))
          ∙ ap (λ (names : List (List ℕ)). map decimal (range_with_len 1 count) ++ names) (h (line + 1))
    ] refl

marks-unkeyed : (name : List ℕ) (count line : ℕ) (more : List (ℕ → StoreDef)) (found : List (List ℕ)) → ((line : ℕ) → flat_map key_names (store_items (numbered line more)) ≡ found)
    → flat_map key_names (store_items (numbered line (mark_store name count ++ more))) ≡ found
marks-unkeyed name count line more found h =
    elim (nat_eq count 0) as (λ b. flat_map key_names (store_items (numbered line ((if b then [] else stated_marks name count ∷ []) ++ more))) ≡ found) [
      | true ↦ h line
      | false ↦ none-named key_names (λ m. source.Dead (decimal m)) (λ m. refl) (range_with_len 1 count) (store_items (numbered (line + 1) more)) ∙ h (line + 1)
    ]

front-marks : (t : Tables) → flat_map mark_names (store_items (numbered 1 (front_stores t))) ≡ mark_list t
front-marks t =
    none-named mark_names source.Char (λ c. refl) (version_text t.version) (store_items (numbered 2 (mark_stores t ++ key_stores t)))
    ∙ (marks-named (unwrap_or (slice_get (free_stores t) 0) []) (greatest_mark t) 2 (key_stores t) []
    (keys-unmarked (unwrap_or (slice_get (free_stores t) (length (mark_stores t))) []) (tab_dictionary t.stores))
    ∙ append-nil (mark_list t))

front-keys : (t : Tables) → flat_map key_names (store_items (numbered 1 (front_stores t))) ≡ key_list t
front-keys t =
    none-named key_names source.Char (λ c. refl) (version_text t.version) (store_items (numbered 2 (mark_stores t ++ key_stores t)))
    ∙ marks-unkeyed (unwrap_or (slice_get (free_stores t) 0) []) (greatest_mark t) 2 (key_stores t) (key_list t)
    (keys-named (unwrap_or (slice_get (free_stores t) (length (mark_stores t))) []) (tab_dictionary t.stores))

abbrev later_items : Tables → List SrcItem
later_items t =
    store_items (back_stores (names_for t) (1 + length (front_stores t)) (names_for t).stores t.stores)
    ++ flat_map rule_items (flat_map (λ (g : GroupDef). g.rules) (written_groups t))

items-are : (t : Tables) → source_items (back t) ≡ store_items (numbered 1 (front_stores t)) ++ later_items t
unfolding back
items-are t =
    let behind = back_stores (names_for t) (1 + length (front_stores t)) (names_for t).stores t.stores in
    let rules = flat_map (λ (g : GroupDef). g.rules) (written_groups t) in
    items-in-order (1 + length (written_stores t)) (written_stores t) rules (stores-lines t)
    (groups-from (names_for t) (1 + length (written_stores t)) (1 + length (written_stores t) + length (written_begins t)) (names_for t).groups t.groups (omega arith))
    ∙ (ap (λ (items : List SrcItem). items ++ flat_map rule_items rules) (flat_map-append (λ (s : StoreDef). s.items) (numbered 1 (front_stores t)) behind)
    ∙ append_assoc (store_items (numbered 1 (front_stores t))) (store_items behind) (flat_map rule_items rules))

joined : (t : Tables) (rules : List RuleDef) → AllByRecursion (λ (r : RuleDef). AllByRecursion (Fine t) (rule_items r)) rules → AllByRecursion (Fine t) (flat_map rule_items rules)
joined t [] h = tt
joined t (r ∷ rules) h = all_join (Fine t) (rule_items r) (flat_map rule_items rules) h.0 (joined t rules h.1)

later-fine : (t : Tables) → IsPlayable t → CanBeWrittenOut t → AllByRecursion (Fine t) (later_items t)
later-fine t p c =
    all_join (Fine t) (store_items (back_stores (names_for t) (1 + length (front_stores t)) (names_for t).stores t.stores)) (flat_map rule_items (flat_map (λ (g : GroupDef). g.rules) (written_groups t)))
    (stores-fine t (names_for t) refl (1 + length (front_stores t)) (names_for t).stores t.stores (stores_good t p c))
    (joined t (flat_map (λ (g : GroupDef). g.rules) (written_groups t))
    (groups-fine t (names_for t) refl (1 + length (written_stores t) + length (written_begins t)) (names_for t).groups t.groups (groups_good t p c)))

fine-marks : (t : Tables) (items : List SrcItem) → AllByRecursion (Fine t) items → AllByRecursion (Among (mark_list t)) (flat_map mark_names items)
fine-marks t [] h = tt
fine-marks t (i ∷ items) h = all_join (Among (mark_list t)) (mark_names i) (flat_map mark_names items) h.0.0 (fine-marks t items h.1)

fine-keys : (t : Tables) (items : List SrcItem) → AllByRecursion (Fine t) items → AllByRecursion (Among (key_list t)) (flat_map key_names items)
fine-keys t [] h = tt
fine-keys t (i ∷ items) h = all_join (Among (key_list t)) (key_names i) (flat_map key_names items) h.0.1 (fine-keys t items h.1)

greatest-below : (limit : ℕ) (xs : List ℕ) (a : ℕ) → a ≤ limit → AllByRecursion (λ m. m ≤ limit) xs → fold max a xs ≤ limit
greatest-below limit [] a low h = low
greatest-below limit (x ∷ xs) a low h = greatest-below limit xs (max a x) (max-le low h.0) h.1

marks-distinct : (t : Tables) → IsPlayable t → AreDistinct (mark_list t)
marks-distinct t p =
    let most = greatest-below (2 ^ 16) (table_marks t) 0 (omega arith) (all_weaker IsSmall (λ m. m ≤ 2 ^ 16) (λ m h. omega (arith, h)) (table_marks t) (small_marks t p)) in
    candidates_distinct [] 1 (greatest_mark t) (omega (arith, most))

keys-distinct : (t : Tables) → AreDistinct (key_list t)
unfolding tab_dictionary
keys-distinct t = distinct-apart [] (words (encode_utf8_all (filter_map element_char (store_elements (find is_dictionary t.stores))))) tt

pub marks-are : (t : Tables) → IsPlayable t → CanBeWrittenOut t → (names_of (back t)).marks ≡ mark_list t
unfolding names_of
marks-are t p c =
    ap (λ (items : List SrcItem). distinct_onto same_name [] (flat_map mark_names items)) (items-are t)
    ∙ (ap (distinct_onto same_name []) (flat_map-append mark_names (store_items (numbered 1 (front_stores t))) (later_items t) ∙ ap (λ (names : List (List ℕ)). names ++ flat_map mark_names (later_items t)) (front-marks t))
    ∙ distinct-first (mark_list t) (flat_map mark_names (later_items t)) (marks-distinct t p) (fine-marks t (later_items t) (later-fine t p c)))

pub keys-are : (t : Tables) → IsPlayable t → CanBeWrittenOut t → (names_of (back t)).keys ≡ key_list t
unfolding names_of
keys-are t p c =
    ap (λ (items : List SrcItem). distinct_onto same_name [] (flat_map key_names items)) (items-are t)
    ∙ (ap (distinct_onto same_name []) (flat_map-append key_names (store_items (numbered 1 (front_stores t))) (later_items t) ∙ ap (λ (names : List (List ℕ)). names ++ flat_map key_names (later_items t)) (front-keys t))
    ∙ distinct-first (key_list t) (flat_map key_names (later_items t)) (keys-distinct t) (fine-keys t (later_items t) (later-fine t p c)))

-- each deadkey and each key has the same number in the text as in the file
pub mark-number : (t : Tables) → IsPlayable t → CanBeWrittenOut t → (m : ℕ) → IsMark t m → mark_number (names_of (back t)) (decimal m) ≡ m
mark-number t p c m ok =
    let some = ok.0 in
    ap (λ (names : List (List ℕ)). 1 + unwrap_or (position (λ known. same_name known (decimal m)) names) 0) (marks-are t p c)
    ∙ (ap (λ (o : Option ℕ). 1 + unwrap_or o 0)
    (found-at (λ known. same_name known (decimal m)) (decimal m) (m - 1) (mark_list t) (same_name-self (decimal m)) (λ x e. e) (marks-distinct t p) (mark-at t m ok))
    ∙ omega (arith, some))

pub key-number : (t : Tables) → IsPlayable t → CanBeWrittenOut t → (flags code : ℕ) → IsKey t code → key_number (names_of (back t)) (key_called (names_for t) flags code) ≡ code
unfolding code_in
key-number t p c flags code ok =
    known-key t code ok
    (λ own. ap (key_number (names_of (back t))) (cond-true (nat_lt code 256) (key_by_code flags code) (key_by_name (names_for t) flags code) own.small)
    ∙ cond-false (nat_eq code 0) _ code own.some)
    (λ named. ap (key_number (names_of (back t))) (cond-false (nat_lt code 256) (key_by_code flags code) (key_by_name (names_for t) flags code) named.large)
    ∙ ((λ i. unwrap_or (code_in (keys-are t p c i) (called-name t (names_for t) code refl named i)) 0)
    ∙ (ap (λ (o : Option ℕ). unwrap_or (option_map (λ place. 256 + place) o) 0)
    (found-at (same_name named.name) named.name (code - 256) (key_list t) (same_name-self named.name) (λ x e. same-turned x named.name e) (keys-distinct t) named.at)
    ∙ (let large = ltb-false code 256 named.large in omega (arith, large)))))
