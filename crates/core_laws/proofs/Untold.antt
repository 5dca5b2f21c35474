-- A keyboard of which no line, no group and nothing for the file is reported.
use Rattle.std.specs.Prelude.{◌≡◌, ℕ, ◌<◌, ◌≤◌, Bool, true, false, not, ◌&&◌, ◌||◌, nat_eq, nat_lt, cond, if◌then◌else◌, List, [], ◌∷◌, ◌++◌, encode_utf8_all, filter, filter_map, find, flat_map, length, map, Some}
use Rattle.std.specs.List.{list_any}
use Rattle.std.proofs.Common.{refl, sym, ap, ◌∙◌, arith}
use Rattle.std.proofs.lemmas.Bool.{or_parts}
use Rattle.std.proofs.lemmas.Bool.Decides.{nat_tests}
use Rattle.kmn_base.specs.declared.items.Element.{Element}
use Rattle.kmn_base.specs.Names.{same_name}
use Rattle.kmn_base.specs.Rising.{is_among, rising}
use Rattle.rule_model.specs.declared.tables.Out.{Out}
use Rattle.rule_model.specs.declared.tables.Rule.{Rule}
use Rattle.rule_model.specs.declared.tables.Group.{Group}
use Rattle.rule_model.specs.declared.tables.Store.{Store}
use Rattle.rule_model.specs.declared.tables.Tables.{Tables}
use Rattle.rule_model.specs.Tab.{distinct_onto, element_char, elements_of, is_dictionary, store_elements, tab_dictionary, words}
use Rattle.core_constructs.specs.declared.construct.Construct.{Construct}
use Rattle.core_constructs.specs.declared.construct.Construct.TheVariants as construct
use Rattle.core_constructs.specs.declared.construct.GroupConstruct.{GroupConstruct}
use Rattle.core_constructs.specs.declared.construct.GroupConstruct.TheVariants as group_construct
use Rattle.core_constructs.specs.declared.construct.FileConstruct.{FileConstruct}
use Rattle.core_constructs.specs.Facts.{facts_of}
use Rattle.core_constructs.specs.Marks.{item_marks, live_items, put_store, put_stores, set_value, set_values, store_marks}
use Rattle.core_constructs.specs.Records.{constructs, has_construct, is_told}
use Rattle.core_constructs.specs.Spent.{spent_in}
use Rattle.core_constructs.specs.Told.{differences_at, difference_at, differences_in, file_constructs, file_differences, file_has, group_constructs, group_difference, group_differences, group_has, group_lines, has_key_names, line_differences, line_of, lines_at, lines_in, lines_with, told}
use Rattle.core_laws.specs.Laws.{saves_nameless, Reached, known_at, IsFair, IsPlain, IsUntold, FairKeyboardsTypeAlike, UntoldKeyboardsTypeAlike}
use Rattle.core_laws.proofs.Alike.{NoMarks}
use Rattle.core_laws.proofs.Choice.{AreFairRules, IsFairRule}
use Rattle.core_laws.proofs.Items.{AllOf, IsPlainItem}
use Rattle.core_laws.proofs.Presses.{whole_types_alike}
use Rattle.core_laws.proofs.Rising.{among_left, among_right, equal_numbers, in_rising, none_rising}
use Rattle.core_laws.proofs.Whole.{IsWhole, puts_of}

true_false : true ≡ false → ⊥
true_false e = grind arith

false_true : false ≡ true → ⊥
false_true e = grind arith

-- ---- empty lists

first_none : {A : Type 0} (xs ys : List A) → xs ++ ys ≡ [] → xs ≡ []
first_none [] ys none = refl
first_none (x ∷ xs) ys none = absurd (omega (arith, ap length none))

second_none : {A : Type 0} (xs ys : List A) → xs ++ ys ≡ [] → ys ≡ []
second_none [] ys none = none
second_none (x ∷ xs) ys none = absurd (omega (arith, ap length none))

map_none : {A B : Type 0} (f : A → B) (xs : List A) → map f xs ≡ [] → xs ≡ []
map_none f [] none = refl
map_none f (x ∷ xs) none = absurd (omega (arith, ap length none))

each_none : {A : Type 0} (f : ℕ → List A) (ns : List ℕ) (n : ℕ) → flat_map f ns ≡ [] → is_among n ns ≡ true → f n ≡ []
each_none f [] n none among = absurd (false_true among)
each_none f (m ∷ ns) n none among = by_test (nat_eq n m) refl among (each_none f ns n (second_none (f m) (flat_map f ns) none))
  where
    by_test : (b : Bool) → nat_eq n m ≡ b → (b || is_among n ns) ≡ true → (is_among n ns ≡ true → f n ≡ []) → f n ≡ []
    by_test true is among rest = ap f (equal_numbers n m is) ∙ first_none (f m) (flat_map f ns) none
    by_test false is among rest = rest among

all_none : {A B : Type 0} (f : A → List B) (xs : List A) → flat_map f xs ≡ [] → AllOf (λ (x : A). f x ≡ []) xs
all_none f [] none = tt
all_none f (x ∷ xs) none = (first_none (f x) (flat_map f xs) none, all_none f xs (second_none (f x) (flat_map f xs) none))

none_passes : {A : Type 0} (test : A → Bool) (xs : List A) → filter test xs ≡ [] → AllOf (λ (x : A). test x ≡ false) xs
none_passes test [] none = tt
none_passes test (x ∷ xs) none = by_test (test x) refl none (none_passes test xs)
  where
    by_test : (b : Bool) → test x ≡ b → (if b then x ∷ filter test xs else filter test xs) ≡ [] → (filter test xs ≡ [] → AllOf (λ x. test x ≡ false) xs) → (test x ≡ false) × AllOf (λ x. test x ≡ false) xs
    by_test true is none rest = absurd (omega (arith, ap length none))
    by_test false is none rest = (is, rest none)

none_any : {A : Type 0} (test : A → Bool) (xs : List A) → AllOf (λ (x : A). test x ≡ false) xs → list_any test xs ≡ false
none_any test [] all = refl
none_any test (x ∷ xs) all = λ i. all.0 i || none_any test xs all.1 i

-- ---- from what is reported to what is known

each_construct : (P : Construct → Type 0) → AllOf P constructs → (told_now : Construct) → P told_now
each_construct P all construct.Use = all.0
each_construct P all construct.Match = all.1.0
each_construct P all construct.Nul = all.1.1.0
each_construct P all construct.Offset = all.1.1.1.0
each_construct P all construct.Empty = all.1.1.1.1.0
each_construct P all construct.Sides = all.1.1.1.1.1.0
each_construct P all construct.Right = all.1.1.1.1.1.1.0
each_construct P all construct.Long = all.1.1.1.1.1.1.1.0
each_construct P all construct.Layer = all.1.1.1.1.1.1.1.1.0
each_construct P all construct.Platform = all.1.1.1.1.1.1.1.1.1.0
each_construct P all construct.Save = all.1.1.1.1.1.1.1.1.1.1.0
each_construct P all construct.Keypad = all.1.1.1.1.1.1.1.1.1.1.1.0
each_construct P all construct.Value = all.1.1.1.1.1.1.1.1.1.1.1.1.0

each_group_construct : (P : GroupConstruct → Type 0) → AllOf P group_constructs → (told_now : GroupConstruct) → P told_now
each_group_construct P all group_construct.Use = all.0
each_group_construct P all group_construct.Save = all.1.0
each_group_construct P all group_construct.Layer = all.1.1.0
each_group_construct P all group_construct.Nomatch = all.1.1.1.0

module _ (flags : ℕ) (tables : Tables) (untold : IsUntold flags tables) where
  untold_rules : (number : ℕ) (group : Group) → Reached tables number group → (told_now : Construct) → list_any (is_told told_now tables (facts_of tables) (known_at tables number group) group) group.rules ≡ false
  unfolding told line_differences group_lines
  untold_rules number group reached told_now = none_any (is_told told_now tables (facts_of tables) (known_at tables number group) group) group.rules (none_passes (is_told told_now tables (facts_of tables) (known_at tables number group) group) group.rules lines)
    where
      of_construct : lines_with tables (facts_of tables) (spent_in (facts_of tables) tables.groups) told_now ≡ []
      of_construct =
          each_construct (λ (c : Construct). lines_with tables (facts_of tables) (spent_in (facts_of tables) tables.groups) c ≡ [])
          (all_none (lines_with tables (facts_of tables) (spent_in (facts_of tables) tables.groups)) constructs
          (none_rising (flat_map (lines_with tables (facts_of tables) (spent_in (facts_of tables) tables.groups)) constructs)
          (map_none (difference_at tables (facts_of tables) (spent_in (facts_of tables) tables.groups)) (rising (flat_map (lines_with tables (facts_of tables) (spent_in (facts_of tables) tables.groups)) constructs)) untold.lines))) told_now

      lines : filter (is_told told_now tables (facts_of tables) (known_at tables number group) group) group.rules ≡ []
      lines =
          map_none line_of (filter (is_told told_now tables (facts_of tables) (known_at tables number group) group) group.rules)
          (ap (lines_in told_now tables (facts_of tables) (spent_in (facts_of tables) tables.groups) number) (sym reached.1)
          ∙ each_none (lines_at told_now tables (facts_of tables) (spent_in (facts_of tables) tables.groups)) (facts_of tables).reached number (none_rising (flat_map (lines_at told_now tables (facts_of tables) (spent_in (facts_of tables) tables.groups)) (facts_of tables).reached) of_construct) reached.0)

  untold_groups : (number : ℕ) (group : Group) → Reached tables number group → (told_now : GroupConstruct) → group_has (facts_of tables) group told_now ≡ false
  unfolding told group_differences
  untold_groups number group reached told_now =
      each_group_construct (λ (c : GroupConstruct). group_has (facts_of tables) group c ≡ false)
      (none_passes (group_has (facts_of tables) group) group_constructs
      (map_none (group_difference number) (filter (group_has (facts_of tables) group) group_constructs)
      (ap (differences_in (facts_of tables) number) (sym reached.1) ∙ each_none (differences_at tables (facts_of tables)) (facts_of tables).reached number untold.groups reached.0))) told_now

  untold_file : AllOf (λ (c : FileConstruct). file_has flags tables (facts_of tables) c ≡ false) file_constructs
  unfolding told file_differences
  untold_file = none_passes (file_has flags tables (facts_of tables)) file_constructs untold.file

  no_marks : (ms : List ℕ) → nat_lt 0 (length ms) ≡ false → ms ≡ []
  no_marks [] none = refl
  no_marks (m ∷ ms) none = absurd (some (length (m ∷ ms)) (omega arith) none)
    where
      some : (n : ℕ) → 0 < n → nat_lt 0 n ≡ false → ⊥
      some n less e = grind (arith, nat_tests)

  untold_fair : IsFair tables
  untold_fair =
      record {
        rules = untold_rules;
        groups = untold_groups;
        marks = no_marks (facts_of tables).marks untold_file.0;
        own = untold_file.1.0;
        budget = untold_file.1.1.1.0;
        names = untold_file.1.1.1.1.1.0;
      }

module _ (tables : Tables) (fair : IsFair tables) (plain : IsPlain tables) where
  abbrev all_marks : List ℕ
  all_marks = (flat_map item_marks (live_items tables) ++ flat_map (store_marks tables.stores) (put_stores (live_items tables))) ++ flat_map (store_marks tables.stores) (set_values (live_items tables))

  marks_none : all_marks ≡ []
  marks_none = none_rising all_marks fair.marks

  first_two : flat_map item_marks (live_items tables) ++ flat_map (store_marks tables.stores) (put_stores (live_items tables)) ≡ []
  first_two = first_none (flat_map item_marks (live_items tables) ++ flat_map (store_marks tables.stores) (put_stores (live_items tables))) (flat_map (store_marks tables.stores) (set_values (live_items tables))) marks_none

  clean : (store : ℕ) → is_among store (puts_of tables) ≡ true → NoMarks (elements_of tables.stores store)
  clean store among =
      each_none (store_marks tables.stores) (put_stores (live_items tables)) store (second_none (flat_map item_marks (live_items tables)) (flat_map (store_marks tables.stores) (put_stores (live_items tables))) first_two) among

  clean_value : (value : ℕ) → is_among value (flat_map (set_value (puts_of tables)) (live_items tables)) ≡ true → NoMarks (elements_of tables.stores value)
  clean_value value among =
      each_none (store_marks tables.stores) (set_values (live_items tables)) value
      (second_none (flat_map item_marks (live_items tables) ++ flat_map (store_marks tables.stores) (put_stores (live_items tables))) (flat_map (store_marks tables.stores) (set_values (live_items tables))) marks_none)
      (in_rising value (flat_map (set_value (puts_of tables)) (live_items tables)) among)

  plain_from : (items : List Out) → flat_map item_marks items ≡ [] → ((store : ℕ) → is_among store (flat_map put_store items) ≡ true → is_among store (puts_of tables) ≡ true)
      → ((value : ℕ) → is_among value (flat_map (set_value (puts_of tables)) items) ≡ true → NoMarks (elements_of tables.stores value)) → list_any (saves_nameless tables.stores) items ≡ false
      → AllOf (IsPlainItem tables.stores (puts_of tables)) items
  plain_from [] none put value named = tt
  plain_from (item ∷ items) none put value named =
      let parts = or_parts (saves_nameless tables.stores item) (list_any (saves_nameless tables.stores) items) named in (
        record {
          mark = first_none (item_marks item) (flat_map item_marks items) none;
          put = λ store among. put store (among_left store (put_store item) (flat_map put_store items) among);
          value = λ v among. value v (among_left v (set_value (puts_of tables) item) (flat_map (set_value (puts_of tables)) items) among);
          named = parts.0;
        },
        plain_from items (second_none (item_marks item) (flat_map item_marks items) none) (λ store among. put store (among_right store (put_store item) (flat_map put_store items) among))
            (λ v among. value v (among_right v (set_value (puts_of tables) item) (flat_map (set_value (puts_of tables)) items) among)) parts.1,
      )

  fair_rule : (number : ℕ) (group : Group) (rule : Rule) → ((told_now : Construct) → is_told told_now tables (facts_of tables) (known_at tables number group) group rule ≡ false) → IsFairRule tables (facts_of tables) (known_at tables number group) group rule
  fair_rule number group rule none possible told_now = (λ i. not (sym possible i) && has_construct told_now tables (facts_of tables) (known_at tables number group) group rule) ∙ none told_now

  fair_rules : (number : ℕ) (group : Group) (rules : List Rule) → ((told_now : Construct) → list_any (is_told told_now tables (facts_of tables) (known_at tables number group) group) rules ≡ false)
      → AreFairRules tables (facts_of tables) (known_at tables number group) group rules
  fair_rules number group [] none = tt
  fair_rules number group (rule ∷ rules) none = (
    fair_rule number group rule (λ told_now. (or_parts (is_told told_now tables (facts_of tables) (known_at tables number group) group rule) (list_any (is_told told_now tables (facts_of tables) (known_at tables number group) group) rules) (none told_now)).0),
    fair_rules number group rules (λ told_now. (or_parts (is_told told_now tables (facts_of tables) (known_at tables number group) group rule) (list_any (is_told told_now tables (facts_of tables) (known_at tables number group) group) rules) (none told_now)).1),
  )

  no_names : (stores : List Store) → list_any has_key_names stores ≡ false → store_elements (find is_dictionary stores) ≡ []
  no_names [] none = refl
  no_names (store ∷ stores) none = by_test (is_dictionary store) parts.0 (no_names stores parts.1)
    where
      parts : (has_key_names store ≡ false) × (list_any has_key_names stores ≡ false)
      parts = or_parts (has_key_names store) (list_any has_key_names stores) none

      no_elements : (elements : List Element) → not (nat_eq (length elements) 0) ≡ false → elements ≡ []
      no_elements [] none = refl
      no_elements (e ∷ elements) none = absurd (some (length (e ∷ elements)) (omega arith) none)
        where
          some : (n : ℕ) → 0 < n → not (nat_eq n 0) ≡ false → ⊥
          some n less e = grind (arith, nat_tests)

      by_test : (b : Bool) → (b && not (nat_eq (length store.elements) 0)) ≡ false → store_elements (find is_dictionary stores) ≡ [] → store_elements (cond b (Some store) (find is_dictionary stores)) ≡ []
      by_test true named rest = no_elements store.elements named
      by_test false named rest = rest

  dictionary_none : tab_dictionary tables.stores ≡ []
  unfolding tab_dictionary
  dictionary_none = ap (λ (elements : List Element). distinct_onto same_name [] (words (encode_utf8_all (filter_map element_char elements)))) (no_names tables.stores fair.own)

  fair_whole : IsWhole tables
  fair_whole =
      record {
        marks = fair.marks;
        plain = plain_from (live_items tables) (first_none (flat_map item_marks (live_items tables)) (flat_map (store_marks tables.stores) (put_stores (live_items tables))) first_two) (λ store among. in_rising store (flat_map put_store (live_items tables)) among) clean_value plain.named;
        clean = clean;
        alone = fair.names;
        rules = λ number group reached. fair_rules number group group.rules (fair.rules number group reached);
        groups = fair.groups;
        values = plain.values;
        characters = plain.characters;
        dictionary = dictionary_none;
        budget = at_most _ fair.budget;
      }
    where
      at_most : (n : ℕ) → nat_lt 1024 n ≡ false → n ≤ 1024
      at_most n e = grind (arith, nat_tests)

pub fair_keyboards_type_alike : FairKeyboardsTypeAlike
fair_keyboards_type_alike tables playable fair plain = whole_types_alike tables playable (fair_whole tables fair plain)

pub untold_keyboards_type_alike : UntoldKeyboardsTypeAlike
untold_keyboards_type_alike flags tables playable untold plain = fair_keyboards_type_alike tables playable (untold_fair flags tables untold) plain
