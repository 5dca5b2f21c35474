-- The program that tables are written out as has the same meaning as the tables.
use Rattle.std.proofs.Common.{◌≡◌, ℕ, zero, suc, ◌+◌, ◌^◌, ◌<◌, ◌≤◌, true, false, List, [], ◌∷◌, ◌++◌, length, map, Option, Some, is_some, refl, sym, ◌∙◌, ap, subst, arith, append-nil, append_assoc, if◌then◌else◌}
use Rattle.std.specs.Prelude.{slice_get, option_map, option_and_then, unwrap_or, codes, nat_eq}
use Rattle.std.specs.List.{list_all, list_any, filter_map}
use Rattle.std.proofs.lemmas.List.{length-map}
use Rattle.std.proofs.lemmas.Option.{slice_get-map}
use Rattle.kmn_base.specs.declared.items.Element.{Element}
use Rattle.kmn_base.specs.declared.items.Element.TheVariants as element
use Rattle.kmn_base.proofs.Elements.{AllByRecursion_at}
use Rattle.rule_model.specs.declared.tables.Tables.{Tables}
use Rattle.rule_model.specs.Keyboard.{Ref, Named, Numbered, StoreMeaning, GroupMeaning, Keyboard}
use Rattle.rule_model.specs.Content.{content, option_number, elements_at, store_number, group_at}
use Rattle.rule_model.specs.Event.{State}
use Rattle.rule_model.specs.Naming.{names_of}
use Rattle.rule_model.specs.Src.{src, src_group, value_elements}
use Rattle.rule_model.specs.System.{system_options, system_ref}
use Rattle.rule_model.specs.Plain.{option_names}
use Rattle.rule_model.proofs.SystemOptions.{system_option_is, content_by_option}
use Rattle.rule_model.specs.Tab.{tab, tab_group, tab_options, elements_of, element_char}
use Rattle.rule_model.specs.Trace.{first_state, options_of, none_saved}
use Rattle.compile_laws.proofs.Keyboards.{src_start, src_groups, src_dictionary, tab_start, tab_groups, tab_names, tab_choice, tab_stores, src_cased, tab_cased}
use Rattle.kmx_format.specs.Playable.{IsPlayable}
use Rattle.decompile_program.specs.Names.{free_names}
use Rattle.decompile_program.specs.Items.{group_called}
use Rattle.decompile_program.specs.Back.{back_group, names_for, written_stores, written_begins, written_groups, back}
use Rattle.decompile_program.specs.WrittenOut.{CanBeWrittenOut}
use Rattle.decompile_program.specs.Laws.{DecompilingKeepsMeaning}
use Rattle.decompile_program.proofs.Alike.{SameIfAny, Alike}
use Rattle.decompile_program.proofs.SameTraces.{trace_same}
use Rattle.decompile_program.proofs.Free.{AreDistinct, free_names-free, free_names-count}
use Rattle.decompile_program.proofs.Good.{IsOption, GoodGroup, groups_good}
use Rattle.decompile_program.proofs.Thin.{thin, like_content, same_content, same_option, same_elements, options-same, options-behind}
use Rattle.decompile_program.proofs.Linking.{option-flag}
use Rattle.decompile_program.proofs.Numbering.{keys-are, mark-number, key-number}
use Rattle.decompile_program.proofs.Renamed.{plain, Renamed, Called}
use Rattle.decompile_program.proofs.Groups.{group_name, groups_apart, group_count, names_taken, found-group, back-at, group_same}
use Rattle.decompile_program.proofs.Stores.{spelled, ready, meanings-are, own_meanings, front_meanings, front-plain, keeps, stands-there}
use Rattle.decompile_program.proofs.Uncased.{uncased}

spelled-plain : (e : Element) → plain (spelled e) ≡ plain e
spelled-plain (element.Char c) = refl
spelled-plain (element.Mark m) = refl
spelled-plain (element.Key flags code) = refl

-- if a value has only characters, its characters determine it
value-again : (es : List Element) → list_all (λ (e : Element). is_some (element_char e)) es ≡ true → value_elements (filter_map element_char es) ≡ es
value-again [] h = refl
value-again (element.Char c ∷ es) h = ap (λ (rest : List Element). element.Char c ∷ rest) (value-again es h)
value-again (element.Mark m ∷ es) h = let bad : false ≡ true = h in absurd cc
value-again (element.Key flags code ∷ es) h = let bad : false ≡ true = h in absurd cc

slice-there : (names : List (List ℕ)) (n : ℕ) → n < length names → (name : List ℕ) × (slice_get names n ≡ Some name)
slice-there [] n less = absurd (omega arith)
slice-there (x ∷ names) zero less = (x, refl)
slice-there (x ∷ names) (suc n) less = slice-there names n (omega arith)

-- the first state of a keyboard with these options
state_of : List StoreMeaning → State
state_of options = record {
  left = [];
  right = [];
  names = map (λ (store : StoreMeaning). store.name) options;
  current = map (λ (store : StoreMeaning). store.elements) options;
  saved = map none_saved options;
}

state-of-options : (kb : Keyboard) → first_state kb ≡ state_of (options_of kb.stores)
unfolding state_of
state-of-options kb = refl

module _ (t : Tables) (p : IsPlayable t) (c : CanBeWrittenOut t) where
  option-there : (n : ℕ) (store : StoreMeaning) → IsOption t n → slice_get (tab t).stores n ≡ Some store → store.is_option ≡ true
  option-there n store option at =
      option-flag (tab_options t) 0 n t.stores store (ap (λ (ss : List StoreMeaning). slice_get ss n) (sym (tab_stores t)) ∙ at)
      ((let e : 0 + n ≡ n = omega arith in ap (λ (k : ℕ). list_any (nat_eq k) (tab_options t)) e) ∙ option)

  -- the numbers of the system options are the same, since the options before them are
  abbrev text_stores : List StoreMeaning
  text_stores = front_meanings t p c ++ thin spelled (names_for t).stores (own_meanings t p c)

  text-stores : (src (back t)).stores ≡ text_stores ++ system_options
  text-stores = meanings-are t p c ∙ sym (append_assoc (front_meanings t p c) (thin spelled (names_for t).stores (own_meanings t p c)) system_options)

  text-options : options_of text_stores ≡ options_of (own_meanings t p c)
  text-options =
      let kept = thin spelled (names_for t).stores (own_meanings t p c) in
      options-behind (front_meanings t p c) kept (front-plain t p c)
      ∙ (ap options_of (sym (append-nil kept))
      ∙ (options-same spelled (names_for t).stores (own_meanings t p c) [] (keeps t p c) ∙ ap options_of (append-nil (own_meanings t p c))))

  system-option : (id : ℕ) → option_number (src (back t)).stores (system_ref id) ≡ option_number (tab t).stores (system_ref id)
  system-option id =
      (λ i. option_number (text-stores i) (system_ref id))
      ∙ (system_option_is text_stores id
      ∙ (ap (λ (options : List StoreMeaning). Some (length (map (λ (store : StoreMeaning). store.name) options) + (if nat_eq id 31 then 1 else 0))) text-options
      ∙ (sym (system_option_is (own_meanings t p c) id) ∙ (λ i. option_number (sym (tab_stores t) i) (system_ref id)))))

  system-content : (id : ℕ) (values : List (List Element)) → content (src (back t)).stores values (system_ref id) ≡ content (tab t).stores values (system_ref id)
  system-content id values =
      let number : ℕ = length (option_names (own_meanings t p c)) + (if nat_eq id 31 then 1 else 0) in
      let known : option_number (tab t).stores (system_ref id) ≡ Some number = (λ i. option_number (tab_stores t i) (system_ref id)) ∙ system_option_is (own_meanings t p c) id in
      content_by_option (src (back t)).stores values (system_ref id) number (system-option id ∙ known) ∙ sym (content_by_option (tab t).stores values (system_ref id) number known)

  pub renamed_stores : Renamed (back t) t (names_for t)
  renamed_stores = record {
    like_content = λ n named values.
        let r = ready t p c n named in
        let s = stands-there t p c n r in
        ap (λ (x : List ℕ). map plain (content (src (back t)).stores values (Named x))) r.called
        ∙ like_content spelled r.name n (src (back t)).stores (tab t).stores s plain spelled-plain values;
    same_content = λ n named option values.
        let r = ready t p c n named in
        let s = stands-there t p c n r in
        ap (λ (x : List ℕ). content (src (back t)).stores values (Named x)) r.called
        ∙ same_content spelled r.name n (src (back t)).stores (tab t).stores s (option-there n s.store option s.old) values;
    same_option = λ n named.
        let r = ready t p c n named in
        let s = stands-there t p c n r in
        ap (λ (x : List ℕ). option_number (src (back t)).stores (Named x)) r.called
        ∙ same_option spelled r.name n (src (back t)).stores (tab t).stores s;
    same_elements = λ n named option.
        let r = ready t p c n named in
        let s = stands-there t p c n r in
        ap (λ (x : List ℕ). elements_at (src (back t)).stores (store_number (src (back t)).stores (Named x))) r.called
        ∙ same_elements spelled r.name n (src (back t)).stores (tab t).stores s (option-there n s.store option s.old);
    same_system = system-content;
    same_system_option = system-option;
    same_value = λ n value. value-again (elements_of t.stores n) value;
    same_mark = λ m mark. mark-number t p c m mark;
    same_key = λ flags code key. key-number t p c flags code key;
  }

  -- the program and the tables begin in the same state
  first-same : first_state (src (back t)) ≡ first_state (tab t)
  first-same =
      state-of-options (src (back t))
      ∙ (ap state_of
      (ap options_of (meanings-are t p c)
      ∙ (options-behind (front_meanings t p c) (thin spelled (names_for t).stores (own_meanings t p c) ++ system_options) (front-plain t p c)
      ∙ (options-same spelled (names_for t).stores (own_meanings t p c) system_options (keeps t p c) ∙ ap options_of (sym (tab_stores t)))))
      ∙ sym (state-of-options (tab t)))

  -- the names of groups
  abbrev group_list : List (List ℕ)
  group_list = (names_for t).groups

  abbrev taken_groups : List (List ℕ)
  taken_groups = map group_name t.groups

  small : 1 + (length t.groups + length taken_groups) < 2 ^ 64
  small = let most = p.group_count in let same = length-map t.groups group_name in omega (arith, most, same)

  enough : length t.groups ≤ length (free_names (codes "g") taken_groups (length t.groups))
  enough = let size = free_names-count (codes "g") taken_groups (length t.groups) small in omega (arith, size)

  groups-distinct : AreDistinct group_list
  groups-distinct =
      groups_apart taken_groups (free_names (codes "g") taken_groups (length t.groups)) [] t.groups
      (free_names-free 103 [] taken_groups (length t.groups) small) enough (names_taken t.groups)

  list-count : length group_list ≡ length t.groups
  list-count = group_count (free_names (codes "g") taken_groups (length t.groups)) [] t.groups

  abbrev meanings : List GroupMeaning
  meanings = map (src_group (names_of (back t))) (written_groups t)

  groups-are : (src (back t)).groups ≡ meanings
  unfolding back
  groups-are = src_groups (back t)

  found : (n : ℕ) → n < length t.groups → group_at (src (back t)).groups (Named (group_called (names_for t) n)) ≡ slice_get meanings n
  found n less =
      let count = list-count in
      let there = slice-there group_list n (omega (arith, less, count)) in
      let called : group_called (names_for t) n ≡ there.0 = ap (λ (o : Option (List ℕ)). unwrap_or o []) there.1 in
      ap (λ (gs : List GroupMeaning). group_at gs (Named (group_called (names_for t) n))) groups-are
      ∙ (ap (λ (x : List ℕ). group_at meanings (Named x)) called
      ∙ ap (option_and_then (slice_get meanings))
      (found-group (names_of (back t)) (names_for t) (1 + length (written_stores t) + length (written_begins t)) group_list t.groups n there.0 count groups-distinct there.1))

  same-at : (n : ℕ) → n < length t.groups → SameIfAny (src (back t)) (tab t) (Called t (names_for t)) (slice_get meanings n) (slice_get (map (tab_group t.stores) t.groups) n)
  same-at n less =
      let there = back-at (names_of (back t)) (names_for t) (1 + length (written_stores t) + length (written_begins t)) group_list t.groups n less in
      let old : slice_get (map (tab_group t.stores) t.groups) n ≡ Some (tab_group t.stores there.group) = slice_get-map (tab_group t.stores) t.groups n ∙ ap (option_map (tab_group t.stores)) there.old in
      subst (λ (o : Option GroupMeaning). SameIfAny (src (back t)) (tab t) (Called t (names_for t)) o (slice_get (map (tab_group t.stores) t.groups) n)) (sym there.new)
      (subst (λ (o : Option GroupMeaning). SameIfAny (src (back t)) (tab t) (Called t (names_for t)) (Some (src_group (names_of (back t)) (back_group (names_for t) there.line there.name there.group))) o) (sym old)
      (group_same (back t) t (names_for t) renamed_stores there.line there.name there.group (AllByRecursion_at (GoodGroup t) t.groups n there.group (groups_good t p c) there.old)))

  tab-found : (n : ℕ) → group_at (tab t).groups (Numbered n) ≡ slice_get (map (tab_group t.stores) t.groups) n
  tab-found n = ap (λ (gs : List GroupMeaning). slice_get gs n) (tab_groups t)

  each : (g h : Ref) → Called t (names_for t) g h → SameIfAny (src (back t)) (tab t) (Called t (names_for t)) (group_at (src (back t)).groups g) (group_at (tab t).groups h)
  each g h called =
      let n = called.0 in
      subst (λ (x : Ref). SameIfAny (src (back t)) (tab t) (Called t (names_for t)) (group_at (src (back t)).groups x) (group_at (tab t).groups h)) (sym called.2)
      (subst (λ (x : Ref). SameIfAny (src (back t)) (tab t) (Called t (names_for t)) (group_at (src (back t)).groups (Named (group_called (names_for t) n))) (group_at (tab t).groups x)) (sym called.3)
      (subst (λ (o : Option GroupMeaning). SameIfAny (src (back t)) (tab t) (Called t (names_for t)) o (group_at (tab t).groups (Numbered n))) (sym (found n called.1))
      (subst (λ (o : Option GroupMeaning). SameIfAny (src (back t)) (tab t) (Called t (names_for t)) (slice_get meanings n) o) (sym (tab-found n)) (same-at n called.1))))

  start-is : (src (back t)).start ≡ Named (group_called (names_for t) t.start_unicode)
  unfolding back
  start-is = src_start (back t)

  pub alike : Alike (src (back t)) (tab t) (Called t (names_for t))
  alike = record {
    first = first-same;
    dictionary = src_dictionary (back t) ∙ (keys-are t p c ∙ sym (tab_names t));
    first_cased = src_cased (back t) ∙ uncased t p c;
    second_cased = tab_cased t;
    choice = tab_choice t;
    start = (t.start_unicode, p.start_unicode, start-is, tab_start t);
    each = each;
  }

pub decompiling_keeps_meaning : DecompilingKeepsMeaning
decompiling_keeps_meaning t p c events = trace_same (src (back t)) (tab t) (Called t (names_for t)) (alike t p c) events
