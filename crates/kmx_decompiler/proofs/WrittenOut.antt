-- If tables have no cause, they can be written out.
use Rattle.std.proofs.Common.{◌≡◌, ℕ, zero, suc, ◌+◌, ◌<◌, Bool, true, false, not, ◌&&◌, ◌||◌, List, [], ◌∷◌, ◌++◌, length, Option, None, Some, refl, arith}
use Rattle.std.specs.Prelude.{All, flat_map, nat_eq, bit_and, slice_get, is_some}
use Rattle.std.specs.List.{list_any, list_all, AllByRecursion}
use Rattle.std.specs.Str.{bytes_eq}
use Rattle.std.proofs.lemmas.Bool.{or_parts, not-false, or_left, or_right, eq-eqb}
use Rattle.std.proofs.lemmas.Slice.Eq.{bytes_eq-Decides}
use Rattle.std.proofs.lemmas.List.Elements.{All-nil, All-cons, All-head, All-tail, All-append, All-weaker}
use Rattle.kmn_base.specs.declared.keys.TheConstants.{SHIFT_FLAGS}
use Rattle.kmn_base.specs.declared.items.Element.{Element}
use Rattle.kmn_base.specs.declared.items.Element.TheVariants as element
use Rattle.kmn_base.specs.declared.keys.RuleKey.{RuleKey}
use Rattle.kmn_base.specs.declared.keys.RuleKey.TheVariants as key
use Rattle.kmn_base.proofs.Elements.{All-append_parts}
use Rattle.rule_model.specs.declared.tables.Pat.{Pat}
use Rattle.rule_model.specs.declared.tables.Pat.TheVariants as pattern
use Rattle.rule_model.specs.declared.tables.Out.{Out}
use Rattle.rule_model.specs.declared.tables.Out.TheVariants as output
use Rattle.rule_model.specs.declared.tables.Rule.{Rule}
use Rattle.rule_model.specs.declared.tables.Store.{Store}
use Rattle.rule_model.specs.declared.tables.Group.{Group}
use Rattle.rule_model.specs.declared.tables.Tables.{Tables}
use Rattle.rule_model.specs.Tab.{store_elements, elements_of, element_char, tab_dictionary, tab_options}
use Rattle.item_checker.specs.Items.{is_no_character}
use Rattle.kmx_format.specs.Writable.{stores_of_pattern, stores_of_output, IsWritableRule}
use Rattle.kmx_format.specs.TablesOf.{tables_of}
use Rattle.kmx_format.specs.Playable.{IsPlayable, IsPlayableGroup}
use Rattle.decompile_program.specs.Items.{Names, store_called}
use Rattle.decompile_program.specs.Names.{named_by_pattern, named_by_output, named_by_rule, named_by_group, named_stores}
use Rattle.decompile_program.specs.Back.{names_for}
use Rattle.decompile_program.specs.WrittenOut.{element_keys, key_codes_of, store_keys, rule_keys, group_keys, table_keys, pattern_values, output_values, rule_values, group_values, table_values, has_key_name, is_ordinary, has_characters, KeepsName, CanBeWrittenOut}
use Rattle.kmx_decompiler.specs.Causes.{is_unspelled_element, is_unspelled_key, is_system_store, names_system_store, is_unspelled_value, has_unspelled_value, is_far_pattern, is_unspelled_pattern, is_far_output, is_unspelled_output, is_first_dictionary, is_unspelled_dictionary, is_unspelled_option, is_unspelled_system, is_unspelled_store}
use Rattle.kmx_decompiler.specs.Unspelled.{unspelled}
use Rattle.kmx_decompiler.proofs.Sayable.{sayable, IsSayableRule, IsSayableGroup, AreSayable, sayable-at, HasNoCause, IsSayable, without_cause}
use Rattle.kmx_decompiler.proofs.Conjunctions.{second-fails}

-- if `g` returns numbers with a property for each item that fails a test and is in range, it does so for a list of such items
pub gathered : {X : Type 0} (test : X → Bool) (s g : X → List ℕ) (Q P : ℕ → Type 0) → ((x : X) → All Q (s x) → test x ≡ false → All P (g x))
    → (xs : List X) → All Q (flat_map s xs) → list_any test xs ≡ false → All P (flat_map g xs)
gathered test s g Q P each [] q h = All-nil P
gathered test s g Q P each (x ∷ xs) q h =
    let parts = or_parts (test x) (list_any test xs) h in
    let ranges = All-append_parts Q (s x) (flat_map s xs) q in
    All-append P (g x) (flat_map g xs) (each x ranges.0 parts.0) (gathered test s g Q P each xs ranges.1 parts.1)

-- if `g` returns numbers with a property for each item that fails a test, it does so for a list of such items
pub tested : {X : Type 0} (test : X → Bool) (g : X → List ℕ) (P : ℕ → Type 0) → ((x : X) → test x ≡ false → All P (g x)) → (xs : List X) → list_any test xs ≡ false → All P (flat_map g xs)
tested test g P each [] h = All-nil P
tested test g P each (x ∷ xs) h =
    let parts = or_parts (test x) (list_any test xs) h in All-append P (g x) (flat_map g xs) (each x parts.0) (tested test g P each xs parts.1)

-- if `g` returns numbers with a property for each item with another property, it does so for a list of such items
pub joined : {X : Type 0} (R : X → Type 0) (P : ℕ → Type 0) (g : X → List ℕ) → ((x : X) → R x → All P (g x)) → (xs : List X) → AllByRecursion R xs → All P (flat_map g xs)
joined R P g each [] h = All-nil P
joined R P g each (x ∷ xs) h = All-append P (g x) (flat_map g xs) (each x h.0) (joined R P g each xs h.1)

-- if all items of a list have each of two properties, each item has both
pub zipped : {X : Type 0} (R S : X → Type 0) (xs : List X) → AllByRecursion R xs → All S xs → AllByRecursion (λ (x : X). R x × S x) xs
zipped R S [] r s = tt
zipped R S (x ∷ xs) r s = ((r.0, All-head S x xs s), zipped R S xs r.1 (All-tail S x xs s))

-- if the store of a number in range is not a system store, it is an ordinary store
ordinary : (stores : List Store) (n : ℕ) → n < length stores → is_system_store (slice_get stores n) ≡ false → is_ordinary (slice_get stores n) ≡ true
ordinary [] n less h = absurd (omega arith)
ordinary (x ∷ stores) zero less h = not-false (nat_eq x.system 0) h
ordinary (x ∷ stores) (suc n) less h = ordinary stores n (omega arith) h

-- if a list has no element that is not a character, all its elements are characters
no-others : (elements : List Element) → list_any is_no_character elements ≡ false → list_all (λ (e : Element). is_some (element_char e)) elements ≡ true
no-others [] h = refl
no-others (element.Char c ∷ elements) h = no-others elements h
no-others (element.Mark m ∷ elements) h = absurd (cc)
no-others (element.Key flags code ∷ elements) h = absurd (cc)

module _ (tables : Tables) where
  abbrev pub names : Names
  names = names_for tables

  abbrev pub InRange : ℕ → Type 0
  InRange n = n < length tables.stores

  abbrev pub IsOrdinary : ℕ → Type 0
  IsOrdinary n = is_ordinary (slice_get tables.stores n) ≡ true

  abbrev pub IsCharacters : ℕ → Type 0
  IsCharacters n = has_characters tables n ≡ true

  abbrev pub IsNamedKey : ℕ → Type 0
  IsNamedKey code = has_key_name (tab_dictionary tables.stores) code ≡ true

  one-ordinary : (n : ℕ) → InRange n → names_system_store names (n ∷ []) ≡ false → All IsOrdinary (n ∷ [])
  one-ordinary n less h =
      All-cons IsOrdinary n [] (ordinary tables.stores n less (or_parts (is_system_store (slice_get tables.stores n)) false h).0) (All-nil IsOrdinary)

  one-value : (n : ℕ) → has_unspelled_value names (n ∷ []) ≡ false → All IsCharacters (n ∷ [])
  one-value n h =
      let value = or_parts (is_unspelled_value (elements_of tables.stores n)) false h in
      let characters = or_parts (list_any is_no_character (elements_of tables.stores n)) _ value.0 in
      All-cons IsCharacters n [] (no-others (elements_of tables.stores n) characters.0) (All-nil IsCharacters)

  pattern-named : (p : Pat) → All InRange (stores_of_pattern p) → names_system_store names (named_by_pattern p) ≡ false → All IsOrdinary (named_by_pattern p)
  pattern-named (pattern.Any s) q h = one-ordinary s (All-head InRange s [] q) h
  pattern-named (pattern.NotAny s) q h = one-ordinary s (All-head InRange s [] q) h
  pattern-named (pattern.Index s offset) q h = one-ordinary s (All-head InRange s [] q) h
  pattern-named (pattern.Equal s value) q h = one-ordinary s (All-head InRange s (value ∷ []) q) h
  pattern-named (pattern.Unequal s value) q h = one-ordinary s (All-head InRange s (value ∷ []) q) h
  pattern-named p q h = All-nil IsOrdinary

  pattern-valued : (p : Pat) → has_unspelled_value names (pattern_values p) ≡ false → All IsCharacters (pattern_values p)
  pattern-valued (pattern.Equal s value) h = one-value value h
  pattern-valued (pattern.Unequal s value) h = one-value value h
  pattern-valued (pattern.SystemEqual id value) h = one-value value h
  pattern-valued (pattern.SystemUnequal id value) h = one-value value h
  pattern-valued p h = All-nil IsCharacters

  output-named : (o : Out) → All InRange (stores_of_output o) → names_system_store names (named_by_output o) ≡ false → All IsOrdinary (named_by_output o)
  output-named (output.Index s offset) q h = one-ordinary s (All-head InRange s [] q) h
  output-named (output.Set s value) q h = one-ordinary s (All-head InRange s (value ∷ []) q) h
  output-named (output.Save s) q h = one-ordinary s (All-head InRange s [] q) h
  output-named (output.Reset s) q h = one-ordinary s (All-head InRange s [] q) h
  output-named o q h = All-nil IsOrdinary

  output-valued : (o : Out) → has_unspelled_value names (output_values o) ≡ false → All IsCharacters (output_values o)
  output-valued (output.Set s value) h = one-value value h
  output-valued (output.SetSystem id value) h = one-value value h
  output-valued o h = All-nil IsCharacters

  -- the parts of an item's test
  pub pattern-parts : (p : Pat) → is_unspelled_pattern names p ≡ false
      → (is_far_pattern p ≡ false) × (names_system_store names (named_by_pattern p) ≡ false) × (has_unspelled_value names (pattern_values p) ≡ false)
  pattern-parts p h =
      let one = or_parts (is_far_pattern p) (names_system_store names (named_by_pattern p) || has_unspelled_value names (pattern_values p)) h in
      let two = or_parts (names_system_store names (named_by_pattern p)) (has_unspelled_value names (pattern_values p)) one.1 in
      (one.0, two.0, two.1)

  pub output-parts : (o : Out) → is_unspelled_output names o ≡ false
      → (is_far_output o ≡ false) × (names_system_store names (named_by_output o) ≡ false) × (has_unspelled_value names (output_values o) ≡ false)
  output-parts o h =
      let one = or_parts (is_far_output o) (names_system_store names (named_by_output o) || has_unspelled_value names (output_values o)) h in
      let two = or_parts (names_system_store names (named_by_output o)) (has_unspelled_value names (output_values o)) one.1 in
      (one.0, two.0, two.1)

  outputs-named : (os : List Out) → All InRange (flat_map stores_of_output os) → list_any (is_unspelled_output names) os ≡ false → All IsOrdinary (flat_map named_by_output os)
  outputs-named os q h =
      gathered (is_unspelled_output names) stores_of_output named_by_output InRange IsOrdinary (λ (o : Out) r e. output-named o r (output-parts o e).1) os q h

  outputs-valued : (os : List Out) → All InRange (flat_map stores_of_output os) → list_any (is_unspelled_output names) os ≡ false → All IsCharacters (flat_map output_values os)
  outputs-valued os q h =
      gathered (is_unspelled_output names) stores_of_output output_values InRange IsCharacters (λ (o : Out) r e. output-valued o (output-parts o e).2) os q h

  -- a record
  module _ (using_keys : Bool) (groups : ℕ) (rule : Rule) (said : IsSayableRule names rule) (can : IsWritableRule (length tables.stores) groups using_keys rule) where
    abbrev items : list_any (is_unspelled_pattern names) rule.context ≡ false
    items = (or_parts (list_any (is_unspelled_pattern names) rule.context) _ said.context).0

    rule-named : All IsOrdinary (named_by_rule rule)
    rule-named =
        All-append IsOrdinary (flat_map named_by_pattern rule.context) (flat_map named_by_output rule.output)
        (gathered (is_unspelled_pattern names) stores_of_pattern named_by_pattern InRange IsOrdinary (λ (p : Pat) r e. pattern-named p r (pattern-parts p e).1) rule.context can.context.stores items)
        (outputs-named rule.output can.output.stores said.output)

    rule-valued : All IsCharacters (rule_values rule)
    rule-valued =
        All-append IsCharacters (flat_map pattern_values rule.context) (flat_map output_values rule.output)
        (gathered (is_unspelled_pattern names) stores_of_pattern pattern_values InRange IsCharacters (λ (p : Pat) r e. pattern-valued p (pattern-parts p e).2) rule.context can.context.stores items)
        (outputs-valued rule.output can.output.stores said.output)

  key-named : (k : RuleKey) → is_unspelled_key names k ≡ false → All IsNamedKey (key_codes_of k)
  key-named key.Any h = All-nil IsNamedKey
  key-named (key.Char c) h = All-nil IsNamedKey
  key-named (key.Virtual flags code) h = All-cons IsNamedKey code [] (not-false (has_key_name names.keys code) h) (All-nil IsNamedKey)

  -- a group
  abbrev SaidGroup : Group → Type 0
  SaidGroup group = IsSayableGroup names group × IsPlayableGroup (length tables.stores) (length tables.groups) group

  abbrev SaidRule : Bool → Rule → Type 0
  SaidRule using_keys rule = IsSayableRule names rule × IsWritableRule (length tables.stores) (length tables.groups) using_keys rule

  group-named : (group : Group) → SaidGroup group → All IsOrdinary (named_by_group group)
  group-named group h =
      All-append IsOrdinary (flat_map named_by_rule group.rules) (flat_map named_by_output group.on_match ++ flat_map named_by_output group.on_nomatch)
      (joined (SaidRule group.using_keys) IsOrdinary named_by_rule (λ (rule : Rule) r. rule-named group.using_keys (length tables.groups) rule r.0 r.1) group.rules
      (zipped (IsSayableRule names) (IsWritableRule (length tables.stores) (length tables.groups) group.using_keys) group.rules h.0.rules h.1.rules))
      (All-append IsOrdinary (flat_map named_by_output group.on_match) (flat_map named_by_output group.on_nomatch)
      (outputs-named group.on_match h.1.on_match.itself.stores h.0.on_match) (outputs-named group.on_nomatch h.1.on_nomatch.itself.stores h.0.on_nomatch))

  group-valued : (group : Group) → SaidGroup group → All IsCharacters (group_values group)
  group-valued group h =
      All-append IsCharacters (flat_map rule_values group.rules) (flat_map output_values group.on_match ++ flat_map output_values group.on_nomatch)
      (joined (SaidRule group.using_keys) IsCharacters rule_values (λ (rule : Rule) r. rule-valued group.using_keys (length tables.groups) rule r.0 r.1) group.rules
      (zipped (IsSayableRule names) (IsWritableRule (length tables.stores) (length tables.groups) group.using_keys) group.rules h.0.rules h.1.rules))
      (All-append IsCharacters (flat_map output_values group.on_match) (flat_map output_values group.on_nomatch)
      (outputs-valued group.on_match h.1.on_match.itself.stores h.0.on_match) (outputs-valued group.on_nomatch h.1.on_nomatch.itself.stores h.0.on_nomatch))

  group-keyed : (group : Group) → IsSayableGroup names group → All IsNamedKey (group_keys group)
  group-keyed group h =
      joined (IsSayableRule names) IsNamedKey rule_keys (λ (rule : Rule) (r : IsSayableRule names rule). key-named rule.key r.key) group.rules h.rules

  element-keyed : (e : Element) → is_unspelled_element names e ≡ false → All IsNamedKey (element_keys e)
  element-keyed (element.Char c) h = All-nil IsNamedKey
  element-keyed (element.Mark m) h = All-nil IsNamedKey
  element-keyed (element.Key flags code) h =
      let parts = or_parts (not (has_key_name names.keys code)) (not (nat_eq (bit_and flags SHIFT_FLAGS) flags)) h in
      All-cons IsNamedKey code [] (not-false (has_key_name names.keys code) parts.0) (All-nil IsNamedKey)

  elements-keyed : (es : List Element) → list_any (is_unspelled_element names) es ≡ false → All IsNamedKey (flat_map element_keys es)
  elements-keyed [] h = All-nil IsNamedKey
  elements-keyed (e ∷ es) h =
      let parts = or_parts (is_unspelled_element names e) (list_any (is_unspelled_element names) es) h in
      All-append IsNamedKey (element_keys e) (flat_map element_keys es) (element-keyed e parts.0) (elements-keyed es parts.1)

  -- the parts of a store's test
  pub record IsSayableStore (n : ℕ) (store : Store) : Type 0 where
    pub elements : list_any (is_unspelled_element names) store.elements ≡ false
    pub dictionary : (is_first_dictionary tables.stores n && is_unspelled_dictionary store.elements) ≡ false
    pub option : (list_any (nat_eq n) (tab_options tables) && is_unspelled_option names n store) ≡ false
    pub system : is_unspelled_system store ≡ false

  pub store-parts : (n : ℕ) (store : Store) → is_unspelled_store names (tab_options tables) n store ≡ false → IsSayableStore n store
  store-parts n store h =
      let dictionary : Bool = is_first_dictionary tables.stores n && is_unspelled_dictionary store.elements in
      let option : Bool = list_any (nat_eq n) (tab_options tables) && is_unspelled_option names n store in
      let one = or_parts (list_any (is_unspelled_element names) store.elements) (dictionary || (option || is_unspelled_system store)) h in
      let two = or_parts dictionary (option || is_unspelled_system store) one.1 in
      let three = or_parts option (is_unspelled_system store) two.1 in
      record { elements = one.0; dictionary = two.0; option = three.0; system = three.1 }

  stores-keyed : (k : ℕ) (stores : List Store) → AreSayable names (tab_options tables) k stores → All IsNamedKey (flat_map store_keys stores)
  stores-keyed k [] h = All-nil IsNamedKey
  stores-keyed k (store ∷ stores) h =
      All-append IsNamedKey (store_keys store) (flat_map store_keys stores)
      (elements-keyed store.elements (store-parts k store h.0).elements) (stores-keyed (k + 1) stores h.1)

-- a number is in a list
abbrev pub Among : List ℕ → ℕ → Type 0
Among xs n = list_any (nat_eq n) xs ≡ true

pub all-among : (xs : List ℕ) → All (Among xs) xs
all-among [] = All-nil (Among [])
all-among (x ∷ xs) =
    All-cons (Among (x ∷ xs)) x xs (or_left (nat_eq x x) (list_any (nat_eq x) xs) (eq-eqb x x refl))
    (All-weaker (Among xs) (Among (x ∷ xs)) (λ n e. or_right (nat_eq n x) (list_any (nat_eq n) xs) e) xs (all-among xs))

module _ (tables : Tables) (said : HasNoCause tables) where
  -- the store of an option is an ordinary one, is called by its own name, and has only characters
  option-facts : (n : ℕ) (store : Store) → Among (tab_options tables) n → slice_get tables.stores n ≡ Some store
      → (nat_eq store.system 0 ≡ true) × (store_called (names_for tables) n ≡ store.name) × (list_any is_no_character store.elements ≡ false)
  option-facts n store among at =
      let parts = store-parts tables n store (sayable-at (names_for tables) (tab_options tables) 0 tables.stores said.stores n n store (omega arith) at) in
      let called : Bool = bytes_eq (store_called (names_for tables) n) store.name in
      let one = second-fails (list_any (nat_eq n) (tab_options tables)) (is_unspelled_option (names_for tables) n store) among parts.option in
      let two = or_parts (not (nat_eq store.system 0)) (not called || list_any is_no_character store.elements) one in
      let three = or_parts (not called) (list_any is_no_character store.elements) two.1 in (
        not-false (nat_eq store.system 0) two.0,
        (bytes_eq-Decides (store_called (names_for tables) n) store.name).0 (not-false called three.0),
        three.1,
      )

  option-characters : (o : Option Store) → ((store : Store) → o ≡ Some store → list_any is_no_character store.elements ≡ false)
      → list_all (λ (e : Element). is_some (element_char e)) (store_elements o) ≡ true
  option-characters None f = refl
  option-characters (Some store) f = no-others store.elements (f store refl)

  pub no_cause_written_out : IsPlayable tables → CanBeWrittenOut tables
  unfolding table_keys named_stores table_values
  no_cause_written_out can =
      let both = zipped (IsSayableGroup (names_for tables)) (IsPlayableGroup (length tables.stores) (length tables.groups)) tables.groups said.groups can.groups in
      let among = all-among (tab_options tables) in
      record {
        order = said.order;
        keys = All-append (IsNamedKey tables) (flat_map store_keys tables.stores) (flat_map group_keys tables.groups)
            (stores-keyed tables 0 tables.stores said.stores) (joined (IsSayableGroup (names_for tables)) (IsNamedKey tables) group_keys (group-keyed tables) tables.groups said.groups);
        named = joined (SaidGroup tables) (IsOrdinary tables) named_by_group (group-named tables) tables.groups both;
        options = All-weaker (Among (tab_options tables)) (KeepsName tables) (λ n a store at. (option-facts n store a at).1) (tab_options tables) among;
        option_elements = All-weaker (Among (tab_options tables)) (IsCharacters tables)
            (λ n a. option-characters (slice_get tables.stores n) (λ store at. (option-facts n store a at).2)) (tab_options tables) among;
        values = joined (SaidGroup tables) (IsCharacters tables) group_values (group-valued tables) tables.groups both;
      }

-- if tables have no cause and their text is not too large, the store of an option has these properties
pub option-parts : (tables : Tables) → IsSayable tables → (n : ℕ) (store : Store) → Among (tab_options tables) n → slice_get tables.stores n ≡ Some store
    → (nat_eq store.system 0 ≡ true) × (store_called (names_for tables) n ≡ store.name) × (list_any is_no_character store.elements ≡ false)
option-parts tables said = option-facts tables (without_cause tables said)

pub written_out : (tables : Tables) → IsSayable tables → IsPlayable tables → CanBeWrittenOut tables
written_out tables said = no_cause_written_out tables (without_cause tables said)

pub spelled_written_out : (bytes : List ℕ) → IsPlayable (tables_of bytes) → unspelled bytes ≡ None → CanBeWrittenOut (tables_of bytes)
spelled_written_out bytes can h = written_out (tables_of bytes) (sayable bytes h) can
