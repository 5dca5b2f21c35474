-- The counts that the limits compute from a program's statements are the numbers of elements of the stores of its file.
use Rattle.std.proofs.Common.{◌≡◌, ℕ, zero, suc, ◌+◌, Bool, true, false, List, [], ◌∷◌, ◌++◌, length, map, Some, None, refl, sym, ap, subst, ◌∙◌, arith, if◌then◌else◌, append-nil, append_assoc, length-append, take-append-drop}
use Rattle.std.specs.Prelude.{nat_lt, flat_map, find, All, ◌||◌}
use Rattle.std.specs.List.{prefix_len, list_any, join_with_byte}
use Rattle.std.specs.Str.{bytes_eq, chars, IsAscii}
use Rattle.std.proofs.lemmas.List.{length-map, map-append}
use Rattle.std.proofs.lemmas.List.Concat.{flat_map-append}
use Rattle.std.proofs.lemmas.List.Elements.{All-head, All-tail}
use Rattle.std.proofs.lemmas.Str.{chars-append, chars-IsAscii}
use Rattle.std.proofs.lemmas.Bool.{not-false}
use Rattle.kmn_base.specs.declared.codes.Code.TheVariants.{C03, C05, C07}
use Rattle.kmn_base.specs.declared.items.Element.{Element}
use Rattle.kmn_base.specs.declared.items.Element.TheVariants as element
use Rattle.kmn_base.specs.Names.{same_name}
use Rattle.kmn_base.proofs.Options.{option_or-none}
use Rattle.rule_model.specs.declared.program.SrcItem.{SrcItem}
use Rattle.rule_model.specs.declared.program.SrcItem.TheVariants as source
use Rattle.rule_model.specs.declared.program.StoreDef.{StoreDef}
use Rattle.rule_model.specs.declared.program.RuleDef.{RuleDef}
use Rattle.rule_model.specs.declared.program.Program.{Program}
use Rattle.rule_model.specs.declared.tables.Store.{Store}
use Rattle.rule_model.specs.Tab.{distinct_onto, store_elements}
use Rattle.rule_model.specs.Naming.{names_of, stores_of, stores_onto, store_of, is_dropped, rule_items, items_from, source_items, stores_before, stores_after, all_rules, key_names, elements_named, item_elements}
use Rattle.compile_laws.specs.Numbers.{item_values, values_of, value_store, dictionary_stores, compiled_stores}
use Rattle.compile_laws.proofs.Dictionary.{space_text}
use Rattle.kmn_parser.specs.ProgramLaws.{IsOwnKey}
use Rattle.store_table.specs.First.{broken, first_code, first_of}
use Rattle.store_table.specs.declared.stating.Stated.{Stated}
use Rattle.store_table.specs.Names.{stated, is_named, kept_name, store_names, store_refusal, store_code, store_item_code, is_store_again, names_no_store, uses_later_store}
use Rattle.store_table.specs.Known.{Known, known, brought, statement_elements}
use Rattle.virtual_keys.proofs.NamePlaces.{some_place}
use Rattle.rule_checker.specs.Limits.{Statement, OfStore, OfRule, in_line_order, items_of, values_of_statement, statement_size, store_size, names_size, dictionary_size, sizes}
use Rattle.rule_checker.specs.Refused.{IsRead}
use Rattle.rule_checker.proofs.Unrefused.{none_earlier, none_at_line, none_broken}
use Rattle.rule_checker.proofs.Stated.{in_names}
use Rattle.rule_checker.proofs.Accepted.{IsUnrefused}
use Rattle.rule_checker.proofs.Reading.{own_keys_read}

abbrev pub element_count : Store → ℕ
element_count store = length store.elements

-- what is gathered from statements in the order of their lines
module _ {Y : Type 0} (f : Statement → List Y) where
  gathered_stores : (g : StoreDef → List Y) → ((s : StoreDef) → f (OfStore s) ≡ g s) → (stores : List StoreDef) → flat_map f (map OfStore stores) ≡ flat_map g stores
  gathered_stores g same [] = refl
  gathered_stores g same (s ∷ stores) = λ j. same s j ++ gathered_stores g same stores j

  gathered : (stores : List StoreDef) (rule : RuleDef) (rules : List RuleDef)
      → flat_map f (in_line_order stores (rule ∷ rules)) ≡ flat_map f (map OfStore (stores_before rule.line stores)) ++ (f (OfRule rule) ++ flat_map f (in_line_order (stores_after rule.line stores) rules))
  gathered stores rule rules = flat_map-append f (map OfStore (stores_before rule.line stores)) (OfRule rule ∷ in_line_order (stores_after rule.line stores) rules)

pub items_in_order : (stores : List StoreDef) (rules : List RuleDef) → flat_map items_of (in_line_order stores rules) ≡ items_from stores rules
items_in_order stores [] = gathered_stores items_of (λ (s : StoreDef). s.items) (λ s. refl) stores
items_in_order stores (rule ∷ rules) =
    gathered items_of stores rule rules
    ∙ (λ j. gathered_stores items_of (λ (s : StoreDef). s.items) (λ s. refl) (stores_before rule.line stores) j ++ (rule_items rule ++ items_in_order (stores_after rule.line stores) rules j))

nothing_of_stores : {Y : Type 0} (f : Statement → List Y) → ((s : StoreDef) → f (OfStore s) ≡ []) → (stores : List StoreDef) → flat_map f (map OfStore stores) ≡ []
nothing_of_stores f none [] = refl
nothing_of_stores f none (s ∷ stores) = λ j. none s j ++ nothing_of_stores f none stores j

pub values_in_order : (stores : List StoreDef) (rules : List RuleDef) → flat_map values_of_statement (in_line_order stores rules) ≡ flat_map item_values (flat_map rule_items rules)
values_in_order stores [] = nothing_of_stores values_of_statement (λ s. refl) stores
values_in_order stores (rule ∷ rules) =
    gathered values_of_statement stores rule rules
    ∙ (λ j. nothing_of_stores values_of_statement (λ s. refl) (stores_before rule.line stores) j ++ (flat_map item_values (rule_items rule) ++ values_in_order (stores_after rule.line stores) rules j))
    ∙ sym (flat_map-append item_values (rule_items rule) (flat_map rule_items rules))

pub parted : (line : ℕ) (stores : List StoreDef) → stores_before line stores ++ stores_after line stores ≡ stores
parted line stores = take-append-drop (prefix_len (λ (s : StoreDef). nat_lt s.line line) stores) stores

pub stores_in_order : (facts : Known) (stores : List StoreDef) (rules : List RuleDef) → flat_map (statement_size facts) (in_line_order stores rules) ≡ flat_map (store_size facts) stores
stores_in_order facts stores [] = gathered_stores (statement_size facts) (store_size facts) (λ s. refl) stores
stores_in_order facts stores (rule ∷ rules) =
    gathered (statement_size facts) stores rule rules
    ∙ (λ j. gathered_stores (statement_size facts) (store_size facts) (λ s. refl) (stores_before rule.line stores) j ++ stores_in_order facts (stores_after rule.line stores) rules j)
    ∙ sym (flat_map-append (store_size facts) (stores_before rule.line stores) (stores_after rule.line stores))
    ∙ ap (flat_map (store_size facts)) (parted rule.line stores)

-- if a name is found among stores, appending further stores does not change what is found
found_before : (before more : List Store) (name : List ℕ) → list_any (λ (s : Store). same_name s.name name) before ≡ true → elements_named (before ++ more) name ≡ elements_named before name
found_before [] more name h = absurd (cc)
found_before (s ∷ before) more name h = by (same_name s.name name) h (found_before before more name)
  where
    by : (b : Bool) → (b || list_any (λ (t : Store). same_name t.name name) before) ≡ true → (list_any (λ (t : Store). same_name t.name name) before ≡ true → elements_named (before ++ more) name ≡ elements_named before name)
        → store_elements (if b then Some s else find (λ (t : Store). same_name t.name name) (before ++ more)) ≡ store_elements (if b then Some s else find (λ (t : Store). same_name t.name name) before)
    by true g rest = refl
    by false g rest = rest g

-- the store of a statement with these elements
abbrev pub store_with : StoreDef → List Element → Store
store_with store elements = record { system = store.system; name = store.name; elements = elements }

-- the store that a statement adds to the file, if it isn't dropped, with the elements that the checks read
abbrev pub kept_store : Known → StoreDef → List Store
kept_store facts store = if is_dropped store then [] else store_with store (statement_elements facts store) ∷ []

module _ (facts : Known) (names_stated : Stated) where
  -- the elements of an item that does not output a later store
  item_before : (before more : List Store) (item : SrcItem) → facts.stores ≡ before ++ more → uses_later_store (map (λ (s : Store). s.name) before) item ≡ false
      → brought facts item ≡ item_elements facts.names before item
  item_before before more (source.Outs name) all later =
      ap (λ stores. elements_named stores name) all
      ∙ found_before before more name
      (sym (some_place (λ (s : Store). same_name s.name name) before) ∙ sym (in_names (λ (s : Store). s.name) name before) ∙ not-false (is_named (map (λ (s : Store). s.name) before) name) later)
  item_before before more (source.Char c) all later = refl
  item_before before more (source.Dead name) all later = refl
  item_before before more (source.Key key) all later = refl
  item_before before more item all later = refl

  pub items_before : (before more : List Store) (items : List SrcItem) → facts.stores ≡ before ++ more
      → first_code (store_item_code names_stated (map (λ (s : Store). s.name) before)) items ≡ None
      → flat_map (brought facts) items ≡ flat_map (item_elements facts.names before) items
  items_before before more [] all h = refl
  items_before before more (item ∷ items) all h =
      let both = option_or-none (store_item_code names_stated (map (λ (s : Store). s.name) before) item) (first_code (store_item_code names_stated (map (λ (s : Store). s.name) before)) items) h in
      let one = none_broken C05 (names_no_store names_stated item) ((C07, uses_later_store (map (λ (s : Store). s.name) before) item) ∷ []) both.0 in
      let two = none_broken C07 (uses_later_store (map (λ (s : Store). s.name) before) item) [] one.1 in
      λ j. item_before before more item all two.0 j ++ items_before before more items all both.1 j

  -- stores that are appended to others
  pub record Onto (before after : List Store) : Type 0 where
    pub more : List Store
    pub is : after ≡ before ++ more

  pub onto : (before : List Store) (stores : List StoreDef) → Onto before (stores_onto facts.names before stores)
  onto before [] = record { more = []; is = sym (append-nil before) }
  onto before (store ∷ stores) = by (is_dropped store) (onto before stores) (onto (before ++ store_of facts.names before store ∷ []) stores)
    where
      by : (b : Bool) → Onto before (stores_onto facts.names before stores) → Onto (before ++ store_of facts.names before store ∷ []) (stores_onto facts.names (before ++ store_of facts.names before store ∷ []) stores)
          → Onto before (stores_onto facts.names (if b then before else before ++ store_of facts.names before store ∷ []) stores)
      by true same rest = same
      by false same rest =
          record { more = store_of facts.names before store ∷ rest.more; is = rest.is ∙ append_assoc before (store_of facts.names before store ∷ []) rest.more }

  pub names_next : (before : List StoreDef) (store : StoreDef) (names : List (List ℕ)) → names ≡ store_names before → names ++ kept_name store ≡ store_names (before ++ store ∷ [])
  names_next before store names same =
      ap (λ (ns : List (List ℕ)). ns ++ kept_name store) same
      ∙ sym (flat_map-append kept_name before (store ∷ []) ∙ ap (λ (ns : List (List ℕ)). store_names before ++ ns) (append-nil (kept_name store)))

  -- the stores that statements add have the elements that the checks read
  stores_kept : (before : List Store) (defined : List StoreDef) (stores : List StoreDef) → map (λ (s : Store). s.name) before ≡ store_names defined
      → first_of (store_refusal names_stated) defined stores ≡ None → facts.stores ≡ stores_onto facts.names before stores
      → facts.stores ≡ before ++ flat_map (kept_store facts) stores
  stores_kept before defined [] names h all = all ∙ sym (append-nil before)
  stores_kept before defined (store ∷ stores) names h all =
      let both = none_earlier (store_refusal names_stated defined store) (first_of (store_refusal names_stated) (defined ++ store ∷ []) stores) h in
      let parts = option_or-none (broken ((C03, is_store_again (store_names defined) store) ∷ [])) (first_code (store_item_code names_stated (store_names defined)) store.items)
      (none_at_line store.line (store_code names_stated (store_names defined) store) both.0) in
      let items = subst (λ (ns : List (List ℕ)). first_code (store_item_code names_stated ns) store.items ≡ None) (sym names) parts.1 in
      by (is_dropped store) refl items all (λ next same at. stores_kept next (defined ++ store ∷ []) stores same both.1 at)
    where
      kept : (b : Bool) → is_dropped store ≡ b → map (λ (s : Store). s.name) before ++ kept_name store ≡ map (λ (s : Store). s.name) before ++ (if b then [] else store.name ∷ [])
      kept b is = ap (λ (c : Bool). map (λ (s : Store). s.name) before ++ (if c then [] else store.name ∷ [])) is

      by : (b : Bool) → is_dropped store ≡ b → first_code (store_item_code names_stated (map (λ (s : Store). s.name) before)) store.items ≡ None
          → facts.stores ≡ stores_onto facts.names (if b then before else before ++ store_of facts.names before store ∷ []) stores
          → ((next : List Store) → map (λ (s : Store). s.name) next ≡ store_names (defined ++ store ∷ []) → facts.stores ≡ stores_onto facts.names next stores
          → facts.stores ≡ next ++ flat_map (kept_store facts) stores)
          → facts.stores ≡ before ++ ((if b then [] else store_with store (statement_elements facts store) ∷ []) ++ flat_map (kept_store facts) stores)
      by true is items at rest =
          rest before
          (sym (append-nil (map (λ (s : Store). s.name) before)) ∙ sym (kept true is) ∙ names_next defined store (map (λ (s : Store). s.name) before) names) at
      by false is items at rest =
          let next = before ++ store_of facts.names before store ∷ [] in
          let behind = onto next stores in
          let all_before : facts.stores ≡ before ++ (store_of facts.names before store ∷ behind.more) = at ∙ behind.is ∙ append_assoc before (store_of facts.names before store ∷ []) behind.more in
          rest next
          (map-append (λ (s : Store). s.name) before (store_of facts.names before store ∷ [])
          ∙ sym (kept false is) ∙ names_next defined store (map (λ (s : Store). s.name) before) names) at
          ∙ append_assoc before (store_of facts.names before store ∷ []) (flat_map (kept_store facts) stores)
          ∙ ap (λ (es : List Element). before ++ (store_with store es ∷ flat_map (kept_store facts) stores))
          (sym (items_before before (store_of facts.names before store ∷ behind.more) store.items all_before items))

-- the stores of a program that isn't refused are those of its statements
pub program_stores : (program : Program) → IsUnrefused program → stores_of program ≡ flat_map (kept_store (known program)) program.stores
unfolding known stores_of
program_stores program whole = stores_kept (known program) (stated program) [] [] program.stores refl whole.stores refl

stores_sized : (facts : Known) (stores : List StoreDef) → map element_count (flat_map (kept_store facts) stores) ≡ flat_map (store_size facts) stores
stores_sized facts [] = refl
stores_sized facts (store ∷ stores) =
    map-append element_count (kept_store facts store) (flat_map (kept_store facts) stores)
    ∙ (λ j. by (is_dropped store) j ++ stores_sized facts stores j)
  where
    by : (b : Bool) → map element_count (if b then [] else store_with store (statement_elements facts store) ∷ [])
        ≡ (if b then [] else length (statement_elements facts store) ∷ [])
    by true = refl
    by false = refl

nothing_ascii : IsAscii []
nothing_ascii i = omega arith

space_ascii : IsAscii (32 ∷ [])
space_ascii zero = omega arith
space_ascii (suc i) = nothing_ascii i

pub space_chars : chars (32 ∷ []) ≡ 32 ∷ []
space_chars = chars-IsAscii (32 ∷ []) space_ascii

-- the key dictionary has the characters of its names, and a space between each two
pub joined_size : (name : List ℕ) (names : List (List ℕ)) → All IsOwnKey (name ∷ names) → length (chars (join_with_byte 32 (name ∷ names))) ≡ names_size (name ∷ names) + length names
joined_size name [] own = omega arith
joined_size name (next ∷ names) own =
    let here = All-head IsOwnKey name (next ∷ names) own in
    let rest = joined_size next names (All-tail IsOwnKey name (next ∷ names) own) in
    omega (
      arith,
      rest,
      ap length space_chars,
      ap length (chars-append name (32 ∷ join_with_byte 32 (next ∷ names)) here.word.utf8),
      length-append (chars name) (chars (32 ∷ join_with_byte 32 (next ∷ names))),
      ap length (chars-append (32 ∷ []) (join_with_byte 32 (next ∷ names)) space_text),
      length-append (chars (32 ∷ [])) (chars (join_with_byte 32 (next ∷ names))),
    )

pub dictionary_sized : (keys : List (List ℕ)) → All IsOwnKey keys → dictionary_size keys ≡ map element_count (dictionary_stores keys)
dictionary_sized [] own = refl
dictionary_sized (name ∷ names) own =
    ap (λ (n : ℕ). n ∷ []) (sym (length-map (chars (join_with_byte 32 (name ∷ names))) element.Char ∙ joined_size name names own))

pub values_sized : (values : List (List ℕ)) → map length values ≡ map element_count (map value_store values)
values_sized [] = refl
values_sized (value ∷ values) = λ j. sym (length-map value element.Char) j ∷ values_sized values j

-- if a program is read and isn't refused, the sizes that are counted over all statements are the sizes of the stores in
-- the file, in their order
pub sizes_counted : (program : Program) → IsRead program → IsUnrefused program
    → sizes (known program) (in_line_order program.stores (all_rules program)) ≡ map element_count (compiled_stores program)
unfolding known names_of values_of stores_of
sizes_counted program read whole =
    let statements = in_line_order program.stores (all_rules program) in
    let items : flat_map items_of statements ≡ source_items program = items_in_order program.stores (all_rules program) in
    let stores : flat_map (statement_size (known program)) statements ≡ map element_count (stores_of program) =
    stores_in_order (known program) program.stores (all_rules program)
    ∙ sym (ap (map element_count) (program_stores program whole) ∙ stores_sized (known program) program.stores) in
    let keys : distinct_onto same_name [] (flat_map key_names (flat_map items_of statements)) ≡ (names_of program).keys =
    ap (λ (xs : List SrcItem). distinct_onto same_name [] (flat_map key_names xs)) items in
    let values : distinct_onto bytes_eq [] (flat_map values_of_statement statements) ≡ values_of program =
    ap (distinct_onto bytes_eq []) (values_in_order program.stores (all_rules program)) in
    (λ j. stores j ++ (dictionary_size (keys j) ++ map length (values j)))
    ∙ (λ j. map element_count (stores_of program) ++ (dictionary_sized (names_of program).keys (own_keys_read program read.statements) j ++ values_sized (values_of program) j))
    ∙ sym (map-append element_count (stores_of program) (dictionary_stores (names_of program).keys ++ map value_store (values_of program))
    ∙ ap (λ (ns : List ℕ). map element_count (stores_of program) ++ ns) (map-append element_count (dictionary_stores (names_of program).keys) (map value_store (values_of program))))
