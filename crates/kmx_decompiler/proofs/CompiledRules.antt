-- The rules and groups of a file that a program compiles to have no causes.
use Rattle.std.proofs.Common.{◌≡◌, ℕ, suc, zero, ◌+◌, Bool, true, false, not, ◌&&◌, ◌||◌, List, [], ◌∷◌, ◌++◌, length, map, Option, None, Some, refl, sym, ◌∙◌, ap, arith, if◌then◌else◌}
use Rattle.std.specs.Prelude.{All, nat_eq, nat_lt, filter, find, flat_map, option_to_list, slice_get, unwrap_or}
use Rattle.std.specs.List.{list_all, list_any, AllByRecursion}
use Rattle.std.specs.Option.{option_or}
use Rattle.std.proofs.lemmas.Bool.{and_parts, or_parts, ne_eqb, le-ltb, cond_both}
use Rattle.std.proofs.lemmas.List.Elements.{All-head, All-tail, All-from_recursion, recursion_from_All}
use Rattle.std.proofs.lemmas.List.Folds.{list_all-append, list_any-append}
use Rattle.std.proofs.lemmas.List.Sorted.{All-permutation}
use Rattle.kmn_base.specs.declared.units.TheConstants.{SENTINEL}
use Rattle.kmn_base.specs.declared.items.Element.{Element}
use Rattle.kmn_base.specs.declared.items.Element.TheVariants as element
use Rattle.kmn_base.specs.declared.keys.RuleKey.{RuleKey}
use Rattle.kmn_base.specs.declared.keys.RuleKey.TheVariants as key
use Rattle.kmn_base.proofs.Options.{option_or-none}
use Rattle.kmn_base.proofs.Elements.{All-append_parts}
use Rattle.virtual_keys.specs.Dictionary.{is_nameable}
use Rattle.rule_model.specs.declared.program.SrcItem.{SrcItem}
use Rattle.rule_model.specs.declared.program.SrcItem.TheVariants as source
use Rattle.rule_model.specs.declared.program.RuleKind.{RuleKind}
use Rattle.rule_model.specs.declared.program.RuleKind.TheVariants.{Plain, OnMatch, OnNoMatch}
use Rattle.rule_model.specs.declared.program.RuleDef.{RuleDef}
use Rattle.rule_model.specs.declared.program.GroupDef.{GroupDef}
use Rattle.rule_model.specs.declared.program.Program.{Program}
use Rattle.rule_model.specs.declared.tables.Pat.{Pat}
use Rattle.rule_model.specs.declared.tables.Out.{Out}
use Rattle.rule_model.specs.declared.tables.Out.TheVariants as output
use Rattle.rule_model.specs.declared.tables.Rule.{Rule}
use Rattle.rule_model.specs.Match.{element_at}
use Rattle.rule_model.specs.Hold.{key_of_element}
use Rattle.rule_model.specs.Naming.{names_of, stores_of, rule_items, elements_named, mark_number}
use Rattle.rule_model.specs.Src.{is_plain_kind, is_plain, is_on_match, is_on_nomatch, value_elements}
use Rattle.rule_model.specs.Tab.{elements_of}
use Rattle.compile_laws.specs.Numbers.{Numbers, numbers_of, number_of_store, number_of_value}
use Rattle.compile_laws.specs.Compiles.{file_pattern, element_outs, element_outs_if_any, file_output, or_nul, has_halves, half_key, file_record, key_records, records_from, own_key, keyed_records, rule_records, statement_outputs, file_group}
use Rattle.compile_laws.specs.Ordered.{in_order, ordered_group}
use Rattle.compile_laws.specs.WellNamed.{is_store, is_fixed, is_known_pattern, is_known_output}
use Rattle.compile_laws.proofs.Linked.{is_value}
use Rattle.compile_laws.proofs.Dictionary.{read_chars}
use Rattle.compile_laws.proofs.Known.{has_values, KnownRule, KnownStatement, KnownGroup}
use Rattle.compile_laws.proofs.Ordered.{in_order_permutes}
use Rattle.rule_model.specs.Patterns.{is_matched, is_nul}
use Rattle.kmx_format.specs.TablesOf.{rule_without_place, group_without_places}
use Rattle.kmn_parser.specs.ProgramLaws.{IsCharacter, IsReadItem}
use Rattle.store_table.specs.Known.{known}
use Rattle.item_checker.specs.Items.{is_no_character, is_pattern_item, context_item_code, context_code, key_code, rule_output_code, rule_code}
use Rattle.rule_checker.specs.Refused.{IsRead}
use Rattle.store_table.specs.First.{first_code}
use Rattle.rule_checker.proofs.Accepted.{IsUnrefused}
use Rattle.rule_checker.proofs.Numbers.{has_keys, has_marks}
use Rattle.rule_checker.proofs.Elements.{IsSoundElement, found_sound, stated_sound}
use Rattle.kmn_parser.specs.Names.{is_inner}
use Rattle.kmn_parser.specs.Spelled.{IsSpelledName, IsSpelledValue}
use Rattle.decompile_program.specs.Items.{Names}
use Rattle.decompile_program.specs.WrittenOut.{has_key_name}
use Rattle.decompile_program.proofs.Choosing.{all_join}
use Rattle.kmx_decompiler.specs.Causes.{is_far_mark, is_unspelled_key, is_system_store, names_system_store, have_both_quotes, is_unspelled_value, has_unspelled_value, is_unspelled_pattern, is_unspelled_output, stands_behind_match, is_unspelled_context}
use Rattle.kmx_decompiler.specs.Written.{IsWrittenItem, is_allowed_in_context, has_late_item, is_nul_item, IsWrittenContext, IsWrittenRule}
use Rattle.kmx_decompiler.proofs.CompiledElements.{IsFine, IsFineStore, found_fine, key_named, mark_near}
use Rattle.kmx_decompiler.proofs.Sayable.{IsSayableRule, IsSayableGroup}

characters-alone : (cs : List ℕ) → list_any is_no_character (map element.Char cs) ≡ false
characters-alone [] = refl
characters-alone (c ∷ cs) = characters-alone cs

-- if a value can be quoted, it has a spelling
value-fine : (value : List ℕ) → IsSpelledValue value → is_unspelled_value (map element.Char value) ≡ false
value-fine value ok =
    (λ i. characters-alone value i || (not (list_all is_inner (read_chars value i)) || have_both_quotes (read_chars value i)))
    ∙ (λ i. not (ok.in_line i) || ok.one_quote i)

character-key : (c : ℕ) → IsCharacter c → not (is_nameable c) ≡ false
character-key c is = λ i. not (is.valid i && not (ne_eqb c 0 is.not_first i || ne_eqb c SENTINEL is.not_last i))

-- contexts
module _ (numbers : Numbers) where
  matched-same : (item : SrcItem) → is_matched (file_pattern numbers item) ≡ is_pattern_item item
  matched-same (source.Char c) = refl
  matched-same (source.Dead name) = refl
  matched-same (source.Any store) = refl
  matched-same (source.NotAny store) = refl
  matched-same (source.Index store offset) = refl
  matched-same (source.ContextAt offset) = refl
  matched-same (source.Equal store value) = refl
  matched-same (source.Unequal store value) = refl
  matched-same item = refl

  order-same : (matched : Bool) (items : List SrcItem) → stands_behind_match matched (map (file_pattern numbers) items) ≡ has_late_item matched items
  order-same matched [] = refl
  order-same matched (item ∷ items) =
      (λ i. (matched && not (matched-same item i)) || stands_behind_match (matched || matched-same item i) (map (file_pattern numbers) items))
      ∙ (λ i. (matched && not (is_pattern_item item)) || order-same (matched || is_pattern_item item) items i)

  nul-same : (before : List SrcItem) (item : SrcItem) → is_allowed_in_context item ≡ true → context_item_code before item ≡ None → is_nul (file_pattern numbers item) ≡ is_nul_item item
  nul-same before (source.Char c) stands code = refl
  nul-same before (source.Dead name) stands code = refl
  nul-same before (source.Any store) stands code = refl
  nul-same before (source.NotAny store) stands code = refl
  nul-same before (source.Index store offset) stands code = refl
  nul-same before (source.ContextAt offset) stands code = refl
  nul-same before (source.Equal store value) stands code = refl
  nul-same before (source.Unequal store value) stands code = refl
  nul-same before (source.SystemEqual id value) stands code = refl
  nul-same before (source.SystemUnequal id value) stands code = refl
  nul-same before source.Nul stands code = refl
  nul-same before source.OutOfProfile stands code = absurd (cc)
  nul-same before item stands code = absurd (cc)

  longer : (b : Bool) (x : Pat) (y : SrcItem) (xs : List Pat) (ys : List SrcItem) → length xs ≡ length ys → length (if b then x ∷ xs else xs) ≡ length (if b then y ∷ ys else ys)
  longer true x y xs ys e = ap suc e
  longer false x y xs ys e = e

  nul-count : (before items : List SrcItem) → list_all is_allowed_in_context items ≡ true → context_code before items ≡ None
      → length (filter is_nul (map (file_pattern numbers) items)) ≡ length (filter is_nul_item items)
  nul-count before [] stands code = refl
  nul-count before (item ∷ items) stands code =
      let s = and_parts (is_allowed_in_context item) (list_all is_allowed_in_context items) stands in
      let c = option_or-none (context_item_code before item) (context_code (before ++ item ∷ []) items) code in
      let rest = nul-count (before ++ item ∷ []) items s.1 c.1 in
      (λ i. length (if nul-same before item s.0 c.0 i then file_pattern numbers item ∷ filter is_nul (map (file_pattern numbers) items) else filter is_nul (map (file_pattern numbers) items)))
      ∙ longer (is_nul_item item) (file_pattern numbers item) item (filter is_nul (map (file_pattern numbers) items)) (filter is_nul_item items) rest

-- the known facts about the names of a file: it has the key names of the program, named stores are ordinary ones, values are the
-- elements of their stores, and the elements of stores have spellings
pub record AreNamesOf (program : Program) (names : Names) : Type 0 where
  pub keys : names.keys ≡ (names_of program).keys
  pub ordinary : (name : List ℕ) → IsSpelledName name → is_store program name ≡ true → is_system_store (slice_get names.elements (number_of_store (numbers_of program) name)) ≡ false
  pub valued : (value : List ℕ) → is_value program value ≡ true → elements_of names.elements (number_of_value (numbers_of program) value) ≡ value_elements value
  pub fine : All (IsFineStore program names keys) (stores_of program)

module _ (program : Program) (read : IsRead program) (whole : IsUnrefused program) (names : Names) (are : AreNamesOf program names) where
  abbrev numbers : Numbers
  numbers = numbers_of program

  store-fine : (name : List ℕ) → IsSpelledName name → is_store program name ≡ true → names_system_store names (number_of_store numbers name ∷ []) ≡ false
  store-fine name ok stated = λ i. are.ordinary name ok stated i || false

  value-there : (value : List ℕ) → IsSpelledValue value → is_value program value ≡ true → has_unspelled_value names (number_of_value numbers value ∷ []) ≡ false
  value-there value ok stated = (λ i. is_unspelled_value (are.valued value stated i) || false) ∙ (λ i. value-fine value ok i || false)

  mark-fine : (name : List ℕ) → has_marks program (source.Dead name) ≡ true → is_far_mark (mark_number (names_of program) name) ≡ false
  mark-fine name among = mark_near program names are.keys whole name among

  pattern-fine : (item : SrcItem) → IsWrittenItem item → is_known_pattern program item ≡ true → has_values program item ≡ true → has_marks program item ≡ true
      → is_unspelled_pattern names (file_pattern numbers item) ≡ false
  pattern-fine (source.Dead name) ok stated values marks = λ i. mark-fine name marks i || false
  pattern-fine (source.Any store) ok stated values marks = λ i. store-fine store ok stated i || false
  pattern-fine (source.NotAny store) ok stated values marks = λ i. store-fine store ok stated i || false
  pattern-fine (source.Index store offset) ok stated values marks = λ i. store-fine store ok stated i || false
  pattern-fine (source.Equal store value) ok stated values marks =
      λ i. store-fine store ok.0 stated i || value-there value ok.1 (and_parts (is_value program value) true values).0 i
  pattern-fine (source.Unequal store value) ok stated values marks =
      λ i. store-fine store ok.0 stated i || value-there value ok.1 (and_parts (is_value program value) true values).0 i
  pattern-fine (source.SystemEqual id value) ok stated values marks = value-there value ok (and_parts (is_value program value) true values).0
  pattern-fine (source.SystemUnequal id value) ok stated values marks = value-there value ok (and_parts (is_value program value) true values).0
  pattern-fine (source.Char c) ok stated values marks = refl
  pattern-fine (source.ContextAt offset) ok stated values marks = refl
  pattern-fine item ok stated values marks = refl

  patterns-fine : (items : List SrcItem) → All IsWrittenItem items → list_all (is_known_pattern program) items ≡ true → list_all (has_values program) items ≡ true → list_all (has_marks program) items ≡ true
      → list_any (is_unspelled_pattern names) (map (file_pattern numbers) items) ≡ false
  patterns-fine [] ok stated values marks = refl
  patterns-fine (item ∷ items) ok stated values marks =
      let s = and_parts (is_known_pattern program item) (list_all (is_known_pattern program) items) stated in
      let v = and_parts (has_values program item) (list_all (has_values program) items) values in
      let m = and_parts (has_marks program item) (list_all (has_marks program) items) marks in
      λ i. pattern-fine item (All-head IsWrittenItem item items ok) s.0 v.0 m.0 i || patterns-fine items (All-tail IsWrittenItem item items ok) s.1 v.1 m.1 i

  context-fine : (items : List SrcItem) → IsWrittenContext items → context_code [] items ≡ None → list_any (is_unspelled_pattern names) (map (file_pattern numbers) items) ≡ false
      → is_unspelled_context names (map (file_pattern numbers) items) ≡ false
  context-fine items ok code fine =
      let order : stands_behind_match false (map (file_pattern numbers) items) ≡ false = order-same numbers false items ∙ ok.order in
      let count = nul-count numbers [] items ok.stand code in
      let most = ok.one_nul in
      let one : nat_lt 1 (length (filter is_nul (map (file_pattern numbers) items))) ≡ false = le-ltb 1 (length (filter is_nul (map (file_pattern numbers) items))) (omega (arith, count, most)) in
      λ i. fine i || (order i || one i)

  -- outputs
  abbrev OutsFine : List Out → Type 0
  OutsFine outs = list_any (is_unspelled_output names) outs ≡ false

  outs-join : (xs ys : List Out) → OutsFine xs → OutsFine ys → OutsFine (xs ++ ys)
  outs-join xs ys a b = list_any-append (is_unspelled_output names) xs ys ∙ (λ i. a i || b i)

  abbrev Fine : Element → Type 0
  Fine = IsFine program names are.keys

  element-fine : (e : Element) → Fine e → OutsFine (element_outs e)
  element-fine (element.Char c) h = refl
  element-fine (element.Mark m) h = λ i. (h i || false) || false
  element-fine (element.Key flags code) h = refl

  elements-fine : (es : List Element) → All Fine es → OutsFine (flat_map element_outs es)
  elements-fine [] h = refl
  elements-fine (e ∷ es) h = outs-join (element_outs e) (flat_map element_outs es) (element-fine e (All-head Fine e es h)) (elements-fine es (All-tail Fine e es h))

  found-fine : (es : List Element) → All Fine es → (place : Option ℕ) → OutsFine (element_outs_if_any (element_at es place))
  found-fine es h None = refl
  found-fine [] h (Some place) = refl
  found-fine (e ∷ es) h (Some zero) = element-fine e (All-head Fine e es h)
  found-fine (e ∷ es) h (Some (suc place)) = found-fine es (All-tail Fine e es h) (Some place)

  abbrev named_fine : (name : List ℕ) → All Fine (elements_named (stores_of program) name)
  named_fine name = found_fine program names are.keys (stores_of program) are.fine name

  output-fine : (count : ℕ) (place : Option ℕ) (item : SrcItem) → IsWrittenItem item → is_known_output program count item ≡ true → has_values program item ≡ true → has_marks program item ≡ true
      → OutsFine (file_output numbers count place item)
  output-fine count place (source.Dead name) ok stated values marks = λ i. (mark-fine name marks i || false) || false
  output-fine count place (source.Index store offset) ok stated values marks = by (nat_eq offset (count + 1)) stated
    where
      by : (b : Bool) → (if b then is_fixed program store else is_store program store) ≡ true
          → OutsFine (if b then element_outs_if_any (element_at (elements_named (stores_of program) store) place) else output.Index (number_of_store numbers store) offset ∷ [])
      by true h = found-fine (elements_named (stores_of program) store) (named_fine store) place
      by false h = λ i. (store-fine store ok h i || false) || false
  output-fine count place (source.Outs store) ok stated values marks = elements-fine (elements_named (stores_of program) store) (named_fine store)
  output-fine count place (source.Set store value) ok stated values marks =
      λ i. (store-fine store ok.0 stated i || value-there value ok.1 (and_parts (is_value program value) true values).0 i) || false
  output-fine count place (source.SetSystem id value) ok stated values marks = λ i. value-there value ok (and_parts (is_value program value) true values).0 i || false
  output-fine count place (source.Save store) ok stated values marks = λ i. (store-fine store ok stated i || false) || false
  output-fine count place (source.Reset store) ok stated values marks = λ i. (store-fine store ok stated i || false) || false
  output-fine count place item ok stated values marks = refl

  outputs-fine : (count : ℕ) (place : Option ℕ) (items : List SrcItem) → All IsWrittenItem items → list_all (is_known_output program count) items ≡ true → list_all (has_values program) items ≡ true
      → list_all (has_marks program) items ≡ true → OutsFine (flat_map (file_output numbers count place) items)
  outputs-fine count place [] ok stated values marks = refl
  outputs-fine count place (item ∷ items) ok stated values marks =
      let s = and_parts (is_known_output program count item) (list_all (is_known_output program count) items) stated in
      let v = and_parts (has_values program item) (list_all (has_values program) items) values in
      let m = and_parts (has_marks program item) (list_all (has_marks program) items) marks in
      outs-join (file_output numbers count place item) (flat_map (file_output numbers count place) items)
      (output-fine count place item (All-head IsWrittenItem item items ok) s.0 v.0 m.0) (outputs-fine count place items (All-tail IsWrittenItem item items ok) s.1 v.1 m.1)

  some-fine : (outs : List Out) → OutsFine outs → OutsFine (or_nul outs)
  some-fine [] h = refl
  some-fine (o ∷ outs) h = h

  -- the properties of a rule that is read, written and not refused
  pub record IsSaidRule (rule : RuleDef) : Type 0 where
    pub written : IsWrittenRule rule
    pub items : All IsReadItem (rule_items rule)
    pub keys : list_all (has_keys program) (rule_items rule) ≡ true
    pub marks : list_all (has_marks program) (rule_items rule) ≡ true
    pub code : rule_code (known program) rule.kind rule ≡ None

  module _ (test : SrcItem → Bool) (rule : RuleDef) where
    items-pass : list_all test (rule_items rule) ≡ true → (list_all test rule.context ≡ true) × (list_all test (option_to_list rule.key) ≡ true) × (list_all test rule.output ≡ true)
    items-pass h =
        let one = and_parts (list_all test rule.context) (list_all test (option_to_list rule.key ++ rule.output)) (sym (list_all-append test rule.context (option_to_list rule.key ++ rule.output)) ∙ h) in
        let two = and_parts (list_all test (option_to_list rule.key)) (list_all test rule.output) (sym (list_all-append test (option_to_list rule.key) rule.output) ∙ one.1) in
        (one.0, two.0, two.1)

  module _ (P : SrcItem → Type 0) (rule : RuleDef) where
    items-have : All P (rule_items rule) → All P rule.context × All P (option_to_list rule.key) × All P rule.output
    items-have h =
        let one = All-append_parts P rule.context (option_to_list rule.key ++ rule.output) h in
        let two = All-append_parts P (option_to_list rule.key) rule.output one.1 in
        (one.0, two.0, two.1)

  -- keys
  key-fine : (item : Option SrcItem) → All IsReadItem (option_to_list item) → All IsWrittenItem (option_to_list item) → list_all (has_keys program) (option_to_list item) ≡ true
      → is_unspelled_key names (own_key numbers item) ≡ false
  key-fine None is ok among = refl
  key-fine (Some (source.Char c)) is ok among = character-key c (All-head IsReadItem (source.Char c) [] is)
  key-fine (Some (source.Key k)) is ok among =
      λ i. not (key_named program names are.keys k (All-head IsWrittenItem (source.Key k) [] ok) (and_parts (has_keys program (source.Key k)) true among).0 i)
  key-fine (Some item) is ok among = refl

  element-key-fine : (e : Element) → IsSoundElement e → Fine e → is_unspelled_key names (unwrap_or (key_of_element e) key.Any) ≡ false
  element-key-fine (element.Char c) is h = character-key c is
  element-key-fine (element.Mark m) is h = refl
  element-key-fine (element.Key flags code) is h = (or_parts (not (has_key_name names.keys code)) _ h).0

  -- if a key has a spelling, each half of the key has one
  half-fine : (half : ℕ) (k : RuleKey) → is_unspelled_key names k ≡ false → is_unspelled_key names (half_key half k) ≡ false
  half-fine half key.Any h = h
  half-fine half (key.Char c) h = h
  half-fine half (key.Virtual flags code) h = h

  -- the records of a rule
  module _ (using_keys : Bool) (rule : RuleDef) (stated : KnownRule program using_keys rule) (said : IsSaidRule rule) (code : context_code [] rule.context ≡ None) where
    record-fine : (place : Option ℕ) (half : ℕ) (k : RuleKey) → is_unspelled_key names k ≡ false → IsSayableRule names (file_record numbers rule place half k)
    record-fine place half k h =
        let ok = items-have IsWrittenItem rule said.written.items in
        let marks = items-pass (has_marks program) rule said.marks in
        record {
          key = h;
          output = some-fine (flat_map (file_output numbers (length rule.context) place) rule.output)
              (outputs-fine (length rule.context) place rule.output ok.2 stated.output stated.output_values marks.2);
          context = context-fine rule.context said.written.context code (patterns-fine rule.context ok.0 stated.context stated.context_values marks.0);
        }

    key-fit : (place : Option ℕ) (k : RuleKey) → is_unspelled_key names k ≡ false → AllByRecursion (IsSayableRule names) (key_records numbers rule place k)
    key-fit place k h =
        cond_both (has_halves numbers.cased k) _ _ (AllByRecursion (IsSayableRule names))
        (λ e. (record-fine place 0 (half_key 0 k) (half-fine 0 k h), (record-fine place 1 (half_key 1 k) (half-fine 1 k h), tt))) (λ e. (record-fine place 0 k h, tt))

    store-records : (place : ℕ) (es : List Element) → All IsSoundElement es → All Fine es → AllByRecursion (IsSayableRule names) (records_from numbers rule place es)
    store-records place [] sound fine = tt
    store-records place (e ∷ es) sound fine =
        let wanted : RuleKey = unwrap_or (key_of_element e) key.Any in
        all_join (IsSayableRule names) (key_records numbers rule (Some place) wanted) (records_from numbers rule (place + 1) es)
        (key-fit (Some place) wanted (element-key-fine e (All-head IsSoundElement e es sound) (All-head Fine e es fine)))
        (store-records (place + 1) es (All-tail IsSoundElement e es sound) (All-tail Fine e es fine))

    keyed-fine : (item : Option SrcItem) → All IsReadItem (option_to_list item) → All IsWrittenItem (option_to_list item) → list_all (has_keys program) (option_to_list item) ≡ true
        → AllByRecursion (IsSayableRule names) (keyed_records numbers rule item)
    keyed-fine None is ok among = key-fit None (own_key numbers None) (key-fine None is ok among)
    keyed-fine (Some (source.Any store)) is ok among =
        store-records 0 (elements_named (stores_of program) store) (found_sound (stores_of program) (stated_sound program read whole) store) (named_fine store)
    keyed-fine (Some item) is ok among = key-fit None (own_key numbers (Some item)) (key-fine (Some item) is ok among)

    rule-fine : AllByRecursion (IsSayableRule names) (rule_records numbers rule)
    rule-fine =
        let is = items-have IsReadItem rule said.items in
        let ok = items-have IsWrittenItem rule said.written.items in
        let among = items-pass (has_keys program) rule said.keys in
        keyed-fine rule.key is.1 ok.1 among.1

  -- if a plain rule is not refused, no item of its context is refused
  plain-context : (rule : RuleDef) (kind : RuleKind) → is_plain_kind kind ≡ true → rule_code (known program) kind rule ≡ None → context_code [] rule.context ≡ None
  plain-context rule Plain is code =
      (option_or-none (context_code [] rule.context) (option_or (key_code (known program) rule.key) (first_code (rule_output_code (known program) rule) rule.output)) code).0
  plain-context rule OnMatch is code = absurd (cc)
  plain-context rule OnNoMatch is code = absurd (cc)

  abbrev IsSaidPlain : RuleDef → Type 0
  IsSaidPlain rule = IsSaidRule rule × (is_plain rule ≡ true)

  plain-said : (rules : List RuleDef) → AllByRecursion IsSaidRule rules → AllByRecursion IsSaidPlain (filter is_plain rules)
  plain-said [] h = tt
  plain-said (rule ∷ rules) h = by (is_plain rule) refl (plain-said rules h.1)
    where
      by : (b : Bool) → is_plain rule ≡ b → AllByRecursion IsSaidPlain (filter is_plain rules) → AllByRecursion IsSaidPlain (if b then rule ∷ filter is_plain rules else filter is_plain rules)
      by true is rest = ((h.0, is), rest)
      by false is rest = rest

  rules-fine : (using_keys : Bool) (rules : List RuleDef) → AllByRecursion (KnownRule program using_keys) rules → AllByRecursion IsSaidPlain rules
      → AllByRecursion (IsSayableRule names) (flat_map (rule_records numbers) rules)
  rules-fine using_keys [] stated said = tt
  rules-fine using_keys (rule ∷ rules) stated said =
      all_join (IsSayableRule names) (rule_records numbers rule) (flat_map (rule_records numbers) rules)
      (rule-fine using_keys rule stated.0 said.0.0 (plain-context rule rule.kind said.0.1 said.0.0.code)) (rules-fine using_keys rules stated.1 said.1)

  -- match and nomatch
  abbrev SaidIfAny : Option RuleDef → Type 0
  SaidIfAny None = Unit {0}
  SaidIfAny (Some rule) = IsSaidRule rule

  found-said : (test : RuleDef → Bool) (rules : List RuleDef) → AllByRecursion IsSaidRule rules → SaidIfAny (find test rules)
  found-said test [] h = tt
  found-said test (rule ∷ rules) h = by (test rule) (found-said test rules h.1)
    where
      by : (b : Bool) → SaidIfAny (find test rules) → SaidIfAny (if b then Some rule else find test rules)
      by true rest = h.0
      by false rest = rest

  statement-fine : (o : Option RuleDef) → KnownStatement program o → SaidIfAny o → OutsFine (statement_outputs numbers o)
  statement-fine None stated said = refl
  statement-fine (Some rule) stated said =
      let ok = items-have IsWrittenItem rule said.written.items in
      let marks = items-pass (has_marks program) rule said.marks in
      some-fine (flat_map (file_output numbers 0 None) rule.output) (outputs-fine 0 None rule.output ok.2 stated.0 stated.1 marks.2)

  placeless : (rules : List Rule) → AllByRecursion (IsSayableRule names) rules → AllByRecursion (IsSayableRule names) (map rule_without_place rules)
  placeless [] h = tt
  placeless (rule ∷ rules) h = (record { key = h.0.key; output = h.0.output; context = h.0.context }, placeless rules h.1)

  pub group_fine : (group : GroupDef) → KnownGroup program group → AllByRecursion IsSaidRule group.rules → IsSayableGroup names (group_without_places (ordered_group (file_group numbers group)))
  group_fine group stated said =
      let records : List Rule = flat_map (rule_records numbers) (filter is_plain group.rules) in
      record {
        on_match = statement-fine (find is_on_match group.rules) stated.on_match (found-said is_on_match group.rules said);
        on_nomatch = statement-fine (find is_on_nomatch group.rules) stated.on_nomatch (found-said is_on_nomatch group.rules said);
        rules = placeless (in_order records)
            (recursion_from_All (IsSayableRule names) (in_order records)
            (All-permutation (IsSayableRule names) records (in_order records) (in_order_permutes records)
            (All-from_recursion (IsSayableRule names) records (rules-fine group.using_keys (filter is_plain group.rules) stated.rules (plain-said group.rules said)))));
      }
