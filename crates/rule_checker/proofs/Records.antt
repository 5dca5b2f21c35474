-- The records of an accepted program's rules, and its groups, can be written.
use Rattle.std.proofs.Common.{◌≡◌, ◌≢◌, ℕ, ◌+◌, ◌^◌, ◌<◌, Bool, true, false, List, [], ◌∷◌, ◌++◌, length, Option, Some, None, is_some, unwrap_or, refl, sym, ap, subst, ◌∙◌, arith, if◌then◌else◌}
use Rattle.std.specs.Prelude.{All, IfSome, flat_map, filter, find, nat_eq, option_to_list, ◌||◌}
use Rattle.std.specs.List.{list_all, list_any}
use Rattle.std.specs.Option.{option_or}
use Rattle.std.proofs.lemmas.Bool.{and_parts, or_parts}
use Rattle.std.proofs.lemmas.Bool.Decides.{nat_tests}
use Rattle.std.proofs.lemmas.List.Elements.{All-nil, All-cons, All-head, All-tail, All-append}
use Rattle.std.proofs.lemmas.List.Folds.{list_all-append}
use Rattle.std.proofs.lemmas.List.Sorted.{All-permutation}
use Rattle.kmn_base.specs.declared.codes.Code.TheVariants.{C10, C13}
use Rattle.kmn_base.specs.declared.items.Element.{Element}
use Rattle.kmn_base.specs.declared.items.Element.TheVariants as element
use Rattle.kmn_base.specs.declared.keys.RuleKey.{RuleKey}
use Rattle.kmn_base.specs.declared.keys.RuleKey.TheVariants as key
use Rattle.kmn_base.proofs.Options.{option_or-none}
use Rattle.rule_model.specs.declared.program.SrcItem.{SrcItem}
use Rattle.rule_model.specs.declared.program.SrcItem.TheVariants as source
use Rattle.rule_model.specs.declared.program.RuleDef.{RuleDef}
use Rattle.rule_model.specs.declared.program.RuleKind.{RuleKind}
use Rattle.rule_model.specs.declared.program.RuleKind.TheVariants as kind
use Rattle.rule_model.specs.declared.program.GroupDef.{GroupDef}
use Rattle.rule_model.specs.declared.program.Program.{Program}
use Rattle.rule_model.specs.declared.tables.Rule.{Rule}
use Rattle.rule_model.specs.Hold.{key_of_element}
use Rattle.rule_model.specs.Naming.{stores_of, elements_named, rule_items}
use Rattle.rule_model.specs.Src.{is_plain, is_plain_kind, is_on_match, is_on_nomatch}
use Rattle.compile_laws.specs.Numbers.{numbers_of, compiled_stores}
use Rattle.compile_laws.specs.Compiles.{has_halves, half_key, file_record, key_records, records_from, own_key, keyed_records, rule_records, statement_outputs, file_group}
use Rattle.compile_laws.specs.Ordered.{in_order, ordered_group}
use Rattle.compile_laws.specs.WellNamed.{is_known_pattern, is_known_output, is_known_key, is_known_rule}
use Rattle.compile_laws.proofs.Known.{has_values, match_kind, nomatch_kind}
use Rattle.compile_laws.proofs.Ordered.{in_order_permutes}
use Rattle.kmx_format.specs.Writable.{IsWritableKey, IsWritableRule, IsWritableMatchOutput, IsWritableGroup}
use Rattle.kmx_format.proofs.WritableParts.{no_output}
use Rattle.kmn_parser.specs.ProgramLaws.{IsReadItem, IsReadRule, IsReadGroup, IsRuleKey}
use Rattle.store_table.specs.First.{first_code}
use Rattle.store_table.specs.Known.{known}
use Rattle.item_checker.specs.Items.{is_far, is_unfit_key, are_unfit_keys, is_unfit_store, is_option, context_code, key_code, rule_output_code, match_output_code, plain_code, rule_code}
use Rattle.rule_checker.specs.Refused.{IsRead}
use Rattle.rule_checker.proofs.Unrefused.{none_broken}
use Rattle.rule_checker.proofs.Accepted.{IsUnrefused}
use Rattle.rule_checker.proofs.Within.{IsShortRule}
use Rattle.rule_checker.proofs.Numbers.{has_keys}
use Rattle.rule_checker.proofs.Elements.{IsSoundElement, found_sound, stated_sound, key_sound, name_written}
use Rattle.rule_checker.proofs.Halves.{half_written}
use Rattle.rule_checker.proofs.Contexts.{context_written}
use Rattle.rule_checker.proofs.Outputs.{rule_output_written, match_output_written}

-- what is known of a rule of an accepted program, in a group that uses keys or doesn't
pub record IsSoundRule (program : Program) (using_keys : Bool) (rule : RuleDef) : Type 0 where
  pub read : IsReadRule using_keys rule
  pub named : is_known_rule program using_keys rule ≡ true
  pub values : list_all (has_values program) (rule_items rule) ≡ true
  pub keys : list_all (has_keys program) (rule_items rule) ≡ true
  pub code : rule_code (known program) rule.kind rule ≡ None
  pub short : IsShortRule (stores_of program) rule

-- if each item with a property that passes a test is mapped to items with a second property, all these items have it
All-filtered : {X Y : Type 0} (P : X → Type 0) (Q : Y → Type 0) (test : X → Bool) (f : X → List Y) → ((x : X) → P x → test x ≡ true → All Q (f x)) → (xs : List X) → All P xs → All Q (flat_map f (filter test xs))
All-filtered P Q test f each [] h = All-nil Q
All-filtered P Q test f each (x ∷ xs) h = by (test x) refl (All-filtered P Q test f each xs (All-tail P x xs h))
  where
    by : (b : Bool) → test x ≡ b → All Q (flat_map f (filter test xs)) → All Q (flat_map f (if b then x ∷ filter test xs else filter test xs))
    by true e rest = All-append Q (f x) (flat_map f (filter test xs)) (each x (All-head P x xs h) e) rest
    by false e rest = rest

abbrev IsFound : {X : Type 0} → (X → Type 0) → (X → Bool) → Option X → Type 0
IsFound P test None = Unit {0}
IsFound P test (Some x) = P x × (test x ≡ true)

all_found : {X : Type 0} (P : X → Type 0) (test : X → Bool) (xs : List X) → All P xs → IsFound P test (find test xs)
all_found P test [] h = tt
all_found P test (x ∷ xs) h = by (test x) refl (all_found P test xs (All-tail P x xs h))
  where
    by : (b : Bool) → test x ≡ b → IsFound P test (find test xs) → IsFound P test (if b then Some x else find test xs)
    by true e rest = (All-head P x xs h, e)
    by false e rest = rest

plain_is : (k : RuleKind) → is_plain_kind k ≡ true → k ≡ kind.Plain
plain_is kind.Plain h = refl
plain_is kind.OnMatch h = absurd (cc)
plain_is kind.OnNoMatch h = absurd (cc)

small_unit : (c : ℕ) → is_far c ≡ false → c < 2 ^ 16
small_unit c h = grind (arith, nat_tests, h)

module _ (program : Program) (read : IsRead program) (whole : IsUnrefused program) where
  abbrev stores : ℕ
  stores = length (compiled_stores program)

  abbrev groups : ℕ
  groups = length program.groups

  -- the parts of what is known
  record RuleParts (using_keys : Bool) (rule : RuleDef) : Type 0 where
    patterns : list_all (is_known_pattern program) rule.context ≡ true
    outputs : list_all (is_known_output program (length rule.context)) rule.output ≡ true
    context_values : list_all (has_values program) rule.context ≡ true
    output_values : list_all (has_values program) rule.output ≡ true
    key_own : list_all (has_keys program) (option_to_list rule.key) ≡ true

  rule_parts : (using_keys : Bool) (rule : RuleDef) → IsSoundRule program using_keys rule → RuleParts using_keys rule
  rule_parts using_keys rule sound =
      let one = and_parts (is_plain rule || nat_eq (length rule.context) 0) _ sound.named in
      let two = and_parts (list_all (is_known_pattern program) rule.context) _ one.1 in
      let three = and_parts (is_known_key program using_keys rule.key) (list_all (is_known_output program (length rule.context)) rule.output) two.1 in
      let items = and_parts (list_all (has_values program) rule.context) (list_all (has_values program) (option_to_list rule.key ++ rule.output)) (sym (list_all-append (has_values program) rule.context (option_to_list rule.key ++ rule.output)) ∙ sound.values) in
      let outputs = and_parts (list_all (has_values program) (option_to_list rule.key)) (list_all (has_values program) rule.output) (sym (list_all-append (has_values program) (option_to_list rule.key) rule.output) ∙ items.1) in
      let own = and_parts (list_all (has_keys program) rule.context) (list_all (has_keys program) (option_to_list rule.key ++ rule.output)) (sym (list_all-append (has_keys program) rule.context (option_to_list rule.key ++ rule.output)) ∙ sound.keys) in
      let key_own = and_parts (list_all (has_keys program) (option_to_list rule.key)) (list_all (has_keys program) rule.output) (sym (list_all-append (has_keys program) (option_to_list rule.key) rule.output) ∙ own.1) in
      record { patterns = two.0; outputs = three.1; context_values = items.0; output_values = outputs.1; key_own = key_own.0 }

  -- a record of a plain rule
  record_written : (using_keys : Bool) (rule : RuleDef) → IsSoundRule program using_keys rule → plain_code (known program) rule ≡ None → (place : Option ℕ) (half : ℕ) (wanted : RuleKey) → IsWritableKey using_keys wanted
      → IsWritableRule stores groups using_keys (file_record (numbers_of program) rule place half wanted)
  record_written using_keys rule sound code place half wanted key =
      let codes = option_or-none (context_code [] rule.context) (option_or (key_code (known program) rule.key) (first_code (rule_output_code (known program) rule) rule.output)) code in
      let more = option_or-none (key_code (known program) rule.key) (first_code (rule_output_code (known program) rule) rule.output) codes.1 in
      let parts = rule_parts using_keys rule sound in
      let outputs = rule_output_written program read whole rule sound.short.context place sound.read.output parts.outputs parts.output_values more.1 sound.short.output in
      record {
        line = sound.read.line.last;
        key = key;
        context = context_written program read whole rule.context sound.short.context codes.0 sound.read.context parts.patterns parts.context_values;
        output = outputs.0;
        offsets = outputs.1;
      }

  -- the records of a plain rule for a key
  key_written : (using_keys : Bool) (rule : RuleDef) → IsSoundRule program using_keys rule → plain_code (known program) rule ≡ None → (place : Option ℕ) (wanted : RuleKey) → IsWritableKey using_keys wanted
      → All (IsWritableRule stores groups using_keys) (key_records (numbers_of program) rule place wanted)
  key_written using_keys rule sound code place wanted key = by (has_halves (numbers_of program).cased wanted)
    where
      one : (half : ℕ) (k : RuleKey) → IsWritableKey using_keys k → (rest : List Rule) → All (IsWritableRule stores groups using_keys) rest
          → All (IsWritableRule stores groups using_keys) (file_record (numbers_of program) rule place half k ∷ rest)
      one half k is rest more =
          All-cons (IsWritableRule stores groups using_keys) (file_record (numbers_of program) rule place half k) rest (record_written using_keys rule sound code place half k is) more

      by : (b : Bool) → All (IsWritableRule stores groups using_keys)
          (if b then file_record (numbers_of program) rule place 0 (half_key 0 wanted) ∷ file_record (numbers_of program) rule place 1 (half_key 1 wanted) ∷ []
          else file_record (numbers_of program) rule place 0 wanted ∷ [])
      by true =
          one 0 (half_key 0 wanted) (half_written using_keys 0 wanted key) (file_record (numbers_of program) rule place 1 (half_key 1 wanted) ∷ [])
          (one 1 (half_key 1 wanted) (half_written using_keys 1 wanted key) [] (All-nil (IsWritableRule stores groups using_keys)))
      by false = one 0 wanted key [] (All-nil (IsWritableRule stores groups using_keys))

  -- the key that an element of a key store stands for
  element_key : (e : Element) → IsSoundElement e → is_unfit_key e ≡ false → IsWritableKey true (unwrap_or (key_of_element e) key.Any)
  element_key (element.Char c) is fit = small_unit c fit
  element_key (element.Mark m) is fit = absurd (cc)
  element_key (element.Key flags code) is fit = (is.virtual, is.known, is.fits)

  store_records_written : (rule : RuleDef) → IsSoundRule program true rule → plain_code (known program) rule ≡ None → (place : ℕ) (elements : List Element) → All IsSoundElement elements → list_any is_unfit_key elements ≡ false
      → All (IsWritableRule stores groups true) (records_from (numbers_of program) rule place elements)
  store_records_written rule sound code place [] is fit = All-nil (IsWritableRule stores groups true)
  store_records_written rule sound code place (e ∷ elements) is fit =
      let both = or_parts (is_unfit_key e) (list_any is_unfit_key elements) fit in
      All-append (IsWritableRule stores groups true) (key_records (numbers_of program) rule (Some place) (unwrap_or (key_of_element e) key.Any)) (records_from (numbers_of program) rule (place + 1) elements)
      (key_written true rule sound code (Some place) (unwrap_or (key_of_element e) key.Any) (element_key e (All-head IsSoundElement e elements is) both.0))
      (store_records_written rule sound code (place + 1) elements (All-tail IsSoundElement e elements is) both.1)

  fit_elements : (elements : List Element) → are_unfit_keys elements ≡ false → list_any is_unfit_key elements ≡ false
  fit_elements [] h = absurd (cc)
  fit_elements (e ∷ elements) h = h

  keyed_written : (using_keys : Bool) (rule : RuleDef) → IsSoundRule program using_keys rule → plain_code (known program) rule ≡ None → (item : Option SrcItem) → is_some item ≡ using_keys
      → IfSome item (λ i. IsRuleKey i × IsReadItem i) → list_all (has_keys program) (option_to_list item) ≡ true → key_code (known program) item ≡ None
      → All (IsWritableRule stores groups using_keys) (keyed_records (numbers_of program) rule item)
  unfolding known
  keyed_written true rule sound code None keyed is own fit = absurd (cc)
  keyed_written false rule sound code None keyed is own fit = key_written false rule sound code None key.Any tt
  keyed_written false rule sound code (Some item) keyed is own fit = absurd (cc)
  keyed_written true rule sound code (Some (source.Char c)) keyed is own fit = key_written true rule sound code None (key.Char c) (small_unit c (none_broken C10 (is_far c) [] fit).0)
  keyed_written true rule sound code (Some (source.Key k)) keyed is own fit =
      let key_is = key_sound program read whole k is.1 (and_parts (has_keys program (source.Key k)) true own).0 in
      key_written true rule sound code None (own_key (numbers_of program) (Some (source.Key k))) (key_is.virtual, key_is.known, key_is.fits)
  keyed_written true rule sound code (Some (source.Any store)) keyed is own fit =
      let rows = none_broken C10 (is_unfit_store (known program) store) ((C13, is_option (known program) store) ∷ []) fit in
      store_records_written rule sound code 0 (elements_named (stores_of program) store) (found_sound (stores_of program) (stated_sound program read whole) store)
      (fit_elements (elements_named (stores_of program) store) rows.0)
  keyed_written true rule sound code (Some item) keyed is own fit = absurd is.0

  -- the records of a plain rule
  rule_written : (using_keys : Bool) (rule : RuleDef) → IsSoundRule program using_keys rule → is_plain rule ≡ true → All (IsWritableRule stores groups using_keys) (rule_records (numbers_of program) rule)
  rule_written using_keys rule sound plain =
      let is_kind = plain_is rule.kind plain in
      let code : plain_code (known program) rule ≡ None = subst (λ (k : RuleKind). rule_code (known program) k rule ≡ None) is_kind sound.code in
      let codes = option_or-none (context_code [] rule.context) (option_or (key_code (known program) rule.key) (first_code (rule_output_code (known program) rule) rule.output)) code in
      let more = option_or-none (key_code (known program) rule.key) (first_code (rule_output_code (known program) rule) rule.output) codes.1 in
      keyed_written using_keys rule sound code rule.key (sound.read.keyed is_kind) sound.read.key (rule_parts using_keys rule sound).key_own more.0

  -- the output of a match or nomatch statement, if any
  other_code : (k : RuleKind) (rule : RuleDef) → is_plain_kind k ≡ false → rule_code (known program) k rule ≡ None → first_code (match_output_code (known program)) rule.output ≡ None
  other_code kind.Plain rule other code = absurd (cc)
  other_code kind.OnMatch rule other code = code
  other_code kind.OnNoMatch rule other code = code

  not_plain : (k : RuleKind) → is_plain_kind k ≡ false → k ≢ kind.Plain
  not_plain kind.Plain other e = absurd (cc)
  not_plain kind.OnMatch other e = absurd (cc)
  not_plain kind.OnNoMatch other e = absurd (cc)

  statement_written : (using_keys : Bool) (test : RuleDef → Bool) → ((rule : RuleDef) → test rule ≡ true → is_plain rule ≡ false) → (found : Option RuleDef) → IsFound (IsSoundRule program using_keys) test found
      → IsWritableMatchOutput stores groups (statement_outputs (numbers_of program) found)
  statement_written using_keys test other None is = no_output stores groups
  statement_written using_keys test other (Some rule) is =
      let sound = is.0 in
      let not_one = other rule is.1 in
      let parts = rule_parts using_keys rule sound in
      let bare = sound.read.bare (not_plain rule.kind not_one) in
      match_output_written program read whole rule.output sound.read.output
      (subst (λ (n : ℕ). list_all (is_known_output program n) rule.output ≡ true) (ap length bare.0) parts.outputs) parts.output_values
      (other_code rule.kind rule not_one sound.code) sound.short.output

  -- a group with its records in order
  pub group_written : (group : GroupDef) → IsReadGroup group → All (IsSoundRule program group.using_keys) group.rules → IsWritableGroup stores groups (ordered_group (file_group (numbers_of program) group))
  group_written group is sound =
      let records = flat_map (rule_records (numbers_of program)) (filter is_plain group.rules) in
      record {
        name = name_written group.name is.name;
        rules = All-permutation (IsWritableRule stores groups group.using_keys) records (in_order records) (in_order_permutes records)
            (All-filtered (IsSoundRule program group.using_keys) (IsWritableRule stores groups group.using_keys) is_plain (rule_records (numbers_of program)) (rule_written group.using_keys) group.rules sound);
        on_match = statement_written group.using_keys is_on_match (λ (rule : RuleDef). match_kind rule.kind) (find is_on_match group.rules) (all_found (IsSoundRule program group.using_keys) is_on_match group.rules sound);
        on_nomatch = statement_written group.using_keys is_on_nomatch (λ (rule : RuleDef). nomatch_kind rule.kind) (find is_on_nomatch group.rules) (all_found (IsSoundRule program group.using_keys) is_on_nomatch group.rules sound);
      }
