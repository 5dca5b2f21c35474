-- The outputs of an accepted program can be written.
use Rattle.std.proofs.Common.{◌≡◌, ℕ, zero, suc, ◌+◌, ◌<◌, ◌≤◌, Bool, true, false, List, [], ◌∷◌, ◌++◌, length, map, Option, Some, None, is_some, refl, sym, ap, subst, ◌∙◌, arith, length-append, if◌then◌else◌, lit≤}
use Rattle.std.specs.Prelude.{All, flat_map, nat_eq, ◌&&◌}
use Rattle.std.specs.List.{list_all}
use Rattle.std.proofs.lemmas.Bool.{and_parts, not-false, eqb-true}
use Rattle.std.proofs.lemmas.List.Elements.{All-nil, All-cons, All-head, All-tail, All-append}
use Rattle.std.proofs.lemmas.List.Concat.{flat_map-append}
use Rattle.std.proofs.lemmas.List.Sums.{sum-map, sum_by-cons}
use Rattle.kmn_base.specs.declared.codes.Code.TheVariants.{C08, C09}
use Rattle.kmn_base.specs.declared.items.Element.{Element}
use Rattle.kmn_base.specs.declared.items.Element.TheVariants as element
use Rattle.kmn_base.specs.declared.limits.TheConstants.{CONTEXT_ITEMS, OUTPUT_ITEMS}
use Rattle.kmn_base.specs.Spelling.{IsOperand, IsSpellable}
use Rattle.kmn_base.proofs.Options.{option_or-none}
use Rattle.rule_model.specs.declared.program.SrcItem.{SrcItem}
use Rattle.rule_model.specs.declared.program.SrcItem.TheVariants as source
use Rattle.rule_model.specs.declared.program.RuleDef.{RuleDef}
use Rattle.rule_model.specs.declared.program.Program.{Program}
use Rattle.rule_model.specs.declared.tables.Pat.{Pat}
use Rattle.rule_model.specs.declared.tables.Out.{Out}
use Rattle.rule_model.specs.declared.tables.Out.TheVariants as output
use Rattle.rule_model.specs.Match.{element_at}
use Rattle.rule_model.specs.Naming.{names_of, stores_of, elements_named, mark_number}
use Rattle.compile_laws.specs.Numbers.{numbers_of, number_of_store, number_of_group, compiled_stores}
use Rattle.compile_laws.specs.Compiles.{file_pattern, file_output, file_outputs, element_outs, element_outs_if_any, or_nul}
use Rattle.compile_laws.specs.WellNamed.{is_store, is_group, is_fixed, is_known_output}
use Rattle.compile_laws.proofs.Known.{has_values}
use Rattle.kmx_format.specs.FileUnits.{unit_item_of_output}
use Rattle.kmx_format.specs.Writable.{stores_of_output, groups_of_output, sets_system_id, is_any, PointsInto, needs_context, IsWritableOutput, IsWritableMatchOutput}
use Rattle.rule_model.specs.Patterns.{is_matched}
use Rattle.kmn_parser.specs.ProgramLaws.{IsReadItem}
use Rattle.store_table.specs.First.{first_code}
use Rattle.store_table.specs.Known.{known}
use Rattle.item_checker.specs.Items.{is_pattern_item, is_any_item, points_to, misses_pattern, misses_any, index_code, key_index_code, rule_output_code, match_output_code, offset_code}
use Rattle.rule_checker.specs.Limits.{item_size, output_size}
use Rattle.rule_checker.specs.Refused.{IsRead}
use Rattle.rule_checker.proofs.Unrefused.{none_broken}
use Rattle.rule_checker.proofs.Accepted.{IsUnrefused}
use Rattle.rule_checker.proofs.Within.{few_groups}
use Rattle.rule_checker.proofs.Numbers.{group_number}
use Rattle.rule_checker.proofs.Elements.{IsSoundElement, found_sound, stated_sound, mark_operand}
use Rattle.rule_checker.proofs.Contexts.{matched, any_there, pointing, pointed, store_fits, value_fits, one_store, two_stores, only_value}
use Rattle.rule_checker.proofs.Named.{never_both}

-- the id of the layer, counted from 1, is an operand
layer_fits : (id : ℕ) → nat_eq id 33 ≡ true → IsOperand (id + 1)
layer_fits id h = let same = eqb-true id 33 h in (omega arith, omega arith)

module _ (program : Program) (read : IsRead program) (whole : IsUnrefused program) where
  abbrev stores : ℕ
  stores = length (compiled_stores program)

  abbrev groups : ℕ
  groups = length program.groups

  -- items of an output that can be written: they can be spelled, name only stores and groups of the file and no system option
  -- but the layer, are at most `most`, and each has a property
  record OutsAreWritten (P : Out → Type 0) (most : ℕ) (outs : List Out) : Type 0 where
    spelled : All (λ item. IsSpellable (unit_item_of_output item)) outs
    named : All (λ store. store < stores) (flat_map stores_of_output outs)
    systems : All (λ item. sets_system_id item ≡ true) outs
    entered : All (λ group. group < groups) (flat_map groups_of_output outs)
    fact : All P outs
    few : length outs ≤ most

  no_outs : (P : Out → Type 0) (most : ℕ) → OutsAreWritten P most []
  no_outs P most = record {
    spelled = All-nil (λ item. IsSpellable (unit_item_of_output item));
    named = All-nil (λ store. store < stores);
    systems = All-nil (λ item. sets_system_id item ≡ true);
    entered = All-nil (λ group. group < groups);
    fact = All-nil P;
    few = omega arith;
  }

  more_outs : (P : Out → Type 0) (one more : ℕ) (xs ys : List Out) → OutsAreWritten P one xs → OutsAreWritten P more ys → OutsAreWritten P (one + more) (xs ++ ys)
  more_outs P one more xs ys first rest = record {
    spelled = All-append (λ item. IsSpellable (unit_item_of_output item)) xs ys first.spelled rest.spelled;
    named = subst (All (λ store. store < stores)) (sym (flat_map-append stores_of_output xs ys)) (All-append (λ store. store < stores) (flat_map stores_of_output xs) (flat_map stores_of_output ys) first.named rest.named);
    systems = All-append (λ item. sets_system_id item ≡ true) xs ys first.systems rest.systems;
    entered = subst (All (λ group. group < groups)) (sym (flat_map-append groups_of_output xs ys)) (All-append (λ group. group < groups) (flat_map groups_of_output xs) (flat_map groups_of_output ys) first.entered rest.entered);
    fact = All-append P xs ys first.fact rest.fact;
    few = let a = first.few in let b = rest.few in omega (arith, length-append xs ys);
  }

  -- one item
  one_out : (P : Out → Type 0) (out : Out) → IsSpellable (unit_item_of_output out) → All (λ store. store < stores) (stores_of_output out) → All (λ group. group < groups) (groups_of_output out) → P out → sets_system_id out ≡ true → OutsAreWritten P 1 (out ∷ [])
  one_out P out spelled named entered fact system = record {
    spelled = All-cons (λ item. IsSpellable (unit_item_of_output item)) out [] spelled (All-nil (λ item. IsSpellable (unit_item_of_output item)));
    named = All-append (λ store. store < stores) (stores_of_output out) [] named (All-nil (λ store. store < stores));
    systems = All-cons (λ item. sets_system_id item ≡ true) out [] system (All-nil (λ item. sets_system_id item ≡ true));
    entered = All-append (λ group. group < groups) (groups_of_output out) [] entered (All-nil (λ group. group < groups));
    fact = All-cons P out [] fact (All-nil P);
    few = omega arith;
  }

  abbrev no_store : All (λ store. store < stores) []
  no_store = All-nil (λ store. store < stores)

  abbrev no_group : All (λ group. group < groups) []
  no_group = All-nil (λ group. group < groups)

  -- a property of every item that has no offset and isn't `context`
  record IsPlainFact (P : Out → Type 0) : Type 0 where
    char : (c : ℕ) → P (output.Char c)
    mark : (m : ℕ) → P (output.Mark m)
    enter : (group : ℕ) → P (output.Enter group)
    set : (store value : ℕ) → P (output.Set store value)
    set_system : (id value : ℕ) → P (output.SetSystem id value)
    save : (store : ℕ) → P (output.Save store)
    reset : (store : ℕ) → P (output.Reset store)
    nul : P output.Nul
    beep : P output.Beep
    stop : P output.Stop

  element_written : (P : Out → Type 0) → IsPlainFact P → (e : Element) → IsSoundElement e → OutsAreWritten P 1 (element_outs e)
  element_written P plain (element.Char c) is = one_out P (output.Char c) (is.valid, is.not_first, is.not_last) no_store no_group (plain.char c) refl
  element_written P plain (element.Mark m) is = one_out P (output.Mark m) is no_store no_group (plain.mark m) refl
  element_written P plain (element.Key flags code) is = no_outs P 1

  elements_written : (P : Out → Type 0) → IsPlainFact P → (elements : List Element) → All IsSoundElement elements → OutsAreWritten P (length elements) (flat_map element_outs elements)
  elements_written P plain [] is = no_outs P 0
  elements_written P plain (e ∷ elements) is =
      subst (λ n. OutsAreWritten P n (element_outs e ++ flat_map element_outs elements)) (one_more (length elements))
      (more_outs P 1 (length elements) (element_outs e) (flat_map element_outs elements) (element_written P plain e (All-head IsSoundElement e elements is)) (elements_written P plain elements (All-tail IsSoundElement e elements is)))
    where
      one_more : (n : ℕ) → 1 + n ≡ suc n
      one_more n = omega arith

  found_written : (P : Out → Type 0) → IsPlainFact P → (elements : List Element) → All IsSoundElement elements → (place : Option ℕ) → OutsAreWritten P 1 (element_outs_if_any (element_at elements place))
  found_written P plain elements is None = no_outs P 1
  found_written P plain [] is (Some place) = no_outs P 1
  found_written P plain (e ∷ elements) is (Some zero) = element_written P plain e (All-head IsSoundElement e elements is)
  found_written P plain (e ∷ elements) is (Some (suc place)) = found_written P plain elements (All-tail IsSoundElement e elements is) (Some place)

  abbrev stated_elements : (name : List ℕ) → All IsSoundElement (elements_named (stores_of program) name)
  stated_elements name = found_sound (stores_of program) (stated_sound program read whole) name

  -- a number of a group, counted from 1, is an operand
  pub group_fits : (name : List ℕ) → is_group program name ≡ true → (number_of_group (numbers_of program) name < groups) × IsOperand (number_of_group (numbers_of program) name + 1)
  group_fits name h = let lower = group_number program name h in let few = few_groups program whole in (lower, (omega arith, omega arith))

  -- an item of an output that has no offset and isn't `context`
  plain_written : (P : Out → Type 0) → IsPlainFact P → (before : ℕ) (place : Option ℕ) (item : SrcItem) → IsReadItem item → is_known_output program before item ≡ true → has_values program item ≡ true
      → ((store : List ℕ) (offset : ℕ) → item ≡ source.Index store offset → ⊥) → (item ≡ source.Context → ⊥) → ((offset : ℕ) → item ≡ source.ContextAt offset → ⊥)
      → OutsAreWritten P (item_size (stores_of program) item) (file_output (numbers_of program) before place item)
  plain_written P plain before place (source.Char c) is named values no_index no_context no_place = one_out P (output.Char c) (is.valid, is.not_first, is.not_last) no_store no_group (plain.char c) refl
  plain_written P plain before place (source.Dead name) is named values no_index no_context no_place = one_out P (output.Mark (mark_number (names_of program) name)) (mark_operand program read whole name) no_store no_group (plain.mark _) refl
  plain_written P plain before place (source.Index store offset) is named values no_index no_context no_place = absurd (no_index store offset refl)
  plain_written P plain before place source.Context is named values no_index no_context no_place = absurd (no_context refl)
  plain_written P plain before place (source.ContextAt offset) is named values no_index no_context no_place = absurd (no_place offset refl)
  plain_written P plain before place (source.Outs store) is named values no_index no_context no_place = elements_written P plain (elements_named (stores_of program) store) (stated_elements store)
  plain_written P plain before place (source.Enter group) is named values no_index no_context no_place =
      let fits = group_fits group named in
      one_out P (output.Enter (number_of_group (numbers_of program) group)) fits.1 no_store (All-cons (λ g. g < groups) (number_of_group (numbers_of program) group) [] fits.0 no_group) (plain.enter _) refl
  plain_written P plain before place (source.Set store value) is named values no_index no_context no_place =
      let fits = store_fits program read whole store named in
      let valued = value_fits program read whole value (only_value program read whole value values) in
      one_out P (output.Set _ _) (fits.1, valued.1) (two_stores program read whole _ _ fits.0 valued.0) no_group (plain.set _ _) refl
  plain_written P plain before place (source.SetSystem id value) is named values no_index no_context no_place =
      let valued = value_fits program read whole value (only_value program read whole value values) in
      one_out P (output.SetSystem _ _) (layer_fits id is.0, valued.1) (one_store program read whole _ valued.0) no_group (plain.set_system _ _) is.0
  plain_written P plain before place (source.Save store) is named values no_index no_context no_place =
      let fits = store_fits program read whole store named in
      one_out P (output.Save _) fits.1 (one_store program read whole _ fits.0) no_group (plain.save _) refl
  plain_written P plain before place (source.Reset store) is named values no_index no_context no_place =
      let fits = store_fits program read whole store named in
      one_out P (output.Reset _) fits.1 (one_store program read whole _ fits.0) no_group (plain.reset _) refl
  plain_written P plain before place source.Beep is named values no_index no_context no_place = one_out P output.Beep tt no_store no_group plain.beep refl
  plain_written P plain before place source.Stop is named values no_index no_context no_place = one_out P output.Stop tt no_store no_group plain.stop refl
  plain_written P plain before place item is named values no_index no_context no_place = one_out P output.Nul tt no_store no_group plain.nul refl

  size_next : (item : SrcItem) (items : List SrcItem) → item_size (stores_of program) item + output_size (stores_of program) items ≡ output_size (stores_of program) (item ∷ items)
  size_next item items =
      let whole = sum-map (item_size (stores_of program)) (item ∷ items) in
      let first = sum_by-cons (item_size (stores_of program)) item items in
      let rest = sum-map (item_size (stores_of program)) items in
      omega (arith, whole, first, rest)

  or_nul_written : (P : Out → Type 0) → P output.Nul → (size : ℕ) (outs : List Out) → size ≤ OUTPUT_ITEMS → OutsAreWritten P size outs → OutsAreWritten P OUTPUT_ITEMS (or_nul outs)
  or_nul_written P nul size [] few written =
      let one = one_out P output.Nul tt no_store no_group nul refl in
      record { spelled = one.spelled; named = one.named; systems = one.systems; entered = one.entered; fact = one.fact; few = lit≤ tt }
  or_nul_written P nul size (out ∷ outs) few written =
      let short = written.few in
      record { spelled = written.spelled; named = written.named; systems = written.systems; entered = written.entered; fact = written.fact; few = omega arith }

  -- the output of a rule
  module _ (rule : RuleDef) (short : length rule.context ≤ CONTEXT_ITEMS) (place : Option ℕ) where
    abbrev context : List Pat
    context = map (file_pattern (numbers_of program)) rule.context

    into_context : IsPlainFact (PointsInto context)
    into_context = record {
      char = λ c. tt;
      mark = λ m. tt;
      enter = λ group. tt;
      set = λ store value. tt;
      set_system = λ id value. tt;
      save = λ store. tt;
      reset = λ store. tt;
      nul = tt;
      beep = tt;
      stop = tt;
    }

    past_key : (store : List ℕ) (offset : ℕ) (key at : Bool) → at ≡ false
        → (if key && at then key_index_code (known program) rule store else index_code rule.context offset) ≡ None → index_code rule.context offset ≡ None
    past_key store offset true true e h = absurd (cc)
    past_key store offset true false e h = h
    past_key store offset false at e h = h

    index_written : (store : List ℕ) (offset : ℕ) (b : Bool) → nat_eq offset (length rule.context + 1) ≡ b → (b ≡ false → is_store program store ≡ true)
        → rule_output_code (known program) rule (source.Index store offset) ≡ None
        → OutsAreWritten (PointsInto context) 1 (if b then element_outs_if_any (element_at (elements_named (stores_of program) store) place) else output.Index (number_of_store (numbers_of program) store) offset ∷ [])
    index_written store offset true e named code = found_written (PointsInto context) into_context (elements_named (stores_of program) store) (stated_elements store) place
    index_written store offset false e named code =
        let rows = none_broken C08 (misses_pattern rule.context offset) ((C09, misses_any rule.context offset) ∷ []) (past_key store offset (is_some rule.key) (nat_eq offset (length rule.context + 1)) e code) in
        let any = none_broken C09 (misses_any rule.context offset) [] rows.1 in
        let points = not-false (points_to is_any_item rule.context offset) any.0 in
        let at = pointed is_any_item rule.context offset points in
        let fits = store_fits program read whole store (named refl) in
        one_out (PointsInto context) (output.Index (number_of_store (numbers_of program) store) offset) (fits.1, (at.0, omega (arith, at.1))) (one_store program read whole _ fits.0) no_group
        (pointing (numbers_of program) is_any_item is_any (any_there (numbers_of program)) rule.context offset points) refl

    rule_item_written : (item : SrcItem) → IsReadItem item → is_known_output program (length rule.context) item ≡ true → has_values program item ≡ true → rule_output_code (known program) rule item ≡ None
        → OutsAreWritten (PointsInto context) (item_size (stores_of program) item) (file_output (numbers_of program) (length rule.context) place item)
    rule_item_written (source.Index store offset) is named values code =
        index_written store offset (nat_eq offset (length rule.context + 1)) refl
        (λ (e : nat_eq offset (length rule.context + 1) ≡ false). ap (λ (b : Bool). if b then is_fixed program store else is_store program store) (sym e) ∙ named) code
    rule_item_written source.Context is named values code = one_out (PointsInto context) output.Context tt no_store no_group tt refl
    rule_item_written (source.ContextAt offset) is named values code =
        let rows = none_broken C08 (misses_pattern rule.context offset) [] code in
        let points = not-false (points_to is_pattern_item rule.context offset) rows.0 in
        let at = pointed is_pattern_item rule.context offset points in
        one_out (PointsInto context) (output.ContextAt offset) (at.0, omega (arith, at.1)) no_store no_group
        (pointing (numbers_of program) is_pattern_item is_matched (matched (numbers_of program)) rule.context offset points) refl
    rule_item_written item is named values code =
        plain_written (PointsInto context) into_context (length rule.context) place item is named values (λ store offset e. cc) (λ e. cc) (λ offset e. cc)

    rule_items_written : (items : List SrcItem) → All IsReadItem items → list_all (is_known_output program (length rule.context)) items ≡ true → list_all (has_values program) items ≡ true
        → first_code (rule_output_code (known program) rule) items ≡ None
        → OutsAreWritten (PointsInto context) (output_size (stores_of program) items) (flat_map (file_output (numbers_of program) (length rule.context) place) items)
    rule_items_written [] is named values code = no_outs (PointsInto context) 0
    rule_items_written (item ∷ items) is named values code =
        let names = and_parts (is_known_output program (length rule.context) item) (list_all (is_known_output program (length rule.context)) items) named in
        let valued = and_parts (has_values program item) (list_all (has_values program) items) values in
        let codes = option_or-none (rule_output_code (known program) rule item) (first_code (rule_output_code (known program) rule) items) code in
        subst (λ n. OutsAreWritten (PointsInto context) n (flat_map (file_output (numbers_of program) (length rule.context) place) (item ∷ items))) (size_next item items)
        (more_outs (PointsInto context) (item_size (stores_of program) item) (output_size (stores_of program) items) (file_output (numbers_of program) (length rule.context) place item)
        (flat_map (file_output (numbers_of program) (length rule.context) place) items) (rule_item_written item (All-head IsReadItem item items is) names.0 valued.0 codes.0)
        (rule_items_written items (All-tail IsReadItem item items is) names.1 valued.1 codes.1))

    pub rule_output_written : All IsReadItem rule.output → list_all (is_known_output program (length rule.context)) rule.output ≡ true → list_all (has_values program) rule.output ≡ true
        → first_code (rule_output_code (known program) rule) rule.output ≡ None → output_size (stores_of program) rule.output ≤ OUTPUT_ITEMS
        → IsWritableOutput stores groups (file_outputs (numbers_of program) (length rule.context) place rule.output)
        × All (PointsInto context) (file_outputs (numbers_of program) (length rule.context) place rule.output)
    rule_output_written is named values code few =
        let written = or_nul_written (PointsInto context) into_context.nul (output_size (stores_of program) rule.output) (flat_map (file_output (numbers_of program) (length rule.context) place) rule.output)
        few (rule_items_written rule.output is named values code) in
        (record { items = written.spelled; stores = written.named; systems = written.systems; groups = written.entered; item_count = written.few }, written.fact)

  -- the output of match or nomatch
  abbrev NeedsNone : Out → Type 0
  NeedsNone item = needs_context item ≡ false

  needs_none : IsPlainFact NeedsNone
  needs_none = record {
    char = λ c. refl;
    mark = λ m. refl;
    enter = λ group. refl;
    set = λ store value. refl;
    set_system = λ id value. refl;
    save = λ store. refl;
    reset = λ store. refl;
    nul = refl;
    beep = refl;
    stop = refl;
  }

  no_offset : (offset : ℕ) → offset_code offset ≡ None → ⊥
  no_offset offset h = never_both (nat_eq offset 0) h

  match_item_written : (item : SrcItem) → IsReadItem item → is_known_output program 0 item ≡ true → has_values program item ≡ true → match_output_code (known program) item ≡ None
      → OutsAreWritten NeedsNone (item_size (stores_of program) item) (file_output (numbers_of program) 0 None item)
  match_item_written (source.Index store offset) is named values code = absurd (no_offset offset code)
  match_item_written source.Context is named values code = absurd (cc)
  match_item_written (source.ContextAt offset) is named values code = absurd (no_offset offset code)
  match_item_written item is named values code =
      plain_written NeedsNone needs_none 0 None item is named values (λ store offset e. cc) (λ e. cc) (λ offset e. cc)

  match_items_written : (items : List SrcItem) → All IsReadItem items → list_all (is_known_output program 0) items ≡ true → list_all (has_values program) items ≡ true
      → first_code (match_output_code (known program)) items ≡ None
      → OutsAreWritten NeedsNone (output_size (stores_of program) items) (flat_map (file_output (numbers_of program) 0 None) items)
  match_items_written [] is named values code = no_outs NeedsNone 0
  match_items_written (item ∷ items) is named values code =
      let names = and_parts (is_known_output program 0 item) (list_all (is_known_output program 0) items) named in
      let valued = and_parts (has_values program item) (list_all (has_values program) items) values in
      let codes = option_or-none (match_output_code (known program) item) (first_code (match_output_code (known program)) items) code in
      subst (λ n. OutsAreWritten NeedsNone n (flat_map (file_output (numbers_of program) 0 None) (item ∷ items))) (size_next item items)
      (more_outs NeedsNone (item_size (stores_of program) item) (output_size (stores_of program) items) (file_output (numbers_of program) 0 None item)
      (flat_map (file_output (numbers_of program) 0 None) items) (match_item_written item (All-head IsReadItem item items is) names.0 valued.0 codes.0)
      (match_items_written items (All-tail IsReadItem item items is) names.1 valued.1 codes.1))

  pub match_output_written : (items : List SrcItem) → All IsReadItem items → list_all (is_known_output program 0) items ≡ true → list_all (has_values program) items ≡ true
      → first_code (match_output_code (known program)) items ≡ None → output_size (stores_of program) items ≤ OUTPUT_ITEMS
      → IsWritableMatchOutput stores groups (file_outputs (numbers_of program) 0 None items)
  match_output_written items is named values code few =
      let written = or_nul_written NeedsNone needs_none.nul (output_size (stores_of program) items) (flat_map (file_output (numbers_of program) 0 None) items)
      few (match_items_written items is named values code) in
      record { itself = record { items = written.spelled; stores = written.named; systems = written.systems; groups = written.entered; item_count = written.few }; no_context = written.fact }
